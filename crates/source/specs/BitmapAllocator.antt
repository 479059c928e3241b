-- source: bitmap_allocator.rs
-- The commit's map, transcribed: kernel/src/utils/bitmap_allocator.rs of coconut-svsm at commit f4bc4bcdc2, without the proof blocks that the file has there.
-- A number that begins a comment is a line of the file so shortened, and what stands below it is what that line does; tools/transcription shows both side
-- by side. `(← e)` is the value that e gives; where e stops, so does the whole.
use Rattle.std.specs.Prelude.{Bool, true, false, not, List, [], ◌∷◌, ℕ, ◌-◌, ◌*◌, ◌/◌, ◌%◌, ◌^◌, leb, ltb, eqb, set, replicate}
use Rattle.std.proofs.Math.Option.{Option, none, some}
use Rattle.source.specs.Machine.{Run, gives, ◌>>=◌, ◌+?◌, ◌-?◌, ◌*?◌, ◌<<?◌, ◌<<u16◌, ◌&◌, ◌∣◌, !u64, !u16, trailing_ones, count_ones, ◌at?◌, Turn, next, break, return, left, returned, ended, for_in, while, ilog2}

-- ---- what an allocator has

-- 9
pub record BitmapAllocator (Self : Type 0) : Type 0 where
  -- 10, 19
  pub CAPACITY : ℕ
  -- 15
  pub set_to : Self → ℕ → ℕ → Bool → Run Self
  -- 16
  pub next_free : Self → ℕ → Run (Option ℕ)
  -- 17
  pub get : Self → ℕ → Run Bool
  -- 18
  pub empty : Self → Bool
  -- 20
  pub used : Self → Run ℕ

-- ---- the word

-- 30 to 32
pub record Bitmap64 : Type 0 where
  pub bits : ℕ

-- 34 to 37
abbrev pub new_full64 : Bitmap64
new_full64 = record { bits = 2 ^ 64 - 1 }

-- 39 to 41
abbrev pub new_empty64 : Bitmap64
new_empty64 = record { bits = 0 }

-- 44 to 46
abbrev pub get_bits : Bitmap64 → ℕ
get_bits self = self.bits

-- 60
unfoldable pub set64 : Bitmap64 → ℕ → ℕ → Bool → Run Bitmap64
set64 self start entries value = do
  -- 62
  let start-mask = !u64 (← (← 1 <<? start) -? 1)
  -- 64
  end_mask ← (← (← (← 1 <<? (← (← start +? entries) -? 1)) -? 1) <<? 1) +? 1
  -- 65
  let mask = start-mask & end_mask
  elim value [
    -- 67 to 68
    | true ↦ gives (record { bits = self.bits ∣ mask })
    -- 69 to 70
    | false ↦ gives (record { bits = self.bits & !u64 mask })
  ]

-- 74
unfoldable pub next_free64 : Bitmap64 → ℕ → Run (Option ℕ)
next_free64 self start = do
  -- 75
  mask ← (← 1 <<? start) -? 1
  -- 76
  let idx = trailing_ones (self.bits ∣ mask)
  -- 77
  gives (elim (ltb idx 64) [ true ↦ some idx | false ↦ none ])

-- 80
unfoldable pub get64 : Bitmap64 → ℕ → Run Bool
get64 self offset = do
  -- 81
  gives (not (eqb (self.bits & (← 1 <<? offset)) 0))

-- 49
abbrev pub Allocator64 : BitmapAllocator Bitmap64
Allocator64 = record {
  -- 50, 88 to 90
  CAPACITY = 64;
  set_to = set64;
  next_free = next_free64;
  get = get64;
  -- 84 to 86
  empty = λ self. eqb self.bits 0;
  -- 92 to 94
  used = λ self. gives (count_ones self.bits);
}

-- ---- the tree, over any child

-- 98 to 101
pub record BitmapTree (T : Type 0) : Type 0 where
  pub bits : ℕ
  pub child : List T

-- 103 to 109
abbrev pub new_full_tree : BitmapTree Bitmap64
new_full_tree = record { bits = 2 ^ 16 - 1; child = replicate 16 new_full64 }

-- 111 to 116
abbrev pub new_empty_tree : BitmapTree Bitmap64
new_empty_tree = record { bits = 0; child = replicate 16 new_empty64 }

-- 119 to 121
abbrev pub get_child : BitmapTree Bitmap64 → ℕ → Run Bitmap64
get_child self index = self.child at? index

module _ {Child : Type 0} (T : BitmapAllocator Child) where
  -- the body of set's loop, over self, offset and remain
  -- 138
  unfoldable pub set_turn : Bool → ℕ → BitmapTree Child × ℕ × ℕ → Run (Turn (BitmapTree Child × ℕ × ℕ) ⊥)
  set_turn value index (self, offset, remain) = do
    -- 139 to 143
    room ← T.CAPACITY -? offset
    let child-size : ℕ = elim (ltb room remain) [ true ↦ room | false ↦ remain ]
    -- 144
    remain-after ← remain -? child-size
    -- 146
    child-after ← T.set_to (← self.child at? index) offset child-size value
    -- 147 to 151
    mark ← 1 <<u16 index
    let bits-after : ℕ = elim (T.empty child-after) [ true ↦ self.bits & !u16 mark | false ↦ self.bits ∣ mark ]
    let self_after : BitmapTree Child = record { bits = bits-after; child = set self.child index child-after }
    -- 152 to 156
    gives (elim (eqb remain-after 0) [ true ↦ break (self_after, offset, remain-after) | false ↦ next (self_after, 0, remain-after) ])

  -- 135
  unfoldable pub set_tree_lem : BitmapTree Child → ℕ → ℕ → Bool → Run (BitmapTree Child)
  set_tree_lem self start entries value = do
    -- 136 to 138
    loop ← for_in (start / T.CAPACITY) 16 (set_turn value) (self, start % T.CAPACITY, entries)
    gives (ended loop).0

  -- the body of next_free's loop, over offset
  -- 162
  unfoldable pub next_free_turn : BitmapTree Child → ℕ → ℕ → Run (Turn ℕ (Option ℕ))
  next_free_turn self index offset = do
    -- 163
    found ← T.next_free (← self.child at? index) offset
    elim found [
      -- 164
      | some next-offset ↦ do
        slot ← next-offset +? (← index *? T.CAPACITY)
        gives (return (some slot))
      -- 167
      | none ↦ gives (next 0)
    ]

  -- 160
  unfoldable pub next_free_tree : BitmapTree Child → ℕ → Run (Option ℕ)
  next_free_tree self start = do
    -- 161 to 162
    loop ← for_in (start / T.CAPACITY) 16 (next_free_turn self) (start % T.CAPACITY)
    -- 169
    gives (elim loop [ left offset ↦ none | returned found ↦ found ])

  -- 172
  unfoldable pub get_tree : BitmapTree Child → ℕ → Run Bool
  get_tree self offset = do
    -- 173
    let index = offset / T.CAPACITY
    -- 174
    T.get (← self.child at? index) (offset % T.CAPACITY)

  -- the sum over the children
  -- 186
  unfoldable pub sum_used : List Child → ℕ → Run ℕ
  sum_used [] sum = gives sum
  sum_used (c ∷ children) sum = ◌>>=◌ (T.used c) (λ n. ◌>>=◌ (sum +? n) (λ sum-after. sum_used children sum-after))

  -- 124
  abbrev pub AllocatorTree : BitmapAllocator (BitmapTree Child)
  AllocatorTree = record {
    -- 125, 181 to 183
    CAPACITY = T.CAPACITY * 16;
    set_to = set_tree_lem;
    next_free = next_free_tree;
    get = get_tree;
    -- 177 to 179
    empty = λ self. eqb self.bits 0;
    -- 185 to 187
    used = λ self. sum_used self.child 0;
  }

-- 27
abbrev pub Bitmap1024 : Type 0
Bitmap1024 = BitmapTree Bitmap64

abbrev pub Allocator1024 : BitmapAllocator Bitmap1024
Allocator1024 = AllocatorTree Allocator64

-- a tree of trees, to which the source gives no name
abbrev pub Bitmap16384 : Type 0
Bitmap16384 = BitmapTree Bitmap1024

abbrev pub Allocator16384 : BitmapAllocator Bitmap16384
Allocator16384 = AllocatorTree Allocator1024

-- its derived `Default`: no other value of this type has a function that makes it
-- 97
abbrev pub default16384 : Bitmap16384
default16384 = record { bits = 0; child = replicate 16 new_empty_tree }

-- ---- what is the same for every allocator

module _ {Self : Type 0} (B : BitmapAllocator Self) where
  -- 13, 56 to 58, 131 to 133
  unfoldable pub free : Self → ℕ → ℕ → Run Self
  free self start entries = B.set_to self start entries false

  -- 22 to 24
  unfoldable pub max_align : Run ℕ
  max_align = ilog2 B.CAPACITY -? 1

  -- the body of the loop over size_check, over free_entries
  -- 209
  unfoldable pub size_turn : Self → ℕ → ℕ → Run (Turn ℕ ⊥)
  size_turn ba size-check free-entries = do
    -- 210 to 214
    used ← B.get ba size-check
    elim (not used) [
      | true ↦ do
        free-entries-after ← free-entries +? 1
        gives (next free-entries-after)
      | false ↦ gives (break free-entries)
    ]

  -- the last line of the outer loop's body
  -- 222
  unfoldable pub alloc_onward : Self → (align offset : ℕ) → Run (Turn ℕ (Option ℕ × Self))
  alloc_onward ba align offset = do
    offset-after ← offset +? (← 1 <<? align)
    gives (next offset-after)

  -- the body of the outer loop, over offset
  -- 198
  unfoldable pub alloc_turn : Self → (entries align align-mask : ℕ) → ℕ → Run (Turn ℕ (Option ℕ × Self))
  alloc_turn ba entries align align-mask offset = do
    -- 199
    found ← B.next_free ba offset
    elim found [
      | some offset-free ↦ elim (not (eqb offset-free offset)) [
        -- 202 to 205
        | true ↦ do
          offset-after ← ((← offset-free -? 1) & !u64 align-mask) +? (← 1 <<? align)
          gives (next offset-after)
        | false ↦ do
          -- 208 to 209
          loop ← for_in offset (← offset +? entries) (size_turn ba) 0
          -- 216
          elim (eqb (ended loop) entries) [
            -- 218 to 219
            | true ↦ do
              ba-after ← B.set_to ba offset entries true
              gives (return (some offset, ba-after))
            | false ↦ alloc_onward ba align offset
          ]
      ]
      | none ↦ alloc_onward ba align offset
    ]

  -- 190
  unfoldable pub alloc_aligned : (turns : ℕ) → Self → (entries align : ℕ) → Run (Option ℕ × Self)
  alloc_aligned turns ba entries align =
      elim (leb (ilog2 B.CAPACITY) align) [
        -- 193 to 195
        | true ↦ gives (none, ba)
        | false ↦ do
          -- 196
          align-mask ← (← 1 <<? align) -? 1
          -- 197 to 198
          loop ← while turns (λ offset. do gives (leb (← offset +? entries) B.CAPACITY)) (alloc_turn ba entries align align-mask) 0
          -- 224
          gives (elim loop [ left offset ↦ (none, ba) | returned result ↦ result ])
      ]

  -- 12, 52 to 54, 127 to 129
  unfoldable pub alloc : (turns : ℕ) → Self → (entries align : ℕ) → Run (Option ℕ × Self)
  alloc turns self entries align = alloc_aligned turns self entries align
