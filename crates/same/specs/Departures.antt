-- The rows of docs/DIFFERENCES.md: what the commit's code does at each, computed at the row's smallest input, and what it does at every input where that
-- is short to say. Rests on the transcription and on `Trees`.
use Rattle.std.specs.Prelude.{◌≡◌, Bool, true, false, List, [], ◌∷◌, map, set, replicate}
use Rattle.std.proofs.Math.Path.{refl, ap, fun_ext}
use Rattle.std.proofs.Common.{sym, ◌∙◌}
use Rattle.std.proofs.Math.Option.{Option, none, some}
use Prim.Native.Nat.{ℕ, zero, suc, ◌-◌, ◌/◌, ◌%◌, ◌^◌, ◌≤◌, ◌<◌}
use Rattle.std.specs.Int.Count.{count_trailing_zeros, count_leading_zeros}
use Rattle.bits.specs.Digits.{digit, number, number_digit}
use Rattle.slots.specs.Sets.{Slots, painted}
use Rattle.tree.specs.Layout.{slot_of, of_slots, Sound, IsTree, tree_view}
use Rattle.third.specs.Layout as Third
use Rattle.third.specs.Layout.{third_view}
use Rattle.source.specs.Machine.{Run, gives, stops, ◌>>=◌, ◌+?◌, ◌at?◌, Turn, left, returned, for_in}
use Rattle.source.specs.BitmapAllocator.{BitmapAllocator, BitmapTree, Bitmap1024, Bitmap16384, new_empty64, new_full64, new_empty_tree, new_full_tree, default16384, AllocatorTree, Allocator64, Allocator1024, Allocator16384, set64, next_free64, get64, set_turn, set_tree_lem, next_free_turn, next_free_tree, get_tree, sum_used, free, size_turn, alloc_onward, alloc_turn, alloc_aligned, alloc}
use Rattle.source.specs.Util.{align_up, align_down, is_aligned, overlap, BIT, BIT-MASK}
use Rattle.same.specs.Whenever.{Whenever, so}
use Rattle.same.specs.Words as Words
use Rattle.same.specs.Words.{word}
use Rattle.same.specs.Seen.{found_past, painted_none, set_leaves, set_nothing}
use Rattle.same.specs.Trees.{ours, holds, GoodTree, acts_1024, seen_1024, is_good, next_free_finds}
use Rattle.same.specs.Thirds as Thirds
use Rattle.same.specs.Thirds.{IsBitmap, GoodThird, acts_16384, seen_16384}

-- a tree with this first word and summary, the other words 0
abbrev with_first : ℕ → ℕ → Bitmap1024
with_first bits first = record { bits = bits; child = word first ∷ replicate 15 (word 0) }

-- a tree with this last word and summary, the other words 0
abbrev with_last : ℕ → ℕ → Bitmap1024
with_last bits last = record { bits = bits; child = set (replicate 16 (word 0)) 15 (word last) }

-- a tree of trees with this first tree and summary, the other trees empty
abbrev with_tree : ℕ → Bitmap1024 → Bitmap16384
with_tree bits first = record { bits = bits; child = first ∷ replicate 15 new_empty_tree }

-- ---- 1: an unsound tree

pub unsound_empty : Allocator1024.empty (with_first 1 0) ≡ false
unsound_empty = refl

pub unsound_get : Allocator1024.get (with_first 1 0) 0 ≡ gives false
unfolding get_tree get64
unsound_get = refl

-- a call that writes puts right the bits of the words that it touches, and no other: here summary 3 over words that are all 0
pub unsound_set : Allocator1024.set_to (with_first 3 0) 0 1 true ≡ gives (with_first 3 1)
unfolding set_tree_lem set_turn set64
unsound_set = refl

pub unsound_free : free Allocator1024 (with_first 3 0) 0 1 ≡ gives (with_first 2 0)
unfolding free set_tree_lem set_turn set64
unsound_free = refl

-- get, next free and used do not look at the summary, over any child
module _ {Child : Type 0} (T : BitmapAllocator Child) (t : BitmapTree Child) (bits : ℕ) where
  abbrev under : BitmapTree Child
  under = record { bits = bits; child = t.child }

  pub get_ignores_summary : (i : ℕ) → (AllocatorTree T).get under i ≡ (AllocatorTree T).get t i
  unfolding get_tree
  get_ignores_summary i = refl

  pub next_free_ignores_summary : (s : ℕ) → (AllocatorTree T).next_free under s ≡ (AllocatorTree T).next_free t s
  unfolding next_free_tree next_free_turn
  next_free_ignores_summary s = refl

  pub used_ignores_summary : (AllocatorTree T).used under ≡ (AllocatorTree T).used t
  used_ignores_summary = refl

-- and over trees not at theirs: maps of the same words answer alike
abbrev bare : Bitmap1024 → Bitmap1024
bare x = record { bits = 0; child = x.child }

child_bare : {A : Type 0} (g : Bitmap1024 → Run A) → ((x : Bitmap1024) → g (bare x) ≡ g x) → (xs : List Bitmap1024) (j : ℕ) → (map bare xs at? j) >>= g ≡ (xs at? j) >>= g
child_bare g same [] j = refl
child_bare g same (x ∷ xs) zero = same x
child_bare g same (x ∷ xs) (suc j) = child_bare g same xs j

used_bare : (xs : List Bitmap1024) (sum : ℕ) → sum_used Allocator1024 (map bare xs) sum ≡ sum_used Allocator1024 xs sum
unfolding sum_used
used_bare [] sum = refl
used_bare (x ∷ xs) sum = ap (λ (rest : ℕ → Run ℕ). Allocator1024.used x >>= (λ n. (sum +? n) >>= rest)) (fun_ext (used_bare xs))

module _ (t q : Bitmap16384) (same_words : map bare t.child ≡ map bare q.child) where
  child_alike : {A : Type 0} (g : Bitmap1024 → Run A) → ((x : Bitmap1024) → g (bare x) ≡ g x) → (j : ℕ) → (t.child at? j) >>= g ≡ (q.child at? j) >>= g
  child_alike g same j =
      sym (child_bare g same t.child j) ∙ ap (λ (xs : List Bitmap1024). (xs at? j) >>= g) same_words ∙ child_bare g same q.child j

  pub third_get_ignores_summaries : (i : ℕ) → Allocator16384.get t i ≡ Allocator16384.get q i
  unfolding get_tree
  third_get_ignores_summaries i = child_alike (λ x. Allocator1024.get x (i % 1024)) (λ x. refl) (i / 1024)

  pub third_next_free_ignores_summaries : (s : ℕ) → Allocator16384.next_free t s ≡ Allocator16384.next_free q s
  unfolding next_free_tree next_free_turn
  third_next_free_ignores_summaries s =
      ap (λ (turn : ℕ → ℕ → Run (Turn ℕ (Option ℕ))). for_in (s / 1024) 16 turn (s % 1024) >>= (λ loop. gives (elim loop [ left offset ↦ none | returned found ↦ found ])))
      (fun_ext (λ j. fun_ext (λ o. child_alike _ (λ x. refl) j)))

  pub third_used_ignores_summaries : Allocator16384.used t ≡ Allocator16384.used q
  third_used_ignores_summaries =
      sym (used_bare t.child 0) ∙ ap (λ (xs : List Bitmap1024). sum_used Allocator1024 xs 0) same_words ∙ used_bare q.child 0

-- a tree of trees: empty reads the summary over the trees alone, whatever theirs say
pub third_unsound_empty : Allocator16384.empty (with_tree 1 new_empty_tree) ≡ false
third_unsound_empty = refl

pub third_unsound_tree : Allocator16384.empty (with_tree 0 (with_first 1 0)) ≡ true
third_unsound_tree = refl

-- a call that writes brings the bit of its tree in line with the tree's summary: it is put right where that is, here bit 0 of 3, and no other
pub third_unsound_free : free Allocator16384 (with_tree 3 (with_first 1 0)) 0 1 ≡ gives (with_tree 2 new_empty_tree)
unfolding free set_tree_lem set_turn set64
third_unsound_free = refl

-- and stays wrong where that is
pub third_unsound_stays : free Allocator16384 (with_tree 1 (with_first 2 0)) 0 1 ≡ gives (with_tree 1 (with_first 2 0))
unfolding free set_tree_lem set_turn set64
third_unsound_stays = refl

-- ---- 2: no entries

-- full tree, free 1 for 0: accepted, nothing changes
pub tree_free_none : free Allocator1024 new_full_tree 1 0 ≡ gives new_full_tree
unfolding free set_tree_lem set_turn set64
tree_free_none = refl

-- at the start of a word, and on the word itself, there is no answer
pub tree_free_none_at_word : free Allocator1024 new_full_tree 64 0 ≡ stops
unfolding free set_tree_lem set_turn set64
tree_free_none_at_word = refl

pub word_free_none : free Allocator64 new_full64 0 0 ≡ stops
unfolding free set64
word_free_none = refl

pub word_set_none : Allocator64.set_to new_empty64 1 0 true ≡ gives new_empty64
unfolding set64
word_set_none = refl

-- empty tree, take 0 with a = 10: none
pub take_none_wide : alloc Allocator1024 1100 new_empty_tree 0 10 ≡ gives (none, new_empty_tree)
unfolding alloc alloc_aligned count_leading_zeros
take_none_wide = refl

-- only slot 0 used, take 0: start 1, nothing changes
pub take_none_found : alloc Allocator1024 1100 (with_first 1 1) 0 0 ≡ gives (some 1, with_first 1 1)
unfolding alloc alloc_aligned alloc_turn alloc_onward size_turn set_tree_lem set_turn set64 next_free_tree next_free_turn next_free64 get_tree get64 count_leading_zeros count_trailing_zeros
take_none_found = refl

-- no slot free: the tree says none, and the word has no answer
pub take_none_full_word : alloc Allocator64 1100 new_full64 0 0 ≡ stops
unfolding alloc alloc_aligned alloc_turn alloc_onward size_turn set64 next_free64 get64 count_leading_zeros count_trailing_zeros
take_none_full_word = refl

pub take_none_full_tree : alloc Allocator1024 1100 new_full_tree 0 9 ≡ gives (none, new_full_tree)
unfolding alloc alloc_aligned alloc_turn alloc_onward size_turn set_tree_lem set_turn set64 next_free_tree next_free_turn next_free64 get_tree get64 count_leading_zeros count_trailing_zeros
take_none_full_tree = refl

-- whenever there is an answer, nothing changes
pub word_set_nothing : (bits : ℕ) → bits < 2 ^ 64 → (s : ℕ) (v : Bool) → Whenever (Allocator64.set_to (word bits) s 0 v) (λ after. after ≡ word bits)
word_set_nothing bits fits s v = so (set64 (word bits) s 0 v) _ _ (Words.set_paints bits fits s 0 v) (λ after told.
    told.2 ∙ ap (λ (S : Slots). word (number S 64)) (painted_none (digit bits) s v) ∙ ap word (number_digit bits 64 fits))

pub tree_set_nothing : (t : Bitmap1024) → IsTree (ours t) → Sound (ours t) → (s : ℕ) (v : Bool)
    → Whenever (Allocator1024.set_to t s 0 v) (λ after. ours after ≡ ours t)
tree_set_nothing t held sound s v = set_nothing tree_view Allocator1024 holds GoodTree acts_1024 ours seen_1024 t (is_good t held sound) s v

pub third_set_nothing : (t : Bitmap16384) → IsBitmap t → Third.Sound (Thirds.ours t) → (s : ℕ) (v : Bool)
    → Whenever (Allocator16384.set_to t s 0 v) (λ after. Thirds.ours after ≡ Thirds.ours t)
third_set_nothing t typed sound s v =
    set_nothing third_view Allocator16384 Thirds.holds GoodThird acts_16384 Thirds.ours seen_16384 t (Thirds.is_good t typed sound) s v

-- ---- 4: past the end

-- empty tree, set 1,023 for 2: slot 1,023 is set
pub tree_set_past : Allocator1024.set_to new_empty_tree 1023 2 true ≡ gives (with_last (2 ^ 15) (2 ^ 63))
unfolding set_tree_lem set_turn set64
tree_set_past = refl

-- start 1,024 for 1: nothing happens
pub tree_set_beyond : Allocator1024.set_to new_empty_tree 1024 1 true ≡ gives new_empty_tree
unfolding set_tree_lem set_turn set64
tree_set_beyond = refl

pub third_set_past : Allocator16384.set_to default16384 16383 2 true ≡ gives (record { bits = 2 ^ 15; child = set (replicate 16 new_empty_tree) 15 (with_last (2 ^ 15) (2 ^ 63)) })
unfolding set_tree_lem set_turn set64
third_set_past = refl

pub third_set_beyond : Allocator16384.set_to default16384 16384 1 true ≡ gives default16384
unfolding set_tree_lem set_turn set64
third_set_beyond = refl

-- at any numbers: the named slots that the map has get the value
pub tree_set_cut_off : (t : Bitmap1024) → IsTree (ours t) → Sound (ours t) → (s n : ℕ) (v : Bool)
    → Whenever (Allocator1024.set_to t s n v) (λ after. ours after ≡ of_slots (painted (slot_of (ours t)) s n v))
tree_set_cut_off t held sound s n v = set_leaves tree_view Allocator1024 holds GoodTree acts_1024 ours seen_1024 t (is_good t held sound) s n v

pub third_set_cut_off : (t : Bitmap16384) → IsBitmap t → Third.Sound (Thirds.ours t) → (s n : ℕ) (v : Bool)
    → Whenever (Allocator16384.set_to t s n v) (λ after. Thirds.ours after ≡ Third.of_slots (painted (Third.slot_of (Thirds.ours t)) s n v))
third_set_cut_off t typed sound s n v =
    set_leaves third_view Allocator16384 Thirds.holds GoodThird acts_16384 Thirds.ours seen_16384 t (Thirds.is_good t typed sound) s n v

pub next_free_beyond : Allocator1024.next_free new_empty_tree 1024 ≡ gives none
unfolding next_free_tree next_free_turn next_free64
next_free_beyond = refl

pub third_next_free_beyond : Allocator16384.next_free default16384 16384 ≡ gives none
unfolding next_free_tree next_free_turn next_free64
third_next_free_beyond = refl

-- from 1,024 on there is none, on any tree
pub next_free_past : (t : Bitmap1024) → IsTree (ours t) → (s : ℕ) → 1024 ≤ s → Whenever (Allocator1024.next_free t s) (λ found. found ≡ none)
next_free_past t held s far = so (Allocator1024.next_free t s) _ _ (next_free_finds t held s) (found_past 10 (holds t) s far)

pub third_next_free_past : (t : Bitmap16384) → IsBitmap t → Third.Sound (Thirds.ours t) → (s : ℕ) → 16384 ≤ s
    → Whenever (Allocator16384.next_free t s) (λ found. found ≡ none)
third_next_free_past t typed sound s far =
    so (Allocator16384.next_free t s) _ _ (acts_16384.finds t (Thirds.is_good t typed sound) s) (found_past 14 (Thirds.holds t) s far)

-- end 64, start 2: ones from 2 to 63
pub mask_past : BIT-MASK 64 2 ≡ gives (2 ^ 64 - 2 ^ 2)
unfolding BIT-MASK
mask_past = refl

-- ---- 5: a slot that is free already

-- only slot 0 used, free 0 for 2: slot 0 is cleared
pub tree_free_free : free Allocator1024 (with_first 1 1) 0 2 ≡ gives (with_first 0 0)
unfolding free set_tree_lem set_turn set64
tree_free_free = refl

pub word_free_free : free Allocator64 (word 1) 0 2 ≡ gives (word 0)
unfolding free set64
word_free_free = refl

-- a free clears the range anyway
pub tree_free_clears : (t : Bitmap1024) → IsTree (ours t) → Sound (ours t) → (s n : ℕ)
    → Whenever (free Allocator1024 t s n) (λ after. ours after ≡ of_slots (painted (slot_of (ours t)) s n false))
unfolding free
tree_free_clears t held sound s n = tree_set_cut_off t held sound s n false

pub third_free_clears : (t : Bitmap16384) → IsBitmap t → Third.Sound (Thirds.ours t) → (s n : ℕ)
    → Whenever (free Allocator16384 t s n) (λ after. Thirds.ours after ≡ Third.of_slots (painted (Third.slot_of (Thirds.ours t)) s n false))
unfolding free
third_free_clears t typed sound s n = third_set_cut_off t typed sound s n false

pub word_free_clears : (bits : ℕ) → bits < 2 ^ 64 → (s n : ℕ) → Whenever (free Allocator64 (word bits) s n) (λ after. after ≡ word (number (painted (digit bits) s n false) 64))
unfolding free
word_free_clears bits fits s n = so (set64 (word bits) s n false) _ _ (Words.set_paints bits fits s n false) (λ after told. told.2)

-- ---- 8: an alignment that is no power of two

-- up, 1 to 3: answers 1
pub align_up_three : align_up 64 1 3 ≡ gives 1
unfolding align_up
align_up_three = refl

pub align_down_three : align_down 64 3 3 ≡ gives 1
unfolding align_down
align_down_three = refl

pub is_aligned_three : is_aligned 3 3 ≡ gives false
unfolding is_aligned
is_aligned_three = refl

-- ---- 10: an interval whose first end is above its second

pub overlap_turned : overlap 1 0 0 1 ≡ true
unfolding overlap
overlap_turned = refl

pub overlap_paper : overlap 5 3 0 10 ≡ true
unfolding overlap
overlap_paper = refl

-- ---- where there is no answer

pub get_past_word : Allocator64.get new_empty64 64 ≡ stops
unfolding get64
get_past_word = refl

pub get_past_tree : Allocator1024.get new_empty_tree 1024 ≡ stops
unfolding get_tree get64
get_past_tree = refl

pub get_past_third : Allocator16384.get default16384 16384 ≡ stops
unfolding get_tree get64
get_past_third = refl

pub next_free_past_word : Allocator64.next_free new_empty64 64 ≡ stops
unfolding next_free64
next_free_past_word = refl

pub set_past_word : Allocator64.set_to new_empty64 63 2 true ≡ stops
unfolding set64
set_past_word = refl

pub mask_turned : BIT-MASK 0 1 ≡ stops
unfolding BIT-MASK
mask_turned = refl

pub mask_whole : BIT-MASK 63 0 ≡ stops
unfolding BIT-MASK
mask_whole = refl

pub bit_past : BIT 64 ≡ stops
unfolding BIT
bit_past = refl

pub align_up_none : align_up 64 1 0 ≡ stops
unfolding align_up
align_up_none = refl

pub align_up_over : align_up 64 (2 ^ 64 - 1) 2 ≡ stops
unfolding align_up
align_up_over = refl
