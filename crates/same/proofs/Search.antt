-- What stood in specs/Search and rests on theorems there: moved, its statements unchanged. Rests on `Search`.
use Rattle.std.specs.Prelude.{◌≡◌, Bool, false, leb, ltb}
use Rattle.std.proofs.Math.Path.{refl, sym, ap}
use Rattle.std.proofs.Common.{◌∙◌, inr}
use Rattle.std.proofs.Math.Logic.{inl}
use Rattle.std.proofs.Math.Bool.{true}
use Rattle.std.proofs.Math.Option.{Option, none, some}
use Prim.Native.Nat.{ℕ, ◌+◌, ◌-◌, ◌^◌, ◌≤◌, ◌<◌}
use native.Mathlib.Omega.{arith}
use borrow.Author.Tests.{leb-true, leb-false, ltb-true, ltb-false, lt-leb, le-leb, lt-ltb, ne_eqb}
use Rattle.answers.specs.Said.{value, refused, judged}
use Rattle.answers.specs.declared.Reply.TheVariants.{At as at}
use Rattle.bits.specs.Range.{either}
use Rattle.slots.specs.Sets.{Slots, painted}
use Rattle.slots.specs.Lowest.{LowestFit, NoStart}
use Rattle.slots.specs.Calls.{says, take_call}
use Rattle.slots.proofs.Promises.{take_promise, take_no_room, take_after}
use Rattle.slots.specs.Search.{Searched, searched_none, searched_past}
use Rattle.slots.specs.Kinds.{plain}
use Rattle.slots.specs.View.{View, changed, sound_accepted, sound_refused}
use Rattle.source.specs.Machine.{Run, gives, ◌>>=◌, ◌+?◌, ilog2, Turn, next, break, return, Loop, left, returned, while}
use Rattle.source.specs.BitmapAllocator.{BitmapAllocator, alloc_turn, alloc_aligned, alloc}
use Rattle.same.specs.Whenever.{Whenever, then, so, tested, sum_then, difference_then, one_then, Kept, while_rule}
use Rattle.same.specs.Same.{SameTake}
use Rattle.same.specs.Search.{Follows, turn}

module _ (L : View plain) {Self : Type 0} (B : BitmapAllocator Self) (ours : Self → L.Map) (m : Self) (law : Follows L B ours m) (n a : ℕ) (pos : 0 < n) where
  abbrev S : Slots
  S = L.state_of (ours m)

  -- ---- the loop over the offset

  -- what an answer comes to: the lowest start and its run marked, or no start and the map as it was
  abbrev Out : Option ℕ × Self → Type 0
  Out (some o, after) = LowestFit L.k S n a o × (ours after ≡ L.of_state (painted S o n true))
  Out (none, after) = NoStart L.k S n a × (after ≡ m)

  abbrev Gone : Loop ℕ (Option ℕ × Self) → Type 0
  Gone (left offset) = NoStart L.k S n a
  Gone (returned out) = Out out

  -- the offset after this one: no start below it fits, it is later, and not far past the end
  abbrev Onto : ℕ → ℕ → Type 0
  Onto offset o = Searched L.k S n a o × (offset < o) × (o ≤ 2 ^ L.k + 2 ^ a)

  searched_only : (offset : ℕ) (t : Turn ℕ (Option ℕ × Self)) → Kept (Onto offset) Gone t → Kept (Searched L.k S n a) Gone t
  searched_only offset (next o) kept = kept.0
  searched_only offset (break o) kept = kept
  searched_only offset (return r) kept = kept

  -- ---- the whole, and what take says of it

  abbrev test : ℕ → Run Bool
  test offset = (offset +? n) >>= λ end. gives (leb end B.CAPACITY)

  one_turn : (offset : ℕ) → Searched L.k S n a offset
      → Whenever (test offset) (λ go. (go ≡ false → Gone (left offset)) × (go ≡ true → Whenever (alloc_turn B m n a (2 ^ a - 1) offset) (Kept (Searched L.k S n a) Gone)))
  one_turn offset known =
      sum_then (λ end. gives (leb end B.CAPACITY)) _ offset n (λ _. (
        λ past. searched_past L.k S n a pos offset known (rw law.capacity at (leb-false (offset + n) B.CAPACITY past)),
        λ ends. so (alloc_turn B m n a (2 ^ a - 1) offset) _ _ (turn L B ours m law n a pos offset known (rw law.capacity at (leb-true (offset + n) B.CAPACITY ends))) (searched_only offset),
      ))

  looped : (turns : ℕ) → Whenever (while turns test (alloc_turn B m n a (2 ^ a - 1)) 0) Gone
  looped turns = while_rule test (alloc_turn B m n a (2 ^ a - 1)) (Searched L.k S n a) Gone one_turn turns 0 (searched_none L.k S n a pos)

  searched : (turns : ℕ) → a < L.k → Whenever (alloc_aligned B turns m n a) Out
  unfolding alloc_aligned
  searched turns narrow =
      tested (leb (ilog2 B.CAPACITY) a) _ _ _ (λ wide. absurd (omega (arith, leb-true (ilog2 B.CAPACITY) a wide, law.log)))
      (λ _. one_then _ _ 64 a (λ _. difference_then _ _ (2 ^ a) 1 (λ _.
      then (while turns test (alloc_turn B m n a (2 ^ a - 1)) 0) _ _ (so (while turns test (alloc_turn B m n a (2 ^ a - 1)) 0) _ _ (looped turns) left_by))))
    where
      left_by : (loop : Loop ℕ (Option ℕ × Self)) → Gone loop → Out (elim loop [ left offset ↦ (none, m) | returned result ↦ result ])
      left_by (left offset) nothing = (nothing, refl)
      left_by (returned result) out = out

  module _ (sound : L.Sound (ours m)) where
    too_wide : L.k ≤ a → says (take_call L.k S n a) ≡ refused 3
    unfolding says take_call judged
    too_wide wide = rw (ne_eqb n 0 (λ e. omega arith), le-leb L.k a wide)

    too_many : a < L.k → 2 ^ L.k < n → says (take_call L.k S n a) ≡ refused 4
    unfolding says take_call judged
    too_many narrow many = rw (ne_eqb n 0 (λ e. omega arith), lt-leb L.k a narrow, lt-ltb (2 ^ L.k) n many)

    take_same : a < L.k → (out : Option ℕ × Self) → Out out → SameTake out.0 (ours out.1) (changed L (ours m) (take_call L.k S n a))
    take_same narrow (some o, after) (found, painted-so) =
        let said = (take_promise L.k S n a o).1 (pos, narrow, omega (arith, found.fits.ends), found) in
        sound_accepted L (ours m) (take_call L.k S n a) (at o) sound said
        ∙ ap (λ (map : L.Map). (value (at o), map)) (ap L.of_state (take_after L.k S n a o said) ∙ sym painted-so)
    take_same narrow (none, after) (nothing, same) =
        rw same (either (ltb (2 ^ L.k) n)
        (λ many. (4, inr (inl refl), sound_refused L (ours m) _ 4 sound (too_many narrow (ltb-true (2 ^ L.k) n many))))
        (λ few. (7, inr (inr refl), sound_refused L (ours m) _ 7 sound ((take_no_room L.k S n a pos narrow (ltb-false (2 ^ L.k) n few)).1 nothing))))

    -- whenever alloc gives an answer, take says the same and leaves the same map
    pub alloc_same : (turns : ℕ) → Whenever (alloc B turns m n a) (λ out. SameTake out.0 (ours out.1) (changed L (ours m) (take_call L.k S n a)))
    unfolding alloc alloc_aligned
    alloc_same turns =
        either (leb L.k a)
        (λ wide. tested (leb (ilog2 B.CAPACITY) a) _ _ _
        (λ _. (3, inl refl, sound_refused L (ours m) _ 3 sound (too_wide (leb-true L.k a wide))))
        (λ narrow. absurd (omega (arith, leb-false (ilog2 B.CAPACITY) a narrow, leb-true L.k a wide, law.log))))
        (λ narrow. so (alloc_aligned B turns m n a) _ _ (searched turns (leb-false L.k a narrow)) (take_same (leb-false L.k a narrow)))
