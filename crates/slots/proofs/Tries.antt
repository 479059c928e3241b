-- What stood in specs/Tries and rests on theorems there: moved, its statements unchanged. Rests on `Tries`.
use Rattle.std.specs.Prelude.{◌≡◌, ℕ, ◌+◌, ◌-◌, ◌^◌, ◌≤◌, ◌<◌, eqb}
use Rattle.std.proofs.Math.Path.{sym}
use Rattle.std.proofs.Common.{◌∙◌}
use Rattle.std.proofs.Math.Bool.{true≢false}
use Rattle.std.proofs.Math.Nat.{le_refl, le_antisymm}
use native.Mathlib.Omega.{arith}
use borrow.Author.Tests.{eqb-true, eqb-false}
use Rattle.answers.specs.Said.{value, refused}
use Rattle.bits.specs.Range.{either}
use Rattle.slots.specs.Sets.{Slots, AllFree}
use Rattle.slots.specs.Lowest.{lowest, Fits, LowestFit, NoStart}
use Rattle.slots.specs.Search.{next_multiple, next_above, next_near, searched_on}
use Rattle.slots.proofs.Search.{lowest_is, lowest_none}
use Rattle.slots.specs.Tries.{slot_or_none, next_try, says_room_none, says_room_found, Ahead, Trying}

module _ (k : ℕ) (S : Slots) (n a : ℕ) (pos : 0 < n) where
  -- nothing fits, or this is the lowest that does
  pub says_none : NoStart k S n a → refused 7 ≡ slot_or_none k (lowest k S n a)
  says_none none = says_room_none k (lowest k S n a) (lowest_none k S n a pos none)

  pub says_found : (start : ℕ) → LowestFit k S n a start → value start ≡ slot_or_none k (lowest k S n a)
  says_found start found = rw (lowest_is k S n a pos start found) (says_room_found k start (omega (arith, found.fits.ends)))

  module _ (start : ℕ) (ends : start + n ≤ 2 ^ k) (free : ℕ) (next : Ahead k S start free) where
    -- the place that the next try follows: nothing fits from the try up to it, where the run at the try is not free
    passed : (p : ℕ) × (next_try start free a ≡ next_multiple a p) × (start ≤ p) × (p < 2 ^ k)
        × ((free ≡ start → AllFree S start n → ⊥) → (o : ℕ) → start ≤ o → o ≤ p → Fits k S n a o → ⊥)
    unfolding next_try
    passed =
        either (eqb free start)
        (λ e. (
          start,
          rw e,
          le_refl start,
          omega arith,
          λ not_Free o l h f.
              let same : start ≡ o = le_antisymm l h in
              not_Free (eqb-true free start e) (rw same f.free),
        ))
        (λ e. (
          free - 1,
          rw e,
          omega (arith, next.from, eqb-false free start e),
          omega (arith, next.inside),
          λ not_Free o l h f.
              true≢false (sym (next.first o l (omega (arith, next.from, eqb-false free start e))) ∙ f.free o (omega arith, omega arith)),
        ))

    -- the next try is above this one
    pub try_later : start < next_try start free a
    try_later = rw passed.1 (omega (arith, next_above a passed.0, passed.2))

    -- and passes over no start that fits
    pub try_on : Trying k S n a start → (free ≡ start → AllFree S start n → ⊥) → Trying k S n a (next_try start free a)
    try_on try not_Free = record {
      known = rw passed.1 (searched_on k S n a pos start try.known passed.0 passed.2 (passed.4 not_Free));
      near = rw passed.1 (omega (arith, next_near a passed.0, passed.3));
    }
