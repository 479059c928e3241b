-- What stood in specs/Lowest and rests on theorems there: moved, its statements unchanged. Rests on `Lowest`.
use Rattle.std.specs.Prelude.{◌↔◌, T, leb}
use Prim.Native.Nat.{ℕ, ◌^◌, ◌<◌, zero-le}
use Rattle.std.proofs.Common.{arith, leb→le, le→leb}
use Rattle.bits.specs.Range.{least_passes, least_first, le_of_not_lt}
use Rattle.slots.specs.Sets.{Slots}
use Rattle.slots.specs.Lowest.{fits_at, lowest, Fits, LowestFit, NoStart, finds_fit}

module _ (k : ℕ) (S : Slots) (n a : ℕ) where
  none_below : (p : ℕ) → p < lowest k S n a → Fits k S n a p → ⊥
  unfolding lowest
  none_below p lt f = rw (least_first (fits_at k S n a) 0 (2 ^ k) p zero-le lt) at ((finds_fit k S n a p).1 f)

  -- where a start was found, it is the lowest that fits
  pub lowest_fits : lowest k S n a < 2 ^ k → LowestFit k S n a (lowest k S n a)
  unfolding lowest
  lowest_fits h = record {
    fits = (finds_fit k S n a _).0 (rw (least_passes (fits_at k S n a) 0 (2 ^ k) (omega arith)) tt);
    lowest_start = λ p f. le_of_not_lt (λ lt. none_below p lt f);
  }

  -- where none was found no start fits, of a run that has a slot
  pub finds_no_start : 0 < n → T (leb (2 ^ k) (lowest k S n a)) ↔ NoStart k S n a
  finds_no_start pos = (
    λ t o f. none_below o (omega (arith, leb→le (2 ^ k) (lowest k S n a) t, f.ends)) f,
    λ none. le→leb (2 ^ k) (lowest k S n a) (le_of_not_lt (λ lt. none _ (lowest_fits lt).fits)),
  )
