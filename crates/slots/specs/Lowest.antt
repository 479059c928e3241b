-- The lowest aligned start for n slots in a map of 2 ^ k. Rests on `Sets`.
use Rattle.std.specs.Prelude.{◌≡◌, ◌↔◌, Bool, not, ◌&&◌, T, leb, eqb}
use Prim.Native.Nat.{ℕ, ◌+◌, ◌-◌, ◌%◌, ◌^◌, ◌≤◌, ◌<◌, min}
use Rattle.std.proofs.Common.{le_antisymm, le_of_lt}
use Rattle.std.proofs.Math.Nat.{min-eq_left}
use Rattle.answers.specs.Faults.{finds_le, finds_both}
use Rattle.bits.specs.Range.{least}
use Rattle.rounding.specs.Multiples.{Multiple, divides}
use Rattle.slots.specs.Sets.{Slots, all_free, AllFree, finds_all_free}

-- o is a multiple of 2 ^ a, its run of n ends within the capacity, and the run's slots are all free. The parts wait on each other, so that a
-- start that is none costs no look at the slots
unfoldable pub fits_at : ℕ → Slots → ℕ → ℕ → ℕ → Bool
fits_at k S n a o =
    let free = all_free S o n in
    let ends = leb (o + n) (2 ^ k) && free in
    eqb (o % 2 ^ a) 0 && ends

-- the least such start, or 2 ^ k where there is none
unfoldable pub lowest : ℕ → Slots → ℕ → ℕ → ℕ
lowest k S n a = least (fits_at k S n a) 0 (2 ^ k)

-- the least free slot from s on, or 2 ^ k where there is none
unfoldable pub free_from : ℕ → Slots → ℕ → ℕ
free_from k S s = least (λ i. not (S i)) (min s (2 ^ k)) (2 ^ k - s)

-- ---- what they mean

-- from a slot of the map on, the search begins at that slot
pub free_from_inside : (k : ℕ) (S : Slots) (s : ℕ) → s < 2 ^ k → free_from k S s ≡ least (λ i. not (S i)) s (2 ^ k - s)
unfolding free_from
free_from_inside k S s inside = rw (min-eq_left (le_of_lt inside))

pub record Fits (k : ℕ) (S : Slots) (n a o : ℕ) : Type 0 where
  pub aligned : Multiple (2 ^ a) o
  pub ends : o + n ≤ 2 ^ k
  pub free : AllFree S o n

-- a start that fits, below which none does
pub record LowestFit (k : ℕ) (S : Slots) (n a o : ℕ) : Type 0 where
  pub fits : Fits k S n a o
  pub lowest_start : (p : ℕ) → Fits k S n a p → o ≤ p

-- no start fits
abbrev pub NoStart : ℕ → Slots → ℕ → ℕ → Type 0
NoStart k S n a = (o : ℕ) → Fits k S n a o → ⊥

module _ (k : ℕ) (S : Slots) (n a : ℕ) where
  pub finds_fit : (o : ℕ) → T (fits_at k S n a o) ↔ Fits k S n a o
  unfolding fits_at
  finds_fit o =
      let rest = finds_both (leb (o + n) (2 ^ k)) (all_free S o n) (finds_le (o + n) (2 ^ k)) (finds_all_free S o n) in
      let found = finds_both (eqb (o % 2 ^ a) 0) (leb (o + n) (2 ^ k) && all_free S o n) (divides (2 ^ a) o) rest in (
        λ t. let g = found.0 t in record { aligned = g.0; ends = g.1.0; free = g.1.1 },
        λ f. found.1 (f.aligned, (f.ends, f.free)),
      )

  -- there is one lowest start
  pub lowest_unique : (o p : ℕ) → LowestFit k S n a o → LowestFit k S n a p → o ≡ p
  lowest_unique o p f g = le_antisymm (f.lowest_start p g.fits) (g.lowest_start o f.fits)
