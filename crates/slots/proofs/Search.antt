-- What stood in specs/Search and rests on theorems there: moved, its statements unchanged. Rests on `Search`.
use Rattle.std.specs.Prelude.{◌≡◌, ℕ, ◌^◌, ◌≤◌, ◌<◌}
use Rattle.std.proofs.Common.{lt_of_not-le, leb→le, le→leb}
use Rattle.slots.specs.Sets.{Slots}
use Rattle.slots.specs.Lowest.{lowest, LowestFit, NoStart, lowest_unique}
use Rattle.slots.proofs.Lowest.{lowest_fits, finds_no_start}

module _ (k : ℕ) (S : Slots) (n a : ℕ) (pos : 0 < n) where
  -- ---- what the search then says

  pub lowest_is : (o : ℕ) → LowestFit k S n a o → lowest k S n a ≡ o
  lowest_is o found =
      lowest_unique k S n a (lowest k S n a) o
      (lowest_fits k S n a (lt_of_not-le (λ l. (finds_no_start k S n a pos).0 (le→leb _ _ l) o found.fits))) found

  pub lowest_none : NoStart k S n a → 2 ^ k ≤ lowest k S n a
  lowest_none none = leb→le _ _ ((finds_no_start k S n a pos).1 none)
