-- What stood in specs/Multiples and rests on theorems there: moved, its statements unchanged. Rests on `Multiples`.
use Rattle.std.specs.Prelude.{◌≡◌, refl, ◌↔◌, [], ◌∷◌, ℕ, ◌^◌, ◌<◌, T, leb}
use Rattle.std.proofs.Common.{inl, inr, ⊎_elim, le_trans, lt_of_not-le, not-le_of_lt, arith, leb→le, le→leb}
use Rattle.bits.specs.Range.{le_of_not_lt}
use Rattle.answers.specs.Said.{value}
use Rattle.answers.specs.Faults.{◌if◌, FaultsDecide}
use Rattle.answers.proofs.Faults.{faults_decide}
use Rattle.rounding.specs.Powers.{PowerOfTwo, power_pos}
use Rattle.rounding.specs.Multiples.{up, aligned_up, LeastNotBelow, up_least, least_unique, NoPower, NoneFits, no_power, power, finds_no_power, power_else}

module _ (w v a : ℕ) (held : a < 2 ^ w) where
  pub finds_none_fits : 0 < a → T (leb (2 ^ w) (up a v)) ↔ NoneFits w v a
  finds_none_fits pos =
      let bound = up_least a v pos in (
        λ t m p l h. not-le_of_lt h (le_trans (leb→le (2 ^ w) (up a v) t) (bound.least m p l)),
        λ none. le→leb (2 ^ w) (up a v) (le_of_not_lt (none (up a v) bound.multiple bound.not_below)),
      )

  pub align_up_faults : FaultsDecide (aligned_up w v a) (up a v) ((8 if NoPower a) ∷ (9 if NoneFits w v a) ∷ [])
  unfolding aligned_up
  align_up_faults =
      faults_decide _ _ (up a v) (omega arith)
      (refl, (finds_no_power w v a held), λ t. (refl, finds_none_fits (power_pos a ((power w v a held) t)), λ _. tt))

  pub align_up_promise : (r : ℕ) → (aligned_up w v a ≡ value r) ↔ (PowerOfTwo a × LeastNotBelow a v r × (r < 2 ^ w))
  align_up_promise r = (given, giving)
    where
      given : aligned_up w v a ≡ value r → PowerOfTwo a × LeastNotBelow a v r × (r < 2 ^ w)
      given said =
          let accepted = (align_up_faults.accepts r).0 said in
          let p = (power_else w v a held) (λ n. accepted.0 8 (inl (refl, n))) in
          let none_fits = finds_none_fits (power_pos a p) in
          rw (← accepted.1) (p, up_least a v (power_pos a p), lt_of_not-le (λ l. accepted.0 9 (inr (inl (refl, none_fits.0 (le→leb _ _ l))))))

      giving : PowerOfTwo a × LeastNotBelow a v r × (r < 2 ^ w) → aligned_up w v a ≡ value r
      giving g =
          (align_up_faults.accepts r).1 (
            λ k. ⊎_elim (λ f. no_power a f.1 g.0) (⊎_elim (λ f. f.1 r g.1.multiple g.1.not_below g.2) (λ f. f)),
            least_unique a v (up a v) r (up_least a v (power_pos a g.0)) g.1,
          )
