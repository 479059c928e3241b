-- Overlap of closed intervals in document 01's terms, what the answer means, and that its contract leaves one answer. Rests on `answers`.
use Rattle.std.specs.Prelude.{◌≡◌, refl, ◌↔◌, ◌⊎◌, Bool, ◌||◌, [], ◌∷◌, ℕ, ◌≤◌, ◌<◌, min, max, T, leb, ltb, Result}
use Rattle.std.proofs.Common.{sym, ◌∙◌, inl, inr, ⊎_elim, arith, leb→le, le→leb}
use Rattle.answers.specs.Said.{Said, value, ◌when◌, judged}
use Rattle.answers.specs.Faults.{◌if◌, FaultsDecide, finds_lt, finds_either}
use Rattle.answers.proofs.Faults.{faults_decide}
use Rattle.answers.specs.Answers.{answer_says}
use Rattle.answers.proofs.Answers.{answer_says_injective}
use Rattle.answers.specs.declared.Refusal.{Refusal}
use Rattle.bits.specs.Range.{le_of_not_lt, same_test}

-- of the intervals from a to b and from c to d: the later of the two first numbers is not past the earlier of the two last
unfoldable pub meet : ℕ → ℕ → ℕ → ℕ → Bool
meet a b c d = leb (max a c) (min b d)

unfoldable pub overlaps : ℕ → ℕ → ℕ → ℕ → Said Bool
overlaps a b c d = judged ((10 when (ltb b a || ltb d c)) ∷ []) (meet a b c d)

-- ---- the contract

abbrev pub OverlapSays : ℕ → ℕ → ℕ → ℕ → Result Bool Refusal → Type 0
OverlapSays a b c d r = answer_says r ≡ overlaps a b c d

pub overlap_one_answer : (a b c d : ℕ) (r s : Result Bool Refusal) → OverlapSays a b c d r → OverlapSays a b c d s → r ≡ s
overlap_one_answer a b c d r s p q = answer_says_injective r s (p ∙ sym q)

-- ---- what the answer means

-- n lies in the closed interval from a to b
abbrev pub LiesIn : ℕ → ℕ → ℕ → Type 0
LiesIn a b n = (a ≤ n) × (n ≤ b)

-- some whole number lies in both
abbrev pub Common : ℕ → ℕ → ℕ → ℕ → Type 0
Common a b c d = (n : ℕ) × LiesIn a b n × LiesIn c d n

module _ (a b c d : ℕ) where
  -- 10: an interval's first end is above its second
  pub overlap_faults : FaultsDecide (overlaps a b c d) (meet a b c d) ((10 if ((b < a) ⊎ (d < c))) ∷ [])
  unfolding overlaps
  overlap_faults = faults_decide _ _ (meet a b c d) (omega arith) (refl, finds_either (ltb b a) (ltb d c) (finds_lt b a) (finds_lt d c), λ _. tt)

  -- they meet exactly when some number lies in both
  pub meet_common : T (meet a b c d) ↔ Common a b c d
  unfolding meet
  meet_common = (
    λ t. (max a c, omega (arith, leb→le), omega (arith, leb→le)),
    λ g. omega (arith, g.1, g.2, le→leb),
  )

  -- yes or no is answered exactly when both intervals are in order, and yes exactly when some number lies in both
  pub overlap_promise : (answer : Bool) → (overlaps a b c d ≡ value answer) ↔ ((a ≤ b) × (c ≤ d) × (T answer ↔ Common a b c d))
  overlap_promise answer = (
    λ said.
        let accepted = (overlap_faults.accepts answer).0 said in (
          le_of_not_lt (λ l. accepted.0 10 (inl (refl, inl l))),
          le_of_not_lt (λ l. accepted.0 10 (inl (refl, inr l))),
          rw (← accepted.1) meet_common,
        ),
    λ g.
        (overlap_faults.accepts answer).1 (
          λ k. ⊎_elim (λ f. ⊎_elim (λ l. omega arith) (λ l. omega arith) f.1) (λ f. f),
          same_test _ _ (λ t. g.2.1 (meet_common.0 t)) (λ t. meet_common.1 (g.2.0 t)),
        ),
  )
