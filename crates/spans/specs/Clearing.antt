-- Clearing a part of a buffer in document 01's terms, what is left of each byte, and that its contract leaves one answer and one content. Rests
-- on `answers`.
use Rattle.std.specs.Prelude.{◌≡◌, refl, List, [], ◌∷◌, ◌++◌, ℕ, ◌-◌, ◌≤◌, ◌<◌, ltb, length, take, replicate, Result}
use Rattle.std.proofs.Common.{sym, ◌∙◌, arith}
use Rattle.std.proofs.Math.Path.{ap}
use Rattle.std.proofs.Math.ListN.{get_or, drop}
use Rattle.answers.specs.Said.{Said, refused, ◌when◌, judged, leaving, leaving_says, leaving_refused}
use Rattle.answers.specs.Faults.{◌if◌, FaultsDecide, finds_lt}
use Rattle.answers.proofs.Faults.{faults_decide}
use Rattle.answers.specs.Answers.{answer_says}
use Rattle.answers.proofs.Answers.{answer_says_injective}
use Rattle.answers.specs.declared.Refusal.{Refusal}

-- ---- what is answered, and what the buffer then holds

-- the bytes with zeros from offset s up to, not including, offset e
unfoldable pub zeroed : List ℕ → ℕ → ℕ → List ℕ
zeroed bytes s e = take s bytes ++ (replicate (e - s) 0 ++ drop e bytes)

unfoldable pub cleared : List ℕ → ℕ → ℕ → Said Unit × List ℕ
cleared bytes s e = leaving (judged ((4 when ltb (length bytes) e) ∷ (10 when ltb e s) ∷ []) tt) (λ _. zeroed bytes s e) bytes

-- ---- the contract

abbrev pub ClearSays : List ℕ → ℕ → ℕ → Result Unit Refusal → List ℕ → Type 0
ClearSays before start end r after = (answer_says r, after) ≡ cleared before start end

pub clear_one_answer : (before : List ℕ) (start end : ℕ) (r s : Result Unit Refusal) (after other : List ℕ)
    → ClearSays before start end r after → ClearSays before start end s other → (r ≡ s) × (after ≡ other)
clear_one_answer before start end r s after other p q =
    (answer_says_injective r s (ap (λ o. o.0) (p ∙ sym q)), ap (λ o. o.1) (p ∙ sym q))

-- ---- what it means

-- the buffer is as long as it was, with zeros from the start up to the end, and every other byte is as it was
pub record OnlyZeroed (bytes after : List ℕ) (s e : ℕ) : Type 0 where
  pub as_long : length after ≡ length bytes
  pub zeros : (i : ℕ) → s ≤ i → i < e → get_or after i 0 ≡ 0
  pub kept_before : (i : ℕ) → i < s → get_or after i 0 ≡ get_or bytes i 0
  pub kept_from : (i : ℕ) → e ≤ i → get_or after i 0 ≡ get_or bytes i 0

module _ (bytes : List ℕ) (s e : ℕ) where
  -- 4: the end is past the buffer; 10: the end is before the start
  pub clear_faults : FaultsDecide (cleared bytes s e).0 tt ((4 if (length bytes < e)) ∷ (10 if (e < s)) ∷ [])
  unfolding cleared
  clear_faults =
      rw (leaving_says (λ _. zeroed bytes s e) bytes _)
      (faults_decide _ _ tt (omega arith) (refl, finds_lt (length bytes) e, λ _. (refl, finds_lt e s, λ _. tt)))

  -- a refused call keeps every byte
  pub clear_refused : (k : ℕ) → (cleared bytes s e).0 ≡ refused k → (cleared bytes s e).1 ≡ bytes
  unfolding cleared
  clear_refused k said = leaving_refused (λ _. zeroed bytes s e) bytes _ k said
