-- A table that is written out is held to its rule as a whole: it equals the rule's rows, which antt computes, and so each entry is the rule's.
-- Assumes nothing.
use mathlib.Core.Path.{◌≡◌, ap, ◌∙◌}
use mathlib.Core.List.{List, [], ◌∷◌}
use Prim.Native.Nat.{ℕ, zero, suc, ◌+◌, ◌<◌}
use native.Mathlib.Nat.{le_of_suc-le-suc, not-suc-le-zero, zero-add}
use native.Mathlib.Omega.{arith}
use lib.ListN.{get_or}

-- the rule at the n numbers from s on
abbrev pub rows : (ℕ → ℕ) → ℕ → ℕ → List ℕ
rows rule s zero = []
rows rule s (suc n) = rule s ∷ rows rule (suc s) n

row : (rule : ℕ → ℕ) (s n k : ℕ) → k < n → get_or (rows rule s n) k 0 ≡ rule (s + k)
row rule s zero k h = absurd (not-suc-le-zero h)
row rule s (suc n) zero h = ap rule (omega arith)
row rule s (suc n) (suc k) h = row rule (suc s) n k (le_of_suc-le-suc h) ∙ ap rule (omega arith)

pub entry : (rule : ℕ → ℕ) (n : ℕ) (table : List ℕ) → table ≡ rows rule 0 n → (k : ℕ) → k < n → get_or table k 0 ≡ rule k
entry rule n table e k h = ap (λ (xs : List ℕ). get_or xs k 0) e ∙ row rule 0 n k h ∙ ap rule (zero-add k)
