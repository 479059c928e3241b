-- The three questions of this crate in document 01's terms: the k lowest places, one place, and the places from one to another, each as a
-- number of 64 bits. Then what each means, digit by digit, and that its contract leaves one answer. Rests on `Digits` and on `answers`.
use Rattle.std.specs.Prelude.{◌≡◌, refl, ◌&&◌, [], ◌∷◌, ℕ, ◌-◌, ◌^◌, ◌≤◌, ◌<◌, min, leb, ltb, Result}
use Rattle.std.proofs.Common.{sym, ◌∙◌, arith}
use Rattle.std.proofs.Math.Nat.{min-eq_left}
use Rattle.std.specs.Int.Count.{ones, ones-ones}
use Rattle.answers.specs.Said.{Said, value, ◌when◌, judged}
use Rattle.answers.specs.Faults.{◌if◌, FaultsDecide, finds_lt}
use Rattle.answers.proofs.Faults.{faults_decide}
use Rattle.answers.specs.Answers.{answer_says}
use Rattle.answers.proofs.Answers.{answer_says_injective}
use Rattle.answers.specs.declared.Refusal.{Refusal}
use Rattle.bits.specs.Digits.{number}

-- ---- what is answered

-- the k lowest places, all 64 for a k above 64
unfoldable pub low_mask : ℕ → ℕ
low_mask k = 2 ^ min k 64 - 1

-- the place x alone
unfoldable pub one_bit : ℕ → Said ℕ
one_bit x = let bit = 2 ^ x in judged ((4 when ltb 63 x) ∷ []) bit

-- the places from s to e, both included
unfoldable pub places : ℕ → ℕ → ℕ
places s e = number (λ i. leb s i && leb i e) 64

unfoldable pub mask_between : ℕ → ℕ → Said ℕ
mask_between s e = judged ((4 when ltb 63 e) ∷ (10 when ltb e s) ∷ []) (places s e)

-- ---- the contracts

abbrev pub LowMaskSays : ℕ → ℕ → Type 0
LowMaskSays k r = r ≡ low_mask k

abbrev pub OneBitSays : ℕ → Result ℕ Refusal → Type 0
OneBitSays position r = answer_says r ≡ one_bit position

abbrev pub MaskSays : ℕ → ℕ → Result ℕ Refusal → Type 0
MaskSays start end r = answer_says r ≡ mask_between start end

pub low_mask_one_answer : (k r s : ℕ) → LowMaskSays k r → LowMaskSays k s → r ≡ s
low_mask_one_answer k r s p q = p ∙ sym q

pub one_bit_one_answer : (position : ℕ) (r s : Result ℕ Refusal) → OneBitSays position r → OneBitSays position s → r ≡ s
one_bit_one_answer position r s p q = answer_says_injective r s (p ∙ sym q)

pub mask_one_answer : (start end : ℕ) (r s : Result ℕ Refusal) → MaskSays start end r → MaskSays start end s → r ≡ s
mask_one_answer start end r s p q = answer_says_injective r s (p ∙ sym q)

-- ---- what the answers mean

pub low_mask_ones : (k : ℕ) → k ≤ 64 → ones (low_mask k) ≡ k
unfolding low_mask
low_mask_ones k h = rw (min-eq_left h) (ones-ones k)

-- one bit is 2 ^ x, refused with 4 exactly when x is above 63
pub one_bit_faults : (x : ℕ) → FaultsDecide (one_bit x) (2 ^ x) ((4 if (63 < x)) ∷ [])
unfolding one_bit
one_bit_faults x = faults_decide _ _ (2 ^ x) (omega arith) (refl, finds_lt 63 x, λ _. tt)

-- the mask is refused with 4 exactly when its end is above 63, and then with 10 exactly when its end is before its start
pub mask_faults : (s e : ℕ) → FaultsDecide (mask_between s e) (places s e) ((4 if (63 < e)) ∷ (10 if (e < s)) ∷ [])
unfolding mask_between
mask_faults s e = faults_decide _ _ (places s e) (omega arith) (refl, finds_lt 63 e, λ _. (refl, finds_lt e s, λ _. tt))

-- all ones from bit 0 to bit 63
pub mask_all : mask_between 0 63 ≡ value (2 ^ 64 - 1)
unfolding mask_between judged places number
mask_all = refl
