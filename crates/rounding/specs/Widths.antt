-- The contracts of rounding at any width: `Multiples` there, of the numbers that the values are; and that each leaves one answer. Rests on
-- `Multiples` and on `answers`.
use Rattle.std.specs.Prelude.{◌≡◌, refl, Bool, not, [], ◌∷◌, ℕ, ◌-◌, ◌%◌, ◌^◌, ◌≤◌, ◌<◌, Result}
use Rattle.std.proofs.Common.{sym, ◌∙◌, arith}
use Rattle.answers.specs.Said.{Said, value, refused, ◌when◌, judged, on_value}
use Rattle.answers.specs.Answers.{answer_says}
use Rattle.answers.proofs.Answers.{answer_says_injective}
use Rattle.answers.specs.declared.Refusal.{Refusal}
use Rattle.rounding.specs.Powers.{is_power}
use Rattle.rounding.specs.Multiples.{aligned_up, aligned_down, aligned}

-- the greatest number of w digits, of which there are at most 64
pub record IsWidth (w most : ℕ) : Type 0 where
  pub greatest : most ≡ 2 ^ w - 1
  pub at_most : w ≤ 64

pub narrow : IsWidth 32 4_294_967_295
narrow = record { greatest = refl; at_most = omega arith }

pub wide : IsWidth 64 18_446_744_073_709_551_615
wide = record { greatest = refl; at_most = omega arith }

-- ---- the contracts

module _ {N : Type 0} (w : ℕ) (number : N → ℕ) where
  -- a value's number, which the width holds
  pub record ToU64Says (v : N) (r : ℕ) : Type 0 where
    pub is_number : r ≡ number v
    pub fits : r < 2 ^ w

  -- the value of the lowest digits
  abbrev pub FromU64Says : ℕ → N → Type 0
  FromU64Says n r = number r ≡ n % 2 ^ w

  -- the number that is said
  abbrev pub number_says : Result N Refusal → Said ℕ
  number_says r = on_value number (answer_says r)

  abbrev pub AlignUpSays : N → N → Result N Refusal → Type 0
  AlignUpSays v a r = number_says r ≡ aligned_up w (number v) (number a)

  abbrev pub AlignDownSays : N → N → Result N Refusal → Type 0
  AlignDownSays v a r = number_says r ≡ aligned_down w (number v) (number a)

  abbrev pub IsAlignedSays : N → N → Result Bool Refusal → Type 0
  IsAlignedSays v a r = answer_says r ≡ aligned w (number v) (number a)

  -- the digits below that of the alignment, whose number fits the width
  pub record MaskSays (a : N) (r : Result ℕ Refusal) : Type 0 where
    pub says : answer_says r ≡ judged ((8 when not (is_power w (number a))) ∷ []) (number a - 1)
    pub fits : number a < 2 ^ w

-- at `u32` and at `u64` a value is its number, and what is said is the number itself
pub said_itself : (said : Said ℕ) → on_value (λ n. n) said ≡ said
unfolding on_value
said_itself (value n) = refl
said_itself (refused k) = refl

module _ {N : Type 0} (w : ℕ) (number : N → ℕ) where
  pub to_u64_one_answer : (v : N) (r q : ℕ) → ToU64Says w number v r → ToU64Says w number v q → r ≡ q
  to_u64_one_answer v r q p o = p.is_number ∙ sym o.is_number

  -- where a value is known by its number
  pub from_u64_one_answer : ((one other : N) → number one ≡ number other → one ≡ other) → (n : ℕ) (r q : N) → FromU64Says w number n r → FromU64Says w number n q → r ≡ q
  from_u64_one_answer known n r q p o = known r q (p ∙ sym o)

module _ (w : ℕ) where
  pub align_up_says : (v a : ℕ) (r : Result ℕ Refusal) → AlignUpSays w (λ n. n) v a r → answer_says r ≡ aligned_up w v a
  align_up_says v a r p = sym (said_itself (answer_says r)) ∙ p

  pub align_down_says : (v a : ℕ) (r : Result ℕ Refusal) → AlignDownSays w (λ n. n) v a r → answer_says r ≡ aligned_down w v a
  align_down_says v a r p = sym (said_itself (answer_says r)) ∙ p

  pub align_up_one_answer : (v a : ℕ) (r s : Result ℕ Refusal) → AlignUpSays w (λ n. n) v a r → AlignUpSays w (λ n. n) v a s → r ≡ s
  align_up_one_answer v a r s p q = answer_says_injective r s (align_up_says v a r p ∙ sym (align_up_says v a s q))

  pub align_down_one_answer : (v a : ℕ) (r s : Result ℕ Refusal) → AlignDownSays w (λ n. n) v a r → AlignDownSays w (λ n. n) v a s → r ≡ s
  align_down_one_answer v a r s p q = answer_says_injective r s (align_down_says v a r p ∙ sym (align_down_says v a s q))

  pub is_aligned_one_answer : (v a : ℕ) (r s : Result Bool Refusal) → IsAlignedSays w (λ n. n) v a r → IsAlignedSays w (λ n. n) v a s → r ≡ s
  is_aligned_one_answer v a r s p q = answer_says_injective r s (p ∙ sym q)
