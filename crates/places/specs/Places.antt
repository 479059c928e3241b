-- What is done to one word of 64 places, for every number: each result digit by digit. Rests on the digits of `bits` and the painting of `slots`.
use Rattle.std.specs.Prelude.{◌≡◌, refl, Bool, ◌&&◌, ◌||◌, ℕ, ◌+◌, ◌≤◌, ◌<◌}
use Rattle.std.proofs.Common.{sym, ◌∙◌, arith}
use Rattle.std.proofs.Math.Path.{ap}
use Rattle.std.proofs.Math.Bool.{true, false, not}
use Rattle.bits.specs.Range.{within, every, count, every_agree, every_within}
use Rattle.bits.specs.Digits.{digit, number, number_agree}
use Rattle.bits.proofs.Digits.{digit_number}
use Rattle.slots.specs.Sets.{all_free, all_used, painted}
use Rattle.slots.specs.Lowest.{free_from}

-- ---- what is answered

-- ones at the n places from s on
unfoldable pub run_mask : ℕ → ℕ → ℕ
run_mask s n = number (within s n) 64

-- each place of the mask is free, is used
unfoldable pub free_in : ℕ → ℕ → Bool
free_in word mask = every (λ i. not (digit mask i && digit word i)) 0 64

unfoldable pub used_in : ℕ → ℕ → Bool
used_in word mask = every (λ i. not (digit mask i) || digit word i) 0 64

-- the word with the places of the mask painted, place by place
unfoldable pub painted_place : ℕ → ℕ → Bool → ℕ → Bool
painted_place word mask v i = elim (digit mask i) [ true ↦ v | false ↦ digit word i ]

unfoldable pub painted_in : ℕ → ℕ → Bool → ℕ
painted_in word mask v = number (painted_place word mask v) 64

-- ---- the contracts

abbrev pub RunMaskSays : ℕ → ℕ → ℕ → Type 0
RunMaskSays start n r = r ≡ run_mask start n

abbrev pub AllFreeSays : ℕ → ℕ → Bool → Type 0
AllFreeSays word mask r = r ≡ free_in word mask

abbrev pub AllUsedSays : ℕ → ℕ → Bool → Type 0
AllUsedSays word mask r = r ≡ used_in word mask

abbrev pub MarkSays : ℕ → ℕ → ℕ → Type 0
MarkSays word mask r = r ≡ painted_in word mask true

abbrev pub UnmarkSays : ℕ → ℕ → ℕ → Type 0
UnmarkSays word mask r = r ≡ painted_in word mask false

abbrev pub PaintSays : ℕ → ℕ → Bool → ℕ → Type 0
PaintSays word mask used r = r ≡ painted_in word mask used

abbrev pub FirstFreeSays : ℕ → ℕ → ℕ → Type 0
FirstFreeSays word from r = r ≡ free_from 6 (digit word) from

abbrev pub CountSays : ℕ → ℕ → Type 0
CountSays word r = r ≡ count (digit word) 0 64

-- ---- any two answers that a contract allows coincide; so the two ways to a run's mask agree

pub run_mask_one_answer : (start n r q : ℕ) → RunMaskSays start n r → RunMaskSays start n q → r ≡ q
run_mask_one_answer start n r q p o = p ∙ sym o

pub all_free_one_answer : (word mask : ℕ) (r q : Bool) → AllFreeSays word mask r → AllFreeSays word mask q → r ≡ q
all_free_one_answer word mask r q p o = p ∙ sym o

pub all_used_one_answer : (word mask : ℕ) (r q : Bool) → AllUsedSays word mask r → AllUsedSays word mask q → r ≡ q
all_used_one_answer word mask r q p o = p ∙ sym o

pub mark_one_answer : (word mask r q : ℕ) → MarkSays word mask r → MarkSays word mask q → r ≡ q
mark_one_answer word mask r q p o = p ∙ sym o

pub unmark_one_answer : (word mask r q : ℕ) → UnmarkSays word mask r → UnmarkSays word mask q → r ≡ q
unmark_one_answer word mask r q p o = p ∙ sym o

pub paint_one_answer : (word mask : ℕ) (used : Bool) (r q : ℕ) → PaintSays word mask used r → PaintSays word mask used q → r ≡ q
paint_one_answer word mask used r q p o = p ∙ sym o

pub first_free_one_answer : (word from r q : ℕ) → FirstFreeSays word from r → FirstFreeSays word from q → r ≡ q
first_free_one_answer word from r q p o = p ∙ sym o

pub count_one_answer : (word r q : ℕ) → CountSays word r → CountSays word q → r ≡ q
count_one_answer word r q p o = p ∙ sym o

-- ---- what they mean for the slots that a word holds

run_place : (s n i : ℕ) → i < 64 → digit (run_mask s n) i ≡ within s n i
unfolding run_mask
run_place s n i h = digit_number (within s n) 64 i h

either_not : (x y : Bool) → not (x && y) ≡ not x || not y
either_not true y = refl
either_not false y = refl

module _ (word s n : ℕ) where
  -- of a run that ends within the word
  pub free_run : s + n ≤ 64 → free_in word (run_mask s n) ≡ all_free (digit word) s n
  unfolding free_in all_free
  free_run ends =
      every_agree _ (λ i. not (within s n i) || not (digit word i)) 0 64
      (λ i _ l. rw (run_place s n i (omega arith)) (either_not (within s n i) (digit word i)))
      ∙ every_within (λ i. not (digit word i)) 64 s n ends

  pub used_run : s + n ≤ 64 → used_in word (run_mask s n) ≡ all_used (digit word) s n
  unfolding used_in all_used
  used_run ends =
      every_agree _ (λ i. not (within s n i) || digit word i) 0 64 (λ i _ l. rw (run_place s n i (omega arith)))
      ∙ every_within (digit word) 64 s n ends

  -- of any run: places past the word are not in it
  pub painted_run : (v : Bool) → painted_in word (run_mask s n) v ≡ number (painted (digit word) s n v) 64
  unfolding painted_in painted_place painted
  painted_run v =
      number_agree (painted_place word (run_mask s n) v) (painted (digit word) s n v) 64
      (λ i l. ap (λ (b : Bool). elim b as (λ _. Bool) [ true ↦ v | false ↦ digit word i ]) (run_place s n i l))
