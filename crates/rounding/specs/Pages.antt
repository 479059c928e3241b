-- Pages of 4,096 in the papers' terms: what is answered, the contracts, and what the answers mean. Rests on `Multiples`.
use Rattle.std.specs.Prelude.{◌≡◌, refl, ◌↔◌, ℕ, ◌+◌, ◌-◌, ◌*◌, ◌/◌, ◌%◌, ◌^◌, ◌≤◌, ◌<◌, Result}
use Rattle.std.proofs.Common.{sym, ◌∙◌, div-add-mod', arith}
use Rattle.answers.specs.Said.{Said}
use Rattle.answers.specs.Answers.{answer_says}
use Rattle.answers.proofs.Answers.{answer_says_injective}
use Rattle.answers.specs.declared.Refusal.{Refusal}
use Rattle.rounding.specs.Multiples.{down, up, aligned_up}

-- ---- what is answered

abbrev pub page_size : ℕ
page_size = 4096

unfoldable pub page_up : ℕ → Said ℕ
page_up x = aligned_up 64 x page_size

-- how many pages x bytes take; a page that is only begun counts
unfoldable pub pages : ℕ → ℕ
pages x = (x + (page_size - 1)) / page_size

unfoldable pub page_offset : ℕ → ℕ
page_offset x = x % page_size

-- ---- the contracts, each of which leaves one answer

abbrev pub PageAlignUpSays : ℕ → Result ℕ Refusal → Type 0
PageAlignUpSays x r = answer_says r ≡ page_up x

abbrev pub RoundToPagesSays : ℕ → ℕ → Type 0
RoundToPagesSays x r = r ≡ pages x

abbrev pub PageOffsetSays : ℕ → ℕ → Type 0
PageOffsetSays x r = r ≡ page_offset x

pub page_align_up_one_answer : (x : ℕ) (r s : Result ℕ Refusal) → PageAlignUpSays x r → PageAlignUpSays x s → r ≡ s
page_align_up_one_answer x r s p q = answer_says_injective r s (p ∙ sym q)

pub round_to_pages_one_answer : (x r s : ℕ) → RoundToPagesSays x r → RoundToPagesSays x s → r ≡ s
round_to_pages_one_answer x r s p q = p ∙ sym q

pub page_offset_one_answer : (x r s : ℕ) → PageOffsetSays x r → PageOffsetSays x s → r ≡ s
page_offset_one_answer x r s p q = p ∙ sym q

-- ---- what the answers mean

-- k is the least number with 4,096 times k at or above x
pub record LeastCount (x k : ℕ) : Type 0 where
  pub at_or_above : x ≤ page_size * k
  pub least_such : (j : ℕ) → x ≤ page_size * j → k ≤ j

pub pages_least : (x k : ℕ) → (pages x ≡ k) ↔ LeastCount x k
unfolding pages
pages_least x k = (
  λ e. record { at_or_above = omega (arith, e); least_such = λ j h. omega (arith, e) },
  λ l. omega (arith, l.at_or_above, l.least_such (pages x) (omega arith)),
)

-- the first page boundary that is not below x stands behind so many pages
pub pages_end : (x : ℕ) → up page_size x ≡ pages x * page_size
unfolding up down pages
pages_end x = refl

-- the last 64-bit value, and that none has more pages
pub last_page : pages (2 ^ 64 - 1) ≡ 4503599627370496
unfolding pages
last_page = refl

pub pages_fit : (x : ℕ) → x < 2 ^ 64 → pages x ≤ pages (2 ^ 64 - 1)
unfolding pages
pages_fit x h = omega arith

-- the offset is what is left above the page boundary that is not above x
pub page_offset_rest : (x : ℕ) → down page_size x + page_offset x ≡ x
unfolding down page_offset
page_offset_rest x = div-add-mod' x page_size
