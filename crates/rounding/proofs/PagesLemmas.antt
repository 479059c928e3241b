-- What stood in specs/Pages and rests on theorems there: moved, its statements unchanged. Rests on `Pages`.
use Rattle.std.specs.Prelude.{◌≡◌, refl, ◌↔◌, [], ◌∷◌, ℕ, ◌-◌, ◌^◌, ◌≤◌, ◌<◌, T, leb}
use Rattle.std.proofs.Common.{inl, ⊎_elim, zero-lt-suc, arith}
use Rattle.answers.specs.Said.{refused, ◌when◌, judged}
use Rattle.answers.specs.Faults.{◌if◌, FaultsDecide, judged_refuses, finds_le}
use Rattle.answers.proofs.Faults.{faults_decide}
use Rattle.bits.specs.Range.{least}
use Rattle.rounding.specs.Powers.{is_power, exponent}
use Rattle.rounding.specs.Multiples.{up, aligned_up, NoneFits}
use Rattle.rounding.proofs.Multiples.{finds_none_fits}
use Rattle.rounding.specs.Pages.{page_size, page_up, pages, pages_end, last_page, pages_fit}

-- ---- what the answers mean

page_pos : 0 < page_size
page_pos = zero-lt-suc 4095

-- the page size is a power of two, so that only 9 is left to refuse
page_up_judged : (x : ℕ) → page_up x ≡ judged ((9 when leb (2 ^ 64) (up page_size x)) ∷ []) (up page_size x)
unfolding page_up aligned_up judged is_power exponent least
page_up_judged x = refl

finds_no_page : (x : ℕ) → T (leb (2 ^ 64) (up page_size x)) ↔ NoneFits 64 x page_size
finds_no_page x = finds_none_fits 64 x page_size (omega arith) page_pos

pub page_align_up_faults : (x : ℕ) → FaultsDecide (page_up x) (up page_size x) ((9 if NoneFits 64 x page_size) ∷ [])
page_align_up_faults x = rw (page_up_judged x) (faults_decide _ _ (up page_size x) (omega arith) (refl, finds_no_page x, λ _. tt))

-- rounding up is refused exactly where the last page is begun; the count has that page too
pub last_page_counts : (x : ℕ) → x < 2 ^ 64 → (page_up x ≡ refused 9) ↔ (pages x ≡ pages (2 ^ 64 - 1))
last_page_counts x h =
    let end = up page_size x in
    let refuses = judged_refuses ((9 when leb (2 ^ 64) end) ∷ []) ((9 if 2 ^ 64 ≤ end) ∷ []) end 9 (refl, finds_le (2 ^ 64) end, λ _. tt) in
    rw (page_up_judged x) (
      λ said. ⊎_elim (λ past. omega (arith, past.1, pages_end x, pages_fit x h, last_page)) (λ none. absurd none.1) (refuses.0 said),
      λ last. refuses.1 (inl (refl, omega (arith, last, pages_end x, last_page))),
    )
