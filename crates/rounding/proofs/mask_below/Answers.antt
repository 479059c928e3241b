-- `rounding::mask_below` meets its contract: one digit set says that the alignment is a power of two of the width. Assumes nothing.
use Rattle.std.proofs.Common.{◌∙◌, sym, ap, ◌-◌, not, ℕ}
use Rattle.answers.specs.Said.{value, judged_found, judged_passed}
use Rattle.rounding.specs.Powers.{is_power}
use Rattle.rounding.proofs.Masks.{power_by_count, align_pos}
use Rattle.rounding.proofs.mask_below.Goals as goal

pub returns-then-not-is_power_of_two : goal.returns-then-not-is_power_of_two
returns-then-not-is_power_of_two g c =
    let w = g.N.Width.width in
    let is = c.to_u64-align.ensures.is_number in
    let tested = sym (power_by_count w _ c.to_u64-align.ensures.fits) ∙ sym c.is_power_of_two.ensures ∙ c.if-not-is_power_of_two.true in
    record {
      says = sym (judged_found 8 _ _ (ap (λ (n : ℕ). not (is_power w n)) (sym is) ∙ ap not tested));
      fits = rw (← is) c.to_u64-align.ensures.fits;
    }

pub overflow_sub-result : goal.overflow_sub-result
overflow_sub-result g c =
    let w = g.N.Width.width in
    let fits = c.to_u64-align.ensures.fits in
    align_pos w _ g.met.N.Width.laws.at_most fits (sym (power_by_count w _ fits) ∙ sym c.is_power_of_two.ensures ∙ c.if-not-is_power_of_two.false)

pub returns : goal.returns
returns g c =
    let w = g.N.Width.width in
    let is = c.to_u64-align.ensures.is_number in
    let tested = sym (power_by_count w _ c.to_u64-align.ensures.fits) ∙ sym c.is_power_of_two.ensures ∙ c.if-not-is_power_of_two.false in
    record {
      says = ap (λ (n : ℕ). value (n - 1)) is ∙ sym (judged_passed 8 _ _ (ap (λ (n : ℕ). not (is_power w n)) (sym is) ∙ ap not tested));
      fits = rw (← is) c.to_u64-align.ensures.fits;
    }
