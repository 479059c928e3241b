-- `rounding::align_down` meets its contract: each way out is the law of `Masks` at the width. Assumes nothing.
use Rattle.std.proofs.Common.{◌∙◌, ap, lt_of_le_of_lt, mod-eq_of_lt}
use Rattle.std.proofs.lemmas.Nat.{and_le_l}
use Rattle.std.proofs.lemmas.Result.{err_from_is_err_and}
use Rattle.answers.specs.Said.{value, on_value}
use Rattle.rounding.specs.Multiples.{aligned_down}
use Rattle.rounding.proofs.Masks.{refused_alignment, mask_found, rounded_down}
use Rattle.rounding.proofs.align_down.Goals as goal

pub returns-in_err-mask : goal.returns-in_err-mask
unfolding aligned_down on_value
returns-in_err-mask g c =
    let p = err_from_is_err_and c.from_residual.result c.from_residual.ensures.1 in
    rw (p.1, p.2) (refused_alignment g.N.Width.width _ _ _ _ c.in_err-mask.ensures.says)

pub returns : goal.returns
unfolding on_value
returns g c =
    let w = g.N.Width.width in
    let mask = mask_found w _ _ c.in_ok-mask.ensures.says in
    ap value (c.from_u64.ensures ∙ mod-eq_of_lt (lt_of_le_of_lt (and_le_l _ _) c.to_u64.ensures.fits))
    ∙ rw (mask.1, c.to_u64.ensures.is_number) (rounded_down w _ g.met.N.Width.laws.at_most c.in_ok-mask.ensures.fits mask.0 _ (rw (← c.to_u64.ensures.is_number) c.to_u64.ensures.fits))
