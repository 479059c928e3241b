-- `rounding::is_aligned` meets its contract: each way out is the law of `Masks` at the width. Assumes nothing.
use Rattle.std.proofs.lemmas.Result.{err_from_is_err_and}
use Rattle.rounding.specs.Multiples.{aligned}
use Rattle.rounding.proofs.Masks.{refused_alignment, mask_found, divided}
use Rattle.rounding.proofs.is_aligned.Goals as goal

pub returns-in_err-mask : goal.returns-in_err-mask
unfolding aligned
returns-in_err-mask g c =
    let p = err_from_is_err_and c.from_residual.result c.from_residual.ensures.1 in
    rw (p.1, p.2) (refused_alignment g.N.Width.width _ _ _ _ c.in_err-mask.ensures.says)

pub returns : goal.returns
returns g c =
    let w = g.N.Width.width in
    let mask = mask_found w _ _ c.in_ok-mask.ensures.says in
    rw (mask.1, c.to_u64.ensures.is_number) (divided w _ g.met.N.Width.laws.at_most c.in_ok-mask.ensures.fits mask.0 _)
