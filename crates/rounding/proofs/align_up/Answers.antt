-- `rounding::align_up` meets its contract: each way out is the law of `Masks` at the width. Assumes nothing.
use Rattle.std.proofs.Common.{◌∙◌, ap, arith, lt_of_le_of_lt, mod-eq_of_lt}
use Rattle.std.proofs.lemmas.Nat.{and_le_l, pow_pos}
use Rattle.std.proofs.lemmas.Result.{err_from_is_err_and}
use Rattle.answers.specs.Said.{value, on_value}
use Rattle.rounding.specs.Multiples.{aligned_up}
use Rattle.rounding.proofs.Masks.{refused_alignment, mask_found, refused_width, rounded_up}
use Rattle.rounding.proofs.align_up.Goals as goal

pub returns-in_err-mask : goal.returns-in_err-mask
unfolding aligned_up on_value
returns-in_err-mask g c =
    let p = err_from_is_err_and c.from_residual.result c.from_residual.ensures.1 in
    rw (p.1, p.2) (refused_alignment g.N.Width.width _ _ _ _ c.in_err-mask.ensures.says)

pub overflow_sub-MAX : goal.overflow_sub-MAX
overflow_sub-MAX g c =
    let mask = mask_found g.N.Width.width _ _ c.in_ok-mask.ensures.says in
    omega (arith, c.MAX.ensures, g.met.N.Width.laws.greatest, mask.1, c.in_ok-mask.ensures.fits)

pub returns-then-MAX-mask : goal.returns-then-MAX-mask
unfolding on_value
returns-then-MAX-mask g c =
    let w = g.N.Width.width in
    let mask = mask_found w _ _ c.in_ok-mask.ensures.says in
    refused_width w _ g.met.N.Width.laws.at_most c.in_ok-mask.ensures.fits mask.0 _
    (omega (arith, c.MAX.ensures, g.met.N.Width.laws.greatest, mask.1, c.to_u64-value.ensures.is_number, c.if-MAX-mask.true))

pub returns : goal.returns
unfolding on_value
returns g c =
    let w = g.N.Width.width in
    let mask = mask_found w _ _ c.in_ok-mask.ensures.says in
    let fits = lt_of_le_of_lt (and_le_l _ _) (omega (arith, c.MAX.ensures, g.met.N.Width.laws.greatest, mask.1, c.in_ok-mask.ensures.fits, c.if-MAX-mask.false, pow_pos w)) in
    ap value (c.from_u64.ensures ∙ mod-eq_of_lt fits)
    ∙ rw (mask.1, c.to_u64-value.ensures.is_number) (rounded_up w _ g.met.N.Width.laws.at_most c.in_ok-mask.ensures.fits mask.0 (g.N.Width.number c.args.value) (omega (arith, c.MAX.ensures, g.met.N.Width.laws.greatest, mask.1, c.to_u64-value.ensures.is_number, c.if-MAX-mask.false)))
