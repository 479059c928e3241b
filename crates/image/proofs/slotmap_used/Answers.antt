-- `image::slotmap_used` meets its contract: what was counted, as one number. Assumes nothing.
use Rattle.std.proofs.Common.{◌∙◌}
use mir.Syntax.{w32}
use mir.ValLaws.{to_z_pos, to_z-of_z}
use Rattle.image.proofs.Outcomes.{told_count, count_fits}
use Rattle.image.proofs.slotmap_used.Goals as goal

pub overflow_cast-result : goal.overflow_cast-result
overflow_cast-result c = record { sfits = count_fits c.args.image.now _ c.counted.ensures _ c.in-Ok.is }

pub returns-in-Ok : goal.returns-in-Ok
returns-in-Ok c =
    let bytes = c.args.image.now in
    (λ i. (to_z_pos w32 _ (overflow_cast-result c).sfits i, bytes)) ∙ told_count bytes _ c.counted.ensures _ c.in-Ok.is

pub returns-in-Err : goal.returns-in-Err
returns-in-Err c =
    let bytes = c.args.image.now in
    (λ i. ((to_z-of_z w32 _ (record { sfits = c.negated.type_inv }) ∙ c.negated.ensures) i, bytes)) ∙ told_count bytes _ c.counted.ensures _ c.in-Err.is
