-- `image::on_image` meets its contract: 16 before all, and then what the change leaves. Assumes nothing.
use Rattle.std.proofs.Common.{◌∙◌}
use mir.Syntax.{w32}
use mir.ValLaws.{to_z-of_z}
use Rattle.image.specs.Image.{held_in}
use Rattle.image.specs.Says.{on_bytes}
use Rattle.image.proofs.Outcomes.{told_none, long, told_change}
use Rattle.image.proofs.on_image.Goals as goal

pub left_in-requires : goal.left_in-requires
left_in-requires g c = (long c.args.image.now _ c.held_in.ensures _ c.in-Ok.is, c.requires.short _ _ c.change.ensures)

pub returns-in-Ok : goal.returns-in-Ok
returns-in-Ok g c = λ call carried.
    (λ i. (to_z-of_z w32 c.left_in.result (record { sfits = c.left_in.type_inv }) i, c.left_in.new.image))
    ∙ told_change c.args.image.now _ c.held_in.ensures _ c.in-Ok.is call _ (carried _ _ c.change.ensures) _ _ c.left_in.ensures

pub returns-in-Err : goal.returns-in-Err
returns-in-Err g c = λ call carried.
    let bytes = c.args.image.now in
    (λ i. ((to_z-of_z w32 _ (record { sfits = c.negated.type_inv }) ∙ c.negated.ensures) i, bytes))
    ∙ told_none bytes _ c.held_in.ensures _ c.in-Err.is (on_bytes (call (held_in bytes)))
