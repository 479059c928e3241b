-- `image::left_in` meets its contract: a refusal writes nothing, and else the image is written. Assumes nothing.
use Rattle.std.specs.Prelude.{pos, Ok}
use Rattle.std.proofs.Common.{sym, ap, subst, ◌∙◌}
use mir.Syntax.{w32}
use mir.ValLaws.{to_z_pos, to_z-of_z}
use Rattle.image.specs.Says.{told}
use Rattle.image.specs.Inner.{Short}
use Rattle.image.proofs.Outcomes.{left_refused, left_done}
use Rattle.image.proofs.left_in.Goals as goal

pub returns-in-At : goal.returns-in-At
returns-in-At c =
    let asked = c.args in
    let is = c.in-Ok.is ∙ ap Ok c.in-At.is in
    (λ i. (to_z_pos w32 _ (subst Short is c.requires.1) i, c.put.ensures i)) ∙ sym (ap told (left_done asked.image.now asked.changed _ is))

pub returns-in-Done : goal.returns-in-Done
returns-in-Done c =
    let asked = c.args in
    (λ i. (pos 0, c.put.ensures i)) ∙ sym (ap told (left_done asked.image.now asked.changed _ (c.in-Ok.is ∙ ap Ok c.in-Done.is)))

pub returns-in-Err : goal.returns-in-Err
returns-in-Err c =
    let asked = c.args in
    (λ i. ((to_z-of_z w32 _ (record { sfits = c.negated.type_inv }) ∙ c.negated.ensures) i, asked.image.now))
    ∙ sym (ap told (left_refused asked.image.now asked.changed _ c.in-Err.is))
