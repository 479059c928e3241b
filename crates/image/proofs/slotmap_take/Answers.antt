-- `image::slotmap_take` meets its contract: what the tree's take comes to on the bytes. Assumes nothing.
use Rattle.std.proofs.Common.{rules, ◌∙◌}
use mir.Syntax.{w32}
use mir.ValLaws.{to_z-of_z}
use Rattle.slots.specs.Calls.{take_call}
use Rattle.tree.specs.declared.Tree.{Tree}
use Rattle.tree.specs.Layout.{slot_of}
use Rattle.image.proofs.Outcomes.{take_short}
use Rattle.image.proofs.slotmap_take.Goals as goal

pub on_image-requires-clause-short : goal.on_image-requires-clause-short
on_image-requires-clause-short c = λ map changed said. take_short map c.args.n c.args.a changed (search rules)

pub returns : goal.returns
returns c =
    (λ i. (to_z-of_z w32 c.on_image.result (record { sfits = c.on_image.type_inv }) i, c.on_image.new.image))
    ∙ c.on_image.ensures (λ (t : Tree). take_call 10 (slot_of t) c.args.n c.args.a) (λ map changed said. search rules)
