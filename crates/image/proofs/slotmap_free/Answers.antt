-- `image::slotmap_free` meets its contract: what the tree's free comes to on the bytes. Assumes nothing.
use Rattle.std.proofs.Common.{rules, ◌∙◌}
use mir.Syntax.{w32}
use mir.ValLaws.{to_z-of_z}
use Rattle.slots.specs.Calls.{free_call}
use Rattle.tree.specs.declared.Tree.{Tree}
use Rattle.tree.specs.Layout.{slot_of}
use Rattle.image.proofs.Outcomes.{free_short}
use Rattle.image.proofs.slotmap_free.Goals as goal

pub on_image-requires-clause-short : goal.on_image-requires-clause-short
on_image-requires-clause-short c = λ map changed said. free_short map c.args.start c.args.n changed (search rules)

pub returns : goal.returns
returns c =
    (λ i. (to_z-of_z w32 c.on_image.result (record { sfits = c.on_image.type_inv }) i, c.on_image.new.image))
    ∙ c.on_image.ensures (λ (t : Tree). free_call 10 (slot_of t) c.args.start c.args.n) (λ map changed said. search rules)
