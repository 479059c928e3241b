-- `tree::Tree::empty` meets its contract: 1 where the tree is not sound, and else whether the summary is 0. Assumes nothing.
use Rattle.std.proofs.Common.{sym, ap, ◌∙◌}
use Rattle.std.proofs.lemmas.Result.{err_from_is_err_and}
use Rattle.answers.specs.Said.{value}
use Rattle.slots.proofs.Ways.{empty_says}
use Rattle.slots.specs.View.{found_sound}
use Rattle.tree.specs.Layout.{tree_view, slot_of}
use Rattle.tree.proofs.Values.{is_tree}
use Rattle.tree.proofs.Outcomes.{check_refuses, empty_shown}
use Rattle.tree.proofs.Tree.empty.Goals as goal

pub returns-in_err-checked : goal.returns-in_err-checked
returns-in_err-checked c =
    let said = err_from_is_err_and c.from_residual.result c.from_residual.ensures.1 in
    rw (said.1, said.2) (check_refuses c.args.self _ _ c.in_err-checked.ensures)

pub returns : goal.returns
returns c =
    let t = c.args.self in
    let found = c.in_ok-checked.ensures in
    rw found.0 (ap value (empty_shown t (is_tree t c.well_formed.0) found.1) ∙ sym (found_sound tree_view t _ found.1 ∙ empty_says 10 (slot_of t)))
