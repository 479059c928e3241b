-- `tree::Tree::get` meets its contract: 1 where the tree is not sound, and else what the judge says. Assumes nothing.
use Rattle.std.proofs.Common.{sym, ◌∙◌}
use Rattle.std.proofs.lemmas.Result.{err_from_is_err_and}
use Rattle.slots.specs.View.{found_sound}
use Rattle.tree.specs.Layout.{tree_view}
use Rattle.tree.proofs.Outcomes.{check_refuses}
use Rattle.tree.proofs.Tree.get.Goals as goal

pub returns-in_err-checked : goal.returns-in_err-checked
returns-in_err-checked c =
    let said = err_from_is_err_and c.from_residual.result c.from_residual.ensures.1 in
    rw (said.1, said.2) (check_refuses c.args.self _ _ c.in_err-checked.ensures)

pub returns : goal.returns
returns c = c.get.ensures ∙ sym (found_sound tree_view c.args.self _ c.in_ok-checked.ensures.1)
