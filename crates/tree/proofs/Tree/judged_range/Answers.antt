-- `tree::Tree::judged_range` meets its contract: 1 where the tree is not sound, and else what the judge of a range says. Assumes nothing.
use Rattle.std.proofs.lemmas.Result.{err_from_is_err_and}
use Rattle.answers.specs.Said.{judged}
use Rattle.tree.proofs.Tree.judged_range.Goals as goal

pub returns-in_err-checked : goal.returns-in_err-checked
unfolding judged
returns-in_err-checked c =
    let found = c.in_err-checked.ensures in
    let said = err_from_is_err_and c.from_residual.result c.from_residual.ensures.1 in
    rw (said.1, said.2, found.0, found.1)

pub returns : goal.returns
unfolding judged
returns c = rw c.in_ok-checked.ensures.1 c.range.ensures
