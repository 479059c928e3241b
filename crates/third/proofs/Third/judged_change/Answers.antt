-- `third::Third::judged_change` meets its contract: 1 where the map is not sound, and else what the judge of claim and free says. Assumes nothing.
use Rattle.std.proofs.Common.{◌∙◌}
use Rattle.std.proofs.lemmas.Result.{err_from_is_err_and}
use Rattle.third.proofs.Outcomes.{check_refuses, check_passes}
use Rattle.third.proofs.Third.judged_change.Goals as goal

pub returns-in_err-checked : goal.returns-in_err-checked
returns-in_err-checked c =
    let said = err_from_is_err_and c.from_residual.result c.from_residual.ensures.1 in
    rw (said.1, said.2) (check_refuses c.args.self.now _ _ c.in_err-checked.ensures)

pub returns : goal.returns
returns c = c.change.ensures ∙ check_passes c.args.self.now _ c.in_ok-checked.ensures.1
