-- `jobs::Jobs::ended` meets its contract: what was judged, carried out in the words beside the tree. Assumes nothing.
use Rattle.std.proofs.Common.{sym, ◌∙◌}
use Rattle.std.proofs.lemmas.Result.{err_from_is_err_and}
use Rattle.answers.specs.Said.{value}
use Rattle.slots.specs.Jobs.{reap_call}
use Rattle.jobs.specs.Layout.{jobs_of, marks_of}
use Rattle.jobs.proofs.Outcomes.{refuses, reaps}
use Rattle.jobs.proofs.Jobs.ended.Goals as goal

pub returns-in_err-done : goal.returns-in_err-done
returns-in_err-done c =
    let asked = c.args in
    let said = err_from_is_err_and c.from_residual.result c.from_residual.ensures.1 in
    rw (said.1, said.2) (refuses asked.self.now (reap_call 10 (marks_of asked.self.now) asked.start asked.n) _ c.in_err-done.ensures)

pub returns : goal.returns
returns c =
    let asked = c.args in
    let j = asked.self.now in
    (λ i. (value c.in_ok-done.done, jobs_of j.tree (c.paint.ensures i)))
    ∙ reaps j c.requires.is_map c.requires.are_reaped asked.start asked.n _ (sym c.in_ok-done.ensures)
