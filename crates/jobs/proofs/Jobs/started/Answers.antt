-- `jobs::Jobs::started` meets its contract: 1 where a reaped slot is not used, and else the tree's take. Assumes nothing.
use Rattle.std.specs.Prelude.{Ok}
use Rattle.std.proofs.Common.{sym, ap, ◌∙◌}
use Rattle.std.proofs.lemmas.Result.{err_from_is_err_and}
use Rattle.answers.specs.Answers.{answer_says}
use Rattle.slots.specs.Jobs.{start_call}
use Rattle.jobs.specs.declared.JobRefusal.TheVariants.{Map}
use Rattle.jobs.specs.Layout.{marks_of}
use Rattle.jobs.proofs.Outcomes.{shown_kept, asked_amiss, refuses, start_told, started}
use Rattle.jobs.proofs.Jobs.started.Goals as goal

pub returns-in_err-kept : goal.returns-in_err-kept
returns-in_err-kept c =
    let j = c.args.self.now in
    let call = start_call 10 (marks_of j) c.args.n c.args.a in
    let said = err_from_is_err_and c.from_residual.result c.from_residual.ensures.1 in
    rw (said.1, said.2) (refuses j call (Map _) (sym (asked_amiss j call _ c.in_err-kept.ensures)))

pub returns-in_err-reply : goal.returns-in_err-reply
returns-in_err-reply c =
    let asked = c.args in
    let j = asked.self.now in
    let kept = c.in_ok-kept.ensures in
    let told = start_told j c.requires.are_reaped asked.n asked.a (shown_kept j kept.1) c.take-taken.result (rw (← kept.0) c.take-taken.ensures) in
    let said = err_from_is_err_and c.from_residual-in_err-reply.result c.from_residual-in_err-reply.ensures.1 in
    rw (said.1, said.2) (refuses j (start_call 10 (marks_of j) asked.n asked.a) (Map _) (sym (ap answer_says c.in_err-reply.was) ∙ told))

pub returns : goal.returns
returns c =
    let asked = c.args in
    let j = asked.self.now in
    let kept = c.in_ok-kept.ensures in
    started j c.requires.are_reaped asked.n asked.a (shown_kept j kept.1) _ (rw (← kept.0) c.take-taken.ensures) (Ok _) (ap answer_says c.in_ok-reply.was)
