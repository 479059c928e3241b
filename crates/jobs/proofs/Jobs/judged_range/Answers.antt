-- `jobs::Jobs::judged_range` meets its contract: 1 where a reaped slot is not used or the tree is not sound, and else what the judge of ranges says. Assumes nothing.
use Rattle.std.proofs.Common.{sym, ap, ◌∙◌}
use Rattle.std.proofs.lemmas.Result.{err_from_is_err_and}
use Rattle.answers.specs.Said.{refused}
use Rattle.slots.specs.Calls.{says}
use Rattle.slots.specs.View.{found_unsound, found_sound}
use Rattle.tree.specs.Demands.{refused_unsound, counted_sound}
use Rattle.jobs.specs.Inner.{range_call}
use Rattle.jobs.specs.Layout.{jobs_view}
use Rattle.jobs.proofs.Outcomes.{shown_kept, asked_amiss}
use Rattle.jobs.proofs.Jobs.judged_range.Goals as goal

pub returns-in_err-tree : goal.returns-in_err-tree
returns-in_err-tree c =
    let said = err_from_is_err_and c.from_residual.result c.from_residual.ensures.1 in
    rw (said.1, said.2) (sym (asked_amiss c.args.self.now (range_call c.args.start c.args.n) _ c.in_err-tree.ensures))

pub returns-in_err-used : goal.returns-in_err-used
returns-in_err-used c =
    let j = c.args.self.now in
    let kept = c.in_ok-tree.ensures in
    let said = err_from_is_err_and c.from_residual-in_err-used.result c.from_residual-in_err-used.ensures.1 in
    let unsound = refused_unsound j.tree _ (rw (← kept.0) c.used.ensures) _ c.in_err-used.was in
    rw (said.1, said.2) (ap refused unsound.1 ∙ sym (found_unsound jobs_view j (range_call c.args.start c.args.n) (shown_kept j kept.1 ∙ unsound.0)))

pub returns : goal.returns
unfolding says
returns c =
    let j = c.args.self.now in
    let kept = c.in_ok-tree.ensures in
    let sound = counted_sound j.tree _ (rw (← kept.0) c.used.ensures) _ c.in_ok-used.was in
    c.range.ensures ∙ sym (found_sound jobs_view j (range_call c.args.start c.args.n) (shown_kept j kept.1 ∙ sound.0))
