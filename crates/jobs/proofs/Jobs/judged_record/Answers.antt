-- `jobs::Jobs::judged_record` meets its contract: the checks that come first, and then that each named slot is reaped. Assumes nothing.
use Rattle.std.proofs.Common.{not, sym, ap, ◌∙◌}
use Rattle.std.proofs.lemmas.Result.{err_from_is_err_and}
use Rattle.answers.specs.Said.{judged_found, judged_passed}
use Rattle.answers.specs.declared.Reply.TheVariants.{Done as ok}
use Rattle.jobs.proofs.Outcomes.{record_first, record_by}
use Rattle.jobs.proofs.Jobs.judged_record.Goals as goal

pub returns-in_err-judged_range : goal.returns-in_err-judged_range
returns-in_err-judged_range c =
    let said = err_from_is_err_and c.from_residual.result c.from_residual.ensures.1 in
    rw (said.1, said.2) (sym (record_first c.args.self.now c.args.start c.args.n c.judged_range.result c.judged_range.ensures _ c.in_err-judged_range.was))

pub returns-then-not-all_used : goal.returns-then-not-all_used
returns-then-not-all_used c =
    sym (record_by c.args.self.now c.args.start c.args.n c.judged_range.result c.judged_range.ensures _ c.in_ok-judged_range.was
    ∙ judged_found 14 _ ok (ap not (sym c.all_used.ensures ∙ c.if-not-all_used.true)))

pub returns : goal.returns
returns c =
    sym (record_by c.args.self.now c.args.start c.args.n c.judged_range.result c.judged_range.ensures _ c.in_ok-judged_range.was
    ∙ judged_passed 14 _ ok (ap not (sym c.all_used.ensures ∙ c.if-not-all_used.false)))
