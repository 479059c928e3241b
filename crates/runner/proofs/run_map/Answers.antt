-- `runner::run_map` meets its contract: the two refusals in their order, and else what `reported` says. Assumes nothing.
use mathlib.Core.Path.{sym, ◌∙◌}
use Rattle.report.specs.Report.{ran_too_long, ran_too_short, map_refused}
use Rattle.runner.proofs.run_map.Goals as goal

pub returns-then-record-gt-RECORD_MOST : goal.returns-then-record-gt-RECORD_MOST
returns-then-record-gt-RECORD_MOST c =
    let asked = c.args in
    (λ i. ((c.refused.ensures i).0, asked.report.now, (c.refused.ensures i).1))
    ∙ sym (map_refused asked.«record».now asked.report.now 12 (ran_too_long _ _ c.if-record-gt-RECORD_MOST.true))

pub returns-then-report-lt-REPORT_LEAST : goal.returns-then-report-lt-REPORT_LEAST
returns-then-report-lt-REPORT_LEAST c =
    let asked = c.args in
    (λ i. ((c.refused-then-report-lt-REPORT_LEAST.ensures i).0, asked.report.now, (c.refused-then-report-lt-REPORT_LEAST.ensures i).1))
    ∙ sym (map_refused asked.«record».now asked.report.now 11 (ran_too_short _ _ c.if-record-gt-RECORD_MOST.false c.if-report-lt-REPORT_LEAST.true))

pub reported-requires : goal.reported-requires
reported-requires c = (c.if-record-gt-RECORD_MOST.false, c.if-report-lt-REPORT_LEAST.false)
