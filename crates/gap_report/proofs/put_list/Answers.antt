-- `gap_report::put_list` meets its contract: a line for each run, one after the other (`Putting`). Assumes nothing.
use Rattle.gap_report.proofs.Putting.{putting_first, putting_on, putting_last}
use Rattle.gap_report.proofs.put_list.Goals as goal

pub loop-start-init : goal.loop-start-init
loop-start-init c =
    let asked = c.args in
    putting_first asked.word.now asked.runs.now (asked.at, asked.text.now)

pub loop-start-preserved : goal.loop-start-preserved
loop-start-preserved c =
    let asked = c.args in
    putting_on asked.word.now asked.runs.now (asked.at, asked.text.now) (c.loop-start.end, c.loop-start.text) c.loop-start.start-index c.loop-start.invariant c.loop-start-test.true
    _ _ c.from.ensures c.from-in-loop-start.ensures (c.put_run-end.result, c.put_run-end.new.text) c.put_run-end.ensures

pub returns : goal.returns
returns c =
    let asked = c.args in
    putting_last asked.word.now asked.runs.now (asked.at, asked.text.now) (c.loop-start.end, c.loop-start.text) c.loop-start.start-index c.loop-start.invariant c.loop-start-test.false
