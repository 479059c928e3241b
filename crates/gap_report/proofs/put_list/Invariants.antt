-- `gap_report::put_list` meets its contract: a line for each run, one after the other (`Putting`). Assumes nothing.
use Rattle.gap_report.proofs.Putting.{Putting}
use Rattle.gap_report.proofs.put_list.Given as goal

abbrev pub invariant-loop-start : goal.invariant-loop-start
invariant-loop-start l = Putting l.word l.runs (l.at, l.initial.text) (l.end, l.text) l.start-index
