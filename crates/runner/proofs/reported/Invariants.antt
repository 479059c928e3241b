-- `runner::reported` meets its contract. The loop's invariant is `Running`, and its measure is what is left of the record. Assumes nothing.
use Prim.Native.Nat.{◌-◌}
use lib.ListN.{length}
use Rattle.runner.proofs.Running.{Running}
use Rattle.runner.proofs.reported.Given as goal

abbrev pub invariant-loop-next : goal.invariant-loop-next
invariant-loop-next l = Running l.«record» l.initial.report l.map l.next l.length l.report

abbrev pub decreases-loop-next : goal.decreases-loop-next
decreases-loop-next l = length l.«record» - l.next
