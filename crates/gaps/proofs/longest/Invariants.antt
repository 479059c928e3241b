-- `gaps::longest` meets its contract: from run to run, with the longest so far (`Comparing`). Assumes nothing.
use Prim.Native.Nat.{◌-◌}
use Rattle.views.specs.Painting.{slot_in}
use Rattle.gaps.proofs.Turns.{Comparing}
use Rattle.gaps.proofs.longest.Given as goal

abbrev pub invariant-loop-next : goal.invariant-loop-next
invariant-loop-next l = Comparing (slot_in l.words) l.best l.from

abbrev pub decreases-loop-next : goal.decreases-loop-next
decreases-loop-next l = 1024 - l.from
