-- `gaps::put_runs` meets its contract: from run to run, two numbers each (`Listing`). Assumes nothing.
use Prim.Native.Nat.{◌-◌}
use Rattle.views.specs.Painting.{slot_in}
use Rattle.gaps.proofs.Turns.{Listing}
use Rattle.gaps.proofs.put_runs.Given as goal

abbrev pub invariant-loop-next : goal.invariant-loop-next
invariant-loop-next l = Listing (slot_in l.words) l.used l.initial.list l.list l.count l.from

abbrev pub decreases-loop-next : goal.decreases-loop-next
decreases-loop-next l = 1024 - l.from
