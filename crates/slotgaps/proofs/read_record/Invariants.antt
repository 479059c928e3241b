-- `slotgaps::read_record` meets its contract: the count never passes the record's end. The measure is the room that is left. Assumes nothing.
use Rattle.std.proofs.Common.{◌-◌, ◌≤◌, length}
use Rattle.slotgaps.proofs.read_record.Given as goal

abbrev pub invariant-loop-done : goal.invariant-loop-done
invariant-loop-done g l = l.done ≤ length l.«record»

abbrev pub decreases-loop-done : goal.decreases-loop-done
decreases-loop-done g l = length l.«record» - l.done
