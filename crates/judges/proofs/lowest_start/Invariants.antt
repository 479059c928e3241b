-- `judges::lowest_start` meets its contract, at any size. The loop's invariant: no start below the try fits, and the try is a multiple of 2 ^ a.
use Prim.Native.Nat.{◌+◌, ◌-◌, ◌^◌}
use Rattle.views.specs.Painting.{slot_in}
use Rattle.views.specs.Full.{filled}
use Rattle.slots.specs.Tries.{Trying}
use Rattle.judges.specs.Sizes.{exponent_of}
use Rattle.judges.proofs.lowest_start.Given as goal

abbrev pub invariant-loop-start : goal.invariant-loop-start
invariant-loop-start l = Trying (exponent_of l.size) (slot_in (filled l.words l.fulls)) l.n l.a l.start

abbrev pub decreases-loop-start : goal.decreases-loop-start
decreases-loop-start l = 2 ^ exponent_of l.size + 2 ^ l.a - l.start
