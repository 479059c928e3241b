-- `rows::next_open` meets its contract: each word passed is marked, and each mark is asked once. Assumes nothing.
use Prim.Native.Nat.{◌-◌, ◌≤◌}
use Rattle.rows.proofs.Reasons.{Marked}
use Rattle.rows.proofs.next_open.Given as goal

abbrev pub invariant-loop-i : goal.invariant-loop-i
invariant-loop-i l = (l.from ≤ l.i) × (l.i ≤ 256) × Marked l.fulls l.from l.i

abbrev pub decreases-loop-i : goal.decreases-loop-i
decreases-loop-i l = 256 - l.i
