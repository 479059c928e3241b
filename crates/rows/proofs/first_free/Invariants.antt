-- `rows::first_free` meets its contract: each slot passed is used, or lies in a word that is marked (`Searching`), and each other word is asked once. Assumes
-- nothing.
use Prim.Native.Nat.{◌-◌, ◌≤◌}
use Rattle.rows.proofs.Reasons.{Searching}
use Rattle.rows.proofs.first_free.Given as goal

abbrev pub invariant-loop-start : goal.invariant-loop-start
invariant-loop-start l = (l.start ≤ 16384) × Searching l.words l.fulls l.from l.start

abbrev pub decreases-loop-start : goal.decreases-loop-start
decreases-loop-start l = l.end - l.start
