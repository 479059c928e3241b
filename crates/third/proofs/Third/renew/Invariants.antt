-- `third::Third::renew` meets its contract: before each tree, the fields of the reached trees before it are made anew. Assumes nothing.
use mathlib.Core.Path.{◌≡◌}
use Prim.Native.Nat.{◌≤◌}
use Rattle.views.specs.Painting.{end_in}
use Rattle.third.proofs.Renewing.{renewed_before}
use Rattle.third.proofs.Third.renew.Given as goal

abbrev pub invariant-loop-i : goal.invariant-loop-i
invariant-loop-i l = (l.end ≤ 16384) × (l.self ≡ renewed_before l.fn.self l.start (end_in 16384 l.start l.n) l.i)
