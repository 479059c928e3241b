-- `rows::first_used` meets its contract: each slot passed is free (`PassedFree`), and each word is asked once. Assumes nothing.
use Rattle.std.specs.Prelude.{◌*◌, max}
use Rattle.views.specs.Full.{filled}
use Rattle.rows.proofs.Reasons.{PassedFree}
use Rattle.rows.proofs.first_used.Given as goal

abbrev pub invariant-loop-i : goal.invariant-loop-i
invariant-loop-i l = PassedFree (filled l.words l.fulls) l.from l.end (max l.from (l.i * 64))
