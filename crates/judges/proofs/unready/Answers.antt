-- `judges::unready` meets its contract: 6 where the slots were to be free, 5 where they were to be used. Assumes nothing.
use mathlib.Core.Path.{sym, ap}
use Rattle.judges.specs.Judged.{unready_for}
use Rattle.judges.proofs.unready.Goals as goal

pub returns-then-used : goal.returns-then-used
returns-then-used c = sym (ap unready_for c.if-used.true)

pub returns : goal.returns
returns c = sym (ap unready_for c.if-used.false)
