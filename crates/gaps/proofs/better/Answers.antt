-- `gaps::better` meets its contract: the later run where it is longer. Assumes nothing.
use mathlib.Core.Path.{sym}
use mathlib.Core.List.{[]}
use borrow.Author.Tests.{lt-ltb, le-ltb}
use Rattle.slots.specs.Runs.{first_best, best_on, best_stays}
use Rattle.slots.specs.Gaps.{longer}
use Rattle.gaps.proofs.better.Goals as goal

pub returns-then-best-next : goal.returns-then-best-next
unfolding first_best
returns-then-best-next c =
    let asked = c.args in
    sym (best_on longer asked.best asked.next [] (lt-ltb asked.best.length asked.next.length c.if-best-next.true))

pub returns : goal.returns
unfolding first_best
returns c =
    let asked = c.args in
    sym (best_stays longer asked.best asked.next [] (le-ltb asked.best.length asked.next.length c.if-best-next.false))
