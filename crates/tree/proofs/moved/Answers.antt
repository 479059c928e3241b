-- `tree::moved` meets its contract: the sum or the difference, cut off at sixteen bits. Assumes nothing.
use mathlib.Core.Path.{sym, ap}
use mathlib.Core.Bool.{Bool}
use Rattle.views.specs.Count.{moved_count}
use Rattle.tree.proofs.moved.Goals as goal

pub returns-then-up : goal.returns-then-up
unfolding moved_count
returns-then-up c = let asked = c.args in sym (ap (λ (up : Bool). moved_count asked.count asked.n up) c.if-up.true)

pub returns : goal.returns
unfolding moved_count
returns c = let asked = c.args in sym (ap (λ (up : Bool). moved_count asked.count asked.n up) c.if-up.false)
