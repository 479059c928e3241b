-- `third::Third::renew` meets its contract: before each tree, the fields of the reached trees before it are made anew. Assumes nothing.
use mathlib.Core.Path.{◌∙◌}
use native.Mathlib.Omega.{arith}
use Rattle.views.specs.Painting.{end_in}
use Rattle.rows.proofs.Reasons.{before_end}
use Rattle.third.proofs.Renewing.{before_none, before_on, before_all}
use Rattle.third.proofs.Third.renew.Goals as goal

pub loop-i-init : goal.loop-i-init
loop-i-init c =
    ((before_end _ _ _ _ c.end_of-end.ensures).0, before_none c.args.self.now c.args.start (end_in 16384 c.args.start c.args.n) (omega arith) (omega arith) (omega arith))

pub loop-i-preserved : goal.loop-i-preserved
loop-i-preserved c =
    let before = c.loop-i.invariant in (
      before.0,
      before_on c.args.self.now c.args.start (end_in 16384 c.args.start c.args.n) c.loop-i.i (omega (arith, before.0)) c.loop-i.auto.i (omega (arith, c.end_of-end.ensures)) _ before.1 _ c.tree_stored-new.ensures,
    )

pub returns : goal.returns
returns c =
    c.loop-i.invariant.1 ∙ before_all c.args.self.now c.args.start c.args.n c.loop-i.i (omega (arith, c.end_of-end.ensures, c.loop-i-test.false))
