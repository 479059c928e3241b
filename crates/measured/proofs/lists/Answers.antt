-- `measured::lists` meets its contract: a turn more is a listing more. Assumes nothing.
use borrow.Author.Rules.{rules}
use Rattle.tree.specs.Layout.{holding}
use Rattle.measured.specs.Gaps.{listing}
use Rattle.measured.proofs.Steps.{step_made, listing_made}
use Rattle.measured.proofs.lists.Goals as goal

pub loop-preserved : goal.loop-preserved
loop-preserved c = (
  step_made (listing c.args.used (holding c.args.words.now)) c.loop.counter _ (c.loop.count, c.loop.list) _ c.loop.invariant.0 (listing_made _ _ _ _ c.loop.count _ _ _ c.holding-tree.ensures c.runs.ensures c.count_of-count.ensures),
  search rules,
)
