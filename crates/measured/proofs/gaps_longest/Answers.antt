-- `measured::gaps_longest` meets its contract: a turn more is a question more. Assumes nothing.
use Rattle.tree.specs.Layout.{holding}
use Rattle.measured.specs.Gaps.{longest_in}
use Rattle.measured.proofs.Steps.{step_made, longest_made}
use Rattle.measured.proofs.gaps_longest.Goals as goal

pub loop-preserved : goal.loop-preserved
loop-preserved c =
    step_made (λ _. longest_in (holding c.args.words.now)) c.loop.counter _ _ _ c.loop.invariant (longest_made _ _ _ _ c.holding-tree.ensures c.longest_free.ensures c.numbers_of.ensures)
