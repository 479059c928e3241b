-- `jobs::Jobs::new_empty` meets its contract: the empty tree, and words of no ones beside it. Assumes nothing.
use mathlib.Core.Path.{ap}
use Rattle.bits.specs.Digits.{number}
use Rattle.views.specs.Words.{listed}
use Rattle.tree.specs.declared.Tree.{Tree}
use Rattle.jobs.specs.Layout.{jobs_of}
use Rattle.jobs.proofs.Jobs.new_empty.Goals as goal

pub returns : goal.returns
unfolding number listed
returns c = ap (λ (t : Tree). jobs_of t _) c.new_empty.ensures
