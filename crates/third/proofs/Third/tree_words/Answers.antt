-- `third::Third::tree_words` meets its contract: sixteen words from the tree's first on. Assumes nothing.
use mathlib.Core.Path.{◌≡◌, ap}
use Prim.Native.Nat.{ℕ, ◌+◌, ◌-◌, ◌*◌}
use native.Mathlib.Omega.{arith}
use lib.ListN.{take, drop}
use Rattle.views.specs.Trees.{tree_words}
use Rattle.third.proofs.Third.tree_words.Goals as goal

pub returns : goal.returns
unfolding tree_words
returns c =
    let first = 16 * c.args.i in
    let sixteen : (first + 16) - first ≡ 16 = omega arith in
    ap (λ (k : ℕ). take k (drop first c.args.self.now.words)) sixteen
