-- `tree::Tree::new_full` meets its contract: sixteen words of 64 ones, and what is theirs. Assumes nothing.
use mathlib.Core.Path.{refl, sym, ap}
use mathlib.Core.Bool.{true}
use Prim.Native.Nat.{ℕ}
use Rattle.bits.specs.Digits.{number}
use Rattle.slots.specs.Sets.{all}
use Rattle.views.specs.Words.{listed, words_of}
use Rattle.tree.specs.Layout.{stored_of, tree_of}
use Rattle.tree.proofs.Outcomes.{count_made}
use Rattle.tree.proofs.Tree.new_full.Goals as goal

pub returns : goal.returns
unfolding number listed
returns c = ap (λ (counted : ℕ). tree_of (words_of 4 all) (stored_of 65535 65535 counted)) (sym (count_made all true (λ i. refl)))
