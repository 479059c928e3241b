-- `tree::Tree::new_empty` meets its contract: sixteen words of no ones, and what is theirs. Assumes nothing.
use mathlib.Core.Path.{refl, sym, ap}
use mathlib.Core.Bool.{false}
use Prim.Native.Nat.{ℕ}
use Rattle.bits.specs.Digits.{number}
use Rattle.slots.specs.Sets.{none}
use Rattle.views.specs.Words.{listed, words_of}
use Rattle.tree.specs.Layout.{stored_of, tree_of}
use Rattle.tree.proofs.Outcomes.{count_made}
use Rattle.tree.proofs.Tree.new_empty.Goals as goal

pub returns : goal.returns
unfolding number listed
returns c = ap (λ (counted : ℕ). tree_of (words_of 4 none) (stored_of 0 0 counted)) (sym (count_made none false (λ i. refl)))
