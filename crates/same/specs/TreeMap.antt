-- Where the commit's code gives an answer on a tree, ours is the same: one value of `SameCalls`, which has the sentences, for every sound tree. Rests on
-- `AnyMap` and `Trees`.
use Rattle.std.specs.Prelude.{◌≡◌, ℕ}
use Rattle.bits.specs.Digits.{number}
use Rattle.slots.specs.Calls.{capacity}
use Rattle.views.specs.Words.{listed}
use Rattle.views.specs.Marks.{marks_of}
use Rattle.tree.specs.declared.Tree.{Tree}
use Rattle.tree.specs.Says.{NewEmptySays, NewFullSays, CapacitySays}
use Rattle.source.specs.BitmapAllocator.{new_empty_tree, new_full_tree, Allocator1024}
use Rattle.same.specs.Trees.{ours}

-- ---- what needs no map

pub new_empty_same : (r : Tree) → NewEmptySays r → r ≡ ours new_empty_tree
unfolding number listed marks_of
new_empty_same r outcome = outcome

pub new_full_same : (r : Tree) → NewFullSays r → r ≡ ours new_full_tree
unfolding number listed marks_of
new_full_same r outcome = outcome

pub capacity_same : (r : ℕ) → CapacitySays r → r ≡ Allocator1024.CAPACITY
unfolding capacity
capacity_same r outcome = outcome
