-- What stood in specs/TreeMap and rests on theorems there: moved, its statements unchanged. Rests on `TreeMap`.
use Rattle.std.specs.Prelude.{refl}
use Rattle.std.proofs.Common.{arith}
use Rattle.std.specs.Int.Count.{count_leading_zeros}
use Rattle.answers.specs.declared.Changed.{Changed}
use Rattle.answers.specs.declared.Refusal.{Refusal}
use Rattle.tree.specs.declared.Tree.{Tree}
use Rattle.tree.specs.Layout.{Sound, IsTree, tree_view}
use Rattle.tree.specs.Demands.{answer_of}
use Rattle.source.specs.BitmapAllocator.{Bitmap1024, Allocator1024}
use Rattle.same.specs.AnyMap.{SameCalls}
use Rattle.same.proofs.AnyMap.{same_calls}
use Rattle.same.specs.Trees.{ours, holds, GoodTree, acts_1024, seen_1024, is_good}

pub tree_same : (t : Bitmap1024) → IsTree (ours t) → Sound (ours t) → SameCalls tree_view Allocator1024 ours (Changed Refusal Tree) answer_of (λ r. r.map) t
unfolding count_leading_zeros
tree_same t held sound =
    same_calls tree_view Allocator1024 holds GoodTree acts_1024 ours seen_1024 (omega arith) refl (omega arith) (Changed Refusal Tree) answer_of (λ r. r.map) t (is_good t held sound)
