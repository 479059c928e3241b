-- What stood in specs/ThirdMap and rests on theorems there: moved, its statements unchanged. Rests on `ThirdMap`.
use Rattle.std.specs.Prelude.{refl}
use Rattle.std.proofs.Common.{arith}
use Rattle.std.specs.Int.Count.{count_leading_zeros}
use Rattle.answers.specs.declared.Changed.{Changed}
use Rattle.answers.specs.declared.Refusal.{Refusal}
use Rattle.third.specs.declared.Third.{Third}
use Rattle.third.specs.Layout.{Sound, third_view}
use Rattle.third.specs.Says.{answer_of}
use Rattle.source.specs.BitmapAllocator.{Bitmap16384, Allocator16384}
use Rattle.same.specs.AnyMap.{SameCalls}
use Rattle.same.proofs.AnyMap.{same_calls}
use Rattle.same.specs.Thirds.{ours, IsBitmap, holds, GoodThird, acts_16384, seen_16384, is_good}

-- each sound map of ours is `ours` of one value of the source's type, and of no other (`ours_theirs`, `theirs_ours`)
pub third_same : (t : Bitmap16384) → IsBitmap t → Sound (ours t) → SameCalls third_view Allocator16384 ours (Changed Refusal Third) answer_of (λ r. r.map) t
unfolding count_leading_zeros
third_same t typed sound =
    same_calls third_view Allocator16384 holds GoodThird acts_16384 ours seen_16384 (omega arith) refl (omega arith) (Changed Refusal Third) answer_of (λ r. r.map) t (is_good t typed sound)
