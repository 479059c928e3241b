-- What stood in specs/AnyMap and rests on theorems there: moved, its statements unchanged. Rests on `AnyMap`.
use Rattle.std.specs.Prelude.{◌≡◌, ◌+◌, ◌^◌, ◌<◌}
use Rattle.std.proofs.Common.{◌∙◌}
use Rattle.answers.specs.Said.{Said}
use Rattle.answers.specs.declared.Reply.{Reply}
use Rattle.slots.specs.Sets.{Slots}
use Rattle.slots.specs.Kinds.{plain}
use Rattle.slots.specs.View.{View}
use Rattle.source.specs.Machine.{ilog2}
use Rattle.source.specs.BitmapAllocator.{BitmapAllocator}
use Rattle.same.specs.Acts.{Acts}
use Rattle.same.specs.Search.{Follows, Replies}
use Rattle.same.specs.Calls as Calls
use Rattle.same.proofs.Calls as Calls'
use Rattle.same.specs.Seen as Seen
use Rattle.same.specs.Seen.{Seen}
use Rattle.same.specs.AnyMap.{SameCalls}

-- an allocator that acts as a set does and whose good values are seen as our maps
module _ (L : View plain) {Self : Type 0} (B : BitmapAllocator Self) (holds : Self → Slots) (Good : Self → Type 0) (acts : Acts B L.k holds Good)
    (ours : Self → L.Map) (seen : Seen L holds Good ours) (small : L.k < 64) (log : ilog2 B.CAPACITY ≡ L.k) (room : 2 ^ L.k + 2 ^ L.k + 2 ^ L.k < 2 ^ 64)
    (Out : Type 0) (said : Out → Said Reply) (left : Out → L.Map) (m : Self) (good : Good m) where
  follows : Follows L B ours m
  follows = Seen.follows L B holds Good acts ours seen m good small log

  replies : Replies L B m
  replies = Seen.replies L B holds Good acts ours seen m good room

  sound : L.Sound (ours m)
  sound = seen.is_sound_lem m good

  pub same_calls : SameCalls L B ours Out said left m
  same_calls = record {
    take_same = λ turns n a r outcome. rw outcome (Calls'.take_same L B ours m follows sound turns n a);
    set_same = λ s n v r outcome. rw outcome (Calls.set_same L B ours m follows sound s n v);
    free_same = λ s n r outcome. rw outcome (Calls.free_same L B ours m follows sound s n);
    next_free_same = λ s x outcome. rw outcome (Calls.next_free_same L B ours m follows sound s);
    get_same = λ i x outcome. rw outcome (Calls.get_same L B ours m follows sound i);
    empty_same = λ x outcome. outcome ∙ Calls.empty_same L B ours m follows sound;
    used_same = λ x outcome. rw outcome (Calls.used_same L B ours m follows sound);
    take_is = λ turns n a enough pos few r outcome. rw outcome (Calls'.take_is L B ours m follows sound replies turns n a enough pos few);
    set_is = λ s n v pos ends r outcome. rw outcome (Calls.set_is L B ours m follows sound replies s n v pos ends);
    free_is = λ s n pos ends used r outcome. rw outcome (Calls.free_is L B ours m follows sound replies s n pos ends used);
    next_free_is = λ s inside x outcome. rw outcome (Calls'.next_free_is L B ours m follows sound replies s inside);
    get_is = λ i inside x outcome. rw outcome (Calls.get_is L B ours m follows sound replies i inside);
    used_is = λ x outcome. rw outcome (Calls.used_is L B ours m follows sound replies);
  }
