-- What the calls of this crate come to, check by check. Assumes nothing.
use mathlib.Core.Path.{◌≡◌, ap}
use mathlib.Core.Bool.{Bool, true, false, not}
use mathlib.Core.List.{List}
use Prim.Native.Nat.{ℕ, ◌≤◌, ◌<◌}
use native.Mathlib.Omega.{arith}
use lib.ListN.{length}
use borrow.Author.Tests.{lt-ltb, le-ltb}
use Rattle.answers.specs.Said.{value, refused, judged, leaving}
use Rattle.bits.specs.Range.{either}
use Rattle.bits.specs.Buffers.{put_at}
use Rattle.slots.specs.Sets.{Slots}
use Rattle.slots.specs.Calls.{says}
use Rattle.slots.specs.View.{found_sound, found_unsound}
use Rattle.slots.specs.Gaps.{runs_of, flat, list_call, longest_of, longest_call, longest_full}
use Rattle.slots.proofs.Gaps.{longest_is, longest_promise, some_longest}
use Rattle.tree.specs.declared.Tree.{Tree}
use Rattle.tree.specs.Layout.{slot_of, tree_view}
use Rattle.gaps.specs.Says.{listed}

-- ---- the list

module _ (v : Bool) (t : Tree) (buffer : List ℕ) where
  pub list_unsound : tree_view.is_sound t ≡ false → listed v t buffer ≡ (refused 1, buffer)
  unfolding listed leaving
  list_unsound e = rw (found_unsound tree_view t (list_call 10 v (slot_of t) buffer) e)

  module _ (sound : tree_view.is_sound t ≡ true) where
    pub list_short : length buffer < 1024 → listed v t buffer ≡ (refused 11, buffer)
    unfolding listed leaving list_call says judged
    list_short l = rw (found_sound tree_view t (list_call 10 v (slot_of t) buffer) sound, lt-ltb (length buffer) 1024 l)

    pub list_whole : 1024 ≤ length buffer → listed v t buffer ≡ (value (length (runs_of 10 v (slot_of t))), put_at buffer 0 (flat (runs_of 10 v (slot_of t))))
    unfolding listed leaving list_call says judged
    list_whole l = rw (found_sound tree_view t (list_call 10 v (slot_of t) buffer) sound, le-ltb (length buffer) 1024 l)

-- ---- the longest free run

module _ (S : Slots) where
  pub longest_none : (longest_of 10 false S).length ≡ 0 → says (longest_call 10 S) ≡ refused 7
  longest_none none = (longest_full 10 S).1 (λ i l b. either (S i) (λ used. used) (λ free. absurd (omega (arith, some_longest 10 false S i b (ap not free), none))))

  pub longest_some : 0 < (longest_of 10 false S).length → says (longest_call 10 S) ≡ value (longest_of 10 false S)
  longest_some some = (longest_promise 10 S (longest_of 10 false S)).1 (longest_is 10 false S some)
