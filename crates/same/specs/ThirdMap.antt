-- Where the commit's code gives an answer on a tree of trees, our third level's is the same: one value of `SameCalls`, which has the sentences, for every
-- sound map. Rests on `AnyMap` and `Thirds`.
use Rattle.std.specs.Prelude.{◌≡◌, refl, true, ℕ}
use Rattle.std.proofs.Common.{sym, ap, subst, ◌∙◌, zero-le, arith}
use mathlib.Core.List.{flat_map}
use Rattle.bits.specs.Digits.{number}
use Rattle.slots.specs.Sets.{none, all, painted, painted_named}
use Rattle.slots.specs.Calls.{capacity}
use Rattle.slots.specs.View.{made_alike}
use Rattle.views.specs.Words.{listed}
use Rattle.views.specs.Marks.{marks_of}
use Rattle.views.specs.Trees.{tree_words, each_of}
use Rattle.third.specs.declared.Third.{Third}
use Rattle.third.specs.Layout.{slot_of, of_slots, Sound, third_view, of_slots_under}
use Rattle.third.specs.Says.{NewEmptySays, NewFullSays, CapacitySays}
use Rattle.source.specs.Machine.{gives}
use Rattle.source.specs.BitmapAllocator.{Bitmap16384, Allocator16384, default16384}
use Rattle.same.specs.Whenever.{so}
use Rattle.same.specs.Answering.{surely}
use Rattle.same.specs.Seen.{set_leaves}
use Rattle.same.specs.Thirds.{ours, theirs, IsBitmap, holds, GoodThird, acts_16384, seen_16384, is_good, theirs_is_bitmap}

-- ---- what needs no map

pub new_empty_same : (r : Third) → NewEmptySays r → r ≡ ours default16384
unfolding number listed tree_words flat_map marks_of each_of
new_empty_same r outcome = outcome ∙ sym (of_slots_under none)

default_is_bitmap : IsBitmap default16384
unfolding listed tree_words flat_map
default_is_bitmap = subst IsBitmap (ap theirs (new_empty_same (of_slots none) refl)) (theirs_is_bitmap (of_slots none) (third_view.made_map none))

default_is_good : GoodThird default16384
default_is_good = is_good default16384 default_is_bitmap (subst Sound (new_empty_same (of_slots none) refl) (third_view.made_sound none tt))

-- the source has no function that makes a full one; a set of every slot does
pub new_full_same : (r : Third) → NewFullSays r → (full : Bitmap16384) × (Allocator16384.set_to default16384 0 16384 true ≡ gives full) × (r ≡ ours full)
new_full_same r outcome =
    surely (Allocator16384.set_to default16384 0 16384 true) _ (acts_16384.paints_some default16384 default_is_good 0 16384 true (omega arith) (omega arith))
    (so (Allocator16384.set_to default16384 0 16384 true) _ _
    (set_leaves third_view Allocator16384 holds GoodThird acts_16384 ours seen_16384 default16384 default_is_good 0 16384 true) (λ full left.
    outcome ∙ made_alike third_view all (painted (slot_of (ours default16384)) 0 16384 true) tt tt (λ i l.
    sym (painted_named (slot_of (ours default16384)) 0 16384 true i (zero-le, l))) ∙ sym left))

pub capacity_same : (r : ℕ) → CapacitySays r → r ≡ Allocator16384.CAPACITY
unfolding capacity
capacity_same r outcome = outcome
