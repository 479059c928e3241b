-- An allocator that answers as a set of slots does, seen through one of our views: what its methods give, in terms of our map. Rests on `Acts`.
use Rattle.std.specs.Prelude.{◌≡◌, refl, Bool, ℕ, ◌+◌, ◌^◌, ◌≤◌, ◌<◌}
use Rattle.std.proofs.Common.{sym, ◌∙◌, arith}
use Rattle.std.proofs.Math.Path.{ap, fun_ext}
use Rattle.std.proofs.Math.Bool.{true, false, not}
use Rattle.std.proofs.Math.Option.{Option, none, some}
use Rattle.bits.specs.Range.{within, count_agree, every_agree}
use Rattle.slots.specs.Sets.{Slots, painted, painted_other, all_free}
use Rattle.slots.specs.Kinds.{plain}
use Rattle.slots.specs.View.{View, same_state}
use Rattle.source.specs.Machine.{ilog2}
use Rattle.source.specs.BitmapAllocator.{BitmapAllocator}
use Rattle.same.specs.Whenever.{Whenever, so}
use Rattle.same.specs.Acts.{Found, Acts}
use Rattle.same.specs.Search.{Follows, Replies}

-- ---- sets that agree below the capacity

module _ (k : ℕ) (X Y : Slots) (alike : (i : ℕ) → i < 2 ^ k → X i ≡ Y i) where
  pub found_alike : (s : ℕ) (found : Option ℕ) → Found k X s found → Found k Y s found
  found_alike s (some i) there = record {
    from = there.from;
    inside = there.inside;
    free = sym (alike i there.inside) ∙ there.free;
    first = λ j l h. sym (alike j (omega (arith, there.inside))) ∙ there.first j l h;
  }
  found_alike s none full = λ i l h. sym (alike i h) ∙ full i l h

  painted_alike : (s n : ℕ) (v : Bool) (i : ℕ) → i < 2 ^ k → painted X s n v i ≡ painted Y s n v i
  unfolding painted
  painted_alike s n v i l = ap (λ (b : Bool). elim (within s n i) as (λ _. Bool) [ true ↦ v | false ↦ b ]) (alike i l)

  pub free_alike : all_free X 0 (2 ^ k) ≡ all_free Y 0 (2 ^ k)
  unfolding all_free
  free_alike = every_agree (λ i. not (X i)) (λ i. not (Y i)) 0 (2 ^ k) (λ i _ l. ap not (alike i (omega arith)))

-- from the end on there is none
pub found_past : (k : ℕ) (S : Slots) (s : ℕ) → 2 ^ k ≤ s → (found : Option ℕ) → Found k S s found → found ≡ none
found_past k S s far (some i) there = absurd (omega (arith, there.from, there.inside))
found_past k S s far none full = refl

-- and no entries paint nothing
pub painted_none : (S : Slots) (s : ℕ) (v : Bool) → painted S s 0 v ≡ S
painted_none S s v = fun_ext (λ i. painted_other S s 0 v i (λ named. omega (arith, named)))

-- a good value is a sound map of ours, and holds the same slots
pub record Seen (L : View plain) {Self : Type 0} (holds : Self → Slots) (Good : Self → Type 0) (ours : Self → L.Map) : Type 0 where
  pub is_sound_lem : (m : Self) → Good m → L.Sound (ours m)
  pub is_map : (m : Self) → Good m → L.IsMap (ours m)
  pub alike : (m : Self) → Good m → (i : ℕ) → i < 2 ^ L.k → holds m i ≡ L.state_of (ours m) i

module _ (L : View plain) {Self : Type 0} (B : BitmapAllocator Self) (holds : Self → Slots) (Good : Self → Type 0) (acts : Acts B L.k holds Good)
    (ours : Self → L.Map) (seen : Seen L holds Good ours) (m : Self) (good : Good m) where
  -- at any numbers
  pub set_leaves : (s n : ℕ) (v : Bool) → Whenever (B.set_to m s n v) (λ after. ours after ≡ L.of_state (painted (L.state_of (ours m)) s n v))
  set_leaves s n v = so (B.set_to m s n v) _ _ (acts.paints m good s n v) (λ after told.
      same_state L (ours after) (L.of_state (painted (L.state_of (ours m)) s n v)) (seen.is_sound_lem after told.0) (seen.is_map after told.0)
      (L.made_sound _ tt) (L.made_map _) (λ i l.
      sym (seen.alike after told.0 i l) ∙ told.1 i l ∙ painted_alike L.k (holds m) (L.state_of (ours m)) (seen.alike m good) s n v i l
      ∙ sym (L.holds _ i l)))

  pub set_nothing : (s : ℕ) (v : Bool) → Whenever (B.set_to m s 0 v) (λ after. ours after ≡ ours m)
  set_nothing s v = so (B.set_to m s 0 v) _ _ (set_leaves s 0 v) (λ after left.
      left ∙ ap L.of_state (painted_none (L.state_of (ours m)) s v) ∙ L.same (ours m) (seen.is_sound_lem m good) (seen.is_map m good))

  pub follows : L.k < 64 → ilog2 B.CAPACITY ≡ L.k → Follows L B ours m
  follows small log = record {
    small = small;
    capacity = acts.capacity;
    log = log;
    finds = λ s. so (B.next_free m s) _ _ (acts.finds m good s) (found_alike L.k (holds m) (L.state_of (ours m)) (seen.alike m good) s);
    reads = λ i. so (B.get m i) _ _ (acts.reads m good i) (λ b told. (told.0, told.1 ∙ seen.alike m good i told.0));
    paints = λ s n v pos ends. set_leaves s n v;
    counts = so (B.used m) _ _ (acts.counts m good) (λ c told. told ∙ count_agree (holds m) (L.state_of (ours m)) 0 (2 ^ L.k) (λ i _ l. seen.alike m good i (omega arith)));
    vacant = acts.vacant m good ∙ free_alike L.k (holds m) (L.state_of (ours m)) (seen.alike m good);
  }

  pub replies : 2 ^ L.k + 2 ^ L.k + 2 ^ L.k < 2 ^ 64 → Replies L B m
  replies room = record {
    room = room;
    finds_some = acts.finds_some m good;
    reads_some = acts.reads_some m good;
    paints_some = acts.paints_some m good;
    counts_some = acts.counts_some m good;
  }
