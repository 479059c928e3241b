-- What stood in specs/Calls and rests on theorems there: moved, its statements unchanged. Rests on `Calls`.
use Rattle.std.specs.Prelude.{◌≡◌, ◌⊎◌, ℕ, ◌+◌, ◌^◌, ◌<◌, eqb}
use Rattle.std.proofs.Common.{inl, inr, pos_of_ne-zero, eqb-true}
use Rattle.std.proofs.Math.Option.{Option}
use Rattle.std.proofs.lemmas.Bool.{eqb-false}
use Rattle.answers.specs.Said.{refused, judged}
use Rattle.bits.specs.Range.{either}
use Rattle.slots.specs.Sets.{Slots}
use Rattle.slots.specs.Calls.{says, take_call, next_free_call}
use Rattle.slots.specs.Kinds.{plain}
use Rattle.slots.specs.View.{View, answered, changed, sound_refused}
use Rattle.source.specs.Machine.{gives}
use Rattle.source.specs.BitmapAllocator.{BitmapAllocator, alloc}
use Rattle.same.specs.Whenever.{Whenever, so, anyhow}
use Rattle.same.specs.Answering.{surely}
use Rattle.same.specs.Same.{SameTake, SameSlot}
use Rattle.same.specs.Search as Search
use Rattle.same.proofs.Search as Search'
use Rattle.same.specs.Search.{Follows, Replies}
use Rattle.same.specs.Calls.{TakeDeparts, next_free_same}

module _ (k : ℕ) (S : Slots) (s n : ℕ) where
  take_none : n ≡ 0 → (a : ℕ) → says (take_call k S n a) ≡ refused 2
  unfolding says take_call judged
  take_none e a = rw e

module _ (L : View plain) {Self : Type 0} (B : BitmapAllocator Self) (ours : Self → L.Map) (m : Self) (law : Follows L B ours m) (sound : L.Sound (ours m)) where
  abbrev S : Slots
  S = L.state_of (ours m)

  -- ---- whenever there is an answer

  pub take_same : (turns n a : ℕ)
      → Whenever (alloc B turns m n a) (λ out.
      TakeDeparts n (ours m) (changed L (ours m) (take_call L.k S n a)) ⊎ SameTake out.0 (ours out.1) (changed L (ours m) (take_call L.k S n a)))
  take_same turns n a =
      either (eqb n 0)
      (λ e. anyhow (alloc B turns m n a) _ (λ _. inl (eqb-true n 0 e, sound_refused L (ours m) _ 2 sound (take_none L.k S 0 n (eqb-true n 0 e) a))))
      (λ some. so (alloc B turns m n a) _ _ (Search'.alloc_same L B ours m law n a (pos_of_ne-zero (eqb-false n 0 some)) sound turns) (λ out same. inr same))

  -- ---- and there is one, where no departure holds and the numbers pass

  module _ (Some-of : Replies L B m) where
    pub take_is : (turns n a : ℕ) → 2 ^ L.k + 1 < turns → 0 < n → n < 2 ^ 64
        → (out : Option ℕ × Self) × (alloc B turns m n a ≡ gives out) × SameTake out.0 (ours out.1) (changed L (ours m) (take_call L.k S n a))
    take_is turns n a enough pos fits =
        surely (alloc B turns m n a) _ (Search.alloc_answers L B ours m law n a pos Some-of turns enough fits) (Search'.alloc_same L B ours m law n a pos sound turns)

    pub next_free_is : (s : ℕ) → s < 2 ^ L.k
        → (found : Option ℕ) × (B.next_free m s ≡ gives found) × SameSlot found (answered L (ours m) (next_free_call L.k S s))
    next_free_is s inside = surely (B.next_free m s) _ (Some-of.finds_some s inside) (next_free_same L B ours m law sound s)
