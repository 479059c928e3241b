-- Where the commit's code gives an answer on a word, ours is the same: one value of `SameCalls`, which has the sentences, for every word. Past the end the
-- word has no answer, so that 4 is no departure here. Rests on `AnyMap` and `Words`.
use Rattle.std.specs.Prelude.{◌≡◌, ◌⊎◌, Bool, ℕ, ◌+◌, ◌^◌, ◌≤◌, ◌<◌}
use Rattle.bits.specs.Digits.{number}
use Rattle.answers.specs.Said.{Said}
use Rattle.answers.specs.declared.Reply.{Reply}
use Rattle.slots.specs.Sets.{SomeFree}
use Rattle.slots.specs.Calls.{capacity}
use Rattle.views.specs.Words.{listed}
use Rattle.word.specs.declared.Word.{Word}
use Rattle.word.specs.Layout.{word_of, slot_of, IsWord, is_word_means}
use Rattle.word.specs.Says.{NewEmptySays, NewFullSays, CapacitySays}
use Rattle.source.specs.BitmapAllocator.{Bitmap64, new_empty64, new_full64, Allocator64, set64}
use Rattle.same.specs.Whenever.{Whenever, so}
use Rattle.same.specs.Same.{Departs}
use Rattle.same.specs.Words as Words

abbrev pub ours : Bitmap64 → Word
ours w = word_of w.bits

-- what a set and a free depart by
abbrev pub SetDeparts : ℕ → Word → Said Reply × Word → Type 0
SetDeparts n map said = Departs 2 (n ≡ 0) map said

abbrev pub FreeDeparts : (s n : ℕ) → Word → Said Reply × Word → Type 0
FreeDeparts s n map said = SetDeparts n map said ⊎ Departs 5 (SomeFree (slot_of map) s n) map said

module _ (w : Bitmap64) (held : IsWord (ours w)) where
  pub fits : w.bits < 2 ^ 64
  fits = (is_word_means (ours w)).0 held

  -- set, and so free, gives an answer only where the run ends inside
  pub none_past : (s n : ℕ) (v : Bool) → Whenever (Allocator64.set_to w s n v) (λ after. s + n ≤ 64)
  none_past s n v = so (set64 w s n v) _ _ (Words.set_paints w.bits fits s n v) (λ after told. told.1)

-- ---- what needs no map

pub new_empty_same : (r : Word) → NewEmptySays r → r ≡ ours new_empty64
unfolding number listed
new_empty_same r outcome = outcome

pub new_full_same : (r : Word) → NewFullSays r → r ≡ ours new_full64
unfolding number listed
new_full_same r outcome = outcome

pub capacity_same : (r : ℕ) → CapacitySays r → r ≡ Allocator64.CAPACITY
unfolding capacity
capacity_same r outcome = outcome
