-- What stood in specs/WordMap and rests on theorems there: moved, its statements unchanged. Rests on `WordMap`.
use Rattle.std.specs.Prelude.{◌⊎◌, Bool, false, ℕ, ◌+◌, ◌^◌, ◌≤◌, ◌<◌}
use Rattle.std.proofs.Math.Path.{refl}
use Rattle.std.proofs.Math.Logic.{inl, inr, ⊎_elim}
use Rattle.std.proofs.Common.{arith}
use Rattle.std.specs.Int.Count.{count_leading_zeros}
use Rattle.bits.specs.Digits.{digit}
use Rattle.slots.specs.Promises.{Past}
use Rattle.answers.specs.declared.Changed.{Changed}
use Rattle.answers.specs.declared.Refusal.{Refusal}
use Rattle.word.specs.declared.Word.{Word}
use Rattle.word.specs.Layout.{IsWord, word_view, is_word_means}
use Rattle.word.specs.Says.{FreeSays, SetSays}
use Rattle.word.specs.Demands.{answer_of}
use Rattle.source.specs.BitmapAllocator.{Bitmap64, Allocator64, set64, free}
use Rattle.same.specs.Whenever.{Whenever, so, both}
use Rattle.same.specs.Same.{SameChange}
use Rattle.same.specs.Seen.{Seen}
use Rattle.same.specs.AnyMap.{SameCalls}
use Rattle.same.proofs.AnyMap.{same_calls}
use Rattle.same.specs.Words.{word_acts}
use Rattle.same.specs.WordMap.{ours, SetDeparts, FreeDeparts, fits, none_past}

not_past : (s n : ℕ) → s + n ≤ 64 → Past 6 s n → ⊥
not_past s n ends far = ⊎_elim (λ l. omega (arith, l)) (λ l. omega (arith, l)) far

seen_64 : Seen word_view (λ x. digit x.bits) (λ x. x.bits < 2 ^ 64) ours
seen_64 = record { is_sound_lem = λ w fits. tt; is_map = λ w fits. (is_word_means (ours w)).1 fits; alike = λ w fits i l. refl }

module _ (w : Bitmap64) (held : IsWord (ours w)) where
  pub word_same : SameCalls word_view Allocator64 ours (Changed Refusal Word) answer_of (λ r. r.map) w
  unfolding count_leading_zeros
  word_same =
      same_calls word_view Allocator64 (λ x. digit x.bits) (λ x. x.bits < 2 ^ 64) word_acts ours seen_64 (omega arith) refl (omega arith) (Changed Refusal Word) answer_of (λ r. r.map) w (fits w held)

  -- so 4 is no departure here
  pub set_same : (s n : ℕ) (v : Bool) (r : Changed Refusal Word) → SetSays (ours w) s n v r
      → Whenever (Allocator64.set_to w s n v) (λ after. SetDeparts n (ours w) (answer_of r, r.map) ⊎ SameChange (ours after) (answer_of r, r.map))
  set_same s n v r outcome = so (set64 w s n v) _ _ (both (set64 w s n v) _ _ (none_past w held s n v) (word_same.set_same s n v r outcome)) (λ after told.
      ⊎_elim (⊎_elim (λ none. inl none) (λ far. absurd (not_past s n told.0 far.0))) (λ same. inr same) told.1)

  pub free_same : (s n : ℕ) (r : Changed Refusal Word) → FreeSays (ours w) s n r
      → Whenever (free Allocator64 w s n) (λ after. FreeDeparts s n (ours w) (answer_of r, r.map) ⊎ SameChange (ours after) (answer_of r, r.map))
  unfolding free
  free_same s n r outcome = so (set64 w s n false) _ _ (both (set64 w s n false) _ _ (none_past w held s n false) (word_same.free_same s n r outcome)) (λ after told.
      ⊎_elim (⊎_elim (⊎_elim (λ none. inl (inl none)) (λ far. absurd (not_past s n told.0 far.0))) (λ some. inl (inr some))) (λ same. inr same) told.1)
