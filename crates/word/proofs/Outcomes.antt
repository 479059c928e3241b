-- What a call on a word has to show at each way out, from what was said of the one word that it lends. Assumes nothing.
use Rattle.std.specs.Prelude.{Ok, Err}
use mathlib.Core.Path.{◌≡◌, sym, ap, ◌∙◌}
use mathlib.Core.Bool.{Bool}
use mathlib.Core.List.{List, [], ◌∷◌}
use Prim.Native.Nat.{ℕ}
use native.Mathlib.Omega.{arith}
use lib.Dec.{eqb, eqb→eq}
use lib.ListN.{get_or}
use Rattle.answers.specs.Said.{value, refused}
use Rattle.answers.specs.Refusals.{number_of}
use Rattle.answers.specs.Answers.{left_with}
use Rattle.answers.specs.declared.Reply.{Reply}
use Rattle.answers.specs.declared.Refusal.{Refusal}
use Rattle.bits.specs.Range.{same_test}
use Rattle.slots.specs.Sets.{Slots, all_free, painted, finds_all_free}
use Rattle.slots.specs.Calls.{Call, says}
use Rattle.slots.specs.View.{answered, sound_answers, says_refused}
use Rattle.slots.proofs.Outcomes as AnyView
use Rattle.views.specs.Painting.{slot_in}
use Rattle.views.specs.Full.{filled, filled_unmarked, seen_from, seen_right}
use Rattle.views.specs.Words.{one_word, word_held}
use Rattle.views.proofs.Words.{painted_words_lem}
use Rattle.views.specs.Summary.{word_free}
use Rattle.word.specs.declared.Word.{Word}
use Rattle.word.specs.Layout.{word_of, slot_of, of_slots, word_view, IsWord, is_word_means, one_fits}
use Rattle.word.specs.Inner.{painted_word}
use Rattle.word.specs.Says.{Leaves}

-- a refused call leaves the very map
pub refuses : (w : Word) (call : Call Slots Reply) (why : Refusal) → refused (number_of why) ≡ answered word_view w call → Leaves w call (left_with (Err why) w)
refuses w call why told = sym (says_refused word_view w call (number_of why) (sym told))

module _ (w : Word) (held : IsWord w) where
  -- the one word that is lent holds the map's slots
  lent : slot_in (w.bits ∷ []) ≡ slot_of w
  lent = one_word w.bits ((is_word_means w).0 held)

  -- what is said of its slots is what the map answers
  pub answers : {A : Type 0} (call : Slots → Call Slots A) → says (call (slot_in (w.bits ∷ []))) ≡ answered word_view w (call (slot_of w))
  answers call = ap (λ (S : Slots). says (call S)) lent ∙ sym (sound_answers word_view w (call (slot_of w)) tt)

  -- also where a search is lent a mark that marks nothing
  pub searched : {A : Type 0} (call : Slots → Call Slots A) → says (call (slot_in (filled (w.bits ∷ []) (0 ∷ [])))) ≡ answered word_view w (call (slot_of w))
  searched call = ap (λ (words : List ℕ). says (call (slot_in words))) (filled_unmarked (w.bits ∷ [])) ∙ answers call

  pub searched_from : {A : Type 0} (call : Slots → Call Slots A) (from : ℕ) → says (call (seen_from (w.bits ∷ []) (0 ∷ []) from)) ≡ answered word_view w (call (slot_of w))
  searched_from call from = ap (λ (S : Slots). says (call S)) (seen_right (w.bits ∷ []) (0 ∷ []) (filled_unmarked (w.bits ∷ [])) from) ∙ answers call

  -- a run painted in it is the word of the painted set
  painted_word_lem : (s n : ℕ) (v : Bool) → painted_word w.bits s n v ≡ of_slots (painted (slot_of w) s n v)
  painted_word_lem s n v =
      ap (λ (words : List ℕ). word_of (get_or words 0 0)) (painted_words_lem 0 one_fits (w.bits ∷ []) held s n v)
      ∙ ap (λ (S : Slots). of_slots (painted S s n v)) lent

  -- it is 0 exactly if no slot is used
  pub empty_shown : eqb w.bits 0 ≡ all_free (slot_of w) 0 64
  empty_shown =
      let found = finds_all_free (slot_in (w.bits ∷ [])) 0 64 in
      let none = word_free (w.bits ∷ []) 0 (word_held 0 one_fits (w.bits ∷ []) held 0 (omega arith)) (held.each_fits 0 (omega arith)) in
      same_test (eqb w.bits 0) (all_free (slot_in (w.bits ∷ [])) 0 64)
      (λ e. found.1 (none.0 (eqb→eq w.bits 0 e))) (λ free. rw (none.1 (found.0 free)) tt)
      ∙ ap (λ (S : Slots). all_free S 0 64) lent

  -- and an accepted one, carried out, is as its contract has it
  pub carries : (call : Call Slots Reply) (s n : ℕ) (v : Bool) → call.after ≡ painted (slot_of w) s n v
      → (reply : Reply) → value reply ≡ answered word_view w call → (left : Word) → left ≡ painted_word w.bits s n v → Leaves w call (left_with (Ok reply) left)
  carries call s n v after reply told = AnyView.carries word_view w call s n v after (painted_word w.bits s n v) (λ sound reply said. painted_word_lem s n v) (Ok reply) told
