-- What stood in specs/Words and rests on theorems there: moved, its statements unchanged. Rests on `Words`.
use Rattle.std.specs.Prelude.{◌≡◌, Bool, true, List, ℕ, ◌+◌, ◌/◌, ◌%◌, ◌^◌, ◌≤◌, ◌<◌}
use Rattle.std.proofs.Common.{sym, ap, ◌∙◌, arith, pow-add}
use Rattle.slots.specs.Sets.{Slots, painted}
use Rattle.slots.specs.Kinds.{plain}
use Rattle.slots.specs.View.{View, made_alike}
use Rattle.views.specs.Painting.{slot_in, slot_there, painted_words, painted_slots}
use Rattle.views.specs.Words.{words_of, AreWords, word_digit, made_words, slots_are, past_words, same_words, painted_are_words}

-- ---- their view

module _ (j : ℕ) (most : 2 ^ j ≤ 256) where
  pub holds_words : (S : Slots) (s : ℕ) → s < 2 ^ (j + 6) → slot_in (words_of j S) s ≡ S s
  holds_words S s l =
      slot_there (words_of j S) s (rw (slots_are j most (words_of j S) (made_words j S)) l)
      ∙ word_digit j S (s / 64) (s % 64) (omega (arith, pow-add 2 j 6)) (omega arith) ∙ ap S (omega arith)

  abbrev pub words_view : View plain
  words_view = record {
    k = j + 6;
    Map = List ℕ;
    state_of = slot_in;
    of_state = words_of j;
    Sound = λ m. Unit {0};
    is_sound = λ m. true;
    IsMap = AreWords j;
    finds_sound = λ m. (λ t. tt, λ t. tt);
    holds = holds_words;
    past = past_words j most;
    right = λ m sound held. tt;
    made_sound = λ S right. tt;
    made_map = made_words j;
    same = λ m sound held. same_words j most m held;
  }

  -- the painted words are those of the painted set
  pub painted_words_lem : (words : List ℕ) → AreWords j words → (s n : ℕ) (v : Bool) → painted_words words s n v ≡ words_of j (painted (slot_in words) s n v)
  painted_words_lem words held s n v =
      sym (same_words j most (painted_words words s n v) (painted_are_words j most words held s n v))
      ∙ made_alike words_view (slot_in (painted_words words s n v)) (painted (slot_in words) s n v) tt tt
      (λ p l. painted_slots words s n v p (rw (slots_are j most words held) l))
