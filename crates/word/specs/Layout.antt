-- The view of the word map: one word of a row, and slot s is its bit s. Every word map is sound. Rests on `views`.
use Rattle.std.specs.Prelude.{◌≡◌, refl, ◌↔◌, [], ◌∷◌, ℕ, ◌+◌, ◌*◌, ◌^◌, ◌≤◌, ◌<◌, get_or}
use Rattle.std.proofs.Common.{ap, ◌∙◌, arith}
use Rattle.bits.specs.Digits.{digit, number, number_agree}
use Rattle.slots.specs.Sets.{Slots}
use Rattle.slots.specs.Kinds.{plain}
use Rattle.slots.specs.Family.{Family}
use Rattle.slots.proofs.Plain.{plain_calls}
use Rattle.slots.specs.View.{View}
use Rattle.views.specs.Keeping.{carried, seen_as}
use Rattle.views.specs.Words as Words
use Rattle.views.specs.Words.{listed, listed_first, words_of, one_word}
use Rattle.views.proofs.Words.{words_view}
use Rattle.word.specs.declared.Word.{Word}

abbrev pub slot_of : Word → Slots
slot_of w s = digit w.bits s

abbrev pub word_of : ℕ → Word
word_of bits = record { bits = bits }

-- a row may have one word
pub one_fits : 2 ^ 0 ≤ 256
one_fits = omega arith

-- the words of a set are one
pub one_of_set : (S : Slots) → get_or (words_of 0 S) 0 0 ∷ [] ≡ words_of 0 S
unfolding listed
one_of_set S = refl

abbrev pub word_view : View plain
word_view = seen_as (carried (words_view 0 one_fits) Word (λ w. w.bits ∷ []) (λ words. word_of (get_or words 0 0)) one_of_set (λ w. refl)) slot_of
    (λ w held. one_word w.bits (held.each_fits 0 (omega arith)))

-- the calls that a series on a word map may hold: take, claim and free
abbrev pub word_calls : Family plain 6
word_calls = plain_calls 6

abbrev pub of_slots : Slots → Word
of_slots S = word_view.of_state S

-- a word below 2 ^ 64
abbrev pub IsWord : Word → Type 0
IsWord w = word_view.IsMap w

-- ---- what they mean

pub of_slots_means : (S : Slots) → of_slots S ≡ word_of (number S 64)
of_slots_means S = ap word_of (listed_first (Words.word_of S) (2 ^ 0) 0 0 (omega arith) ∙ number_agree _ S 64 (λ p l. ap S (first p)))
  where
    first : (p : ℕ) → 0 * 64 + p ≡ p
    first p = omega arith

pub is_word_means : (w : Word) → IsWord w ↔ (w.bits < 2 ^ 64)
is_word_means w = (
  λ held. held.each_fits 0 (omega arith),
  λ h. record { so_many = refl; each_fits = λ i l. let first : i ≡ 0 = omega arith in rw first h },
)
