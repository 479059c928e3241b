-- The summary kept beside words in a row: bit i is 1 exactly if word i is not 0. Rests on `Marks`.
use Rattle.std.specs.Prelude.{◌≡◌, ◌↔◌, Bool, false, not, List, ℕ, ◌+◌, ◌-◌, ◌*◌, ◌/◌, ◌^◌, ◌≤◌, ◌<◌, get_or, T, eqb}
use Rattle.std.proofs.Common.{sym, ap, ◌∙◌, true≢false, zero-le, arith, pow_pos, eq-eqb, eqb-true}
use Rattle.std.proofs.Math.Dec.{not_T}
use Rattle.std.proofs.lemmas.Bool.{not-false}
use Rattle.answers.specs.Faults.{finds_eq, finds_not}
use Rattle.bits.specs.Digits.{digit, number_lt, zero_digit}
use Rattle.bits.proofs.Digits.{digit_number, equal_digits}
use Rattle.slots.specs.Sets.{AllFree, SomeUsed, all_free, finds_all_free, finds_some_used}
use Rattle.views.specs.Painting.{slots_in, slot_in, slot_in_word}
use Rattle.views.specs.Words.{AreWords, word_held}
use Rattle.views.specs.Marks.{sixteen_fit, marks_of}

-- ---- the summary of a part of the words

-- a word is not 0
abbrev pub not_zero : ℕ → Bool
not_zero word = not (eqb word 0)

-- bit i is 1 exactly if word i is not 0
abbrev pub summary_of : List ℕ → ℕ
summary_of words = marks_of not_zero words

-- ---- what a bit says

abbrev pub NotZero : ℕ → Type 0
NotZero word = word ≡ 0 → ⊥

pub finds_not_zero : (word : ℕ) → T (not_zero word) ↔ NotZero word
finds_not_zero word = finds_not (eqb word 0) (finds_eq word 0)

abbrev pub used_word : List ℕ → ℕ → Bool
used_word words i = not_zero (get_or words i 0)

abbrev pub UsedWord : List ℕ → ℕ → Type 0
UsedWord words i = NotZero (get_or words i 0)

-- ---- which slots it tells of

-- a word is 0 exactly if none of its slots is used
pub word_free : (words : List ℕ) (i : ℕ) → i * 64 < slots_in words → get_or words i 0 < 2 ^ 64 → (get_or words i 0 ≡ 0) ↔ AllFree (slot_in words) (i * 64) 64
word_free words i there fits = (
  λ e s named.
      ap (slot_in words) (back s named.0)
      ∙ slot_in_word words i (s - i * 64) there (omega (arith, named)) ∙ ap (λ (w : ℕ). digit w (s - i * 64)) e ∙ zero_digit (s - i * 64),
  λ free.
      equal_digits 64 (get_or words i 0) 0 fits (pow_pos 64) (λ p l.
      sym (slot_in_word words i p there l) ∙ free (i * 64 + p) (omega arith, omega arith) ∙ sym (zero_digit p)),
)
  where
    back : (s : ℕ) → i * 64 ≤ s → s ≡ i * 64 + (s - i * 64)
    back s h = omega arith

pub word_used : (words : List ℕ) (i : ℕ) → i * 64 < slots_in words → get_or words i 0 < 2 ^ 64 → UsedWord words i ↔ SomeUsed (slot_in words) (i * 64) 64
word_used words i there fits =
    let free = word_free words i there fits in (
      λ used. (finds_some_used (slot_in words) (i * 64) 64).0
          (not_T (all_free (slot_in words) (i * 64) 64) (λ t. used (free.1 ((finds_all_free (slot_in words) (i * 64) 64).0 t)))),
      λ some e. true≢false (sym some.2 ∙ free.0 e some.0 some.1),
    )

-- sixteen words: the summary is 0 exactly if no slot is used
pub none_used : (words : List ℕ) → AreWords 4 words → (summary_of words ≡ 0) ↔ AllFree (slot_in words) 0 1024
unfolding marks_of
none_used words held = (
  λ e s named.
      let l : s / 64 < 16 = omega (arith, named) in
      let unused : used_word words (s / 64) ≡ false = sym (digit_number (used_word words) 16 (s / 64) l) ∙ ap (λ (n : ℕ). digit n (s / 64)) e ∙ zero_digit (s / 64) in
      (word_free words (s / 64) (there (s / 64) l) (held.each_fits (s / 64) l)).0
      (eqb-true (get_or words (s / 64) 0) 0 (not-false (eqb (get_or words (s / 64) 0) 0) unused)) s (omega arith, omega arith),
  λ free.
      equal_digits 16 (summary_of words) 0 (number_lt (used_word words) 16) (pow_pos 16) (λ i l.
      digit_number (used_word words) 16 i l
      ∙ ap not (eq-eqb (get_or words i 0) 0 ((word_free words i (there i l) (held.each_fits i l)).1 (λ s named. free s (zero-le, omega (arith, named)))))
      ∙ sym (zero_digit i)),
)
  where
    there : (i : ℕ) → i < 16 → i * 64 < slots_in words
    there i l = word_held 4 sixteen_fit words held i l
