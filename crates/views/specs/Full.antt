-- The mark of full words kept beside words in a row: bit i is 1 exactly if word i is all ones. And the words as a search that goes by such marks has
-- them. Rests on `Marks`.
use Rattle.std.specs.Prelude.{◌≡◌, refl, ◌↔◌, Bool, true, false, List, [], ◌∷◌, length, get_or, T, ltb, eqb}
use Rattle.std.proofs.Common.{sym, ap₂, ◌∙◌, true≢false, arith, eqb→eq, pow_pos, lt-ltb, ltb-true, ltb-false}
use Rattle.std.proofs.Math.Path.{ap, fun_ext}
use Prim.Native.Nat.{ℕ, zero, suc, ◌+◌, ◌-◌, ◌*◌, ◌/◌, ◌%◌, ◌^◌, ◌≤◌, ◌<◌, min}
use Rattle.std.proofs.Math.Dec.{eqb_refl}
use Rattle.bits.specs.Range.{either}
use Rattle.bits.specs.Digits.{digit, zero_digit}
use Rattle.bits.proofs.Digits.{digit_number, low_mask_digit, equal_digits}
use Rattle.slots.specs.Sets.{Slots, AllUsed}
use Rattle.views.specs.Painting.{slots_in, slot_in, word_there, slot_there, slot_past, slot_in_word}
use Rattle.views.specs.Words.{listed, length_listed, listed_first, listed_is}
use Rattle.views.specs.Marks.{passes_at, marks_of}

-- ---- the mark of full words

-- 64 ones
abbrev pub ones : ℕ
ones = 2 ^ 64 - 1

abbrev pub all_ones : ℕ → Bool
all_ones word = eqb word ones

-- bit i is 1 exactly if word i is all ones
abbrev pub full_of : List ℕ → ℕ
full_of words = marks_of all_ones words

abbrev pub AllOnes : ℕ → Type 0
AllOnes word = word ≡ ones

pub finds_all_ones : (word : ℕ) → T (all_ones word) ↔ AllOnes word
finds_all_ones word = (eqb→eq word ones, λ e. rw e (eqb_refl ones))

-- a word is all ones exactly if each of its slots is used
pub word_full : (words : List ℕ) (i : ℕ) → i * 64 < slots_in words → get_or words i 0 < 2 ^ 64 → AllOnes (get_or words i 0) ↔ AllUsed (slot_in words) (i * 64) 64
word_full words i there fits = (
  λ e s named.
      ap (slot_in words) (back s named.0)
      ∙ slot_in_word words i (s - i * 64) there (omega (arith, named)) ∙ ap (λ (w : ℕ). digit w (s - i * 64)) e ∙ one (s - i * 64) (omega (arith, named)),
  λ used.
      equal_digits 64 (get_or words i 0) ones fits (omega (arith, pow_pos 64)) (λ p l.
      sym (slot_in_word words i p there l) ∙ used (i * 64 + p) (omega arith, omega arith) ∙ sym (one p l)),
)
  where
    back : (s : ℕ) → i * 64 ≤ s → s ≡ i * 64 + (s - i * 64)
    back s h = omega arith

    one : (p : ℕ) → p < 64 → digit ones p ≡ true
    one p l = low_mask_digit 64 p ∙ lt-ltb p 64 l

-- ---- the words as a search has them that goes by marks, right or wrong

-- word i has place i % 16 of mark i / 16; past the marks no word is marked
unfoldable pub marked : List ℕ → ℕ → Bool
marked fulls i = digit (get_or fulls (i / 16) 0) (i % 16)

-- a word that is marked counts as all ones, whatever it holds
abbrev pub filled_word : List ℕ → List ℕ → ℕ → ℕ
filled_word words fulls i = elim (marked fulls i) [ true ↦ ones | false ↦ get_or words i 0 ]

unfoldable pub filled : List ℕ → List ℕ → List ℕ
filled words fulls = listed (filled_word words fulls) 0 (length words)

-- where each word that is marked is all ones, these are the words as they are
pub filled_right : (words fulls : List ℕ) → ((i : ℕ) → i < length words → marked fulls i ≡ true → AllOnes (get_or words i 0)) → filled words fulls ≡ words
unfolding filled
filled_right words fulls right = sym (listed_is words (filled_word words fulls) (length words) 0 refl (λ i l.
    either (marked fulls i) (λ t. right i l t ∙ sym (ap (λ (b : Bool). elim b [ true ↦ ones | false ↦ get_or words i 0 ]) t))
    (λ t. sym (ap (λ (b : Bool). elim b [ true ↦ ones | false ↦ get_or words i 0 ]) t))))

-- marks of which none is set
pub filled_unmarked : (words : List ℕ) → filled words (0 ∷ []) ≡ words
unfolding marked
filled_unmarked words = filled_right words (0 ∷ []) (λ i l is. absurd (true≢false (sym is ∙ ap (λ (m : ℕ). digit m (i % 16)) (zero_at (i / 16)) ∙ zero_digit (i % 16))))
  where
    zero_at : (j : ℕ) → ◌≡◌ {A = ℕ} (get_or (0 ∷ []) j 0) 0
    zero_at zero = refl
    zero_at (suc j) = refl

-- the mark of sixteen words marks those that are all ones, and no others
pub filled_by_mark : (words : List ℕ) → length words ≡ 16 → filled words (full_of words ∷ []) ≡ words
unfolding marked marks_of
filled_by_mark words many = filled_right words (full_of words ∷ []) (λ i l is.
    let below : i < 16 = rw many at l in
    let first : i / 16 ≡ 0 = omega arith in
    let place : i % 16 ≡ i = omega arith in
    (finds_all_ones (get_or words i 0)).0
    (rw (sym (digit_number (passes_at all_ones words) 16 i below)
    ∙ ap₂ (λ (m p : ℕ). digit (get_or (full_of words ∷ []) m 0) p) (sym first) (sym place) ∙ is) tt))

-- ---- which slots they hold

module _ (words fulls : List ℕ) where
  abbrev chosen : ℕ → Bool → ℕ
  chosen i b = elim b [ true ↦ ones | false ↦ get_or words i 0 ]

  pub filled_long : length (filled words fulls) ≡ length words
  unfolding filled
  filled_long = length_listed (filled_word words fulls) 0 (length words)

  pub filled_slots : slots_in (filled words fulls) ≡ slots_in words
  unfolding slots_in
  filled_slots = ap (λ (l : ℕ). min l 256 * 64) filled_long

  pub filled_word_lem : (i : ℕ) → i < length words → (b : Bool) → marked fulls i ≡ b → get_or (filled words fulls) i 0 ≡ chosen i b
  unfolding filled
  filled_word_lem i l b t = listed_first (filled_word words fulls) (length words) i 0 l ∙ ap (chosen i) t

  -- a slot whose word is not marked is as it was
  pub filled_open : (p : ℕ) → marked fulls (p / 64) ≡ false → slot_in (filled words fulls) p ≡ slot_in words p
  filled_open p unmarked =
      either (ltb p (slots_in words))
      (λ t. let l = ltb-true p (slots_in words) t in
      slot_there (filled words fulls) p (rw filled_slots l)
      ∙ ap (λ (w : ℕ). digit w (p % 64)) (filled_word_lem (p / 64) (word_there words (p / 64) (omega arith)).0 false unmarked) ∙ sym (slot_there words p l))
      (λ t. let l = ltb-false p (slots_in words) t in slot_past (filled words fulls) p (rw filled_slots l) ∙ sym (slot_past words p l))

  -- a slot whose word is marked is used
  pub filled_marked : (p : ℕ) → p < slots_in words → marked fulls (p / 64) ≡ true → slot_in (filled words fulls) p ≡ true
  filled_marked p l is =
      slot_there (filled words fulls) p (rw filled_slots l)
      ∙ ap (λ (w : ℕ). digit w (p % 64)) (filled_word_lem (p / 64) (word_there words (p / 64) (omega arith)).0 true is)
      ∙ low_mask_digit 64 (p % 64) ∙ lt-ltb (p % 64) 64 (omega arith)

  -- ---- a search from a slot on: that slot is looked at itself, and only then do marks count

  abbrev pub seen_from : ℕ → Slots
  seen_from from p = elim (eqb p from) [ true ↦ slot_in words p | false ↦ slot_in (filled words fulls) p ]

  -- where the filled words are the words as they are, so is what a search sees
  pub seen_right : filled words fulls ≡ words → (from : ℕ) → seen_from from ≡ slot_in words
  seen_right right from = fun_ext (λ p.
      either (eqb p from) (λ t. ap (λ (b : Bool). elim b [ true ↦ slot_in words p | false ↦ slot_in (filled words fulls) p ]) t)
      (λ t. ap (λ (b : Bool). elim b [ true ↦ slot_in words p | false ↦ slot_in (filled words fulls) p ]) t ∙ ap (λ (ws : List ℕ). slot_in ws p) right))
