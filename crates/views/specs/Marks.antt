-- Marks kept beside words in a row: sixteen bits, of which bit i is 1 exactly if word i passes a test. Which test it is does not matter here: the summary
-- and the mark of full words are two of them. Rests on `Words` and `Keeping`.
use Rattle.std.specs.Prelude.{◌≡◌, ◌↔◌, Bool, true, false, ◌&&◌, List, length, get_or, T, leb, ltb}
use Rattle.std.proofs.Math.Path.{sym, ap}
use Rattle.std.proofs.Common.{◌∙◌, arith, ltb→lt, lt→ltb}
use Prim.Native.Nat.{ℕ, ◌*◌, ◌/◌, ◌^◌, ◌≤◌, ◌<◌, min}
use Rattle.std.proofs.Math.ListN.{get_or-eq_default}
use borrow.Author.Tests.{ltb-true, ltb-false}
use Rattle.bits.specs.Range.{either, same_test}
use Rattle.bits.specs.Digits.{digit, number, number_agree}
use Rattle.bits.proofs.Digits.{digit_number}
use Rattle.views.specs.Keeping.{BitsAgree, made_bits, only_bits}
use Rattle.views.specs.Painting.{slots_in, end_in, reaches, painted_words, painted_long, kept_word}

-- a row may have sixteen words
pub sixteen_fit : 2 ^ 4 ≤ 256
sixteen_fit = omega arith

-- ---- the marks of a part of the words

-- word i passes the test; past the last word it is 0
abbrev pub passes_at : (ℕ → Bool) → List ℕ → ℕ → Bool
passes_at test words i = test (get_or words i 0)

-- bit i is 1 exactly if word i passes
unfoldable pub marks_of : (ℕ → Bool) → List ℕ → ℕ
marks_of test words = number (passes_at test words) 16

-- how many words a part has, sixteen at most
unfoldable pub part_words : List ℕ → ℕ
part_words words = min (length words) 16

-- the marks with the bit of each word that the n slots from s on reach brought up to date, set or cleared
unfoldable pub touched_marks : (ℕ → Bool) → List ℕ → ℕ → ℕ → ℕ → ℕ
touched_marks test words marks s n =
    number (λ i. elim (reaches s (end_in (part_words words * 64) s n) i) [ true ↦ passes_at test words i | false ↦ digit marks i ]) 16

-- ---- what a bit says

-- the test finds what is said of a word
module _ (test : ℕ → Bool) (Is : ℕ → Type 0) (finds : (word : ℕ) → T (test word) ↔ Is word) where
  abbrev pub IsAt : List ℕ → ℕ → Type 0
  IsAt words i = Is (get_or words i 0)

  pub finds_at : (words : List ℕ) (i : ℕ) → T (passes_at test words i) ↔ IsAt words i
  finds_at words i = finds (get_or words i 0)

  abbrev pub MarksAgree : List ℕ → ℕ → Type 0
  MarksAgree = BitsAgree 16 IsAt (passes_at test) finds_at

  -- the marks of the words agree with them, and no others do
  pub marks_right : (words : List ℕ) → MarksAgree words (marks_of test words)
  unfolding marks_of
  marks_right words = made_bits 16 IsAt (passes_at test) finds_at words

  pub marks_agree : (words : List ℕ) (f : ℕ) → f < 2 ^ 16 → MarksAgree words f ↔ (f ≡ marks_of test words)
  unfolding marks_of
  marks_agree words f fits = (λ h. sym (only_bits 16 IsAt (passes_at test) finds_at words f fits h), λ e. rw e (marks_right words))

-- ---- they stay right

-- among more slots a run reaches no more of the words that there are among fewer
reaches_alike : (slots more s n i : ℕ) → i * 64 < slots → i * 64 < more → reaches s (end_in slots s n) i ≡ reaches s (end_in more s n) i
unfolding end_in
reaches_alike slots more s n i l m =
    ap (λ (b : Bool). leb (s / 64) i && b)
    (same_test (ltb (i * 64) (end_in slots s n)) (ltb (i * 64) (end_in more s n))
    (λ t. lt→ltb (i * 64) (end_in more s n) (omega (arith, ltb→lt (i * 64) (end_in slots s n) t)))
    (λ t. lt→ltb (i * 64) (end_in slots s n) (omega (arith, ltb→lt (i * 64) (end_in more s n) t))))

module _ (words : List ℕ) (s n : ℕ) (v : Bool) where
  as_many : part_words (painted_words words s n v) ≡ part_words words
  unfolding part_words
  as_many = ap (λ (l : ℕ). min l 16) (painted_long words s n v)

  -- a word of the part that the run does not reach is as it was, and past the words there is nothing
  kept_in_part : (i : ℕ) → i < 16 → reaches s (end_in (part_words words * 64) s n) i ≡ false → get_or (painted_words words s n v) i 0 ≡ get_or words i 0
  unfolding painted_words part_words slots_in
  kept_in_part i l t =
      either (ltb i (length words))
      (λ h. let inside = ltb-true i (length words) h in
      kept_word words s (end_in (slots_in words) s n) v 256 i (reaches_alike (slots_in words) (part_words words * 64) s n i (omega arith) (omega arith) ∙ t))
      (λ h. let past = ltb-false i (length words) h in
      get_or-eq_default (painted_words words s n v) 0 {n = i} (rw (painted_long words s n v) past) ∙ sym (get_or-eq_default words 0 {n = i} past))

-- once a run is painted, bringing the bits of the touched words up to date makes the marks right again
pub touched_right : (test : ℕ → Bool) (words : List ℕ) (marks s n : ℕ) (v : Bool) → marks ≡ marks_of test words
    → touched_marks test (painted_words words s n v) marks s n ≡ marks_of test (painted_words words s n v)
unfolding touched_marks marks_of
touched_right test words marks s n v e = number_agree _ (passes_at test (painted_words words s n v)) 16 (λ i l.
    either (reached i) (λ t. ap (at_word_lem i) t)
    (λ t. ap (at_word_lem i) t ∙ ap (λ (m : ℕ). digit m i) e ∙ digit_number (passes_at test words) 16 i l
    ∙ ap test (sym (kept_in_part words s n v i l (ap (λ (w : ℕ). reaches s (end_in (w * 64) s n) i) (sym (as_many words s n v)) ∙ t)))))
  where
    reached : ℕ → Bool
    reached i = reaches s (end_in (part_words (painted_words words s n v) * 64) s n) i

    at_word_lem : ℕ → Bool → Bool
    at_word_lem i b = elim b [ true ↦ passes_at test (painted_words words s n v) i | false ↦ digit marks i ]
