-- Sixteen trees side by side: the summary of each, and one more over them, whose bit i is 1 exactly if tree i holds a used slot. Rests on `Trees` and
-- `Summary`.
use Rattle.std.specs.Prelude.{◌≡◌, ◌↔◌, Bool, true, false, not, List, ℕ, ◌*◌, ◌/◌, ◌<◌, T, eqb}
use Rattle.std.proofs.Common.{sym, ap, ◌∙◌, zero-le, arith, eqb→eq, pow_pos}
use Rattle.std.proofs.lemmas.Bool.{not-false}
use Rattle.bits.specs.Range.{same_test}
use Rattle.bits.specs.Digits.{digit, number, number_lt, zero_digit}
use Rattle.bits.proofs.Digits.{digit_number, equal_digits}
use Rattle.slots.specs.Sets.{SomeUsed, all_free, finds_all_free, finds_some_used}
use Rattle.views.specs.Painting.{slot_in}
use Rattle.views.specs.Summary.{summary_of}
use Rattle.views.specs.Trees.{each_of}

-- ---- the summaries of the trees

-- summary i is that of tree i
abbrev pub summaries_of : List ℕ → List ℕ
summaries_of words = each_of summary_of words

-- ---- the summary over them

-- tree i holds a used slot
abbrev pub UsedTree : List ℕ → ℕ → Type 0
UsedTree words i = SomeUsed (slot_in words) (i * 1024) 1024

abbrev pub used_tree : List ℕ → ℕ → Bool
used_tree words i = not (all_free (slot_in words) (i * 1024) 1024)

pub finds_tree_used : (words : List ℕ) (i : ℕ) → T (used_tree words i) ↔ UsedTree words i
finds_tree_used words i = finds_some_used (slot_in words) (i * 1024) 1024

-- bit i is 1 exactly if tree i holds a used slot
unfoldable pub top_of : List ℕ → ℕ
top_of words = number (used_tree words) 16

-- so it alone tells whether they are all empty
pub top_tells : (words : List ℕ) → eqb (top_of words) 0 ≡ all_free (slot_in words) 0 16384
unfolding top_of
top_tells words =
    let found = finds_all_free (slot_in words) 0 16384 in
    same_test (eqb (top_of words) 0) (all_free (slot_in words) 0 16384)
    (λ e. found.1 (λ s named.
    let l : s / 1024 < 16 = omega (arith, named) in
    let none : used_tree words (s / 1024) ≡ false = sym (digit_number (used_tree words) 16 (s / 1024) l) ∙ ap (λ (f : ℕ). digit f (s / 1024)) (eqb→eq (top_of words) 0 e) ∙ zero_digit (s / 1024) in
    (finds_all_free (slot_in words) (s / 1024 * 1024) 1024).0 (rw (not-false (all_free (slot_in words) (s / 1024 * 1024) 1024) none) tt) s (omega arith, omega arith)))
    (λ t. rw (equal_digits 16 (top_of words) 0 (number_lt (used_tree words) 16) (pow_pos 16) (λ i l.
    digit_number (used_tree words) 16 i l
    ∙ ap not (same_test (all_free (slot_in words) (i * 1024) 1024) true (λ _. tt) (λ _. (finds_all_free (slot_in words) (i * 1024) 1024).1 (λ s named. found.0 t s (zero-le, omega (arith, named)))))
    ∙ sym (zero_digit i))) tt)
