-- What stood in specs/Summary and rests on theorems there: moved, its statements unchanged. Rests on `Summary`.
use Rattle.std.specs.Prelude.{◌≡◌, ◌↔◌, List, ℕ, ◌*◌, ◌^◌, ◌≤◌, ◌<◌, eqb}
use Rattle.std.proofs.Common.{sym, ◌∙◌, arith, eqb→eq, pow-add}
use Rattle.bits.specs.Range.{same_test}
use Rattle.slots.specs.Sets.{Slots, Named, SomeUsed, all_free, finds_all_free}
use Rattle.views.specs.Keeping.{Kept}
use Rattle.views.specs.Painting.{slot_in}
use Rattle.views.specs.Words.{AreWords, words_of, made_words, word_held}
use Rattle.views.proofs.Words.{holds_words, words_view}
use Rattle.views.proofs.Marks.{marks_kept}
use Rattle.views.specs.Summary.{not_zero, summary_of, NotZero, finds_not_zero, UsedWord, word_used, none_used}

abbrev pub summary_kept : (j : ℕ) (most : 2 ^ j ≤ 256) → Kept (words_view j most)
summary_kept = marks_kept not_zero NotZero finds_not_zero

-- so a bit of the summary of a set's words tells whether the set has one of the word's slots
pub part_used : (j : ℕ) → 2 ^ j ≤ 256 → (S : Slots) (i : ℕ) → i < 2 ^ j → UsedWord (words_of j S) i ↔ SomeUsed S (i * 64) 64
part_used j most S i l =
    let held = made_words j S in
    let used = word_used (words_of j S) i (word_held j most (words_of j S) held i l) (held.each_fits i l) in (
      λ h. let some = used.0 h in (some.0, some.1, sym (same some.0 some.1) ∙ some.2),
      λ some. used.1 (some.0, some.1, same some.0 some.1 ∙ some.2),
    )
  where
    same : (s : ℕ) → Named (i * 64) 64 s → slot_in (words_of j S) s ≡ S s
    same s named = holds_words j most S s (omega (arith, named, pow-add 2 j 6))

-- so the summary alone tells whether they are empty
pub summary_tells : (words : List ℕ) → AreWords 4 words → eqb (summary_of words) 0 ≡ all_free (slot_in words) 0 1024
summary_tells words held =
    let none = none_used words held in
    let found = finds_all_free (slot_in words) 0 1024 in
    same_test (eqb (summary_of words) 0) (all_free (slot_in words) 0 1024)
    (λ e. found.1 (none.0 (eqb→eq (summary_of words) 0 e)))
    (λ free. rw (none.1 (found.0 free)) tt)
