-- What stood in specs/Summaries and rests on theorems there: moved, its statements unchanged. Rests on `Summaries`.
use Rattle.std.specs.Prelude.{◌≡◌, not, List, ℕ, ◌+◌, ◌-◌, ◌*◌, ◌≤◌, ◌<◌, eqb}
use Rattle.std.proofs.Common.{sym, ap, ◌∙◌, zero-le, arith}
use Rattle.bits.specs.Range.{same_test}
use Rattle.bits.specs.Digits.{number_agree}
use Rattle.slots.specs.Sets.{all_free, finds_all_free}
use Rattle.views.specs.Keeping.{Kept}
use Rattle.views.proofs.Keeping.{keeping, bits_kept}
use Rattle.views.specs.Painting.{slot_in}
use Rattle.views.specs.Words.{AreWords}
use Rattle.views.proofs.Words.{words_view}
use Rattle.views.specs.Marks.{sixteen_fit, marks_of}
use Rattle.views.specs.Summary.{used_word, summary_of}
use Rattle.views.proofs.Summary.{summary_kept, summary_tells}
use Rattle.views.specs.Trees.{all_fit, tree_words, tree_words_lem, each_at}
use Rattle.views.proofs.Trees.{tree_slot, each_kept}
use Rattle.views.specs.Summaries.{summaries_of, UsedTree, used_tree, finds_tree_used, top_of}

-- ---- the summaries of the trees

abbrev pub summaries_kept : Kept (words_view 8 all_fit)
summaries_kept = each_kept (summary_kept 4 sixteen_fit) 0

pub tree_free : (words : List ℕ) → AreWords 8 words → (i : ℕ) → i < 16 → all_free (slot_in (tree_words words i)) 0 1024 ≡ all_free (slot_in words) (i * 1024) 1024
tree_free words held i l =
    let tree = finds_all_free (slot_in (tree_words words i)) 0 1024 in
    let all = finds_all_free (slot_in words) (i * 1024) 1024 in
    same_test _ _
    (λ t. all.1 (λ s named.
    ap (slot_in words) (back s named.0) ∙ sym (tree_slot words held i (s - i * 1024) l (omega (arith, named))) ∙ tree.0 t (s - i * 1024) (zero-le, omega (arith, named))))
    (λ t. tree.1 (λ s named. tree_slot words held i s l (omega (arith, named)) ∙ all.0 t (i * 1024 + s) (omega arith, omega (arith, named))))
  where
    back : (s : ℕ) → i * 1024 ≤ s → s ≡ i * 1024 + (s - i * 1024)
    back s h = omega arith

-- kept beside the words and the summaries of their trees
abbrev pub top_kept : Kept (keeping (words_view 8 all_fit) summaries_kept)
top_kept = bits_kept (keeping (words_view 8 all_fit) summaries_kept) 16 (λ m. UsedTree m.map) (λ m. used_tree m.map) (λ m. finds_tree_used m.map)

-- a tree holds a used slot exactly if its summary is not 0, so the summaries have the same summary over them
pub top_by_summaries : (words : List ℕ) → AreWords 8 words → summary_of (summaries_of words) ≡ top_of words
unfolding marks_of top_of
top_by_summaries words held = number_agree (used_word (summaries_of words)) (used_tree words) 16 (λ i l.
    ap not (ap (λ (f : ℕ). eqb f 0) (each_at summary_of words i l) ∙ summary_tells (tree_words words i) (tree_words_lem words held i l) ∙ tree_free words held i l))
