-- The tree that a judged call leaves: the words painted, and what is stored of them. Rests on `Judged`. Assumes nothing.
use Rattle.std.specs.Prelude.{◌≡◌, Bool, List, ℕ, Result, Err}
use Rattle.std.proofs.Common.{sym, ap, ◌∙◌}
use Rattle.answers.specs.Answers.{left_by}
use Rattle.answers.specs.declared.Reply.{Reply}
use Rattle.answers.specs.declared.Refusal.{Refusal}
use Rattle.views.specs.Painting.{painted_words}
use Rattle.tree.specs.declared.Tree.{Tree}
use Rattle.tree.specs.declared.Stored.{Stored}
use Rattle.tree.specs.Layout.{tree_of}
use Rattle.tree.specs.Inner.{touched_tree}
use Rattle.maps.proofs.Judged.{left_behind}

pub left_as_judged : (judge : Result Reply Refusal) → ((why : Refusal) → judge ≡ Err why → ⊥) → (words : List ℕ) (stored : Stored) (s n : ℕ) (v : Bool) (counting : List ℕ → ℕ)
    → (left : List ℕ) (counted : ℕ) (updated : Tree) → left ≡ painted_words words s n v → counted ≡ counting left → updated ≡ touched_tree (tree_of left stored) s n counted
    → updated ≡ left_by judge (tree_of words stored) (touched_tree (tree_of (painted_words words s n v) stored) s n (counting (painted_words words s n v)))
left_as_judged judge kept words stored s n v counting left counted updated e f g =
    g ∙ ap (touched_tree (tree_of left stored) s n) f
    ∙ ap (λ (ws : List ℕ). touched_tree (tree_of ws stored) s n (counting ws)) e
    ∙ sym (left_behind judge kept (tree_of words stored) _)
