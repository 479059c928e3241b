-- The contract: the meaning of `Lines` through the tree's view, answer and buffer. Rests on `Lines` and on the layout of `tree`.
use Rattle.std.specs.Prelude.{◌≡◌, List, ℕ, Result}
use Rattle.answers.specs.Said.{Said, leaving}
use Rattle.answers.specs.Answers.{answer_says}
use Rattle.answers.specs.declared.Refusal.{Refusal}
use Rattle.slots.specs.View.{answered}
use Rattle.tree.specs.declared.Tree.{Tree}
use Rattle.tree.specs.Layout.{slot_of, tree_view}
use Rattle.gap_report.specs.Lines.{show_call}

-- what is said, and what is left of the buffer: on a refusal the very buffer
unfoldable pub shown : Tree → List ℕ → Said ℕ × List ℕ
shown t buffer =
    let call = show_call 10 (slot_of t) buffer in
    leaving (answered tree_view t call) (λ _. call.after) buffer

abbrev pub WriteSays : Tree → List ℕ → Result ℕ Refusal → List ℕ → Type 0
WriteSays t before r after = (answer_says r, after) ≡ shown t before
