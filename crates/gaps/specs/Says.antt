-- The contract of each call: the meaning of `slots` through the tree's view, answer and buffer. Rests on the gaps of `slots` and on the layout of `tree`.
use Rattle.std.specs.Prelude.{◌≡◌, Bool, true, false, List, ℕ, Result}
use Rattle.answers.specs.Said.{Said, leaving}
use Rattle.answers.specs.Answers.{answer_says}
use Rattle.answers.specs.declared.Refusal.{Refusal}
use Rattle.answers.specs.declared.Run.{Run}
use Rattle.slots.specs.Gaps.{list_call, longest_call}
use Rattle.slots.specs.View.{answered}
use Rattle.tree.specs.declared.Tree.{Tree}
use Rattle.tree.specs.Layout.{slot_of, tree_view}

-- what is said of the list, and what is left of the buffer: on a refusal the very buffer
unfoldable pub listed : Bool → Tree → List ℕ → Said ℕ × List ℕ
listed v t buffer =
    let call = list_call 10 v (slot_of t) buffer in
    leaving (answered tree_view t call) (λ _. call.after) buffer

-- over the value, and for the free runs and the used ones
abbrev pub RunsSays : Tree → Bool → List ℕ → Result ℕ Refusal → List ℕ → Type 0
RunsSays t v before r after = (answer_says r, after) ≡ listed v t before

abbrev pub FreeRunsSays : Tree → List ℕ → Result ℕ Refusal → List ℕ → Type 0
FreeRunsSays t before r after = RunsSays t false before r after

abbrev pub UsedRunsSays : Tree → List ℕ → Result ℕ Refusal → List ℕ → Type 0
UsedRunsSays t before r after = RunsSays t true before r after

abbrev pub LongestFreeSays : Tree → Result Run Refusal → Type 0
LongestFreeSays t r = answer_says r ≡ answered tree_view t (longest_call 10 (slot_of t))
