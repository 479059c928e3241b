-- The contracts of the in-place forms: the answer, and what the lent tree holds at exit, are the answer and the map of the call by value, refused calls
-- included. So demands 1 and 2 of `tree` speak of them. Rests on the contracts of `tree`.
use Rattle.std.specs.Prelude.{◌≡◌, ℕ, Result}
use Rattle.answers.specs.declared.Changed.{Changed}
use Rattle.answers.specs.declared.Refusal.{Refusal}
use Rattle.answers.specs.declared.Reply.{Reply}
use Rattle.tree.specs.declared.Tree.{Tree}
use Rattle.tree.specs.Says.{TakeSays, FreeSays}
use Rattle.tree.specs.Demands.{take_one_answer, free_one_answer}

abbrev pub both : Result Reply Refusal → Tree → Changed Refusal Tree
both r left = record { answer = r; map = left }

abbrev pub TakeInPlaceSays : Tree → ℕ → ℕ → Result Reply Refusal → Tree → Type 0
TakeInPlaceSays t n a r left = TakeSays t n a (both r left)

abbrev pub FreeInPlaceSays : Tree → ℕ → ℕ → Result Reply Refusal → Tree → Type 0
FreeInPlaceSays t start n r left = FreeSays t start n (both r left)

-- ---- one answer: any two outcomes that a contract allows coincide, the answer and what the lent tree holds

pub take_in_place_one_answer : (t : Tree) (n a : ℕ) (r q : Result Reply Refusal) (left other : Tree) → TakeInPlaceSays t n a r left → TakeInPlaceSays t n a q other → both r left ≡ both q other
take_in_place_one_answer t n a r q left other = take_one_answer t n a (both r left) (both q other)

pub free_in_place_one_answer : (t : Tree) (start n : ℕ) (r q : Result Reply Refusal) (left other : Tree) → FreeInPlaceSays t start n r left → FreeInPlaceSays t start n q other
    → both r left ≡ both q other
free_in_place_one_answer t start n r q left other = free_one_answer t start n (both r left) (both q other)
