-- The contract of each call on a tree map: the meaning of `slots` through the tree's view, answer and map. Rests on `Layout`.
use Rattle.std.specs.Prelude.{◌≡◌, Bool, List, ℕ, Result}
use Rattle.answers.specs.Answers.{answer_says}
use Rattle.answers.specs.declared.Reply.{Reply}
use Rattle.answers.specs.declared.Refusal.{Refusal}
use Rattle.slots.specs.Sets.{Slots, none, all}
use Rattle.slots.specs.Calls.{Call, take_call, claim_call, free_call, set_call, next_free_call, get_call, empty_call, used_call, capacity}
use Rattle.slots.specs.View.{answered, changed}
use Rattle.tree.specs.declared.Tree.{Tree}
use Rattle.answers.specs.declared.Changed.{Changed}
use Rattle.tree.specs.declared.Stored.{Stored}
use Rattle.tree.specs.Layout.{stored_of, theirs, tree_of, holding, slot_of, of_slots, tree_view}

-- the answer and the map, as the meaning has them
abbrev pub Leaves : Tree → Call Slots Reply → Changed Refusal Tree → Type 0
Leaves t call r = (answer_says r.answer, r.map) ≡ changed tree_view t call

abbrev pub NewEmptySays : Tree → Type 0
NewEmptySays r = r ≡ of_slots none

abbrev pub NewFullSays : Tree → Type 0
NewFullSays r = r ≡ of_slots all

abbrev pub HoldingSays : List ℕ → Tree → Type 0
HoldingSays words r = r ≡ holding words

-- the same tree but for one field; what every tree lets be read
abbrev pub WithSummarySays : Tree → ℕ → Tree → Type 0
WithSummarySays t summary r = r ≡ tree_of t.words (stored_of summary t.stored.full t.stored.count)

abbrev pub WithFullSays : Tree → ℕ → Tree → Type 0
WithFullSays t full r = r ≡ tree_of t.words (stored_of t.stored.summary full t.stored.count)

abbrev pub WithCountSays : Tree → ℕ → Tree → Type 0
WithCountSays t count r = r ≡ tree_of t.words (stored_of t.stored.summary t.stored.full count)

abbrev pub WordsSays : Tree → List ℕ → Type 0
WordsSays t r = r ≡ t.words

abbrev pub SummarySays : Tree → ℕ → Type 0
SummarySays t r = r ≡ t.stored.summary

abbrev pub FullSays : Tree → ℕ → Type 0
FullSays t r = r ≡ t.stored.full

abbrev pub CountSays : Tree → ℕ → Type 0
CountSays t r = r ≡ t.stored.count

abbrev pub TakeSays : Tree → ℕ → ℕ → Changed Refusal Tree → Type 0
TakeSays t n a r = Leaves t (take_call 10 (slot_of t) n a) r

abbrev pub ClaimSays : Tree → ℕ → ℕ → Changed Refusal Tree → Type 0
ClaimSays t start n r = Leaves t (claim_call 10 (slot_of t) start n) r

abbrev pub FreeSays : Tree → ℕ → ℕ → Changed Refusal Tree → Type 0
FreeSays t start n r = Leaves t (free_call 10 (slot_of t) start n) r

abbrev pub SetSays : Tree → ℕ → ℕ → Bool → Changed Refusal Tree → Type 0
SetSays t start n used r = Leaves t (set_call 10 (slot_of t) start n used) r

abbrev pub NextFreeSays : Tree → ℕ → Result ℕ Refusal → Type 0
NextFreeSays t start r = answer_says r ≡ answered tree_view t (next_free_call 10 (slot_of t) start)

abbrev pub GetSays : Tree → ℕ → Result Bool Refusal → Type 0
GetSays t slot r = answer_says r ≡ answered tree_view t (get_call 10 (slot_of t) slot)

abbrev pub EmptySays : Tree → Result Bool Refusal → Type 0
EmptySays t r = answer_says r ≡ answered tree_view t (empty_call 10 (slot_of t))

abbrev pub UsedSays : Tree → Result ℕ Refusal → Type 0
UsedSays t r = answer_says r ≡ answered tree_view t (used_call 10 (slot_of t))

abbrev pub CapacitySays : ℕ → Type 0
CapacitySays r = r ≡ capacity 10

-- what is stored beside some words, and whether it is

abbrev pub StoredOfSays : List ℕ → Stored → Type 0
StoredOfSays words r = r ≡ theirs words

abbrev pub SoundSays : List ℕ → Stored → Bool → Type 0
SoundSays words stored r = r ≡ tree_view.is_sound (tree_of words stored)
