-- What the owner demands of the tree map: one value of `Demands`, which has the sentences; what is the tree's own beside it; and that each contract leaves
-- one outcome.
use Rattle.std.specs.Prelude.{◌≡◌, refl, Bool, true, false, List, [], ◌∷◌, ℕ, Result, Ok, Err}
use Rattle.std.proofs.Common.{sym, ap, ◌∙◌}
use Rattle.answers.specs.Said.{Said, value, refused, value≢refused, value_injective, refused_injective}
use Rattle.answers.specs.Refusals.{number_of}
use Rattle.answers.specs.Answers.{answer_says}
use Rattle.answers.specs.declared.Reply.{Reply}
use Rattle.answers.proofs.Answers.{answer_says_injective}
use Rattle.answers.specs.declared.Refusal.{Refusal}
use Rattle.bits.specs.Range.{either, count}
use Rattle.bits.specs.Digits.{number}
use Rattle.slots.specs.Sets.{none, all}
use Rattle.slots.specs.Calls.{take_call, claim_call, free_call, set_call, used_call}
use Rattle.slots.specs.Promises.{used_promise}
use Rattle.slots.specs.Plain.{Asked, call_of}
use Rattle.slots.specs.View.{same_state, places_decide, found_sound, found_unsound}
use Rattle.slots.specs.Demands as Slots
use Rattle.slots.proofs.Demands.{Demands, demanded, Ran}
use Rattle.views.specs.Painting.{slot_in}
use Rattle.views.specs.Words.{listed}
use Rattle.views.specs.Marks.{marks_of, marks_right}
use Rattle.views.specs.Summary.{not_zero, NotZero, finds_not_zero}
use Rattle.views.specs.Full.{all_ones, AllOnes, finds_all_ones}
use Rattle.tree.specs.declared.Tree.{Tree}
use Rattle.tree.specs.declared.Stored.{Stored}
use Rattle.answers.specs.declared.Changed.{Changed}
use Rattle.tree.specs.Layout.{holding, slot_of, of_slots, Sound, IsTree, tree_view, sound_means}
use Rattle.tree.specs.Says.{Leaves, NewEmptySays, NewFullSays, HoldingSays, WithSummarySays, WithFullSays, WithCountSays, WordsSays, SummarySays, FullSays, CountSays, TakeSays, ClaimSays, FreeSays, SetSays, NextFreeSays, GetSays, EmptySays, UsedSays, CapacitySays, StoredOfSays, SoundSays}

-- ---- the demands. An outcome is a `Changed`; the tree's contracts are those of `Demands`, with 2 ^ 10 slots

-- what an outcome says
abbrev pub answer_of : Changed Refusal Tree → Said Reply
answer_of r = answer_says r.answer

pub tree_demands : Demands tree_view (Changed Refusal Tree) answer_of (λ r. r.map)
tree_demands = demanded tree_view (Changed Refusal Tree) answer_of (λ r. r.map)
    (λ r q says leaves. λ i. record { answer = answer_says_injective r.answer q.answer says i; map = leaves i })

-- each contract of the tree is the one that the demands speak of
pub take_meant : (t : Tree) (n a : ℕ) (r : Changed Refusal Tree) → TakeSays t n a r → Slots.TakeSays tree_view (Changed Refusal Tree) answer_of (λ x. x.map) t n a r
take_meant t n a r outcome = outcome

pub claim_meant : (t : Tree) (s n : ℕ) (r : Changed Refusal Tree) → ClaimSays t s n r → Slots.ClaimSays tree_view (Changed Refusal Tree) answer_of (λ x. x.map) t s n r
claim_meant t s n r outcome = outcome

pub free_meant : (t : Tree) (s n : ℕ) (r : Changed Refusal Tree) → FreeSays t s n r → Slots.FreeSays tree_view (Changed Refusal Tree) answer_of (λ x. x.map) t s n r
free_meant t s n r outcome = outcome

pub set_meant : (t : Tree) (s n : ℕ) (v : Bool) (r : Changed Refusal Tree) → SetSays t s n v r → Slots.SetSays tree_view (Changed Refusal Tree) answer_of (λ x. x.map) t s n v r
set_meant t s n v r outcome = outcome

pub next_free_meant : (t : Tree) (s : ℕ) (r : Result ℕ Refusal) → NextFreeSays t s r → Slots.NextFreeSays tree_view (Changed Refusal Tree) answer_of (λ x. x.map) t s (answer_says r)
next_free_meant t s r outcome = outcome

pub get_meant : (t : Tree) (i : ℕ) (r : Result Bool Refusal) → GetSays t i r → Slots.GetSays tree_view (Changed Refusal Tree) answer_of (λ x. x.map) t i (answer_says r)
get_meant t i r outcome = outcome

pub empty_meant : (t : Tree) (r : Result Bool Refusal) → EmptySays t r → Slots.EmptySays tree_view (Changed Refusal Tree) answer_of (λ x. x.map) t (answer_says r)
empty_meant t r outcome = outcome

pub used_meant : (t : Tree) (r : Result ℕ Refusal) → UsedSays t r → Slots.UsedSays tree_view (Changed Refusal Tree) answer_of (λ x. x.map) t (answer_says r)
used_meant t r outcome = outcome

-- a call by its contract is an outcome of a series
pub a_call_runs : (m : Tree) (c : Asked) (r : Changed Refusal Tree) → Leaves m (call_of 10 (slot_of m) c) r → Ran tree_view (Changed Refusal Tree) answer_of (λ x. x.map) m (c ∷ []) (r ∷ [])
a_call_runs m c r outcome = (outcome, tt)

-- ---- sound trees

pub empty_is_sound : (r : Tree) → NewEmptySays r → Sound r
empty_is_sound r e = rw e (tree_view.made_sound none tt)

pub full_is_sound : (r : Tree) → NewFullSays r → Sound r
full_is_sound r e = rw e (tree_view.made_sound all tt)

-- the full summary is 65,535
pub full_summary : (r : Tree) → NewFullSays r → r.stored.summary ≡ 65535
unfolding number listed marks_of
full_summary r e = ap (λ (t : Tree). t.stored.summary) e

-- a tree made of words is sound, and holds their slots
pub holding_is_sound : (words : List ℕ) (r : Tree) → HoldingSays words r → Sound r
holding_is_sound words r e = rw e ((sound_means (holding words)).1 (marks_right not_zero NotZero finds_not_zero words, marks_right all_ones AllOnes finds_all_ones words, refl))

pub holding_holds : (words : List ℕ) (r : Tree) → HoldingSays words r → (i : ℕ) → slot_of r i ≡ slot_in words i
holding_holds words r e i = ap (λ (t : Tree). slot_of t i) e

-- a sound tree is the tree made of its slots: the same slots are the same words and the same fields
pub made_of_its_slots : (t : Tree) → Sound t → IsTree t → of_slots (slot_of t) ≡ t
made_of_its_slots t = tree_view.same t

-- on a sound tree the words alone decide: two with the same words are the same tree
pub words_decide : (t u : Tree) → Sound t → IsTree t → Sound u → IsTree u → t.words ≡ u.words → t ≡ u
words_decide t u st it su iu same = same_state tree_view t u st it su iu (λ i l. ap (λ (words : List ℕ). slot_in words i) same)

-- so any two outcomes coincide that a contract allows on them, which leaves one outcome
pub words_decide_outcomes : {R : Type 0} (Says : Tree → R → Type 0) → ((t : Tree) (r q : R) → Says t r → Says t q → r ≡ q)
    → (t u : Tree) → Sound t → IsTree t → Sound u → IsTree u → t.words ≡ u.words → (r q : R) → Says t r → Says u q → r ≡ q
words_decide_outcomes Says one_answer t u st it su iu same =
    places_decide tree_view Says one_answer t u st it su iu (λ i l. ap (λ (words : List ℕ). slot_in words i) same)

-- ---- the count tells whether the tree is sound: a crate above asks for it where check 1 is all that it asks of the tree

module _ (t : Tree) (r : Result ℕ Refusal) (outcome : UsedSays t r) where
  sound_said : tree_view.is_sound t ≡ true → answer_says r ≡ value (count (slot_of t) 0 1024)
  sound_said e = outcome ∙ found_sound tree_view t (used_call 10 (slot_of t)) e ∙ used_promise 10 (slot_of t)

  unsound_said : tree_view.is_sound t ≡ false → answer_says r ≡ refused 1
  unsound_said e = outcome ∙ found_unsound tree_view t (used_call 10 (slot_of t)) e

  -- it is refused only where the tree is not sound, and then with 1
  pub refused_unsound : (why : Refusal) → r ≡ Err why → (tree_view.is_sound t ≡ false) × (number_of why ≡ 1)
  refused_unsound why is =
      either (tree_view.is_sound t)
      (λ yes. absurd (value≢refused _ _ (sym (sound_said yes) ∙ ap answer_says is)))
      (λ no. (no, refused_injective (sym (ap answer_says is) ∙ unsound_said no)))

  -- and given only where it is, and is then the number of used slots
  pub counted_sound : (n : ℕ) → r ≡ Ok n → (tree_view.is_sound t ≡ true) × (n ≡ count (slot_of t) 0 1024)
  counted_sound n is =
      either (tree_view.is_sound t)
      (λ yes. (yes, value_injective (sym (ap answer_says is) ∙ sound_said yes)))
      (λ no. absurd (value≢refused _ _ (sym (ap answer_says is) ∙ unsound_said no)))

-- ---- one answer: any two outcomes that a contract allows coincide

pub new_empty_one_answer : (r q : Tree) → NewEmptySays r → NewEmptySays q → r ≡ q
new_empty_one_answer r q p o = p ∙ sym o

pub new_full_one_answer : (r q : Tree) → NewFullSays r → NewFullSays q → r ≡ q
new_full_one_answer r q p o = p ∙ sym o

pub holding_one_answer : (words : List ℕ) (r q : Tree) → HoldingSays words r → HoldingSays words q → r ≡ q
holding_one_answer words r q p o = p ∙ sym o

pub with_summary_one_answer : (t : Tree) (summary : ℕ) (r q : Tree) → WithSummarySays t summary r → WithSummarySays t summary q → r ≡ q
with_summary_one_answer t summary r q p o = p ∙ sym o

pub with_full_one_answer : (t : Tree) (full : ℕ) (r q : Tree) → WithFullSays t full r → WithFullSays t full q → r ≡ q
with_full_one_answer t full r q p o = p ∙ sym o

pub with_count_one_answer : (t : Tree) (count : ℕ) (r q : Tree) → WithCountSays t count r → WithCountSays t count q → r ≡ q
with_count_one_answer t count r q p o = p ∙ sym o

pub words_one_answer : (t : Tree) (r q : List ℕ) → WordsSays t r → WordsSays t q → r ≡ q
words_one_answer t r q p o = p ∙ sym o

pub summary_one_answer : (t : Tree) (r q : ℕ) → SummarySays t r → SummarySays t q → r ≡ q
summary_one_answer t r q p o = p ∙ sym o

pub full_one_answer : (t : Tree) (r q : ℕ) → FullSays t r → FullSays t q → r ≡ q
full_one_answer t r q p o = p ∙ sym o

pub count_one_answer : (t : Tree) (r q : ℕ) → CountSays t r → CountSays t q → r ≡ q
count_one_answer t r q p o = p ∙ sym o

pub take_one_answer : (t : Tree) (n a : ℕ) (r q : Changed Refusal Tree) → TakeSays t n a r → TakeSays t n a q → r ≡ q
take_one_answer t n a = (tree_demands.of_any t).one_answer (take_call 10 (slot_of t) n a)

pub claim_one_answer : (t : Tree) (start n : ℕ) (r q : Changed Refusal Tree) → ClaimSays t start n r → ClaimSays t start n q → r ≡ q
claim_one_answer t start n = (tree_demands.of_any t).one_answer (claim_call 10 (slot_of t) start n)

pub free_one_answer : (t : Tree) (start n : ℕ) (r q : Changed Refusal Tree) → FreeSays t start n r → FreeSays t start n q → r ≡ q
free_one_answer t start n = (tree_demands.of_any t).one_answer (free_call 10 (slot_of t) start n)

pub set_one_answer : (t : Tree) (start n : ℕ) (used : Bool) (r q : Changed Refusal Tree) → SetSays t start n used r → SetSays t start n used q → r ≡ q
set_one_answer t start n used = (tree_demands.of_any t).one_answer (set_call 10 (slot_of t) start n used)

pub next_free_one_answer : (t : Tree) (start : ℕ) (r q : Result ℕ Refusal) → NextFreeSays t start r → NextFreeSays t start q → r ≡ q
next_free_one_answer t start r q p o = answer_says_injective r q (p ∙ sym o)

pub get_one_answer : (t : Tree) (slot : ℕ) (r q : Result Bool Refusal) → GetSays t slot r → GetSays t slot q → r ≡ q
get_one_answer t slot r q p o = answer_says_injective r q (p ∙ sym o)

pub empty_one_answer : (t : Tree) (r q : Result Bool Refusal) → EmptySays t r → EmptySays t q → r ≡ q
empty_one_answer t r q p o = answer_says_injective r q (p ∙ sym o)

pub used_one_answer : (t : Tree) (r q : Result ℕ Refusal) → UsedSays t r → UsedSays t q → r ≡ q
used_one_answer t r q p o = answer_says_injective r q (p ∙ sym o)

pub capacity_one_answer : (r q : ℕ) → CapacitySays r → CapacitySays q → r ≡ q
capacity_one_answer r q p o = p ∙ sym o

pub stored_of_one_answer : (words : List ℕ) (r q : Stored) → StoredOfSays words r → StoredOfSays words q → r ≡ q
stored_of_one_answer words r q p o = p ∙ sym o

pub sound_one_answer : (words : List ℕ) (stored : Stored) (r q : Bool) → SoundSays words stored r → SoundSays words stored q → r ≡ q
sound_one_answer words stored r q p o = p ∙ sym o
