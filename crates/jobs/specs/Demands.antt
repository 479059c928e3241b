-- What request Three asks of jobs: one value of `Demands`, which has the sentences; demand 3 of the tree below, by citing; and that each contract leaves one
-- outcome.
use Rattle.std.specs.Prelude.{◌≡◌, List, [], ◌∷◌, ℕ, ◌<◌, Result, Bool}
use Rattle.std.proofs.Common.{sym, ap, ◌∙◌}
use Rattle.answers.specs.Said.{Said}
use Rattle.answers.specs.Answers.{answer_says}
use Rattle.answers.specs.declared.Reply.{Reply}
use Rattle.answers.proofs.Answers.{answer_says_injective}
use Rattle.answers.specs.declared.Refusal.{Refusal}
use Rattle.answers.specs.declared.Changed.{Changed}
use Rattle.slots.specs.Sets.{none}
use Rattle.slots.specs.Calls.{empty_call, used_call}
use Rattle.slots.specs.View.{answered}
use Rattle.slots.specs.Outcome as Outcome
use Rattle.slots.specs.Plain as Plain
use Rattle.slots.proofs.Demands as Slots
use Rattle.slots.specs.Jobs.{used_at, reaped_at, marks, free, state_in, free_means, start_call, reap_call, record_call, state_call}
use Rattle.slots.specs.Turns.{Asked, call_of, Ran}
use Rattle.slots.specs.JobDemands.{Demands}
use Rattle.slots.proofs.JobDemands.{demanded}
use Rattle.slots.specs.Below.{below}
use Rattle.slots.proofs.Below.{OfBelow, of_below}
use Rattle.tree.specs.declared.Tree.{Tree}
use Rattle.tree.specs.Layout.{tree_view}
use Rattle.tree.specs.Demands.{tree_demands, answer_of as treeAnswerOf}
use Rattle.jobs.specs.declared.JobRefusal.{JobRefusal}
use Rattle.jobs.specs.declared.State.{State}
use Rattle.jobs.specs.declared.Jobs.{Jobs}
use Rattle.jobs.specs.JobAnswers.{job_answer_says, state_says, job_answer_says_injective, state_says_injective}
use Rattle.jobs.specs.Layout.{reaped_view, in_struct, jobs_view, marks_of, used_of, of_marks, Sound, AreJobs}
use Rattle.jobs.specs.Says.{NumberSays, Leaves, NewEmptySays, HoldingSays, WordsSays, SummarySays, FullSays, CountSays, ReapedSays, StartSays, ReapSays, RecordSays, StateSays, EmptySays, UsedSays, CapacitySays}

-- ---- the demands. An outcome is a `Changed`; the contracts of jobs are those of `Demands`, with 2 ^ 10 slots

-- what an outcome says
abbrev pub answer_of : Changed JobRefusal Jobs → Said Reply
answer_of r = job_answer_says r.answer

pub job_demands : Demands tree_view reaped_view Jobs in_struct (Changed JobRefusal Jobs) answer_of (λ r. r.map)
job_demands = demanded tree_view reaped_view Jobs in_struct (Changed JobRefusal Jobs) answer_of (λ r. r.map)
    (λ r q says leaves. λ i. record { answer = job_answer_says_injective r.answer q.answer says i; map = leaves i })

-- each contract is the one that the demands speak of
pub start_meant : (j : Jobs) (n a : ℕ) (r : Changed JobRefusal Jobs) → StartSays j n a r → Outcome.Leaves jobs_view (Changed JobRefusal Jobs) answer_of (λ x. x.map) j (start_call 10 (marks_of j) n a) r
start_meant j n a r outcome = outcome

pub reap_meant : (j : Jobs) (s n : ℕ) (r : Changed JobRefusal Jobs) → ReapSays j s n r → Outcome.Leaves jobs_view (Changed JobRefusal Jobs) answer_of (λ x. x.map) j (reap_call 10 (marks_of j) s n) r
reap_meant j s n r outcome = outcome

pub record_meant : (j : Jobs) (s n : ℕ) (r : Changed JobRefusal Jobs) → RecordSays j s n r → Outcome.Leaves jobs_view (Changed JobRefusal Jobs) answer_of (λ x. x.map) j (record_call 10 (marks_of j) s n) r
record_meant j s n r outcome = outcome

pub state_meant : (j : Jobs) (slot : ℕ) (r : Result State Refusal) → StateSays j slot r → state_says r ≡ answered jobs_view j (state_call 10 (marks_of j) slot)
state_meant j slot r outcome = outcome

pub empty_meant : (j : Jobs) (r : Result Bool Refusal) → EmptySays j r → answer_says r ≡ answered jobs_view j (empty_call 10 (used_of j))
empty_meant j r outcome = outcome

pub used_meant : (j : Jobs) (r : Result ℕ Refusal) → UsedSays j r → answer_says r ≡ answered jobs_view j (used_call 10 (used_of j))
used_meant j r outcome = outcome

-- a call by its contract is an outcome of a series
pub a_call_runs : (j : Jobs) (c : Asked) (r : Changed JobRefusal Jobs) → Leaves j (call_of 10 (marks_of j) c) r → Ran jobs_view (Changed JobRefusal Jobs) answer_of (λ x. x.map) j (c ∷ []) (r ∷ [])
a_call_runs j c r outcome = (outcome, tt)

-- ---- demand 3 of the tree below

-- the takes and frees that reached the tree
abbrev pub reached : List Asked → List (Changed JobRefusal Jobs) → List Plain.Asked
reached = below tree_view reaped_view Jobs in_struct (Changed JobRefusal Jobs) answer_of (λ x. x.map) (Changed Refusal Tree) treeAnswerOf (λ x. x.map)

abbrev pub OfTree : Jobs → List Asked → List (Changed JobRefusal Jobs) → List (Changed Refusal Tree) → Type 0
OfTree = OfBelow tree_view reaped_view Jobs in_struct (Changed JobRefusal Jobs) answer_of (λ x. x.map) (Changed Refusal Tree) treeAnswerOf (λ x. x.map)

-- whatever the tree answers to them, it ends in the tree that the jobs have; its record is that of the grants and the recordings, and this can be walked
-- backward, replayed and reordered
pub tree_below : (j : Jobs) → Sound j → AreJobs j → (cs : List Asked) (rs : List (Changed JobRefusal Jobs)) → Ran jobs_view (Changed JobRefusal Jobs) answer_of (λ x. x.map) j cs rs
    → (ts : List (Changed Refusal Tree)) → Slots.Ran tree_view (Changed Refusal Tree) treeAnswerOf (λ x. x.map) j.tree (reached cs rs) ts → OfTree j cs rs ts
tree_below = of_below tree_view reaped_view Jobs in_struct (Changed JobRefusal Jobs) answer_of (λ x. x.map) (Changed Refusal Tree) treeAnswerOf (λ x. x.map) tree_demands

-- ---- sound states

-- the empty one is sound, and each of its slots is free
pub empty_is_sound : (r : Jobs) → NewEmptySays r → Sound r
empty_is_sound r e = rw e (jobs_view.made_sound (marks none none) (λ i is. is))

pub empty_is_free : (r : Jobs) → NewEmptySays r → (i : ℕ) → i < 1024 → state_in (marks_of r) i ≡ free
empty_is_free r e i l =
    ap (λ (j : Jobs). state_in (marks_of j) i) e
    ∙ free_means (marks_of (of_marks (marks none none))) i (jobs_view.holds (marks none none) (used_at i) l) (jobs_view.holds (marks none none) (reaped_at i) l)

-- ---- one answer: any two outcomes that a contract allows coincide

pub number_one_answer : (refusal : JobRefusal) (r q : ℕ) → NumberSays refusal r → NumberSays refusal q → r ≡ q
number_one_answer refusal r q p o = p ∙ sym o

pub new_empty_one_answer : (r q : Jobs) → NewEmptySays r → NewEmptySays q → r ≡ q
new_empty_one_answer r q p o = p ∙ sym o

pub holding_one_answer : (tree : Tree) (reaped : List ℕ) (r q : Jobs) → HoldingSays tree reaped r → HoldingSays tree reaped q → r ≡ q
holding_one_answer tree reaped r q p o = p ∙ sym o

pub words_one_answer : (j : Jobs) (r q : List ℕ) → WordsSays j r → WordsSays j q → r ≡ q
words_one_answer j r q p o = p ∙ sym o

pub summary_one_answer : (j : Jobs) (r q : ℕ) → SummarySays j r → SummarySays j q → r ≡ q
summary_one_answer j r q p o = p ∙ sym o

pub full_one_answer : (j : Jobs) (r q : ℕ) → FullSays j r → FullSays j q → r ≡ q
full_one_answer j r q p o = p ∙ sym o

pub count_one_answer : (j : Jobs) (r q : ℕ) → CountSays j r → CountSays j q → r ≡ q
count_one_answer j r q p o = p ∙ sym o

pub reaped_one_answer : (j : Jobs) (r q : List ℕ) → ReapedSays j r → ReapedSays j q → r ≡ q
reaped_one_answer j r q p o = p ∙ sym o

pub start_one_answer : (j : Jobs) (n a : ℕ) (r q : Changed JobRefusal Jobs) → StartSays j n a r → StartSays j n a q → r ≡ q
start_one_answer j n a = (job_demands.of_any j).one_answer (start_call 10 (marks_of j) n a)

pub reap_one_answer : (j : Jobs) (start n : ℕ) (r q : Changed JobRefusal Jobs) → ReapSays j start n r → ReapSays j start n q → r ≡ q
reap_one_answer j start n = (job_demands.of_any j).one_answer (reap_call 10 (marks_of j) start n)

pub record_one_answer : (j : Jobs) (start n : ℕ) (r q : Changed JobRefusal Jobs) → RecordSays j start n r → RecordSays j start n q → r ≡ q
record_one_answer j start n = (job_demands.of_any j).one_answer (record_call 10 (marks_of j) start n)

pub state_one_answer : (j : Jobs) (slot : ℕ) (r q : Result State Refusal) → StateSays j slot r → StateSays j slot q → r ≡ q
state_one_answer j slot r q p o = state_says_injective r q (p ∙ sym o)

pub empty_one_answer : (j : Jobs) (r q : Result Bool Refusal) → EmptySays j r → EmptySays j q → r ≡ q
empty_one_answer j r q p o = answer_says_injective r q (p ∙ sym o)

pub used_one_answer : (j : Jobs) (r q : Result ℕ Refusal) → UsedSays j r → UsedSays j q → r ≡ q
used_one_answer j r q p o = answer_says_injective r q (p ∙ sym o)

pub capacity_one_answer : (r q : ℕ) → CapacitySays r → CapacitySays q → r ≡ q
capacity_one_answer r q p o = p ∙ sym o
