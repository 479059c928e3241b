-- The contract of each call: the meaning of `slots` through the view of jobs, answer and state. Rests on `Layout`.
use Rattle.std.specs.Prelude.{◌≡◌, List, ℕ, Result, Bool}
use Rattle.answers.specs.Answers.{answer_says}
use Rattle.answers.specs.declared.Reply.{Reply}
use Rattle.answers.specs.declared.Refusal.{Refusal}
use Rattle.answers.specs.declared.Changed.{Changed}
use Rattle.slots.specs.Sets.{none}
use Rattle.slots.specs.Kinds as Kinds
use Rattle.slots.specs.Calls.{Call, empty_call, used_call, capacity}
use Rattle.slots.specs.View.{answered, changed}
use Rattle.slots.specs.Jobs.{jobs, marks, start_call, reap_call, record_call, state_call}
use Rattle.tree.specs.declared.Tree.{Tree}
use Rattle.jobs.specs.declared.JobRefusal.{JobRefusal}
use Rattle.jobs.specs.declared.State.{State}
use Rattle.jobs.specs.declared.Jobs.{Jobs}
use Rattle.jobs.specs.JobAnswers.{job_number_of, job_answer_says, state_says}
use Rattle.jobs.specs.Layout.{jobs_of, jobs_view, marks_of, used_of, of_marks}

abbrev pub NumberSays : JobRefusal → ℕ → Type 0
NumberSays refusal r = r ≡ job_number_of refusal

-- the answer and the state, as the meaning has them
abbrev pub Leaves : Jobs → Call (Kinds.State jobs) Reply → Changed JobRefusal Jobs → Type 0
Leaves j call r = (job_answer_says r.answer, r.map) ≡ changed jobs_view j call

abbrev pub NewEmptySays : Jobs → Type 0
NewEmptySays r = r ≡ of_marks (marks none none)

-- a tree and reaped slots, sound or not; what every state lets be read
abbrev pub HoldingSays : Tree → List ℕ → Jobs → Type 0
HoldingSays tree reaped r = r ≡ jobs_of tree reaped

abbrev pub WordsSays : Jobs → List ℕ → Type 0
WordsSays j r = r ≡ j.tree.words

abbrev pub SummarySays : Jobs → ℕ → Type 0
SummarySays j r = r ≡ j.tree.stored.summary

abbrev pub FullSays : Jobs → ℕ → Type 0
FullSays j r = r ≡ j.tree.stored.full

abbrev pub CountSays : Jobs → ℕ → Type 0
CountSays j r = r ≡ j.tree.stored.count

abbrev pub ReapedSays : Jobs → List ℕ → Type 0
ReapedSays j r = r ≡ j.reaped

abbrev pub StartSays : Jobs → ℕ → ℕ → Changed JobRefusal Jobs → Type 0
StartSays j n a r = Leaves j (start_call 10 (marks_of j) n a) r

abbrev pub ReapSays : Jobs → ℕ → ℕ → Changed JobRefusal Jobs → Type 0
ReapSays j start n r = Leaves j (reap_call 10 (marks_of j) start n) r

abbrev pub RecordSays : Jobs → ℕ → ℕ → Changed JobRefusal Jobs → Type 0
RecordSays j start n r = Leaves j (record_call 10 (marks_of j) start n) r

abbrev pub StateSays : Jobs → ℕ → Result State Refusal → Type 0
StateSays j slot r = state_says r ≡ answered jobs_view j (state_call 10 (marks_of j) slot)

abbrev pub EmptySays : Jobs → Result Bool Refusal → Type 0
EmptySays j r = answer_says r ≡ answered jobs_view j (empty_call 10 (used_of j))

abbrev pub UsedSays : Jobs → Result ℕ Refusal → Type 0
UsedSays j r = answer_says r ≡ answered jobs_view j (used_call 10 (used_of j))

abbrev pub CapacitySays : ℕ → Type 0
CapacitySays r = r ≡ capacity 10
