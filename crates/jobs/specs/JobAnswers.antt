-- The refusals and answers of this crate in the papers' terms: each refusal's number, and what each answer says. Two answers that say the same are the same.
use Rattle.std.specs.Prelude.{◌≡◌, refl, true, false, ℕ, eqb, Result, Ok, Err}
use Rattle.std.proofs.Common.{ap, arith}
use Rattle.answers.specs.Said.{Said, value, refused, value_injective, refused_injective}
use Rattle.answers.specs.Refusals.{number_of, number_other, named, named_number, undone_injective}
use Rattle.answers.specs.Answers.{answer_says_by}
use Rattle.answers.specs.declared.Refusal.{Refusal}
use Rattle.answers.proofs.Refusals.{number_injective}
use Rattle.answers.proofs.Answers.{answer_says_by_injective}
use Rattle.slots.specs.Jobs.{SlotState, free, running, reaped}
use Rattle.jobs.specs.declared.JobRefusal.{JobRefusal}
use Rattle.jobs.specs.declared.JobRefusal.TheVariants.{Map, NotRunning, NotReaped}
use Rattle.jobs.specs.declared.State.{State}
use Rattle.jobs.specs.declared.State.TheVariants.{Free, Running, Reaped}

abbrev pub job_number_of : JobRefusal → ℕ
job_number_of (Map why) = number_of why
job_number_of NotRunning = 13
job_number_of NotReaped = 14

abbrev pub job_answer_says : {A : Type 0} → Result A JobRefusal → Said A
job_answer_says = answer_says_by job_number_of

abbrev pub slot_state : State → SlotState
slot_state Free = free
slot_state Running = running
slot_state Reaped = reaped

abbrev pub state_says : Result State Refusal → Said SlotState
state_says (Ok state) = value (slot_state state)
state_says (Err why) = refused (number_of why)

-- ---- two that say the same are the same

-- the refusal that has a number, and none of those below past 12
job_named : ℕ → JobRefusal
job_named n = elim (eqb n 13) [ true ↦ NotRunning | false ↦ elim (eqb n 14) [ true ↦ NotReaped | false ↦ Map (named n) ] ]

job_named_number : (r : JobRefusal) → job_named (job_number_of r) ≡ r
unfolding job_named
job_named_number (Map why) = rw (job_named, number_other why 13 (omega arith), number_other why 14 (omega arith)) (ap Map (named_number why))
job_named_number NotRunning = refl
job_named_number NotReaped = refl

-- no two refusals share a number, those of the maps below among them
pub job_number_injective : (r s : JobRefusal) → job_number_of r ≡ job_number_of s → r ≡ s
job_number_injective = undone_injective job_number_of job_named job_named_number

pub job_answer_says_injective : {A : Type 0} (r s : Result A JobRefusal) → job_answer_says r ≡ job_answer_says s → r ≡ s
job_answer_says_injective = answer_says_by_injective job_number_of job_number_injective

being : SlotState → State
being free = Free
being running = Running
being reaped = Reaped

being_back : (s : State) → being (slot_state s) ≡ s
unfolding being
being_back Free = refl
being_back Running = refl
being_back Reaped = refl

pub state_says_injective : (r s : Result State Refusal) → state_says r ≡ state_says s → r ≡ s
state_says_injective (Ok a) (Ok b) e = ap Ok (undone_injective slot_state being being_back a b (value_injective e))
state_says_injective (Ok a) (Err y) e = cc
state_says_injective (Err x) (Ok b) e = cc
state_says_injective (Err x) (Err y) e = ap Err (number_injective x y (refused_injective e))
