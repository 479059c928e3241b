-- The owner's rule: never trust a slot after its job has ended until its status is recorded. Over any layout of jobs and any series of calls with any numbers,
-- of whatever outcomes the contracts allow: each slot's events come in turn, granted, reaped, recorded; so no slot is granted between its reaping and its
-- recording. Rests on `Jobs` and on `Outcome`.
use Rattle.std.specs.Prelude.{◌≡◌, ◌⊎◌, List, [], ◌∷◌, ◌++◌, ℕ, ◌^◌, ◌<◌}
use Rattle.std.proofs.Common.{ap₂, inl, inr}
use Rattle.answers.specs.Said.{Said, value, refused}
use Rattle.answers.specs.declared.Reply.{Reply}
use Rattle.slots.specs.Sets.{Named}
use Rattle.slots.specs.Kinds.{State}
use Rattle.slots.specs.Calls.{Call}
use Rattle.slots.specs.Plain.{start_of}
use Rattle.slots.specs.View.{View}
use Rattle.slots.specs.Outcome as Outcome
use Rattle.slots.specs.Jobs.{jobs, used_at, reaped_at, SlotState, free, running, reaped, state_by, state_in, start_call, reap_call, record_call, reaped≢free, reaped≢running}

-- ---- calls and events

-- any list of these with any numbers may stand in a series
pub data Asked : Type 0 where
  -- a group of n slots at a multiple of 2 ^ a
  start : (n a : ℕ) → Asked
  -- the n slots from s on
  reap : (s n : ℕ) → Asked
  record_status : (s n : ℕ) → Asked

abbrev pub call_of : ℕ → State jobs → Asked → Call (State jobs) Reply
call_of k X (start n a) = start_call k X n a
call_of k X (reap s n) = reap_call k X s n
call_of k X (record_status s n) = record_call k X s n

-- what an accepted call does to the n slots from s on
pub data Event : Type 0 where
  granted : (s n : ℕ) → Event
  reaping : (s n : ℕ) → Event
  recording : (s n : ℕ) → Event

abbrev pub event_of : Asked → Reply → Event
event_of (start n a) reply = granted (start_of reply) n
event_of (reap s n) reply = reaping s n
event_of (record_status s n) reply = recording s n

-- a refused call is no event
abbrev pub written : Asked → Said Reply → List Event → List Event
written c (value reply) es = event_of c reply ∷ es
written c (refused r) es = es

-- ---- the events of one slot

-- where its slots begin, and how many they are
abbrev pub run_of : Event → ℕ × ℕ
run_of (granted s n) = (s, n)
run_of (reaping s n) = (s, n)
run_of (recording s n) = (s, n)

abbrev pub Names : Event → ℕ → Type 0
Names e p = Named (run_of e).0 (run_of e).1 p

-- what each of its slots has to be before it, and what it is after it
abbrev pub before : Event → SlotState
before (granted s n) = free
before (reaping s n) = running
before (recording s n) = reaped

abbrev pub after : Event → SlotState
after (granted s n) = running
after (reaping s n) = reaped
after (recording s n) = free

-- from one state of slot p to another, each event either names the slot, which then is as it has to be, or passes it by
abbrev pub InTurn : ℕ → SlotState → List Event → SlotState → Type 0
InTurn p is [] to = is ≡ to
InTurn p is (e ∷ es) to = (Names e p × (is ≡ before e) × InTurn p (after e) es to) ⊎ ((Names e p → ⊥) × InTurn p is es to)

-- slot p's status is recorded by one of the events
abbrev pub RecordedIn : ℕ → List Event → Type 0
RecordedIn p [] = ⊥
RecordedIn p (granted s n ∷ es) = RecordedIn p es
RecordedIn p (reaping s n ∷ es) = RecordedIn p es
RecordedIn p (recording s n ∷ es) = Named s n p ⊎ RecordedIn p es

-- ---- where events come in turn, a slot that is reaped is granted only after its recording

module _ (p o m : ℕ) (zs : List Event) (granting : Named o m p) where
  waits : (ys : List Event) (to : SlotState) → InTurn p reaped (ys ++ (granted o m ∷ zs)) to → RecordedIn p ys
  waits [] to (inl t) = absurd (reaped≢free t.1)
  waits [] to (inr t) = absurd (t.0 granting)
  waits (granted s n ∷ ys) to (inl t) = absurd (reaped≢free t.1)
  waits (granted s n ∷ ys) to (inr t) = waits ys to t.1
  waits (reaping s n ∷ ys) to (inl t) = absurd (reaped≢running t.1)
  waits (reaping s n ∷ ys) to (inr t) = waits ys to t.1
  waits (recording s n ∷ ys) to (inl t) = inl t.0
  waits (recording s n ∷ ys) to (inr t) = inr (waits ys to t.1)

  pub recorded_between : (s n : ℕ) → Named s n p → (ys xs : List Event) (is to : SlotState) → InTurn p is (xs ++ (reaping s n ∷ (ys ++ (granted o m ∷ zs)))) to → RecordedIn p ys
  recorded_between s n named ys [] is to (inl t) = waits ys to t.2
  recorded_between s n named ys [] is to (inr t) = absurd (t.0 named)
  recorded_between s n named ys (x ∷ xs) is to (inl t) = recorded_between s n named ys xs (after x) to t.2
  recorded_between s n named ys (x ∷ xs) is to (inr t) = recorded_between s n named ys xs is to t.1

-- ---- of outcomes

module _ (L : View jobs) (Out : Type 0) (said : Out → Said Reply) (left : Out → L.Map) where
  -- a series as it was run, the events that the caller knows from its answers, and the state that the last outcome left
  abbrev pub Ran : L.Map → List Asked → List Out → Type 0
  Ran = Outcome.Ran L Out said left (call_of L.k)

  abbrev pub events_ran : List Asked → List Out → List Event
  events_ran [] rs = []
  events_ran (c ∷ cs) [] = []
  events_ran (c ∷ cs) (r ∷ rs) = written c (said r) (events_ran cs rs)

  abbrev pub last_ran : L.Map → List Out → L.Map
  last_ran = Outcome.last_ran L Out said left

  -- what slot p is
  abbrev pub slot_is : L.Map → ℕ → SlotState
  slot_is m p = state_in (L.state_of m) p

  pub slot_made : (X : State jobs) (p : ℕ) → p < 2 ^ L.k → slot_is (L.of_state X) p ≡ state_in X p
  slot_made X p l = ap₂ state_by (L.holds X (used_at p) l) (L.holds X (reaped_at p) l)
