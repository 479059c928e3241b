-- Free, running, reaped. Each slot has two marks: that it is used, and that its job has ended and has been reaped. What each call on such states means, in
-- a map of 2 ^ k, and what it promises: its faults with their numbers, and what an accepted call answers and leaves. Rests on `Promises` and on `Kinds`.
use Rattle.std.specs.Prelude.{◌≡◌, ◌↔◌, Bool, not, ◌&&◌, List, [], ◌∷◌, ◌++◌, ℕ, ◌^◌, ◌<◌, leb}
use Rattle.std.proofs.Math.Path.{refl, sym}
use Rattle.std.proofs.Common.{ap, ◌∙◌, inl, arith, lt_of_not-le}
use Rattle.std.proofs.Math.Logic.{⊎_elim}
use Rattle.std.proofs.Math.Bool.{true, false}
use Rattle.std.proofs.lemmas.Bool.{false≢true}
use Rattle.answers.specs.Said.{value, ◌when◌}
use Rattle.answers.specs.declared.Reply.{Reply}
use Rattle.answers.specs.declared.Reply.TheVariants.{Done as ok}
use Rattle.answers.specs.Faults.{Fault, ◌if◌, finds_le}
use Rattle.bits.specs.Range.{within, within_found}
use Rattle.slots.specs.Sets.{Slots, Named, all_used, painted, painted_named, painted_other}
use Rattle.slots.specs.Kinds.{Kind, State}
use Rattle.slots.specs.Calls.{Call, says, range_checks, take_call}
use Rattle.slots.specs.Lowest.{lowest}
use Rattle.slots.specs.Records.{named_or_not}
use Rattle.slots.specs.Promises.{Past, InRange, RefusedBy, get_faults, says_decided}

-- ---- the states

-- the marks of slot i
pub data Mark : Type 0 where
  used_at : (i : ℕ) → Mark
  reaped_at : (i : ℕ) → Mark

abbrev pub marked : Mark → ℕ
marked (used_at i) = i
marked (reaped_at i) = i

-- the rule of such a state: a reaped slot is used
abbrev pub jobs : Kind
jobs = record {
  Place = Mark;
  slot_for = marked;
  names = λ s n p. within s n (marked p);
  names_own = λ s n p. within_found s n (marked p);
  Right = λ X. (i : ℕ) → X (reaped_at i) ≡ true → X (used_at i) ≡ true;
}

abbrev pub used_in : State jobs → Slots
used_in X i = X (used_at i)

abbrev pub reaped_in : State jobs → Slots
reaped_in X i = X (reaped_at i)

-- a running slot is used and not reaped
abbrev pub running_in : State jobs → Slots
running_in X i = X (used_at i) && not (X (reaped_at i))

-- the state with these slots used and these reaped
abbrev pub marks : Slots → Slots → State jobs
marks used reaped (used_at i) = used i
marks used reaped (reaped_at i) = reaped i

-- what a slot is
pub data SlotState : Type 0 where
  free : SlotState
  running : SlotState
  reaped : SlotState

abbrev pub state_by : Bool → Bool → SlotState
state_by used true = reaped
state_by true false = running
state_by false false = free

abbrev pub state_in : State jobs → ℕ → SlotState
state_in X i = state_by (X (used_at i)) (X (reaped_at i))

-- ---- the calls that change the state

-- start a group: take n slots at the lowest free start that is a multiple of 2 ^ a
unfoldable pub start_call : ℕ → State jobs → ℕ → ℕ → Call (State jobs) Reply
start_call k X n a =
    let taken = take_call k (used_in X) n a in
    record { checks = taken.checks; answer = taken.answer; after = marks taken.after (reaped_in X) }

-- reap the n slots from s on, all of them running
unfoldable pub reap_call : ℕ → State jobs → ℕ → ℕ → Call (State jobs) Reply
reap_call k X s n =
    let idle = not (all_used (running_in X) s n) in
    record {
      checks = range_checks k s n ++ ((13 when idle) ∷ []);
      answer = ok;
      after = marks (used_in X) (painted (reaped_in X) s n true);
    }

-- record the status of the n slots from s on, all of them reaped; only then they are free
unfoldable pub record_call : ℕ → State jobs → ℕ → ℕ → Call (State jobs) Reply
record_call k X s n =
    let unreaped = not (all_used (reaped_in X) s n) in
    record {
      checks = range_checks k s n ++ ((14 when unreaped) ∷ []);
      answer = ok;
      after = marks (painted (used_in X) s n false) (painted (reaped_in X) s n false);
    }

-- ---- the call that only asks, beside those of slots: what slot i is

unfoldable pub state_call : ℕ → State jobs → ℕ → Call (State jobs) SlotState
state_call k X i =
    let is = state_in X i in
    record { checks = (4 when leb (2 ^ k) i) ∷ []; answer = is; after = X }

-- ---- what they mean

-- each of the n slots from s on is so; one of them is not
abbrev pub AllAre : SlotState → State jobs → ℕ → ℕ → Type 0
AllAre is X s n = (i : ℕ) → Named s n i → state_in X i ≡ is

abbrev pub SomeIsNot : SlotState → State jobs → ℕ → ℕ → Type 0
SomeIsNot is X s n = (i : ℕ) × Named s n i × (state_in X i ≡ is → ⊥)

-- a slot is in one state only
rank : SlotState → ℕ
rank free = 0
rank running = 1
rank reaped = 2

pub free≢running : ◌≡◌ {A = SlotState} free running → ⊥
unfolding rank
free≢running e = let same : ◌≡◌ {A = ℕ} 0 1 = ap rank e in omega arith

pub reaped≢running : ◌≡◌ {A = SlotState} reaped running → ⊥
unfolding rank
reaped≢running e = let same : ◌≡◌ {A = ℕ} 2 1 = ap rank e in omega arith

pub reaped≢free : ◌≡◌ {A = SlotState} reaped free → ⊥
unfolding rank
reaped≢free e = let same : ◌≡◌ {A = ℕ} 2 0 = ap rank e in omega arith

-- its marks tell it
by_running : (used reaped' : Bool) → (used && not reaped' ≡ true) ↔ (state_by used reaped' ≡ running)
by_running true true = (λ e. absurd (false≢true e), λ e. absurd (reaped≢running e))
by_running true false = (λ e. refl, λ e. refl)
by_running false true = (λ e. absurd (false≢true e), λ e. absurd (reaped≢running e))
by_running false false = (λ e. absurd (false≢true e), λ e. absurd (free≢running e))

by_reaped : (used reaped' : Bool) → (reaped' ≡ true) ↔ (state_by used reaped' ≡ reaped)
by_reaped used true = (λ e. refl, λ e. refl)
by_reaped true false = (λ e. absurd (false≢true e), λ e. absurd (reaped≢running (sym e)))
by_reaped false false = (λ e. absurd (false≢true e), λ e. absurd (reaped≢free (sym e)))

by_use : (used reaped' : Bool) → state_by used reaped' ≡ running → used ≡ true
by_use true reaped' e = refl
by_use false true e = absurd (reaped≢running e)
by_use false false e = absurd (free≢running e)

module _ (X : State jobs) (i : ℕ) where
  pub running_means : (running_in X i ≡ true) ↔ (state_in X i ≡ running)
  running_means = by_running (X (used_at i)) (X (reaped_at i))

  pub reaped_means : (reaped_in X i ≡ true) ↔ (state_in X i ≡ reaped)
  reaped_means = by_reaped (X (used_at i)) (X (reaped_at i))

  pub running_used : state_in X i ≡ running → X (used_at i) ≡ true
  running_used = by_use (X (used_at i)) (X (reaped_at i))

  pub free_means : X (used_at i) ≡ false → X (reaped_at i) ≡ false → state_in X i ≡ free
  free_means unused unreaped = rw (unused, unreaped)

-- ---- the faults of request Three

abbrev pub reap_faults : ℕ → State jobs → ℕ → ℕ → List Fault
reap_faults k X s n = (2 if (n ≡ 0)) ∷ (4 if Past k s n) ∷ (13 if SomeIsNot running X s n) ∷ []

abbrev pub record_faults : ℕ → State jobs → ℕ → ℕ → List Fault
record_faults k X s n = (2 if (n ≡ 0)) ∷ (4 if Past k s n) ∷ (14 if SomeIsNot reaped X s n) ∷ []

module _ (k : ℕ) (X : State jobs) where
  pub state_refused : (i : ℕ) → RefusedBy (state_call k X i) (get_faults k i)
  unfolding state_call
  state_refused i = record { rising = omega arith; finds = (refl, finds_le (2 ^ k) i, λ _. tt) }

  -- ---- what an accepted call answers

  -- start says what take says
  pub start_says : (n a : ℕ) → says (start_call k X n a) ≡ says (take_call k (used_in X) n a)
  unfolding says start_call
  start_says n a = refl

  -- a slot's state is told where there is such a slot
  pub state_promise : (i : ℕ) (is : SlotState) → (says (state_call k X i) ≡ value is) ↔ ((i < 2 ^ k) × (state_in X i ≡ is))
  unfolding state_call
  state_promise i is =
      let decided = says_decided (state_call k X i) (get_faults k i) (state_refused i) in (
        λ e. let accepted = (decided.accepts is).0 e in (lt_of_not-le (λ l. accepted.0 4 (inl (refl, l))), accepted.1),
        λ g. (decided.accepts is).1 (λ j. ⊎_elim (λ f. omega (arith, f.1, g.0)) (λ f. f), g.1),
      )

  -- ---- what an accepted call leaves

  -- from one state to the next, exactly the n slots from s on go from one slot state to another
  pub record Moves (Y : State jobs) (s n : ℕ) (from to : SlotState) : Type 0 where
    pub range : InRange k s n
    pub were : AllAre from X s n
    pub are : AllAre to Y s n
    pub others : (i : ℕ) → (Named s n i → ⊥) → state_in Y i ≡ state_in X i

  -- and keeps the rule
  pub start_keeps : jobs.Right X → (n a : ℕ) → jobs.Right (start_call k X n a).after
  unfolding start_call take_call
  start_keeps right n a i r =
      named_or_not (lowest k (used_in X) n a) n i (painted_named (used_in X) _ n true i) (λ h. painted_other (used_in X) _ n true i h ∙ right i r)

  pub record_keeps : jobs.Right X → (s n : ℕ) → jobs.Right (record_call k X s n).after
  unfolding record_call
  record_keeps right s n i r =
      named_or_not s n i (λ h. absurd (false≢true (sym (painted_named (reaped_in X) s n false i h) ∙ r)))
      (λ h. painted_other (used_in X) s n false i h ∙ right i (sym (painted_other (reaped_in X) s n false i h) ∙ r))
