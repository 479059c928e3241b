-- What request Three asks of a map of jobs: said and proved once, over any capacity, any map below, any layout of the reaped slots and any type of outcome. An
-- outcome is what a call that changes the state gives back: an answer and a state. Rests on `Jobs`, `JobView`, `Turns` and, for the map below, on `Demands`.
use Rattle.std.specs.Prelude.{◌≡◌, ◌↔◌, Bool, false, List, [], ◌∷◌, ◌++◌, ℕ, ◌^◌, ◌≤◌, ◌<◌, T}
use Rattle.answers.specs.Said.{Said, value, refused}
use Rattle.answers.specs.Faults.{FaultsDecide}
use Rattle.answers.specs.declared.Reply.{Reply}
use Rattle.answers.specs.declared.Reply.TheVariants.{At as at, Done as ok}
use Rattle.bits.specs.Range.{count}
use Rattle.slots.specs.Sets.{Named}
use Rattle.slots.specs.Kinds.{plain, State}
use Rattle.slots.specs.Lowest.{LowestFit, NoStart, lowest}
use Rattle.slots.specs.Calls.{Call, says, leaves, empty_call, used_call}
use Rattle.slots.specs.Promises.{InRange, take_faults, get_faults}
use Rattle.slots.specs.View.{View, answered}
use Rattle.slots.specs.Outcome.{Leaves, unsound}
use Rattle.slots.specs.Jobs.{jobs, SlotState, free, running, reaped, used_in, state_in, AllAre, start_call, reap_call, record_call, state_call, reap_faults, record_faults}
use Rattle.slots.specs.JobView.{Paired, jobs_view}
use Rattle.slots.specs.Turns as Turns
use Rattle.slots.specs.Turns.{Asked, call_of, Event, granted, reaping, InTurn, RecordedIn}

module _ (B R : View plain) (M : Type 0) (P : Paired B R M) (Out : Type 0) (said : Out → Said Reply) (left : Out → M) where
  abbrev L : View jobs
  L = jobs_view B R M P

  abbrev X : M → State jobs
  X m = L.state_of m

  abbrev Left : M → Call (State jobs) Reply → Out → Type 0
  Left = Leaves L Out said left

  -- the outcome's state has the slots of the run gone from one slot state to another, and every other slot as it was
  pub record Moved (m : M) (s n : ℕ) (from to : SlotState) (r : Out) : Type 0 where
    pub were : AllAre from (X m) s n
    pub are : AllAre to (X (left r)) s n
    pub others : (i : ℕ) → i < 2 ^ B.k → (Named s n i → ⊥) → state_in (X (left r)) i ≡ state_in (X m) i

  -- what is asked of a state, whether it is sound or not
  pub record OfAny (m : M) : Type 0 where
    -- a call is refused by the least number whose fault holds, and accepted exactly when none does
    pub start_decided : (n a : ℕ) (r : Out) → Left m (start_call B.k (X m) n a) r
        → FaultsDecide (said r) (at (lowest B.k (used_in (X m)) n a)) (unsound L m ∷ take_faults B.k (used_in (X m)) n a)
    pub reap_decided : (s n : ℕ) (r : Out) → Left m (reap_call B.k (X m) s n) r → FaultsDecide (said r) ok (unsound L m ∷ reap_faults B.k (X m) s n)
    pub record_decided : (s n : ℕ) (r : Out) → Left m (record_call B.k (X m) s n) r → FaultsDecide (said r) ok (unsound L m ∷ record_faults B.k (X m) s n)
    pub state_decided : (i : ℕ) (x : Said SlotState) → x ≡ answered L m (state_call B.k (X m) i) → FaultsDecide x (state_in (X m) i) (unsound L m ∷ get_faults B.k i)
    pub empty_decided : (x : Said Bool) → x ≡ answered L m (empty_call B.k (used_in (X m))) → FaultsDecide x (empty_call B.k (used_in (X m))).answer (unsound L m ∷ [])
    pub used_decided : (x : Said ℕ) → x ≡ answered L m (used_call B.k (used_in (X m))) → FaultsDecide x (used_call B.k (used_in (X m))).answer (unsound L m ∷ [])
    -- and then the state handed back is the state handed in
    pub hands_back : (c : Call (State jobs) Reply) (r : Out) → Left m c r → (k : ℕ) → said r ≡ refused k → left r ≡ m
    -- every call leaves a value of the state's type, and one outcome
    pub stays_a_map : L.IsMap m → (c : Call (State jobs) Reply) (r : Out) → Left m c r → L.IsMap (left r)
    pub one_answer : (c : Call (State jobs) Reply) (r q : Out) → Left m c r → Left m c q → r ≡ q

  -- what is asked of a sound state
  pub record OfSound (m : M) : Type 0 where
    pub stays_sound : L.IsMap m → (c : Asked) (r : Out) → Left m (call_of B.k (X m) c) r → L.Sound (left r)
    -- it answers as its marks do, and is left as the state of the marks that are left
    pub answers_as_the_marks : (c : Call (State jobs) Reply) (r : Out) → Left m c r → said r ≡ says c
    pub leaves_the_marks : L.IsMap m → (c : Call (State jobs) Reply) (r : Out) → Left m c r → left r ≡ L.of_state (leaves (X m) c)
    -- start grants exactly the lowest start that is a multiple of 2 ^ a and from which n slots are free, and exactly these run
    pub start_grants : (n a : ℕ) (r : Out) → Left m (start_call B.k (X m) n a) r → (o : ℕ)
        → (said r ≡ value (at o)) ↔ ((0 < n) × (a < B.k) × (n ≤ 2 ^ B.k) × LowestFit B.k (used_in (X m)) n a o)
    pub start_runs : L.IsMap m → (n a : ℕ) (r : Out) → Left m (start_call B.k (X m) n a) r → (o : ℕ) → said r ≡ value (at o) → Moved m o n free running r
    -- with numbers that pass it is refused for room exactly when there is no such run
    pub start_refused_for_room : (n a : ℕ) (r : Out) → Left m (start_call B.k (X m) n a) r → 0 < n → a < B.k → n ≤ 2 ^ B.k
        → (said r ≡ refused 7) ↔ NoStart B.k (used_in (X m)) n a
    -- reap: the named slots, all running, are then reaped
    pub reap_accepts : (s n : ℕ) (r : Out) → Left m (reap_call B.k (X m) s n) r → (said r ≡ value ok) ↔ (InRange B.k s n × AllAre running (X m) s n)
    pub reap_reaps : L.IsMap m → (s n : ℕ) (r : Out) → Left m (reap_call B.k (X m) s n) r → said r ≡ value ok → Moved m s n running reaped r
    -- record: the named slots, all reaped, are then free
    pub record_accepts : (s n : ℕ) (r : Out) → Left m (record_call B.k (X m) s n) r → (said r ≡ value ok) ↔ (InRange B.k s n × AllAre reaped (X m) s n)
    pub record_frees : L.IsMap m → (s n : ℕ) (r : Out) → Left m (record_call B.k (X m) s n) r → said r ≡ value ok → Moved m s n reaped free r
    -- the calls that only ask
    pub state_tells : (i : ℕ) (x : Said SlotState) → x ≡ answered L m (state_call B.k (X m) i) → (is : SlotState) → (x ≡ value is) ↔ ((i < 2 ^ B.k) × (state_in (X m) i ≡ is))
    pub empty_tells : (x : Said Bool) → x ≡ answered L m (empty_call B.k (used_in (X m)))
        → (b : Bool) → (x ≡ value b) ↔ (T b ↔ ((i : ℕ) → i < 2 ^ B.k → used_in (X m) i ≡ false))
    pub used_counts : (x : Said ℕ) → x ≡ answered L m (used_call B.k (used_in (X m))) → x ≡ value (count (used_in (X m)) 0 (2 ^ B.k))

  -- what is asked of a series of starts, reapings and recordings with any numbers, run from any state, of whatever outcomes the contracts allow
  pub record OfSeries (m : M) (cs : List Asked) (rs : List Out) : Type 0 where
    -- each slot's events come in turn: granted, reaped, recorded
    pub in_turn : (p : ℕ) → InTurn p (Turns.slot_is L Out said left m p) (Turns.events_ran L Out said left cs rs) (Turns.slot_is L Out said left (Turns.last_ran L Out said left m rs) p)
    -- so no slot is granted between its reaping and its recording
    pub never_between : (xs ys zs : List Event) (s n o q p : ℕ) → Turns.events_ran L Out said left cs rs ≡ xs ++ (reaping s n ∷ (ys ++ (granted o q ∷ zs)))
        → Named s n p → Named o q p → RecordedIn p ys

  pub record Demands : Type 0 where
    pub of_any : (m : M) → OfAny m
    pub of_sound : (m : M) → L.Sound m → OfSound m
    pub of_series : (m : M) → L.IsMap m → (cs : List Asked) (rs : List Out) → Turns.Ran L Out said left m cs rs → OfSeries m cs rs
