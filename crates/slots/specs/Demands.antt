-- The owner's three demands on a map of slots, and that its calls leave one outcome: said and proved once, over any layout and any type of outcome. An
-- outcome is what a call that changes the map gives back: an answer and a map. Each map has one value of `Demands`. Rests on `Promises`, `View` and `Series`.
use Rattle.std.specs.Prelude.{◌≡◌, ◌↔◌, Bool, true, false, ℕ, ◌^◌, ◌≤◌, ◌<◌, T}
use mathlib.Core.List.{[], ◌∷◌}
use Rattle.answers.specs.Said.{Said, value, refused}
use Rattle.answers.specs.Faults.{FaultsDecide}
use Rattle.answers.specs.declared.Reply.{Reply}
use Rattle.answers.specs.declared.Reply.TheVariants.{At as at, Done as ok}
use Rattle.bits.specs.Range.{count}
use Rattle.slots.specs.Sets.{Slots, Named, painted, AllFree, AllUsed}
use Rattle.slots.specs.Kinds.{plain}
use Rattle.slots.specs.Lowest.{LowestFit, NoStart, lowest, free_from}
use Rattle.slots.specs.Calls.{Call, says, leaves, take_call, claim_call, free_call, set_call, next_free_call, get_call, empty_call, used_call}
use Rattle.slots.specs.Promises as Promises
use Rattle.slots.specs.Promises.{InRange, take_faults, claim_faults, free_faults, set_faults, next_free_faults, get_faults}
use Rattle.slots.specs.View.{View, answered}
use Rattle.slots.specs.Outcome as Outcome
use Rattle.slots.specs.Outcome.{unsound}

module _ (L : View plain) (Out : Type 0) (said : Out → Said Reply) (left : Out → L.Map) where
  -- an outcome of a call says and leaves what the call does
  abbrev pub Leaves : L.Map → Call Slots Reply → Out → Type 0
  Leaves = Outcome.Leaves L Out said left

  abbrev pub TakeSays : L.Map → ℕ → ℕ → Out → Type 0
  TakeSays m n a r = Leaves m (take_call L.k (L.state_of m) n a) r

  abbrev pub ClaimSays : L.Map → ℕ → ℕ → Out → Type 0
  ClaimSays m s n r = Leaves m (claim_call L.k (L.state_of m) s n) r

  abbrev pub FreeSays : L.Map → ℕ → ℕ → Out → Type 0
  FreeSays m s n r = Leaves m (free_call L.k (L.state_of m) s n) r

  abbrev pub SetSays : L.Map → ℕ → ℕ → Bool → Out → Type 0
  SetSays m s n v r = Leaves m (set_call L.k (L.state_of m) s n v) r

  -- what is said by a call that only asks
  abbrev pub NextFreeSays : L.Map → ℕ → Said ℕ → Type 0
  NextFreeSays m s x = x ≡ answered L m (next_free_call L.k (L.state_of m) s)

  abbrev pub GetSays : L.Map → ℕ → Said Bool → Type 0
  GetSays m i x = x ≡ answered L m (get_call L.k (L.state_of m) i)

  abbrev pub EmptySays : L.Map → Said Bool → Type 0
  EmptySays m x = x ≡ answered L m (empty_call L.k (L.state_of m))

  abbrev pub UsedSays : L.Map → Said ℕ → Type 0
  UsedSays m x = x ≡ answered L m (used_call L.k (L.state_of m))

  -- the outcome's map is that of the painted set: slot by slot, the named ones have the value, and the others are as they were
  pub record Painted (m : L.Map) (s n : ℕ) (v : Bool) (r : Out) : Type 0 where
    pub made_of : left r ≡ L.of_state (painted (L.state_of m) s n v)
    pub named : (i : ℕ) → i < 2 ^ L.k → Named s n i → L.state_of (left r) i ≡ v
    pub others : (i : ℕ) → i < 2 ^ L.k → (Named s n i → ⊥) → L.state_of (left r) i ≡ L.state_of m i

  -- what is demanded of a map, whether it is sound or not
  pub record OfAny (m : L.Map) : Type 0 where
    -- demand 1: a call is refused by the least number whose fault holds, and accepted exactly when none does
    pub take_decided : (n a : ℕ) (r : Out) → TakeSays m n a r
        → FaultsDecide (said r) (at (lowest L.k (L.state_of m) n a)) (unsound L m ∷ take_faults L.k (L.state_of m) n a)
    pub claim_decided : (s n : ℕ) (r : Out) → ClaimSays m s n r → FaultsDecide (said r) ok (unsound L m ∷ claim_faults L.k (L.state_of m) s n)
    pub free_decided : (s n : ℕ) (r : Out) → FreeSays m s n r → FaultsDecide (said r) ok (unsound L m ∷ free_faults L.k (L.state_of m) s n)
    pub set_decided : (s n : ℕ) (v : Bool) (r : Out) → SetSays m s n v r → FaultsDecide (said r) ok (unsound L m ∷ set_faults L.k s n)
    pub next_free_decided : (s : ℕ) (x : Said ℕ) → NextFreeSays m s x
        → FaultsDecide x (free_from L.k (L.state_of m) s) (unsound L m ∷ next_free_faults L.k (L.state_of m) s)
    pub get_decided : (i : ℕ) (x : Said Bool) → GetSays m i x → FaultsDecide x (L.state_of m i) (unsound L m ∷ get_faults L.k i)
    pub empty_decided : (x : Said Bool) → EmptySays m x → FaultsDecide x (empty_call L.k (L.state_of m)).answer (unsound L m ∷ [])
    pub used_decided : (x : Said ℕ) → UsedSays m x → FaultsDecide x (used_call L.k (L.state_of m)).answer (unsound L m ∷ [])
    -- and then the map handed back is the map handed in
    pub hands_back : (c : Call Slots Reply) (r : Out) → Leaves m c r → (k : ℕ) → said r ≡ refused k → left r ≡ m
    -- every call leaves a value of the map's type, and one outcome
    pub stays_a_map : L.IsMap m → (c : Call Slots Reply) (r : Out) → Leaves m c r → L.IsMap (left r)
    pub one_answer : (c : Call Slots Reply) (r q : Out) → Leaves m c r → Leaves m c q → r ≡ q

  -- what is demanded of a sound map
  pub record OfSound (m : L.Map) : Type 0 where
    pub stays_sound : (c : Call Slots Reply) (r : Out) → Leaves m c r → L.Sound (left r)
    -- demand 2: it answers as its set does, and is left as the map of the set that is left
    pub answers_as_the_set : (c : Call Slots Reply) (r : Out) → Leaves m c r → said r ≡ says c
    pub leaves_the_set : L.IsMap m → (c : Call Slots Reply) (r : Out) → Leaves m c r → left r ≡ L.of_state (leaves (L.state_of m) c)
    -- take grants exactly the lowest start that is a multiple of 2 ^ a and from which n slots are free, and marks exactly that run
    pub take_grants : (n a : ℕ) (r : Out) → TakeSays m n a r → (o : ℕ)
        → (said r ≡ value (at o)) ↔ ((0 < n) × (a < L.k) × (n ≤ 2 ^ L.k) × LowestFit L.k (L.state_of m) n a o)
    pub take_marks : L.IsMap m → (n a : ℕ) (r : Out) → TakeSays m n a r → (o : ℕ) → said r ≡ value (at o) → Painted m o n true r
    -- with numbers that pass it is refused for room exactly when there is no such run
    pub take_refused_for_room : (n a : ℕ) (r : Out) → TakeSays m n a r → 0 < n → a < L.k → n ≤ 2 ^ L.k
        → (said r ≡ refused 7) ↔ NoStart L.k (L.state_of m) n a
    -- claim: the named slots, all free, become used
    pub claim_accepts : (s n : ℕ) (r : Out) → ClaimSays m s n r → (said r ≡ value ok) ↔ (InRange L.k s n × AllFree (L.state_of m) s n)
    pub claim_marks : L.IsMap m → (s n : ℕ) (r : Out) → ClaimSays m s n r → said r ≡ value ok → Painted m s n true r
    -- free: the named slots, all used, become free
    pub free_accepts : (s n : ℕ) (r : Out) → FreeSays m s n r → (said r ≡ value ok) ↔ (InRange L.k s n × AllUsed (L.state_of m) s n)
    pub free_clears : L.IsMap m → (s n : ℕ) (r : Out) → FreeSays m s n r → said r ≡ value ok → Painted m s n false r
    -- set: each named slot gets the value, whatever it held
    pub set_accepts : (s n : ℕ) (v : Bool) (r : Out) → SetSays m s n v r → (said r ≡ value ok) ↔ InRange L.k s n
    pub set_paints : L.IsMap m → (s n : ℕ) (v : Bool) (r : Out) → SetSays m s n v r → said r ≡ value ok → Painted m s n v r
    -- the calls that only ask
    pub next_free_finds : (s : ℕ) (x : Said ℕ) → NextFreeSays m s x → (slot : ℕ) → (x ≡ value slot) ↔ Promises.NextFree L.k (L.state_of m) s slot
    pub get_tells : (i : ℕ) (x : Said Bool) → GetSays m i x → (b : Bool) → (x ≡ value b) ↔ ((i < 2 ^ L.k) × (L.state_of m i ≡ b))
    pub empty_tells : (x : Said Bool) → EmptySays m x → (b : Bool) → (x ≡ value b) ↔ (T b ↔ ((i : ℕ) → i < 2 ^ L.k → L.state_of m i ≡ false))
    pub used_counts : (x : Said ℕ) → UsedSays m x → x ≡ value (count (L.state_of m) 0 (2 ^ L.k))
