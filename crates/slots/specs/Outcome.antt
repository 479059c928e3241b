-- Outcomes of calls by their contracts, over any kind of state and any layout: an outcome says and leaves what its call does, and a series of them is run one
-- after the other. Rests on `View`.
use Rattle.std.specs.Prelude.{◌≡◌, List, [], ◌∷◌, ℕ}
use Rattle.std.proofs.Common.{sym, ap, ◌∙◌}
use Rattle.answers.specs.Said.{Said, value, refused}
use Rattle.answers.specs.Faults.{Fault, ◌if◌, FaultsDecide}
use Rattle.answers.specs.declared.Reply.{Reply}
use Rattle.slots.specs.Kinds.{Kind, State}
use Rattle.slots.specs.Calls.{Call, says, leaves}
use Rattle.slots.specs.Promises.{RefusedBy}
use Rattle.slots.specs.View.{View, answered, changed, changed_says, changed_refused, changed_sound, changed_map, answered_decided, sound_answers, sound_changes}

-- the fault that stands in front of every list
abbrev pub unsound : {K : Kind} (L : View K) → L.Map → Fault
unsound L m = 1 if (L.Sound m → ⊥)

module _ {K : Kind} (L : View K) (Out : Type 0) (said : Out → Said Reply) (left : Out → L.Map) where
  abbrev pub Leaves : L.Map → Call (State K) Reply → Out → Type 0
  Leaves m c r = ◌≡◌ {A = Said Reply × L.Map} (said r, left r) (changed L m c)

  -- ---- one call

  module _ (m : L.Map) (c : Call (State K) Reply) (r : Out) (outcome : Leaves m c r) where
    pub answer_is : said r ≡ answered L m c
    answer_is = ap (λ out. out.0) outcome ∙ changed_says L m c

    -- it is refused by the least number whose fault holds, and accepted exactly when none does
    pub decided : (fs : List Fault) → RefusedBy c fs → FaultsDecide (said r) c.answer (unsound L m ∷ fs)
    decided fs by = rw answer_is (answered_decided L m c fs by)

    -- on a refusal the very map
    pub hands_back : (k : ℕ) → said r ≡ refused k → left r ≡ m
    hands_back k says_so = ap (λ out. out.1) outcome ∙ changed_refused L m c k (sym (ap (λ out. out.0) outcome) ∙ says_so)

    pub stays_a_map : L.IsMap m → L.IsMap (left r)
    stays_a_map held = rw (ap (λ out. out.1) outcome) (changed_map L m c held)

    -- on a sound map it answers as the state does, and leaves the map of the state that is left
    module _ (sound : L.Sound m) where
      pub as_the_state : said r ≡ says c
      as_the_state = answer_is ∙ sound_answers L m c sound

      pub the_state_left : L.IsMap m → left r ≡ L.of_state (leaves (L.state_of m) c)
      the_state_left held = ap (λ out. out.1) (outcome ∙ sound_changes L m c sound held)

      pub stays_sound : ((reply : Reply) → says c ≡ value reply → K.Right c.after) → L.Sound (left r)
      stays_sound keeps = rw (ap (λ out. out.1) outcome) (changed_sound L m c sound keeps)

  -- two outcomes of one call are the same, where an outcome is known by what it says and leaves
  pub one_answer : ((r q : Out) → said r ≡ said q → left r ≡ left q → r ≡ q) → (m : L.Map) (c : Call (State K) Reply) (r q : Out) → Leaves m c r → Leaves m c q → r ≡ q
  one_answer known m c r q p o = known r q (ap (λ out. out.0) (p ∙ sym o)) (ap (λ out. out.1) (p ∙ sym o))

  -- ---- a series as it was run: each outcome is one of its call on the map that the one before left

  abbrev pub Ran : {Asked : Type 0} → (State K → Asked → Call (State K) Reply) → L.Map → List Asked → List Out → Type 0
  Ran call_of m [] [] = Unit {0}
  Ran call_of m [] (r ∷ rs) = ⊥
  Ran call_of m (c ∷ cs) [] = ⊥
  Ran call_of m (c ∷ cs) (r ∷ rs) = Leaves m (call_of (L.state_of m) c) r × Ran call_of (left r) cs rs

  -- the map that the last one left
  abbrev pub last_ran : L.Map → List Out → L.Map
  last_ran m [] = m
  last_ran m (r ∷ rs) = last_ran (left r) rs
