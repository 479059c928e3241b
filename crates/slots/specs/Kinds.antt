-- Kinds of states. A state says of each place whether it is set. A kind says which places there are, which of them a range of slots names, and the rule
-- that a state keeps. Here is the kind of slots: each slot is a place, and there is no rule. That of jobs, with two places a slot, is in `Jobs`. Rests on
-- `Sets`.
use Rattle.std.specs.Prelude.{◌≡◌, refl, Bool, true, false, ℕ}
use Rattle.bits.specs.Range.{within, within_found}
use Rattle.slots.specs.Sets.{Slots, Named, painted}

pub record Kind : Type 1 where
  pub Place : Type 0
  -- the slot that a place belongs to
  pub slot_for : Place → ℕ
  -- the places that the n slots from s on name, which a take or a claim of them sets and their free clears: each belongs to one of these slots
  pub names : ℕ → ℕ → Place → Bool
  pub names_own : (s n : ℕ) (p : Place) → names s n p ≡ true → Named s n (slot_for p)
  -- the rule that every call keeps
  pub Right : (Place → Bool) → Type 0

abbrev pub State : Kind → Type 0
State K = K.Place → Bool

-- ---- the state in which each place that the run names has the value v, and every other is as in X

module _ (K : Kind) (X : State K) (s n : ℕ) where
  unfoldable pub turned : Bool → State K
  turned v p = elim (K.names s n p) [ true ↦ v | false ↦ X p ]

  pub turned_named : (v : Bool) (p : K.Place) → K.names s n p ≡ true → turned v p ≡ v
  unfolding turned
  turned_named v p e = rw (e, turned)

  pub turned_other : (v : Bool) (p : K.Place) → K.names s n p ≡ false → turned v p ≡ X p
  unfolding turned
  turned_other v p e = rw (e, turned)

-- ---- the kind of slots: each slot is a place, and every state is right

abbrev pub plain : Kind
plain = record {
  Place = ℕ;
  slot_for = λ i. i;
  names = within;
  names_own = within_found;
  Right = λ X. Unit {0};
}

-- painting a run is turning its places
pub turned_painted : (S : Slots) (s n : ℕ) (v : Bool) → turned plain S s n v ≡ painted S s n v
unfolding turned painted
turned_painted S s n v = refl
