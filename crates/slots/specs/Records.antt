-- The entries of a record, over any kind of state: an entry is a sign and the slots that it names. Nothing here knows when a call is accepted.
-- Rests on `Kinds`.
use Rattle.std.specs.Prelude.{◌≡◌, refl, Bool, true, false, not, ◌&&◌, ℕ, ◌+◌, leb, ltb}
use Rattle.std.proofs.Common.{sym, ◌∙◌, arith, leb-true, leb-false, ltb-true, ltb-false}
use Rattle.std.proofs.Math.Path.{fun_ext}
use mathlib.Core.List.Perm
use mathlib.Core.List.{List, [], ◌∷◌, foldr, Perm}
use Rattle.std.proofs.Math.Nat.{ℕ_set}
use Rattle.bits.specs.Range.{bit, either}
use Rattle.slots.specs.Sets.{Named}
use Rattle.slots.specs.Kinds.{Kind, State, turned, turned_named, turned_other}

pub record Entry : Type 0 where
  -- true where the slots became used, as they are taken or claimed; false where they became free
  pub used : Bool
  -- the slots: so many from the start on
  pub start : ℕ
  pub entries : ℕ

-- the entry the other way round: free what was taken or claimed, claim what was freed
abbrev pub undo : Entry → Entry
undo e = record { used = not e.used; start = e.start; entries = e.entries }

-- ---- a slot is named or not

pub named_or_not : {P : Type 0} (s n i : ℕ) → (Named s n i → P) → ((Named s n i → ⊥) → P) → P
named_or_not s n i yes-named not_named =
    either (leb s i)
    (λ from. either (ltb i (s + n)) (λ below. yes-named (leb-true s i from, ltb-true i (s + n) below))
    (λ past. not_named (λ h. omega (arith, ltb-false i (s + n) past, h.1))))
    (λ before. not_named (λ h. omega (arith, leb-false s i before, h.0)))

twice_not : (b : Bool) → not (not b) ≡ b
twice_not true = refl
twice_not false = refl

abbrev signed : Bool → Bool → Bool
signed true b = b
signed false b = not b

bit_same : (a b : Bool) → bit a ≡ bit b → a ≡ b
bit_same true true h = refl
bit_same true false h = absurd (omega arith)
bit_same false true h = absurd (omega arith)
bit_same false false h = refl

module _ (K : Kind) where
  -- whether the entry names the place
  abbrev pub touches : Entry → K.Place → Bool
  touches e p = K.names e.start e.entries p

  -- the state that it leaves
  abbrev pub after : State K → Entry → State K
  after X e = turned K X e.start e.entries e.used

  -- each place that it names is the other way round. An accepted entry turns; an entry that turns need not be accepted
  abbrev pub Turns : State K → Entry → Type 0
  Turns X e = (p : K.Place) → touches e p ≡ true → X p ≡ not e.used

  abbrev pub AllTurn : State K → List Entry → Type 0
  AllTurn X [] = Unit {0}
  AllTurn X (e ∷ es) = Turns X e × AllTurn (after X e) es

  abbrev pub finally : State K → List Entry → State K
  finally X [] = X
  finally X (e ∷ es) = finally (after X e) es

  -- ---- undoing an entry that turned gives the state back

  module _ (X : State K) (e : Entry) (turns : Turns X e) where
    pub undo_turns : Turns (after X e) (undo e)
    undo_turns p h = turned_named K X e.start e.entries e.used p h ∙ sym (twice_not e.used)

    pub undo_restores : after (after X e) (undo e) ≡ X
    undo_restores = fun_ext (λ p.
        either (touches e p)
        (λ h. turned_named K (after X e) e.start e.entries (not e.used) p h ∙ sym (turns p h))
        (λ h. turned_other K (after X e) e.start e.entries (not e.used) p h ∙ turned_other K X e.start e.entries e.used p h))

  -- ---- in any order: a place is in the end what it was at first, with what set it and without what cleared it

  abbrev named : Bool → K.Place → Entry → ℕ
  named v p e = bit (touches e p && signed v e.used)

  abbrev pub naming : Bool → K.Place → List Entry → ℕ
  naming v p es = foldr (λ e total. named v p e + total) 0 es

  one_entry : (X : State K) (e : Entry) → Turns X e → (p : K.Place) → bit (after X e p) + named false p e ≡ bit (X p) + named true p e
  one_entry X e turns p =
      either (touches e p)
      (λ h. rw (h, turned_named K X e.start e.entries e.used p h, turns p h) (other_way e.used))
      (λ h. rw (h, turned_other K X e.start e.entries e.used p h))
    where
      other_way : (v : Bool) → bit v + bit (not v) ≡ bit (not v) + bit v
      other_way true = refl
      other_way false = refl

  pub all_entries : (X : State K) (es : List Entry) → AllTurn X es → (p : K.Place) → bit (finally X es p) + naming false p es ≡ bit (X p) + naming true p es
  all_entries X [] turn p = refl
  all_entries X (e ∷ es) turn p = omega (arith, one_entry X e turn.0 p, all_entries (after X e) es turn.1 p)

  pub naming_any_order : (v : Bool) (p : K.Place) (es fs : List Entry) → Perm es fs → naming v p es ≡ naming v p fs
  naming_any_order v p es fs same =
      Perm.foldr-eq ℕ_set (λ (e : Entry) (total : ℕ). named v p e + total) (λ d e total. omega arith) {l₁ = es} {l₂ = fs} same 0

  pub any_order : (X : State K) (es fs : List Entry) → Perm es fs → AllTurn X es → AllTurn X fs → (p : K.Place) → finally X es p ≡ finally X fs p
  any_order X es fs same turn also p =
      bit_same _ _ (omega (arith, all_entries X es turn p, all_entries X fs also p, naming_any_order true p es fs same, naming_any_order false p es fs same))
