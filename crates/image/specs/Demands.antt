-- What this crate owes: its refusals in their order, 16 before all others; that a refused call keeps every byte; that reading what was written gives the map
-- and writing what was read gives the bytes; that a call for C is the tree's call on the map that the image holds; and one outcome of each contract.
use Rattle.std.specs.Prelude.{◌≡◌, ◌↔◌, Bool, true, false, ℕ, T, eqb, ℤ, length, Result}
use Rattle.std.proofs.Math.Path.{refl, sym, ap}
use Rattle.std.proofs.Common.{◌∙◌}
use Rattle.std.proofs.Math.Bool.{not}
use mathlib.Core.List.{List, [], ◌∷◌, ◌++◌}
use Rattle.answers.specs.Said.{Said, value, refused, ◌when◌, judged, judged_on_value, on_value, leaving, leaving_says, leaving_refused, leaving_value, leaving_kept, value≢refused}
use Rattle.answers.specs.Faults.{Fault, ◌if◌, First, Finds, judged_refuses, finds_eq, finds_not}
use Rattle.answers.specs.Answers.{answer_says}
use Rattle.answers.proofs.Answers.{answer_says_by_injective}
use Rattle.answers.specs.declared.Reply.{Reply}
use Rattle.answers.specs.declared.Refusal.{Refusal}
use Rattle.slots.specs.Sets.{Slots, none}
use Rattle.slots.specs.Calls.{Call, used_call}
use Rattle.slots.specs.Promises.{take_faults, free_faults}
use Rattle.slots.specs.View.{answered, says_refused, says_accepted}
use Rattle.tree.specs.declared.Tree.{Tree}
use Rattle.answers.specs.declared.Changed.{Changed}
use Rattle.tree.specs.Layout.{of_slots, slot_of, tree_view, Sound}
use Rattle.tree.specs.Says as Tree
use Rattle.image.specs.declared.ImageRefusal.{ImageRefusal}
use Rattle.image.specs.declared.Reading.{Reading}
use Rattle.image.specs.Image.{image_of, is_image, held_in, TwoFields, SummaryAgrees}
use Rattle.image.specs.ImageAnswers.{image_number_of, image_number_injective, numbered}
use Rattle.image.specs.Inner.{left_on}
use Rattle.image.specs.Says.{NumberSays, written, WriteSays, read_of, ReadSays, Asked, take, free, used, on_bytes, call_of, answered_on, Tells, TakeTells, FreeTells, UsedTells}

-- ---- when a call is refused

-- two such tests pass exactly where neither fault holds
pub both_pass : (a b : Bool) {P Q : Type 0} → T a ↔ P → T b ↔ Q → (judged ((16 when not a) ∷ (1 when not b) ∷ []) (tt {0}) ≡ value (tt {0})) ↔ (P × Q)
unfolding judged
both_pass true true p q = (λ _. (p.0 tt, q.0 tt), λ _. refl)
both_pass true false p q = (λ e. absurd (value≢refused (tt {0}) 1 (sym e)), λ h. absurd (q.1 h.1))
both_pass false b p q = (λ e. absurd (value≢refused (tt {0}) 16 (sym e)), λ h. absurd (p.1 h.0))

finds_sound : (t : Tree) → T (not (tree_view.is_sound t)) ↔ (Sound t → ⊥)
finds_sound t = finds_not (tree_view.is_sound t) (tree_view.finds_sound t)

-- of every image: the bytes are not the two fields; the summary is at odds
abbrev pub image_faults : List ℕ → List Fault
image_faults bytes = (16 if (TwoFields bytes → ⊥)) ∷ (1 if (SummaryAgrees bytes → ⊥)) ∷ []

-- and of each call, as on the tree
abbrev pub own_faults : List ℕ → Asked → List Fault
own_faults bytes (take n a) = take_faults 10 (slot_of (held_in bytes)) n a
own_faults bytes (free start n) = free_faults 10 (slot_of (held_in bytes)) start n
own_faults bytes used = []

-- writing: the buffer is not as long as an image; the map is not sound
module _ (t : Tree) (buffer : List ℕ) where
  abbrev pub write_faults : List Fault
  write_faults = (16 if (length buffer ≡ 136 → ⊥)) ∷ (1 if (Sound t → ⊥)) ∷ []

  write_found : Finds ((16 when not (eqb (length buffer) 136)) ∷ (1 when not (tree_view.is_sound t)) ∷ []) write_faults
  write_found = (refl, finds_not (eqb (length buffer) 136) (finds_eq (length buffer) 136), λ _. (refl, finds_sound t, λ _. tt))

  pub write_refuses : (k : ℕ) → ((written t buffer).0 ≡ refused k) ↔ First k write_faults
  unfolding written
  write_refuses k = rw (leaving_says (λ _. image_of t) buffer _) (judged_refuses _ write_faults tt k write_found)

  pub write_accepts : ((written t buffer).0 ≡ value tt) ↔ ((length buffer ≡ 136) × Sound t)
  unfolding written
  write_accepts =
      rw (leaving_says (λ _. image_of t) buffer _) (both_pass (eqb (length buffer) 136) (tree_view.is_sound t) (finds_eq (length buffer) 136) (tree_view.finds_sound t))

  -- a refused write keeps every byte; an accepted one leaves the image
  pub write_refused : (k : ℕ) → (written t buffer).0 ≡ refused k → (written t buffer).1 ≡ buffer
  unfolding written
  write_refused k = leaving_refused (λ _. image_of t) buffer _ k

  pub write_accepted : (written t buffer).0 ≡ value tt → (written t buffer).1 ≡ image_of t
  unfolding written
  write_accepted = leaving_value (λ _. image_of t) buffer _ tt

-- reading
module _ (bytes : List ℕ) where
  -- a refused read gives the empty map, an accepted one the map that the bytes hold
  pub read_refused : (k : ℕ) → (read_of bytes).0 ≡ refused k → (read_of bytes).1 ≡ of_slots none
  unfolding read_of
  read_refused k = leaving_refused (λ _. held_in bytes) (of_slots none) _ k

  pub read_accepted : (read_of bytes).0 ≡ value tt → (read_of bytes).1 ≡ held_in bytes
  unfolding read_of
  read_accepted = leaving_value (λ _. held_in bytes) (of_slots none) _ tt

-- ---- the calls for C

module _ (bytes : List ℕ) (asked : Asked) where
  abbrev pub faults : List Fault
  faults = image_faults bytes ++ own_faults bytes asked

  -- any two outcomes that the contract allows coincide
  tells_one_answer : (r q : ℤ) (after other : List ℕ) → Tells bytes asked r after → Tells bytes asked q other → (r ≡ q) × (after ≡ other)
  tells_one_answer r q after other p o = (ap (λ x. x.0) (p ∙ sym o), ap (λ x. x.1) (p ∙ sym o))

-- ---- a call for C is the tree's call on the map that the image holds

module _ (bytes : List ℕ) where
  -- bytes that are no image are refused with 16, before all else
  pub no_image : (c : Call (List ℕ) ℕ) → is_image bytes ≡ false → answered_on bytes c ≡ (refused 16, bytes)
  unfolding answered_on judged leaving
  no_image c e = rw e

  -- and of an image the tree decides
  module _ (is : is_image bytes ≡ true) where
    pub a_count : (q : Result ℕ Refusal) → Tree.UsedSays (held_in bytes) q → answered_on bytes (call_of bytes used) ≡ (answer_says q, bytes)
    unfolding answered_on answered judged
    a_count q outcome =
        let counted = used_call 10 (slot_of (held_in bytes)) in
        ap (λ (b : Bool). leaving (judged ((16 when not b) ∷ (1 when not (tree_view.is_sound (held_in bytes))) ∷ counted.checks) counted.answer) (λ _. bytes) bytes) is
        ∙ ap (λ (said : Said ℕ). leaving said (λ _. bytes) bytes) (sym outcome)
        ∙ leaving_kept (answer_says q) bytes

    by_said : (c : Call Slots Reply) (r : Changed Refusal Tree) → Tree.Leaves (held_in bytes) c r → (said : Said Reply) → answered tree_view (held_in bytes) c ≡ said
        → leaving (on_value numbered said) (λ _. image_of (of_slots c.after)) bytes ≡ left_on bytes r
    unfolding left_on leaving on_value
    by_said c r outcome (value x) e =
        let whole = outcome ∙ says_accepted tree_view (held_in bytes) c x e in
        sym (ap (λ out. leaving (on_value numbered out.0) (λ _. image_of out.1) bytes) whole)
    by_said c r outcome (refused k) e =
        let whole = outcome ∙ says_refused tree_view (held_in bytes) c k e in
        sym (ap (λ out. leaving (on_value numbered out.0) (λ _. image_of out.1) bytes) whole)

    pub a_change : (c : Call Slots Reply) (r : Changed Refusal Tree) → Tree.Leaves (held_in bytes) c r → answered_on bytes (on_bytes c) ≡ left_on bytes r
    unfolding answered_on answered judged
    a_change c r outcome =
        let own = (1 when not (tree_view.is_sound (held_in bytes))) ∷ c.checks in
        ap (λ (b : Bool). leaving (judged ((16 when not b) ∷ own) (numbered c.answer)) (λ _. image_of (of_slots c.after)) bytes) is
        ∙ ap (λ (said : Said ℕ). leaving said (λ _. image_of (of_slots c.after)) bytes) (sym (judged_on_value numbered own c.answer))
        ∙ by_said c r outcome (answered tree_view (held_in bytes) c) refl

-- ---- one answer: any two outcomes that a contract allows coincide

pub number_one_answer : (refusal : ImageRefusal) (r q : ℕ) → NumberSays refusal r → NumberSays refusal q → r ≡ q
number_one_answer refusal r q p o = p ∙ sym o

pub write_one_answer : (t : Tree) (buffer : List ℕ) (r q : Result Unit ImageRefusal) (after other : List ℕ) → WriteSays t buffer r after → WriteSays t buffer q other → (r ≡ q) × (after ≡ other)
write_one_answer t buffer r q after other p o = (answer_says_by_injective image_number_of image_number_injective r q (ap (λ x. x.0) (p ∙ sym o)), ap (λ x. x.1) (p ∙ sym o))

pub read_one_answer : (bytes : List ℕ) (r q : Reading) → ReadSays bytes r → ReadSays bytes q → r ≡ q
read_one_answer bytes r q p o =
    let same = p ∙ sym o in
    (λ i. record { answer = answer_says_by_injective image_number_of image_number_injective r.answer q.answer (ap (λ x. x.0) same) i; map = (same i).1 })

pub take_one_answer : (bytes : List ℕ) (n a : ℕ) (r q : ℤ) (after other : List ℕ) → TakeTells bytes n a r after → TakeTells bytes n a q other → (r ≡ q) × (after ≡ other)
take_one_answer bytes n a = tells_one_answer bytes (take n a)

pub free_one_answer : (bytes : List ℕ) (start n : ℕ) (r q : ℤ) (after other : List ℕ) → FreeTells bytes start n r after → FreeTells bytes start n q other → (r ≡ q) × (after ≡ other)
free_one_answer bytes start n = tells_one_answer bytes (free start n)

pub used_one_answer : (bytes : List ℕ) (r q : ℤ) (after other : List ℕ) → UsedTells bytes r after → UsedTells bytes q other → (r ≡ q) × (after ≡ other)
used_one_answer bytes = tells_one_answer bytes used
