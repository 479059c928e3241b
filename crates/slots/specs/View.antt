-- The view of one layout: how its maps hold states of one kind, by two functions and their laws; and what follows from these for every call on any
-- layout. Rests on `Promises`.
use Rattle.std.specs.Prelude.{◌≡◌, ◌↔◌, Bool, true, false, not, List, ◌∷◌, ℕ, ◌^◌, ◌≤◌, ◌<◌, T, ltb}
use Rattle.std.proofs.Math.Path.{refl, fun_ext}
use Rattle.std.proofs.Common.{sym, ap, subst, ◌∙◌}
use native.Mathlib.Omega.{arith}
use borrow.Author.Tests.{ltb-true, ltb-false, not-false}
use Rattle.answers.specs.Said.{Said, value, refused, ◌when◌, judged, judged_checked, leaving, leaving_says, leaving_refused, leaving_keeps}
use Rattle.answers.specs.Faults.{Fault, ◌if◌, FaultsDecide, finds_not}
use Rattle.answers.proofs.Faults.{faults_decide}
use Rattle.bits.specs.Range.{either, same_test}
use Rattle.slots.specs.Kinds.{Kind, State}
use Rattle.slots.specs.Calls.{Call, says, leaves}
use Rattle.slots.specs.Promises.{RefusedBy, accepted_leaves, refused_leaves}

pub record View (K : Kind) : Type 1 where
  -- the capacity is 2 ^ k
  pub k : ℕ
  pub Map : Type 0
  -- whether the map has the place set
  pub state_of : Map → State K
  -- the map of what the state has below the capacity
  pub of_state : State K → Map
  -- the map is sound, as the paper says it, and the test that finds it
  pub Sound : Map → Type 0
  pub is_sound : Map → Bool
  -- the map is a value of its type
  pub IsMap : Map → Type 0
  pub finds_sound : (m : Map) → T (is_sound m) ↔ Sound m
  pub holds : (X : State K) (p : K.Place) → K.slot_for p < 2 ^ k → state_of (of_state X) p ≡ X p
  pub past : (m : Map) → IsMap m → (p : K.Place) → 2 ^ k ≤ K.slot_for p → state_of m p ≡ false
  -- a sound map's state is right, and a right state makes a sound map
  pub right : (m : Map) → Sound m → IsMap m → K.Right (state_of m)
  pub made_sound : (X : State K) → K.Right X → Sound (of_state X)
  pub made_map : (X : State K) → IsMap (of_state X)
  pub same : (m : Map) → Sound m → IsMap m → of_state (state_of m) ≡ m

-- ---- a call on a map: check 1 stands in front, and a refusal hands back the very map

module _ {K : Kind} (L : View K) where
  -- what a call that only asks speaks of may be less than the whole state
  unfoldable pub answered : {X A : Type 0} → L.Map → Call X A → Said A
  answered m c = judged ((1 when not (L.is_sound m)) ∷ c.checks) c.answer

  unfoldable pub changed : {A : Type 0} → L.Map → Call (State K) A → Said A × L.Map
  changed m c = leaving (answered m c) (λ _. L.of_state c.after) m

  -- ---- what follows for any layout

  -- two right states that agree below the capacity make one map
  pub made_alike : (X Y : State K) → K.Right X → K.Right Y → ((p : K.Place) → K.slot_for p < 2 ^ L.k → X p ≡ Y p) → L.of_state X ≡ L.of_state Y
  made_alike X Y rx ry agree =
      sym (L.same (L.of_state X) (L.made_sound X rx) (L.made_map X))
      ∙ ap L.of_state (fun_ext alike)
      ∙ L.same (L.of_state Y) (L.made_sound Y ry) (L.made_map Y)
    where
      alike : (p : K.Place) → L.state_of (L.of_state X) p ≡ L.state_of (L.of_state Y) p
      alike p =
          either (ltb (K.slot_for p) (2 ^ L.k))
          (λ t. let l = ltb-true (K.slot_for p) (2 ^ L.k) t in L.holds X p l ∙ agree p l ∙ sym (L.holds Y p l))
          (λ t. let l = ltb-false (K.slot_for p) (2 ^ L.k) t in L.past (L.of_state X) (L.made_map X) p l ∙ sym (L.past (L.of_state Y) (L.made_map Y) p l))

  -- a sound map is known by its places
  pub same_state : (m q : L.Map) → L.Sound m → L.IsMap m → L.Sound q → L.IsMap q
      → ((p : K.Place) → K.slot_for p < 2 ^ L.k → L.state_of m p ≡ L.state_of q p) → m ≡ q
  same_state m q sm im sq iq agree =
      sym (L.same m sm im) ∙ made_alike (L.state_of m) (L.state_of q) (L.right m sm im) (L.right q sq iq) agree ∙ L.same q sq iq

  -- so nothing else decides: of two sound maps with the same places, any two outcomes coincide that a contract allows which leaves one outcome of each map
  pub places_decide : {R : Type 0} (Says : L.Map → R → Type 0) → ((m : L.Map) (r s : R) → Says m r → Says m s → r ≡ s)
      → (m q : L.Map) → L.Sound m → L.IsMap m → L.Sound q → L.IsMap q → ((p : K.Place) → K.slot_for p < 2 ^ L.k → L.state_of m p ≡ L.state_of q p)
      → (r s : R) → Says m r → Says q s → r ≡ s
  places_decide {R} Says one_answer m q sm im sq iq agree r s says_r says-s =
      one_answer m r s says_r (subst (λ (x : L.Map). Says x s) (sym (same_state m q sm im sq iq agree)) says-s)

  module _ {X A : Type 0} (m : L.Map) (c : Call X A) where
    -- demand 1: the answer is refusal r exactly when r is the least number whose fault holds, 1 among them
    pub answered_decided : (fs : List Fault) → RefusedBy c fs → FaultsDecide (answered m c) c.answer ((1 if (L.Sound m → ⊥)) ∷ fs)
    unfolding answered
    answered_decided fs h =
        faults_decide _ _ c.answer (omega arith, h.rising) (
          refl,
          finds_not (L.is_sound m) (L.finds_sound m),
          λ _. h.finds,
        )

    -- by the test: an unsound map is refused by 1, whatever is asked of it, and a sound one answers as its state does
    pub found_unsound : L.is_sound m ≡ false → answered m c ≡ refused 1
    unfolding answered judged
    found_unsound e = rw e

    pub found_sound : L.is_sound m ≡ true → answered m c ≡ says c
    unfolding answered says judged
    found_sound e = rw e

    -- demand 2: a sound map answers as its state does
    pub sound_answers : L.Sound m → answered m c ≡ says c
    sound_answers sound = found_sound (same_test (L.is_sound m) true (λ _. tt) (λ _. (L.finds_sound m).1 sound))

    -- and where something is said that is no refusal, the map is sound
    pub accepted_sound : (a : A) → answered m c ≡ value a → L.is_sound m ≡ true
    unfolding answered
    accepted_sound a said = not-false _ (judged_checked 1 _ c.checks c.answer a said).0

  module _ {A : Type 0} (m : L.Map) (c : Call (State K) A) where
    pub changed_says : (changed m c).0 ≡ answered m c
    unfolding changed
    changed_says = leaving_says (λ _. L.of_state c.after) m (answered m c)

    -- what is said decides what is left: on a refusal the very map, and else the map of the state that the call leaves
    pub says_refused : (r : ℕ) → answered m c ≡ refused r → changed m c ≡ (refused r, m)
    unfolding changed leaving
    says_refused r said = rw said

    pub says_accepted : (a : A) → answered m c ≡ value a → changed m c ≡ (value a, L.of_state c.after)
    unfolding changed leaving
    says_accepted a said = rw said

    -- and the map handed back is the map handed in
    pub changed_refused : (r : ℕ) → (changed m c).0 ≡ refused r → (changed m c).1 ≡ m
    unfolding changed
    changed_refused r said = leaving_refused (λ _. L.of_state c.after) m (answered m c) r said

    -- so a sound map that is refused is handed back, and one that is not holds the state that the call leaves
    pub sound_refused : (r : ℕ) → L.Sound m → says c ≡ refused r → changed m c ≡ (refused r, m)
    sound_refused r sound said = says_refused r (sound_answers m c sound ∙ said)

    pub sound_accepted : (a : A) → L.Sound m → says c ≡ value a → changed m c ≡ (value a, L.of_state c.after)
    sound_accepted a sound said = says_accepted a (sound_answers m c sound ∙ said)

    by_what_is_said : {P : Type 0} (said : Said A) → ((a : A) → said ≡ value a → P) → ((r : ℕ) → said ≡ refused r → P) → P
    by_what_is_said (value a) yes-said no-said = yes-said a refl
    by_what_is_said (refused r) yes-said no-said = no-said r refl

    -- a call that keeps the rule leaves a sound map, and every call a value of its type
    pub changed_sound : L.Sound m → ((a : A) → says c ≡ value a → K.Right c.after) → L.Sound (changed m c).1
    changed_sound sound keeps =
        by_what_is_said (says c)
        (λ a e. rw (ap (λ out. out.1) (sound_accepted a sound e)) (L.made_sound c.after (keeps a e)))
        (λ r e. rw (ap (λ out. out.1) (sound_refused r sound e)) sound)

    pub changed_map : L.IsMap m → L.IsMap (changed m c).1
    unfolding changed
    changed_map is_map = leaving_keeps _ m L.IsMap is_map (λ _. L.made_map c.after) (answered m c)

    -- and what is left is the map of the state that is left
    pub sound_changes : L.Sound m → L.IsMap m → changed m c ≡ (says c, L.of_state (leaves (L.state_of m) c))
    sound_changes sound is_map =
        by_what_is_said (says c)
        (λ a e. sound_accepted a sound e ∙ (λ i. (sym e i, L.of_state (sym (accepted_leaves (L.state_of m) c a e) i))))
        (λ r e. sound_refused r sound e ∙ (λ i. (sym e i, (sym (L.same m sound is_map) ∙ ap L.of_state (sym (refused_leaves (L.state_of m) c r e))) i)))
