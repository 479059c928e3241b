-- What stood in specs/Turns and rests on theorems there: moved, its statements unchanged. Rests on `Turns`.
use Rattle.std.specs.Prelude.{◌≡◌, refl, List, [], ◌∷◌, ◌++◌, ℕ, ◌^◌, ◌≤◌, ◌<◌, ltb}
use Rattle.std.proofs.Common.{sym, ap, subst, ◌∙◌, inl, inr, arith, ltb-true, ltb-false}
use Rattle.answers.specs.Said.{Said, value, refused}
use Rattle.answers.specs.declared.Reply.{Reply}
use Rattle.bits.specs.Range.{either}
use Rattle.slots.specs.Sets.{Named}
use Rattle.slots.specs.Records.{named_or_not}
use Rattle.slots.specs.Kinds.{State}
use Rattle.slots.specs.Calls.{Call, says}
use Rattle.slots.proofs.Promises as Promises
use Rattle.slots.specs.Plain.{start_of}
use Rattle.slots.specs.View.{View, sound_answers, says_accepted, accepted_sound}
use Rattle.slots.specs.Outcome as Outcome
use Rattle.slots.specs.Jobs.{jobs, used_at, reaped_at, SlotState, free, running, state_in, used_in, start_call, Moves, start_says, free_means}
use Rattle.slots.proofs.Jobs.{start_moves, reap_moves, record_moves}
use Rattle.slots.specs.Turns.{Asked, call_of, Event, event_of, written, run_of, before, after, InTurn, RecordedIn, recorded_between, Ran, events_ran, last_ran, slot_is, slot_made, start, reap, record_status, granted, reaping}

-- ---- an accepted call moves the slots of its event, and no others

moves : (k : ℕ) (X : State jobs) → jobs.Right X → (c : Asked) (reply : Reply) → says (call_of k X c) ≡ value reply
    → Moves k X (call_of k X c).after (run_of (event_of c reply)).0 (run_of (event_of c reply)).1 (before (event_of c reply)) (after (event_of c reply))
moves k X right (start n a) reply told =
    let same = (((Promises.take_decided k (used_in X) n a).accepts reply).0 (sym (start_says k X n a) ∙ told)).1 in
    subst (λ (r : Reply). Moves k X (start_call k X n a).after (start_of r) n free running) same (start_moves k X right n a _ (told ∙ ap value (sym same)))
moves k X right (reap s n) reply told = reap_moves k X s n reply told
moves k X right (record_status s n) reply told = record_moves k X s n reply told

-- ---- of outcomes

module _ (L : View jobs) (Out : Type 0) (said : Out → Said Reply) (left : Out → L.Map) where
  slot_past : (m : L.Map) → L.IsMap m → (p : ℕ) → 2 ^ L.k ≤ p → slot_is L Out said left m p ≡ free
  slot_past m held p l = free_means (L.state_of m) p (L.past m held (used_at p) l) (L.past m held (reaped_at p) l)

  module _ (m : L.Map) (held : L.IsMap m) (c : Asked) (r : Out) (outcome : Outcome.Leaves L Out said left m (call_of L.k (L.state_of m) c) r) where
    abbrev call : Call (State jobs) Reply
    call = call_of L.k (L.state_of m) c

    -- the events of the rest, with this call's in front
    turn : (p : ℕ) (es : List Event) (to : SlotState) (x : Said Reply) → said r ≡ x → InTurn p (slot_is L Out said left (left r) p) es to → InTurn p (slot_is L Out said left m p) (written c x es) to
    turn p es to (refused k) e rest = subst (λ (q : L.Map). InTurn p (slot_is L Out said left q p) es to) (Outcome.hands_back L Out said left m call r outcome k e) rest
    turn p es to (value reply) e rest =
        let answer = sym (Outcome.answer_is L Out said left m call r outcome) ∙ e in
        let sound = (L.finds_sound m).0 (rw (accepted_sound L m call reply answer) tt) in
        let told = sym (sound_answers L m call sound) ∙ answer in
        let moved = moves L.k (L.state_of m) (L.right m sound held) c reply told in
        let made : left r ≡ L.of_state call.after = ap (λ out. out.1) (outcome ∙ says_accepted L m call reply answer) in
        let next : p < 2 ^ L.k → slot_is L Out said left (left r) p ≡ state_in call.after p = λ l. ap (λ (q : L.Map). slot_is L Out said left q p) made ∙ slot_made L Out said left call.after p l in
        named_or_not (run_of (event_of c reply)).0 (run_of (event_of c reply)).1 p
        (λ h. inl (h, moved.were p h, subst (λ (is : SlotState). InTurn p is es to) (next (omega (arith, moved.range.1, h.1)) ∙ moved.are p h) rest))
        (λ h. inr (
          h,
          subst (λ (is : SlotState). InTurn p is es to)
              (either (ltb p (2 ^ L.k)) (λ t. next (ltb-true p (2 ^ L.k) t) ∙ moved.others p h)
              (λ t.
              let l = ltb-false p (2 ^ L.k) t in
              slot_past (left r) (Outcome.stays_a_map L Out said left m call r outcome held) p l ∙ sym (slot_past m held p l)))
              rest,
        ))

  -- each slot's events come in turn, from what it was at first to what it is in the end
  pub in_turn : (m : L.Map) → L.IsMap m → (cs : List Asked) (rs : List Out) → Ran L Out said left m cs rs → (p : ℕ) → InTurn p (slot_is L Out said left m p) (events_ran L Out said left cs rs) (slot_is L Out said left (last_ran L Out said left m rs) p)
  in_turn m held [] [] ran p = refl
  in_turn m held [] (r ∷ rs) ran p = absurd ran
  in_turn m held (c ∷ cs) [] ran p = absurd ran
  in_turn m held (c ∷ cs) (r ∷ rs) ran p =
      turn m held c r ran.0 p (events_ran L Out said left cs rs) _ (said r) refl
      (in_turn (left r) (Outcome.stays_a_map L Out said left m _ r ran.0 held) cs rs ran.1 p)

  -- no slot is granted between its reaping and its recording
  pub never_between : (m : L.Map) → L.IsMap m → (cs : List Asked) (rs : List Out) → Ran L Out said left m cs rs → (xs ys zs : List Event) (s n o q p : ℕ)
      → events_ran L Out said left cs rs ≡ xs ++ (reaping s n ∷ (ys ++ (granted o q ∷ zs))) → Named s n p → Named o q p → RecordedIn p ys
  never_between m held cs rs ran xs ys zs s n o q p e was is =
      recorded_between p o q zs is s n was ys xs _ _ (subst (λ (es : List Event). InTurn p (slot_is L Out said left m p) es (slot_is L Out said left (last_ran L Out said left m rs) p)) e (in_turn m held cs rs ran p))
