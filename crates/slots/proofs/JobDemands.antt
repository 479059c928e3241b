-- What stood in specs/JobDemands and rests on theorems there: moved, its statements unchanged. Rests on `JobDemands`.
use Rattle.std.specs.Prelude.{◌≡◌, ℕ, ◌^◌, ◌<◌}
use Rattle.std.proofs.Common.{sym, ap, ◌∙◌, arith}
use Rattle.answers.specs.Said.{Said, value}
use Rattle.answers.specs.declared.Reply.{Reply}
use Rattle.answers.specs.declared.Reply.TheVariants.{At as at, Done as ok}
use Rattle.slots.specs.Kinds.{plain, State}
use Rattle.slots.specs.Calls.{Call, says, take_call}
use Rattle.slots.specs.Promises as Promises
use Rattle.slots.proofs.Promises as Promises'
use Rattle.slots.specs.View.{View, answered_decided, sound_answers, sound_accepted}
use Rattle.slots.specs.Outcome as Outcome
use Rattle.slots.specs.Outcome.{Leaves}
use Rattle.slots.specs.Jobs.{jobs, SlotState, free, running, reaped, used_in, state_in, Moves, start_call, reap_call, record_call, state_call, state_refused, start_says, state_promise, start_keeps, record_keeps}
use Rattle.slots.proofs.Jobs.{start_refused, reap_refused, record_refused, reap_promise, record_promise, start_moves, reap_moves, record_moves, reap_keeps}
use Rattle.slots.specs.JobView.{Paired, jobs_view}
use Rattle.slots.specs.Turns as Turns
use Rattle.slots.proofs.Turns as Turns'
use Rattle.slots.specs.Turns.{Asked, start, reap, record_status, call_of}
use Rattle.slots.specs.JobDemands.{Moved, OfAny, OfSound, Demands}

module _ (B R : View plain) (M : Type 0) (P : Paired B R M) (Out : Type 0) (said : Out → Said Reply) (left : Out → M) where
  abbrev L : View jobs
  L = jobs_view B R M P

  abbrev X : M → State jobs
  X m = L.state_of m

  abbrev Left : M → Call (State jobs) Reply → Out → Type 0
  Left = Leaves L Out said left

  -- ---- every layout of jobs meets them, whose outcomes are known by what they say and leave

  -- each call keeps the rule that a reaped slot is used
  pub keeps : (m : M) → jobs.Right (X m) → (c : Asked) (reply : Reply) → says (call_of B.k (X m) c) ≡ value reply → jobs.Right (call_of B.k (X m) c).after
  keeps m right (start n a) reply told = start_keeps B.k (X m) right n a
  keeps m right (reap s n) reply told = reap_keeps B.k (X m) right s n reply told
  keeps m right (record_status s n) reply told = record_keeps B.k (X m) right s n

  module _ (m : M) (sound : L.Sound m) where
    -- an accepted call's moves are those of the state that it leaves
    moved : (c : Call (State jobs) Reply) (r : Out) → Left m c r → (reply : Reply) → says c ≡ value reply → (s n : ℕ) (from to : SlotState)
        → Moves B.k (X m) c.after s n from to → Moved B R M P Out said left m s n from to r
    moved c r outcome reply told s n from to moves =
        let made = ap (λ out. out.1) (outcome ∙ sound_accepted L m c reply sound told) in
        let holds : (i : ℕ) → i < 2 ^ B.k → state_in (X (left r)) i ≡ state_in c.after i =
        λ i l. ap (λ (q : M). state_in (X q) i) made ∙ Turns.slot_made L Out said left c.after i l in
        record {
          were = moves.were;
          are = λ i h. holds i (omega (arith, moves.range.1, h.1)) ∙ moves.are i h;
          others = λ i l h. holds i l ∙ moves.others i h;
        }

  module _ (known : (r q : Out) → said r ≡ said q → left r ≡ left q → r ≡ q) (m : M) where
    any_state : OfAny B R M P Out said left m
    unfolding start_call take_call reap_call record_call state_call
    any_state = record {
      start_decided = λ n a r outcome. Outcome.decided L Out said left m _ r outcome _ (start_refused B.k (X m) n a);
      reap_decided = λ s n r outcome. Outcome.decided L Out said left m _ r outcome _ (reap_refused B.k (X m) s n);
      record_decided = λ s n r outcome. Outcome.decided L Out said left m _ r outcome _ (record_refused B.k (X m) s n);
      state_decided = λ i x outcome. rw outcome (answered_decided L m _ _ (state_refused B.k (X m) i));
      empty_decided = λ x outcome. rw outcome (answered_decided L m _ _ (Promises.empty_refused B.k (used_in (X m))));
      used_decided = λ x outcome. rw outcome (answered_decided L m _ _ (Promises.used_refused B.k (used_in (X m))));
      hands_back = Outcome.hands_back L Out said left m;
      stays_a_map = λ held c r outcome. Outcome.stays_a_map L Out said left m c r outcome held;
      one_answer = Outcome.one_answer L Out said left known m;
    }

    sound_state : L.Sound m → OfSound B R M P Out said left m
    sound_state sound =
        let as_the_marks : (c : Call (State jobs) Reply) (r : Out) → Left m c r → said r ≡ says c = λ c r outcome. Outcome.as_the_state L Out said left m c r outcome sound in
        record {
          stays_sound = λ held c r outcome. Outcome.stays_sound L Out said left m _ r outcome sound (keeps m (L.right m sound held) c);
          answers_as_the_marks = as_the_marks;
          leaves_the_marks = λ held c r outcome. Outcome.the_state_left L Out said left m c r outcome sound held;
          start_grants = λ n a r outcome o. rw (as_the_marks _ r outcome ∙ start_says B.k (X m) n a) (Promises'.take_promise B.k (used_in (X m)) n a o);
          start_runs = λ held n a r outcome o e.
              let told = sym (as_the_marks _ r outcome) ∙ e in
              moved m sound _ r outcome (at o) told o n free running (start_moves B.k (X m) (L.right m sound held) n a o told);
          start_refused_for_room = λ n a r outcome pos small few.
              rw (as_the_marks _ r outcome ∙ start_says B.k (X m) n a) (Promises'.take_no_room B.k (used_in (X m)) n a pos small few);
          reap_accepts = λ s n r outcome. rw (as_the_marks _ r outcome) (reap_promise B.k (X m) s n);
          reap_reaps = λ held s n r outcome e.
              let told = sym (as_the_marks _ r outcome) ∙ e in
              moved m sound _ r outcome ok told s n running reaped (reap_moves B.k (X m) s n ok told);
          record_accepts = λ s n r outcome. rw (as_the_marks _ r outcome) (record_promise B.k (X m) s n);
          record_frees = λ held s n r outcome e.
              let told = sym (as_the_marks _ r outcome) ∙ e in
              moved m sound _ r outcome ok told s n reaped free (record_moves B.k (X m) s n ok told);
          state_tells = λ i x outcome is. rw (outcome ∙ sound_answers L m _ sound) (state_promise B.k (X m) i is);
          empty_tells = λ x outcome b. rw (outcome ∙ sound_answers L m _ sound) (Promises.empty_promise B.k (used_in (X m)) b);
          used_counts = λ x outcome. outcome ∙ sound_answers L m _ sound ∙ Promises.used_promise B.k (used_in (X m));
        }

  pub demanded : ((r q : Out) → said r ≡ said q → left r ≡ left q → r ≡ q) → Demands B R M P Out said left
  demanded known = record {
    of_any = any_state known;
    of_sound = sound_state known;
    of_series = λ m held cs rs ran. record {
      in_turn = Turns'.in_turn L Out said left m held cs rs ran;
      never_between = Turns'.never_between L Out said left m held cs rs ran;
    };
  }
