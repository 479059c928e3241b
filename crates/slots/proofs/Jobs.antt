-- What stood in specs/Jobs and rests on theorems there: moved, its statements unchanged. Rests on `Jobs`.
use Rattle.std.specs.Prelude.{◌≡◌, ◌↔◌, not, [], ◌∷◌, ℕ, T}
use Rattle.std.proofs.Math.Path.{refl, sym}
use Rattle.std.proofs.Common.{ap, ◌∙◌, true≢false, arith}
use Rattle.std.proofs.Math.Bool.{true, false}
use Rattle.answers.specs.Said.{Said, value}
use Rattle.answers.specs.declared.Reply.{Reply}
use Rattle.answers.specs.declared.Reply.TheVariants.{At as at, Done as ok}
use Rattle.answers.specs.Faults.{◌if◌, FaultsDecide, finds_eq}
use Rattle.bits.specs.Range.{either}
use Rattle.slots.specs.Sets.{Slots, Named, all_used, finds_some_free, painted_named, painted_other}
use Rattle.slots.specs.Kinds.{State}
use Rattle.slots.specs.Calls.{says}
use Rattle.slots.specs.Records.{named_or_not}
use Rattle.slots.specs.Promises.{Past, InRange, RefusedBy, ranged, finds_past, take_faults, says_decided}
use Rattle.slots.proofs.Promises.{take_refused, take_promise, take_after}
use Rattle.slots.specs.Jobs.{jobs, used_in, reaped_in, running_in, SlotState, state_in, start_call, reap_call, record_call, AllAre, SomeIsNot, running_means, reaped_means, running_used, free_means, reap_faults, record_faults, start_says, Moves, reaped_at, free, running, reaped}

-- where a test tells which slots are so
module _ (S : Slots) (is : SlotState) (X : State jobs) (tells : (i : ℕ) → (S i ≡ true) ↔ (state_in X i ≡ is)) (s n : ℕ) where
  finds_some_not : T (not (all_used S s n)) ↔ SomeIsNot is X s n
  finds_some_not =
      let found = finds_some_free S s n in (
        λ t. let bad = found.0 t in (bad.0, bad.1, λ e. true≢false (sym ((tells bad.0).1 e) ∙ bad.2)),
        λ bad. found.1 (bad.0, bad.1, either (S bad.0) (λ e. absurd (bad.2 ((tells bad.0).0 e))) (λ e. e)),
      )

  -- a call over a range that is refused where a slot is not so is accepted where the range is one and each slot is
  accepts_all : (k r : ℕ) (said : Said Reply) → FaultsDecide said ok ((2 if (n ≡ 0)) ∷ (4 if Past k s n) ∷ (r if SomeIsNot is X s n) ∷ [])
      → (said ≡ value ok) ↔ (InRange k s n × AllAre is X s n)
  accepts_all k r said decided =
      let accepted = ranged k s n r (SomeIsNot is X s n) said decided in (
        λ e.
            let g = accepted.0 e in
            (g.0, λ i h. either (S i) (λ so. (tells i).0 so) (λ not_so. absurd (g.1 (i, h, λ so. true≢false (sym ((tells i).1 so) ∙ not_so))))),
        λ g. accepted.1 (g.0, λ bad. bad.2 (g.1 bad.0 bad.1)),
      )

module _ (k : ℕ) (X : State jobs) where
  pub start_refused : (n a : ℕ) → RefusedBy (start_call k X n a) (take_faults k (used_in X) n a)
  unfolding start_call
  start_refused n a = let taken = take_refused k (used_in X) n a in record { rising = taken.rising; finds = taken.finds }

  pub reap_refused : (s n : ℕ) → RefusedBy (reap_call k X s n) (reap_faults k X s n)
  unfolding reap_call
  reap_refused s n = record {
    rising = omega arith;
    finds = (refl, finds_eq n 0, λ _. (refl, finds_past k s n, λ _. (refl, finds_some_not (running_in X) running X (running_means X) s n, λ _. tt)));
  }

  pub record_refused : (s n : ℕ) → RefusedBy (record_call k X s n) (record_faults k X s n)
  unfolding record_call
  record_refused s n = record {
    rising = omega arith;
    finds = (refl, finds_eq n 0, λ _. (refl, finds_past k s n, λ _. (refl, finds_some_not (reaped_in X) reaped X (reaped_means X) s n, λ _. tt)));
  }

  pub reap_decided : (s n : ℕ) → FaultsDecide (says (reap_call k X s n)) ok (reap_faults k X s n)
  unfolding reap_call
  reap_decided s n = says_decided (reap_call k X s n) (reap_faults k X s n) (reap_refused s n)

  pub record_decided : (s n : ℕ) → FaultsDecide (says (record_call k X s n)) ok (record_faults k X s n)
  unfolding record_call
  record_decided s n = says_decided (record_call k X s n) (record_faults k X s n) (record_refused s n)

  -- reap is accepted exactly when the range is one and each named slot is running; record, when each is reaped
  pub reap_promise : (s n : ℕ) → (says (reap_call k X s n) ≡ value ok) ↔ (InRange k s n × AllAre running X s n)
  reap_promise s n = accepts_all (running_in X) running X (running_means X) s n k 13 (says (reap_call k X s n)) (reap_decided s n)

  pub record_promise : (s n : ℕ) → (says (record_call k X s n) ≡ value ok) ↔ (InRange k s n × AllAre reaped X s n)
  record_promise s n = accepts_all (reaped_in X) reaped X (reaped_means X) s n k 14 (says (record_call k X s n)) (record_decided s n)

  -- so one that is accepted, whatever it replies, has passed these checks
  pub reap_passed : (s n : ℕ) (reply : Reply) → says (reap_call k X s n) ≡ value reply → InRange k s n × AllAre running X s n
  reap_passed s n reply told = (reap_promise s n).0 (told ∙ ap value (sym (((reap_decided s n).accepts reply).0 told).1))

  pub record_passed : (s n : ℕ) (reply : Reply) → says (record_call k X s n) ≡ value reply → InRange k s n × AllAre reaped X s n
  record_passed s n reply told = (record_promise s n).0 (told ∙ ap value (sym (((record_decided s n).accepts reply).0 told).1))

  pub start_moves : jobs.Right X → (n a o : ℕ) → says (start_call k X n a) ≡ value (at o) → Moves k X (start_call k X n a).after o n free running
  unfolding start_call
  start_moves right n a o said =
      let told = sym (start_says k X n a) ∙ said in
      let granted = (take_promise k (used_in X) n a o).0 told in
      let left = take_after k (used_in X) n a o told in
      let unused = granted.3.fits.free in
      let unreaped : (i : ℕ) → Named o n i → X (reaped_at i) ≡ false = λ i h. either (X (reaped_at i)) (λ r. absurd (true≢false (sym (right i r) ∙ unused i h))) (λ r. r) in
      record {
        range = (granted.0, granted.3.fits.ends);
        were = λ i h. free_means X i (unused i h) (unreaped i h);
        are = λ i h. rw (left, painted_named (used_in X) o n true i h, unreaped i h);
        others = λ i h. rw (left, painted_other (used_in X) o n true i h);
      }

  pub reap_moves : (s n : ℕ) (reply : Reply) → says (reap_call k X s n) ≡ value reply → Moves k X (reap_call k X s n).after s n running reaped
  unfolding reap_call
  reap_moves s n reply said =
      let passed = reap_passed s n reply said in
      record {
        range = passed.0;
        were = passed.1;
        are = λ i h. (reaped_means (reap_call k X s n).after i).0 (painted_named (reaped_in X) s n true i h);
        others = λ i h. rw (painted_other (reaped_in X) s n true i h);
      }

  pub record_moves : (s n : ℕ) (reply : Reply) → says (record_call k X s n) ≡ value reply → Moves k X (record_call k X s n).after s n reaped free
  unfolding record_call
  record_moves s n reply said =
      let passed = record_passed s n reply said in
      record {
        range = passed.0;
        were = passed.1;
        are = λ i h. free_means (record_call k X s n).after i (painted_named (used_in X) s n false i h) (painted_named (reaped_in X) s n false i h);
        others = λ i h. rw (painted_other (used_in X) s n false i h, painted_other (reaped_in X) s n false i h);
      }

  pub reap_keeps : jobs.Right X → (s n : ℕ) (reply : Reply) → says (reap_call k X s n) ≡ value reply → jobs.Right (reap_call k X s n).after
  unfolding reap_call
  reap_keeps right s n reply said i r =
      named_or_not s n i (λ h. running_used X i ((reap_passed s n reply said).1 i h)) (λ h. right i (sym (painted_other (reaped_in X) s n true i h) ∙ r))
