-- The view of jobs: a plain map, which has the used slots, and one of the same size beside it, which has the reaped ones. It is sound when the map is and each
-- reaped slot is used. Rests on `Jobs` and on `View`.
use Rattle.std.specs.Prelude.{◌≡◌, ◌↔◌, Bool, true, false, not, ◌&&◌, ◌||◌, ℕ, ◌^◌, ◌≤◌, ◌<◌, T, ltb}
use Rattle.std.proofs.Common.{sym, ap, ap₂, ◌∙◌, true≢false, zero-le, arith, ltb-true, ltb-false}
use Rattle.answers.specs.Faults.{finds_both}
use Rattle.bits.specs.Range.{every, finds_every, either}
use Rattle.slots.specs.Sets.{Slots}
use Rattle.slots.specs.Kinds.{plain, State}
use Rattle.slots.specs.View.{View}
use Rattle.slots.specs.Jobs.{jobs, Mark, used_at, reaped_at, used_in, reaped_in, marks}

-- each of the first n slots that is reaped is used
unfoldable pub reaped_used : Slots → Slots → ℕ → Bool
reaped_used used reaped n = every (λ i. not (reaped i) || used i) 0 n

pub finds_reaped_used : (used reaped : Slots) (n : ℕ) → T (reaped_used used reaped n) ↔ ((i : ℕ) → i < n → reaped i ≡ true → used i ≡ true)
unfolding reaped_used
finds_reaped_used used reaped n =
    let found = finds_every (λ i. not (reaped i) || used i) 0 n in (
      λ t i l is. rw is at (found.0 t i zero-le (omega arith)),
      λ all. found.1 (λ i _ l. either (reaped i) (λ is. rw (is, all i (omega arith) is)) (λ is. rw is)),
    )

-- maps of the type M are made of a map below and the reaped slots, which are a map that is always sound
pub record Paired (B R : View plain) (M : Type 0) : Type 0 where
  pub below : M → B.Map
  pub reaped : M → R.Map
  pub pair : B.Map → R.Map → M
  pub below_pair : (b : B.Map) (r : R.Map) → below (pair b r) ≡ b
  pub reaped_pair : (b : B.Map) (r : R.Map) → reaped (pair b r) ≡ r
  pub pair_same : (m : M) → pair (below m) (reaped m) ≡ m
  pub same_size : R.k ≡ B.k
  pub always_sound : (r : R.Map) → R.Sound r

module _ (B R : View plain) (M : Type 0) (P : Paired B R M) where
  abbrev pub used_of : M → Slots
  used_of m = B.state_of (P.below m)

  abbrev pub reaped_of : M → Slots
  reaped_of m = R.state_of (P.reaped m)

  abbrev pub state_of_jobs : M → State jobs
  state_of_jobs m = marks (used_of m) (reaped_of m)

  abbrev pub of_jobs : State jobs → M
  of_jobs X = P.pair (B.of_state (used_in X)) (R.of_state (reaped_in X))

  pub record SoundJobs (m : M) : Type 0 where
    pub map_sound : B.Sound (P.below m)
    pub reaped_used_lem : (i : ℕ) → i < 2 ^ B.k → reaped_of m i ≡ true → used_of m i ≡ true

  abbrev pub sound_jobs : M → Bool
  sound_jobs m = B.is_sound (P.below m) && reaped_used (used_of m) (reaped_of m) (2 ^ B.k)

  pub record AreJobs (m : M) : Type 0 where
    pub is_map : B.IsMap (P.below m)
    pub are_reaped : R.IsMap (P.reaped m)

  pub finds_sound_jobs : (m : M) → T (sound_jobs m) ↔ SoundJobs m
  finds_sound_jobs m =
      let found = finds_both (B.is_sound (P.below m)) (reaped_used (used_of m) (reaped_of m) (2 ^ B.k)) (B.finds_sound (P.below m)) (finds_reaped_used (used_of m) (reaped_of m) (2 ^ B.k)) in
      (λ t. record { map_sound = (found.0 t).0; reaped_used_lem = (found.0 t).1 }, λ s. found.1 (s.map_sound, s.reaped_used_lem))

  pub jobs_hold : (X : State jobs) (p : Mark) → jobs.slot_for p < 2 ^ B.k → state_of_jobs (of_jobs X) p ≡ X p
  jobs_hold X (used_at i) l = ap (λ (b : B.Map). B.state_of b i) (P.below_pair _ _) ∙ B.holds (used_in X) i l
  jobs_hold X (reaped_at i) l = ap (λ (r : R.Map). R.state_of r i) (P.reaped_pair _ _) ∙ R.holds (reaped_in X) i (rw P.same_size l)

  pub jobs_past : (m : M) → AreJobs m → (p : Mark) → 2 ^ B.k ≤ jobs.slot_for p → state_of_jobs m p ≡ false
  jobs_past m held (used_at i) l = B.past (P.below m) held.is_map i l
  jobs_past m held (reaped_at i) l = R.past (P.reaped m) held.are_reaped i (rw P.same_size l)

  -- past the capacity no slot is reaped
  pub jobs_right : (m : M) → SoundJobs m → AreJobs m → jobs.Right (state_of_jobs m)
  jobs_right m sound held i is =
      either (ltb i (2 ^ B.k)) (λ t. sound.reaped_used_lem i (ltb-true i (2 ^ B.k) t) is)
      (λ t. absurd (true≢false (sym is ∙ jobs_past m held (reaped_at i) (ltb-false i (2 ^ B.k) t))))

  abbrev pub jobs_view : View jobs
  jobs_view = record {
    k = B.k;
    Map = M;
    state_of = state_of_jobs;
    of_state = of_jobs;
    Sound = SoundJobs;
    is_sound = sound_jobs;
    IsMap = AreJobs;
    finds_sound = finds_sound_jobs;
    holds = jobs_hold;
    past = jobs_past;
    right = jobs_right;
    made_sound = λ X right. record {
      map_sound = rw (P.below_pair (B.of_state (used_in X)) (R.of_state (reaped_in X))) (B.made_sound (used_in X) tt);
      reaped_used_lem = λ i l is. jobs_hold X (used_at i) l ∙ right i (sym (jobs_hold X (reaped_at i) l) ∙ is);
    };
    made_map = λ X. record {
      is_map = rw (P.below_pair (B.of_state (used_in X)) (R.of_state (reaped_in X))) (B.made_map (used_in X));
      are_reaped = rw (P.reaped_pair (B.of_state (used_in X)) (R.of_state (reaped_in X))) (R.made_map (reaped_in X));
    };
    same = λ m sound held.
        ap₂ P.pair (B.same (P.below m) sound.map_sound held.is_map) (R.same (P.reaped m) (P.always_sound (P.reaped m)) held.are_reaped)
        ∙ P.pair_same m;
  }
