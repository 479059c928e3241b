-- What stood in specs/Below and rests on theorems there: moved, its statements unchanged. Rests on `Below`.
use Rattle.std.specs.Prelude.{◌≡◌, refl, List, [], ◌∷◌, ℕ}
use Rattle.std.proofs.Common.{sym, ap, ap₂, ◌∙◌, arith}
use Rattle.std.proofs.Math.Path.{subst}
use Rattle.answers.specs.Said.{Said, value, refused}
use Rattle.answers.specs.declared.Reply.{Reply}
use Rattle.slots.specs.Kinds.{plain, State}
use Rattle.slots.specs.Calls.{Call, says, free_call}
use Rattle.slots.proofs.Promises.{free_promise}
use Rattle.slots.specs.View.{View, sound_accepted}
use Rattle.slots.specs.Outcome as Outcome
use Rattle.slots.specs.Records.{Entry}
use Rattle.slots.specs.Plain as Plain
use Rattle.slots.proofs.Plain as Plain'
use Rattle.slots.specs.Plain.{take, free}
use Rattle.slots.specs.Series as Series
use Rattle.slots.specs.Demands as Slots
use Rattle.slots.proofs.Demands as Slots'
use Rattle.slots.specs.Jobs.{jobs, used_in, start_call, reap_call, record_call, start_says, reaped_means}
use Rattle.slots.proofs.Jobs.{record_passed, record_decided}
use Rattle.slots.specs.JobView.{Paired, jobs_view}
use Rattle.slots.specs.Turns as Turns
use Rattle.slots.specs.Turns.{Asked, start, reap, record_status, call_of, Event}
use Rattle.slots.proofs.JobDemands.{keeps}
use Rattle.slots.specs.Below.{reaching, entries_of, below}

module _ (B R : View plain) (M : Type 0) (P : Paired B R M) (Out : Type 0) (said : Out → Said Reply) (left : Out → M)
    (OutB : Type 0) (saidB : OutB → Said Reply) (left_b : OutB → B.Map) where
  abbrev L : View jobs
  L = jobs_view B R M P

  -- of any outcomes ts of these calls on the map below: they end in the map below the last state, their record is that of the events, and demand 3 holds
  pub record OfBelow (m : M) (cs : List Asked) (rs : List Out) (ts : List OutB) : Type 0 where
    pub ends_below : Slots'.last_ran B OutB saidB left_b (P.below m) ts ≡ P.below (Turns.last_ran L Out said left m rs)
    pub writes : Slots'.record_ran B OutB saidB left_b (below B R M P Out said left OutB saidB left_b cs rs) ts ≡ entries_of (Turns.events_ran L Out said left cs rs)
    pub demand_3 : Slots'.OfSeries B OutB saidB left_b (P.below m) (below B R M P Out said left OutB saidB left_b cs rs) ts

  -- ---- one call

  module _ (m : M) (sound : L.Sound m) (c : Asked) (r : Out) (outcome : Outcome.Leaves L Out said left m (call_of B.k (L.state_of m) c) r)
      (reply : Reply) (e : said r ≡ value reply) where
    abbrev call : Call (State jobs) Reply
    call = call_of B.k (L.state_of m) c

    told : says call ≡ value reply
    told = sym (Outcome.as_the_state L Out said left m call r outcome sound) ∙ e

    left_below : P.below (left r) ≡ B.of_state (used_in call.after)
    left_below = ap (λ out. P.below out.1) (outcome ∙ sound_accepted L m call reply sound told) ∙ P.below_pair _ _

    -- an outcome of a call that the map below accepts with this reply, and that leaves the same slots used
    same_below : (d : Plain.Asked) → says (Plain.call_of B.k (B.state_of (P.below m)) d) ≡ value reply
        → (Plain.call_of B.k (B.state_of (P.below m)) d).after ≡ used_in call.after
        → (t : OutB) → Slots.Leaves B OutB saidB left_b (P.below m) (Plain.call_of B.k (B.state_of (P.below m)) d) t → (saidB t ≡ value reply) × (left_b t ≡ P.below (left r))
    same_below d accepted after t outcomeB =
        let both = outcomeB ∙ sound_accepted B (P.below m) _ reply sound.map_sound accepted in
        (ap (λ out. out.0) both, ap (λ out. out.1) both ∙ ap B.of_state after ∙ sym left_below)

  -- what is recorded was reaped, so it is used below, and is freed there
  frees_below : (m : M) → L.Sound m → (s n : ℕ) (reply : Reply) → says (record_call B.k (L.state_of m) s n) ≡ value reply
      → says (free_call B.k (B.state_of (P.below m)) s n) ≡ value reply
  frees_below m sound s n reply told =
      let named = record_passed B.k (L.state_of m) s n reply told in
      (free_promise B.k (B.state_of (P.below m)) s n).1
      (named.0, λ i h. sound.reaped_used_lem i (omega (arith, named.0.1, h.1)) ((reaped_means (L.state_of m) i).1 (named.1 i h)))
      ∙ ap value (((record_decided B.k (L.state_of m) s n).accepts reply).0 told).1

  -- ---- a series

  abbrev RanB : B.Map → List Plain.Asked → List OutB → Type 0
  RanB = Slots'.Ran B OutB saidB left_b

  -- outcomes of the calls ds from the map b on end in the map `last`, and write these entries down
  abbrev Follows : B.Map → List Plain.Asked → List Entry → B.Map → Type 0
  Follows b ds es last = (ts : List OutB) → RanB b ds ts → (Slots'.last_ran B OutB saidB left_b b ts ≡ last) × (Slots'.record_ran B OutB saidB left_b ds ts ≡ es)

  -- one call more in front
  one_more : (b next last : B.Map) (d : Plain.Asked) (ds : List Plain.Asked) (reply : Reply) (es : List Entry)
      → ((t : OutB) → Slots.Leaves B OutB saidB left_b b (Plain.call_of B.k (B.state_of b) d) t → (saidB t ≡ value reply) × (left_b t ≡ next))
      → Follows next ds es last → Follows b (d ∷ ds) (Plain.entry_of d reply ∷ es) last
  one_more b next last d ds reply es one rest [] ran = absurd ran
  one_more b next last d ds reply es one rest (t ∷ ts) ran =
      let here = one t ran.0 in
      let then = subst (λ (q : B.Map). Follows q ds es last) (sym here.1) rest ts ran.1 in
      (then.0, ap₂ (Series.written B (Plain'.plain_calls B.k) d) here.0 then.1)

  module _ (m : M) (sound : L.Sound m) (held : L.IsMap m) (r : Out) (ds : List Plain.Asked) (es : List Event) (last : B.Map)
      (rest : Follows (P.below (left r)) ds (entries_of es) last) where
    follow : (c : Asked) → Outcome.Leaves L Out said left m (call_of B.k (L.state_of m) c) r → (x : Said Reply) → said r ≡ x
        → Follows (P.below m) (reaching c x ds) (entries_of (Turns.written c x es)) last
    unfolding start_call reap_call record_call free_call
    follow (start n a) outcome (value reply) e =
        one_more (P.below m) (P.below (left r)) last (take n a) ds reply (entries_of es)
        (same_below m sound (start n a) r outcome reply e (take n a) (sym (start_says B.k (L.state_of m) n a) ∙ told m sound (start n a) r outcome reply e) refl)
        rest
    follow (reap s n) outcome (value reply) e =
        subst (λ (b : B.Map). Follows b ds (entries_of es) last) (left_below m sound (reap s n) r outcome reply e ∙ B.same (P.below m) sound.map_sound held.is_map) rest
    follow (record_status s n) outcome (value reply) e =
        one_more (P.below m) (P.below (left r)) last (free s n) ds reply (entries_of es)
        (same_below m sound (record_status s n) r outcome reply e (free s n) (frees_below m sound s n reply (told m sound (record_status s n) r outcome reply e)) refl)
        rest
    follow c outcome (refused k) e =
        subst (λ (q : M). Follows (P.below q) ds (entries_of es) last) (Outcome.hands_back L Out said left m (call_of B.k (L.state_of m) c) r outcome k e) rest

  follows : (m : M) → L.Sound m → L.IsMap m → (cs : List Asked) (rs : List Out) → Turns.Ran L Out said left m cs rs
      → Follows (P.below m) (below B R M P Out said left OutB saidB left_b cs rs) (entries_of (Turns.events_ran L Out said left cs rs)) (P.below (Turns.last_ran L Out said left m rs))
  follows m sound held [] [] ran [] ranB = (refl, refl)
  follows m sound held [] [] ran (t ∷ ts) ranB = absurd ranB
  follows m sound held [] (r ∷ rs) ran ts ranB = absurd ran
  follows m sound held (c ∷ cs) [] ran ts ranB = absurd ran
  follows m sound held (c ∷ cs) (r ∷ rs) ran ts ranB =
      let still = Outcome.stays_sound L Out said left m _ r ran.0 sound (keeps B R M P Out said left m (L.right m sound held) c) in
      let kept = Outcome.stays_a_map L Out said left m _ r ran.0 held in
      follow m sound held r (below B R M P Out said left OutB saidB left_b cs rs) (Turns.events_ran L Out said left cs rs) _ (follows (left r) still kept cs rs ran.1) c ran.0 (said r) refl ts ranB

  -- where the map below meets the demands, from any sound state
  pub of_below : Slots'.Demands B OutB saidB left_b → (m : M) → L.Sound m → L.IsMap m → (cs : List Asked) (rs : List Out) → Turns.Ran L Out said left m cs rs
      → (ts : List OutB) → RanB (P.below m) (below B R M P Out said left OutB saidB left_b cs rs) ts → OfBelow m cs rs ts
  of_below demands m sound held cs rs ran ts ranB =
      let found = follows m sound held cs rs ran ts ranB in
      record {
        ends_below = found.0;
        writes = found.1;
        demand_3 = demands.of_series (P.below m) sound.map_sound held.is_map (below B R M P Out said left OutB saidB left_b cs rs) ts ranB;
      }
