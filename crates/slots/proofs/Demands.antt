-- What stood in specs/Demands and rests on theorems there: moved, its statements unchanged. Rests on `Demands`.
use Rattle.std.specs.Prelude.{◌≡◌, Bool, true, false, ℕ, ◌^◌, ◌<◌}
use Rattle.std.proofs.Common.{sym, ap, ◌∙◌}
use mathlib.Core.List.{List, ◌∷◌, map, Perm}
use Rattle.answers.specs.Said.{Said, value}
use Rattle.answers.specs.Faults.{Fault, FaultsDecide}
use Rattle.answers.specs.declared.Reply.{Reply}
use Rattle.answers.specs.declared.Reply.TheVariants.{At as at, Done as ok}
use Rattle.slots.specs.Sets.{Slots, painted, painted_named, painted_other}
use Rattle.slots.specs.Kinds.{plain}
use Rattle.slots.specs.Calls.{Call, says, leaves, take_call, claim_call, free_call, set_call, next_free_call, get_call}
use Rattle.slots.specs.Promises as Promises
use Rattle.slots.proofs.Promises as Promises'
use Rattle.slots.specs.Promises.{RefusedBy}
use Rattle.slots.specs.Records.{Entry}
use Rattle.slots.specs.View.{View, answered_decided, sound_answers}
use Rattle.slots.specs.Outcome as Outcome
use Rattle.slots.specs.Outcome.{unsound}
use Rattle.slots.specs.Plain.{Asked}
use Rattle.slots.proofs.Plain.{plain_calls}
use Rattle.slots.specs.Series as Series
use Rattle.slots.proofs.Series as Series'
use Rattle.slots.specs.Series.{AllDone, forward, backward}
use Rattle.slots.specs.Demands.{Leaves, Painted, OfAny, OfSound}

module _ (L : View plain) (Out : Type 0) (said : Out → Said Reply) (left : Out → L.Map) where
  -- a series as it was run, the record that the caller writes down from its answers, and the map that the last outcome left
  abbrev pub Ran : L.Map → List Asked → List Out → Type 0
  Ran = Series.Ran L (plain_calls L.k) Out said left

  abbrev pub record_ran : List Asked → List Out → List Entry
  record_ran = Series.record_ran L (plain_calls L.k) Out said left

  abbrev pub last_ran : L.Map → List Out → L.Map
  last_ran = Series.last_ran L (plain_calls L.k) Out said left

  abbrev pub BackRan : L.Map → List Out → List Out → Type 0
  BackRan = Series.BackRan L (plain_calls L.k) Out said left

  -- what is demanded of a series of take, claim and free calls with any numbers, run from a sound map: demand 3, of whatever outcomes the contracts allow
  pub record OfSeries (m : L.Map) (cs : List Asked) (rs : List Out) : Type 0 where
    -- walk the record backward from the last map, freeing what was taken or claimed and claiming what was freed: each step is accepted and restores the map
    -- before it
    pub walked_back : (bs : List Out) → Ran (last_ran m rs) (backward L (plain_calls L.k) (record_ran cs rs)) bs → BackRan m rs bs
    -- the record replayed from the first map, a take standing as a claim of its run, is accepted throughout and ends in the last map
    pub replayed : (fs : List Out) → Ran m (forward L (plain_calls L.k) (record_ran cs rs)) fs → AllDone (map said fs) × (last_ran m fs ≡ last_ran m rs)
    -- and the same entries in any other order from the same first map end in the same map, if every one is accepted
    pub in_any_order : (es : List Entry) → Perm es (record_ran cs rs) → (fs : List Out) → Ran m (forward L (plain_calls L.k) es) fs
        → AllDone (map said fs) → last_ran m fs ≡ last_ran m rs

  pub record Demands : Type 0 where
    pub of_any : (m : L.Map) → OfAny L Out said left m
    pub of_sound : (m : L.Map) → L.Sound m → OfSound L Out said left m
    pub of_series : (m : L.Map) → L.Sound m → L.IsMap m → (cs : List Asked) (rs : List Out) → Ran m cs rs → OfSeries m cs rs

  -- ---- any layout meets them, whose outcomes are known by what they say and leave

  module _ (m : L.Map) (c : Call Slots Reply) (r : Out) (outcome : (Leaves L Out said left) m c r) where
    decided : (fs : List Fault) → RefusedBy c fs → FaultsDecide (said r) c.answer (unsound L m ∷ fs)
    decided = Outcome.decided L Out said left m c r outcome

    as_the_set : L.Sound m → said r ≡ says c
    as_the_set = Outcome.as_the_state L Out said left m c r outcome

    the_set_left : L.Sound m → L.IsMap m → left r ≡ L.of_state (leaves (L.state_of m) c)
    the_set_left = Outcome.the_state_left L Out said left m c r outcome

    is_painted : L.Sound m → L.IsMap m → (reply : Reply) → said r ≡ value reply → (s n : ℕ) (v : Bool) → c.after ≡ painted (L.state_of m) s n v
        → Painted L Out said left m s n v r
    is_painted sound held reply says_so s n v after =
        let made : left r ≡ L.of_state (painted (L.state_of m) s n v) =
        the_set_left sound held
        ∙ ap L.of_state (Promises.accepted_leaves (L.state_of m) c reply (sym (as_the_set sound) ∙ says_so) ∙ after) in
        let holds : (i : ℕ) → i < 2 ^ L.k → L.state_of (left r) i ≡ painted (L.state_of m) s n v i =
        λ i inside. ap (λ (x : L.Map). L.state_of x i) made ∙ L.holds _ i inside in
        record {
          made_of = made;
          named = λ i inside within. holds i inside ∙ painted_named (L.state_of m) s n v i within;
          others = λ i inside apart. holds i inside ∙ painted_other (L.state_of m) s n v i apart;
        }

  module _ (known : (r q : Out) → said r ≡ said q → left r ≡ left q → r ≡ q) (m : L.Map) where
    abbrev k : ℕ
    k = L.k

    abbrev S : Slots
    S = L.state_of m

    any_map : OfAny L Out said left m
    unfolding take_call claim_call free_call set_call next_free_call get_call
    any_map = record {
      take_decided = λ n a r outcome. decided m _ r outcome _ (Promises'.take_refused k S n a);
      claim_decided = λ s n r outcome. decided m _ r outcome _ (Promises'.claim_refused k S s n);
      free_decided = λ s n r outcome. decided m _ r outcome _ (Promises'.free_refused k S s n);
      set_decided = λ s n v r outcome. decided m _ r outcome _ (Promises'.set_refused k S s n v);
      next_free_decided = λ s x outcome. rw outcome (answered_decided L m _ _ (Promises.next_free_refused k S s));
      get_decided = λ i x outcome. rw outcome (answered_decided L m _ _ (Promises.get_refused k S i));
      empty_decided = λ x outcome. rw outcome (answered_decided L m _ _ (Promises.empty_refused k S));
      used_decided = λ x outcome. rw outcome (answered_decided L m _ _ (Promises.used_refused k S));
      hands_back = Outcome.hands_back L Out said left m;
      stays_a_map = λ held c r outcome. Outcome.stays_a_map L Out said left m c r outcome held;
      one_answer = Outcome.one_answer L Out said left known m;
    }

    sound_map : L.Sound m → OfSound L Out said left m
    sound_map sound = record {
      stays_sound = λ c r outcome. Outcome.stays_sound L Out said left m c r outcome sound (λ a e. tt);
      answers_as_the_set = λ c r outcome. as_the_set m c r outcome sound;
      leaves_the_set = λ held c r outcome. the_set_left m c r outcome sound held;
      take_grants = λ n a r outcome o. rw (as_the_set m _ r outcome sound) (Promises'.take_promise k S n a o);
      take_marks = λ held n a r outcome o e.
          is_painted m _ r outcome sound held (at o) e o n true (Promises'.take_after k S n a o (sym (as_the_set m _ r outcome sound) ∙ e));
      take_refused_for_room = λ n a r outcome pos small few. rw (as_the_set m _ r outcome sound) (Promises'.take_no_room k S n a pos small few);
      claim_accepts = λ s n r outcome. rw (as_the_set m _ r outcome sound) (Promises'.claim_promise k S s n);
      claim_marks = λ held s n r outcome e. is_painted m _ r outcome sound held ok e s n true (Promises.claim_after k S s n);
      free_accepts = λ s n r outcome. rw (as_the_set m _ r outcome sound) (Promises'.free_promise k S s n);
      free_clears = λ held s n r outcome e. is_painted m _ r outcome sound held ok e s n false (Promises.free_after k S s n);
      set_accepts = λ s n v r outcome. rw (as_the_set m _ r outcome sound) (Promises'.set_promise k S s n v);
      set_paints = λ held s n v r outcome e. is_painted m _ r outcome sound held ok e s n v (Promises.set_after k S s n v);
      next_free_finds = λ s x outcome slot. rw (outcome ∙ sound_answers L m _ sound) (Promises.next_free_promise k S s slot);
      get_tells = λ i x outcome b. rw (outcome ∙ sound_answers L m _ sound) (Promises.get_promise k S i b);
      empty_tells = λ x outcome b. rw (outcome ∙ sound_answers L m _ sound) (Promises.empty_promise k S b);
      used_counts = λ x outcome. outcome ∙ sound_answers L m _ sound ∙ Promises.used_promise k S;
    }

  pub demanded : ((r q : Out) → said r ≡ said q → left r ≡ left q → r ≡ q) → Demands
  demanded known = record {
    of_any = any_map known;
    of_sound = sound_map known;
    of_series = λ m sound held cs rs ran. record {
      walked_back = Series'.ran_back L (plain_calls L.k) Out said left m sound held cs rs ran;
      replayed = Series'.ran_again L (plain_calls L.k) Out said left m sound held cs rs ran;
      in_any_order = Series'.ran_reordered L (plain_calls L.k) Out said left m sound held cs rs ran;
    };
  }
