-- What a call on jobs has to show at each way out, from what the tree and the tests have said. Assumes nothing.
use mathlib.Core.Path.{◌≡◌, refl, sym, ap, ◌∙◌}
use mathlib.Core.Bool.{Bool, true, false, not, ◌&&◌, false≢true}
use mathlib.Core.List.{List, [], ◌∷◌}
use Prim.Native.Nat.{ℕ}
use native.Mathlib.Omega.{arith}
use Rattle.std.specs.Prelude.{Result, Ok, Err, is_err}
use Rattle.answers.specs.Faults.{finds_both}
use Rattle.answers.specs.Said.{Said, value, refused, ◌when◌, judged, leaving, on_value, judged_on_value}
use Rattle.answers.specs.Refusals.{number_of}
use Rattle.answers.specs.Answers.{answer_says, left_with}
use Rattle.answers.specs.declared.Changed.{Changed}
use Rattle.answers.specs.declared.Reply.{Reply}
use Rattle.answers.specs.declared.Reply.TheVariants.{Done as ok}
use Rattle.answers.specs.declared.Refusal.{Refusal}
use Rattle.answers.specs.declared.Refusal.TheVariants.{Unsound}
use Rattle.answers.proofs.Judging.{refused_first, passed_on}
use Rattle.bits.specs.Range.{and_true, and_false, same_test}
use Rattle.slots.specs.Sets.{Named, all_free, all_used, painted, AllUsed, finds_all_free, finds_all_used}
use Rattle.slots.specs.Kinds as Kinds
use Rattle.slots.specs.Calls.{Call, says, take_call, free_call, get_call, empty_call}
use Rattle.slots.proofs.Promises.{free_promise}
use Rattle.slots.specs.View.{answered, changed, accepted_sound, found_unsound, found_sound, says_refused, says_accepted, changed_says, sound_accepted}
use Rattle.slots.specs.Jobs.{jobs, running_in, state_by, start_call, reap_call, record_call, state_call, reaped_means}
use Rattle.slots.proofs.Jobs.{record_passed}
use Rattle.slots.specs.JobView.{reaped_used}
use Rattle.views.specs.Painting.{slot_in, painted_words}
use Rattle.views.specs.Words.{AreWords, words_of, same_words}
use Rattle.views.proofs.Words.{painted_words_lem}
use Rattle.views.specs.Marks.{sixteen_fit}
use Rattle.tree.specs.declared.Tree.{Tree}
use Rattle.tree.specs.Layout.{tree_view, slot_of, of_slots, IsTree}
use Rattle.tree.specs.Says.{TakeSays}
use Rattle.jobs.specs.declared.JobRefusal.{JobRefusal}
use Rattle.jobs.specs.declared.Jobs.{Jobs}
use Rattle.jobs.specs.JobAnswers.{job_number_of, job_answer_says}
use Rattle.jobs.specs.Inner.{range_call}
use Rattle.jobs.specs.Layout.{jobs_of, jobs_view, marks_of, used_of, reaped_of, of_marks}
use Rattle.jobs.specs.Says.{Leaves, StartSays}

-- an answer that is no refusal
pub not_refused : (answer : Result Reply JobRefusal) → false ≡ is_err answer → (x : Reply) × (job_answer_says answer ≡ value x)
not_refused (Ok x) e = (x, refl)
not_refused (Err why) e = absurd (false≢true e)

is_told : (told : Result Bool Refusal) → ((why : Refusal) → told ≡ Err why → ⊥) → (b : Bool) × (answer_says told ≡ value b)
is_told (Ok b) h = (b, refl)
is_told (Err why) h = absurd (h why refl)

module _ (j : Jobs) where
  abbrev tree : Tree
  tree = j.tree

  abbrev reaped : List ℕ
  reaped = j.reaped

  -- ---- check 1

  -- where the tree's check 1 is that of the jobs, so is what it says
  answers_as_tree : {X A : Type 0} → jobs_view.is_sound j ≡ tree_view.is_sound tree → (call : Call X A) → answered tree_view tree call ≡ answered jobs_view j call
  unfolding answered
  answers_as_tree e call = ap (λ (b : Bool). judged ((1 when not b) ∷ call.checks) call.answer) (sym e)

  -- a tree that says whether it is empty is sound
  module _ (told : Result Bool Refusal) (says_so : answer_says told ≡ answered tree_view tree (empty_call 10 (slot_of tree)))
      (right : jobs_view.is_sound j ≡ tree_view.is_sound tree) {X A : Type 0} (call : Call X A) where
    pub tree_passed : ((why : Refusal) → told ≡ Err why → ⊥) → says call ≡ answered jobs_view j call
    tree_passed is =
        let said = is_told told is in
        sym (found_sound jobs_view j call (right ∙ accepted_sound tree_view tree (empty_call 10 (slot_of tree)) said.0 (sym says_so ∙ said.1)))

  -- where a reaped slot is not used the state is not sound, and else it is sound as its tree is
  abbrev test : Bool
  test = reaped_used (used_of j) (reaped_of j) 1024

  shown_amiss : test ≡ false → jobs_view.is_sound j ≡ false
  shown_amiss e = ap (λ (b : Bool). tree_view.is_sound tree && b) e ∙ and_false (tree_view.is_sound tree)

  pub shown_kept : test ≡ true → jobs_view.is_sound j ≡ tree_view.is_sound tree
  shown_kept e = ap (λ (b : Bool). tree_view.is_sound tree && b) e ∙ and_true (tree_view.is_sound tree)

  -- so a call is refused with 1, or the tree that is kept answers it
  pub asked_amiss : {X A : Type 0} (call : Call X A) (why : Refusal) → (why ≡ Unsound) × (test ≡ false) → answered jobs_view j call ≡ refused (number_of why)
  asked_amiss call why none =
      found_unsound jobs_view j call (shown_amiss none.1) ∙ ap (λ (r : Refusal). refused (number_of r)) (sym none.0)

  pub asked_below : {X A : Type 0} (call : Tree → Call X A) (kept : Tree) → (kept ≡ tree) × (test ≡ true) → answered tree_view kept (call kept) ≡ answered jobs_view j (call tree)
  asked_below call kept some = ap (λ (t : Tree). answered tree_view t (call t)) some.0 ∙ answers_as_tree (shown_kept some.1) (call tree)

  -- ---- start

  module _ (held : AreWords 4 reaped) (n a : ℕ) where
    started_by : (said : Said Reply) → leaving said (λ _. of_marks (start_call 10 (marks_of j) n a).after) j
        ≡ ((leaving said (λ _. of_slots (take_call 10 (slot_of tree) n a).after) tree).0, jobs_of (leaving said (λ _. of_slots (take_call 10 (slot_of tree) n a).after) tree).1 reaped)
    unfolding leaving start_call
    started_by (value x) = ap (λ (words : List ℕ). (value x, jobs_of (of_slots (take_call 10 (slot_of tree) n a).after) words)) (same_words 4 sixteen_fit reaped held)
    started_by (refused r) = refl

    -- the tree's take tells the answer
    pub start_told : jobs_view.is_sound j ≡ tree_view.is_sound tree → (taken : Changed Refusal Tree) → TakeSays tree n a taken
        → answer_says taken.answer ≡ answered jobs_view j (start_call 10 (marks_of j) n a)
    unfolding answered start_call
    start_told e taken outcome =
        let call = take_call 10 (slot_of tree) n a in
        ap (λ out. out.0) outcome ∙ changed_says tree_view tree call ∙ answers_as_tree e call

    -- the tree's take, with the reaped slots beside it
    pub started : jobs_view.is_sound j ≡ tree_view.is_sound tree → (taken : Changed Refusal Tree) → TakeSays tree n a taken
        → (answer : Result Reply JobRefusal) → answer_says taken.answer ≡ job_answer_says answer → StartSays j n a (left_with answer (jobs_of taken.map reaped))
    unfolding changed answered start_call
    started e taken outcome answer told =
        ap (λ (said : Said Reply). (said, jobs_of taken.map reaped)) (sym told)
        ∙ ap (λ out. (out.0, jobs_of out.1 reaped)) outcome
        ∙ sym (started_by (answered tree_view tree (take_call 10 (slot_of tree) n a)))
        ∙ ap (λ (x : Said Reply). leaving x (λ _. of_marks (start_call 10 (marks_of j) n a).after) j) (answers_as_tree e (take_call 10 (slot_of tree) n a))

  -- ---- the state of a slot

  -- what the tree says of the slot's use tells its state, with its other mark
  pub state_told : jobs_view.is_sound j ≡ tree_view.is_sound tree → (slot : ℕ)
      → answered jobs_view j (state_call 10 (marks_of j) slot) ≡ on_value (λ (used : Bool). state_by used (slot_in reaped slot)) (answered tree_view tree (get_call 10 (slot_of tree) slot))
  unfolding state_call get_call answered
  state_told e slot =
      sym (answers_as_tree e (state_call 10 (marks_of j) slot))
      ∙ sym (judged_on_value (λ (used : Bool). state_by used (slot_in reaped slot)) _ (slot_of tree slot))

  -- ---- each named slot is running: used in the tree, and not reaped

  pub all_running : (s n : ℕ) → all_used (running_in (marks_of j)) s n ≡ all_used (slot_of tree) s n && all_free (slot_in reaped) s n
  all_running s n =
      let running = finds_all_used (running_in (marks_of j)) s n in
      let both = finds_both (all_used (slot_of tree) s n) (all_free (slot_in reaped) s n) (finds_all_used (slot_of tree) s n) (finds_all_free (slot_in reaped) s n) in
      same_test _ _
      (λ t.
      let parts : (i : ℕ) → Named s n i → (slot_of tree i ≡ true) × (slot_in reaped i ≡ false) = λ i h. apart (slot_of tree i) (slot_in reaped i) (running.0 t i h) in
      both.1 (λ i h. (parts i h).0, λ i h. (parts i h).1))
      (λ t. let all = both.0 t in running.1 (λ i h. rw (all.0 i h, all.1 i h)))
    where
      apart : (a b : Bool) → a && not b ≡ true → (a ≡ true) × (b ≡ false)
      apart true true e = absurd (false≢true e)
      apart true false e = (refl, refl)
      apart false b e = absurd (false≢true e)

  module _ (s n : ℕ) where
    -- what reap asks, by the two tests
    abbrev idle : Bool
    idle = not (all_used (running_in (marks_of j)) s n)

    pub idle_unused : (used : Bool) → used ≡ all_used (slot_of tree) s n → used ≡ false → idle ≡ true
    idle_unused used told e = rw (all_running s n, sym told ∙ e)

    pub idle_reaped : (free : Bool) → free ≡ all_free (slot_in reaped) s n → free ≡ false → idle ≡ true
    idle_reaped free told e = ap not (all_running s n ∙ ap (λ (b : Bool). all_used (slot_of tree) s n && b) (sym told ∙ e) ∙ and_false (all_used (slot_of tree) s n))

    pub none_idle : (used free : Bool) → used ≡ all_used (slot_of tree) s n → free ≡ all_free (slot_in reaped) s n → used ≡ true → free ≡ true → idle ≡ false
    none_idle used free told also e f = rw (all_running s n, sym told ∙ e, sym also ∙ f)

    -- the checks that come first have been judged, and reap's own or record's decides
    module _ (range : Result Reply Refusal) (told : answer_says range ≡ answered jobs_view j (range_call s n)) where
      pub reap_first : (why : Refusal) → range ≡ Err why → answered jobs_view j (reap_call 10 (marks_of j) s n) ≡ refused (number_of why)
      unfolding answered reap_call
      reap_first why e = refused_first _ _ range told _ ok why e

      pub record_first : (why : Refusal) → range ≡ Err why → answered jobs_view j (record_call 10 (marks_of j) s n) ≡ refused (number_of why)
      unfolding answered record_call
      record_first why e = refused_first _ _ range told _ ok why e

      module _ (reply : Reply) (passed : range ≡ Ok reply) where
        pub reap_by : answered jobs_view j (reap_call 10 (marks_of j) s n) ≡ judged ((13 when idle) ∷ []) ok
        unfolding answered reap_call
        reap_by = passed_on _ _ range told _ ok reply passed

        pub record_by : answered jobs_view j (record_call 10 (marks_of j) s n) ≡ judged ((14 when not (all_used (slot_in reaped) s n)) ∷ []) ok
        unfolding answered record_call
        record_by = passed_on _ _ range told _ ok reply passed

  -- ---- a refused change leaves the very state

  pub refuses : (call : Call (Kinds.State jobs) Reply) (why : JobRefusal) → refused (job_number_of why) ≡ answered jobs_view j call → Leaves j call (left_with (Err why) j)
  refuses call why told = sym (says_refused jobs_view j call (job_number_of why) (sym told))

  -- ---- an accepted change, carried out

  module _ (is_tree : IsTree tree) (held : AreWords 4 reaped) (s n : ℕ) where
    painted_beside : (v : Bool) → painted_words reaped s n v ≡ words_of 4 (painted (slot_in reaped) s n v)
    painted_beside v = painted_words_lem 4 sixteen_fit reaped held s n v

    pub reaps : (reply : Reply) → answered jobs_view j (reap_call 10 (marks_of j) s n) ≡ value reply
        → (value reply, jobs_of tree (painted_words reaped s n true)) ≡ changed jobs_view j (reap_call 10 (marks_of j) s n)
    unfolding reap_call
    reaps reply said =
        let sound = (jobs_view.finds_sound j).0 (rw (accepted_sound jobs_view j _ reply said) tt) in
        (λ i. (value reply, jobs_of (sym (tree_view.same tree sound.map_sound is_tree) i) (painted_beside true i)))
        ∙ sym (says_accepted jobs_view j _ reply said)

    -- what is recorded was reaped, so it was used, and the tree frees it
    pub records : (reply : Reply) → answered jobs_view j (record_call 10 (marks_of j) s n) ≡ value reply
        → (said : Said Reply) (left : Tree) → (said, left) ≡ changed tree_view tree (free_call 10 (slot_of tree) s n)
        → (value reply, jobs_of left (painted_words reaped s n false)) ≡ changed jobs_view j (record_call 10 (marks_of j) s n)
    unfolding record_call free_call
    records reply answer said left freed =
        let is_sound_lem = accepted_sound jobs_view j _ reply answer in
        let sound = (jobs_view.finds_sound j).0 (rw is_sound_lem tt) in
        let named = record_passed 10 (marks_of j) s n reply (sym (found_sound jobs_view j _ is_sound_lem) ∙ answer) in
        let used : AllUsed (slot_of tree) s n = λ i h. sound.reaped_used_lem i (omega (arith, named.0.1, h.1)) ((reaped_means (marks_of j) i).1 (named.1 i h)) in
        let tree_said = (free_promise 10 (slot_of tree) s n).1 (named.0, used) in
        let tree_left = ap (λ out. out.1) (freed ∙ sound_accepted tree_view tree (free_call 10 (slot_of tree) s n) ok sound.map_sound tree_said) in
        (λ i. (value reply, jobs_of (tree_left i) (painted_beside false i)))
        ∙ sym (says_accepted jobs_view j _ reply answer)
