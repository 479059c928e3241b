-- That the lists and the longest run are what is asked of them, of any outcome that the contracts allow: which refusal, what stands in the buffer, and that
-- there is one outcome. Rests on `Says`.
use Rattle.std.specs.Prelude.{◌≡◌, ◌↔◌, Bool, true, false, not, List, ◌∷◌, ℕ, ◌*◌, ◌≤◌, ◌<◌, length, get_or, Result}
use Rattle.std.proofs.Common.{sym, ◌∙◌, arith}
use Rattle.std.proofs.Math.Path.{ap}
use Rattle.answers.specs.Said.{value, refused, leaving_says, leaving_refused, leaving_value}
use Rattle.answers.specs.Faults.{◌if◌, FaultsDecide}
use Rattle.answers.specs.Answers.{run, answer_says}
use Rattle.answers.proofs.Answers.{answer_says_injective}
use Rattle.answers.specs.declared.Run.{Run}
use Rattle.answers.specs.declared.Refusal.{Refusal}
use Rattle.slots.specs.Sets.{Slots}
use Rattle.slots.specs.Runs.{end_of, listed_place}
use Rattle.slots.specs.Gaps.{has_other, having_other, runs_of, list_call, list_faults, list_refused, run_at, list_at, list_keeps, longest_of, longest_call, longest_faults, longest_refused, Longest, Full, longest_full, WholeRun, listed_exactly, listed_few, alternating, alternating_most}
use Rattle.slots.proofs.Gaps.{longest_promise, listed_rises, none_listed}
use Rattle.slots.specs.View.{answered, answered_decided, sound_answers}
use Rattle.tree.specs.declared.Tree.{Tree}
use Rattle.tree.specs.Layout.{slot_of, tree_view, Sound}
use Rattle.gaps.specs.Says.{listed, RunsSays, FreeRunsSays, UsedRunsSays, LongestFreeSays}

-- ---- 512 runs at most, and as many where every other slot has the value: so 1,024 numbers are enough, and no fewer are

pub most_runs : (v : Bool) (S : Slots) → length (runs_of 10 v S) ≤ 512
most_runs v S = omega (arith, listed_few 10 v S)

pub most_reached : (v : Bool) → length (runs_of 10 v (alternating v)) ≡ 512
most_reached v = alternating_most 10 v

-- ---- the list, of the free runs and of the used ones

module _ (t : Tree) (v : Bool) (before : List ℕ) (r : Result ℕ Refusal) (after : List ℕ) (says : RunsSays t v before r after) where
  said : answer_says r ≡ answered tree_view t (list_call 10 v (slot_of t) before)
  unfolding listed
  said = ap (λ out. out.0) says ∙ leaving_says _ before (answered tree_view t (list_call 10 v (slot_of t) before))

  -- refused by 1 exactly where the tree is not sound, and else by 11 exactly where the buffer has fewer than 1,024 numbers
  pub runs_decided : FaultsDecide (answer_says r) (length (runs_of 10 v (slot_of t))) ((1 if (Sound t → ⊥)) ∷ list_faults 10 before)
  unfolding list_call
  runs_decided = rw said (answered_decided tree_view t (list_call 10 v (slot_of t) before) (list_faults 10 before) (list_refused 10 v (slot_of t) before))

  -- a refusal leaves every number as it was
  pub refused_keeps : (k : ℕ) → answer_says r ≡ refused k → after ≡ before
  unfolding listed
  refused_keeps k e =
      ap (λ out. out.1) says
      ∙ leaving_refused _ before (answered tree_view t (list_call 10 v (slot_of t) before)) k (sym (ap (λ out. out.0) says) ∙ e)

  module _ (n : ℕ) (accepted : answer_says r ≡ value n) where
    -- the answer is how many runs there are, 512 at most
    pub counts : (n ≡ length (runs_of 10 v (slot_of t))) × (n ≤ 512)
    counts =
        let same = sym ((runs_decided.accepts n).0 accepted).1 in
        (same, omega (arith, same, most_runs v (slot_of t)))

    -- 0 exactly where no slot has the value: for the free runs, where the map is full
    pub counts_none : (n ≡ 0) ↔ ((i : ℕ) → i < 1024 → slot_of t i ≡ not v)
    counts_none =
        let none = none_listed 10 v (slot_of t) in
        (λ is i l. has_other v (slot_of t) i (none.0 (sym counts.0 ∙ is) i l), λ each. counts.0 ∙ none.1 (λ i l. having_other v (slot_of t) i (each i l)))

    left_is : after ≡ (list_call 10 v (slot_of t) before).after
    unfolding listed
    left_is = ap (λ out. out.1) says ∙ leaving_value _ before (answered tree_view t (list_call 10 v (slot_of t) before)) n (sym (ap (λ out. out.0) says) ∙ accepted)

    -- run j stands in numbers 2 j and 2 j + 1
    pub stands_at : (j : ℕ) → j < n → run_at after j ≡ get_or (runs_of 10 v (slot_of t)) j (run 0 0)
    stands_at j l = rw left_is (list_at 10 v (slot_of t) before j (omega (arith, l, counts.0)))

    -- what stands there is each run of slots with the value that no longer one contains, and nothing else
    pub stands_exactly : (q : Run) → ((j : ℕ) × (j < n) × (run_at after j ≡ q)) ↔ WholeRun 10 v (slot_of t) q
    stands_exactly q =
        let listed-so = listed_exactly 10 v (slot_of t) q in
        let placed = listed_place q (runs_of 10 v (slot_of t)) in (
          λ place. listed-so.0 (placed.1 (place.0, omega (arith, place.1, counts.0), sym (stands_at place.0 place.1) ∙ place.2)),
          λ whole.
              let place = placed.0 (listed-so.1 whole) in
              let inside : place.0 < n = omega (arith, place.1, counts.0) in
              (place.0, inside, stands_at place.0 inside ∙ place.2),
        )

    -- lowest first and each once: a later run begins after an earlier one has ended
    pub stands_rising : (i j : ℕ) → i < j → j < n → end_of (run_at after i) < (run_at after j).start
    stands_rising i j l h =
        omega (arith, ap end_of (stands_at i (omega arith)), ap (λ (q : Run). q.start) (stands_at j h), listed_rises 10 v (slot_of t) i j l (omega (arith, h, counts.0)))

    -- the numbers after the list stay
    pub rest_stays : (i : ℕ) → 2 * n ≤ i → get_or after i 0 ≡ get_or before i 0
    rest_stays i l = rw left_is (list_keeps 10 v (slot_of t) before i (omega (arith, l, counts.0)))

-- ---- the longest free run

pub longest_free_decided : (t : Tree) (r : Result Run Refusal) → LongestFreeSays t r
    → FaultsDecide (answer_says r) (longest_of 10 false (slot_of t)) ((1 if (Sound t → ⊥)) ∷ longest_faults 10 (slot_of t))
unfolding longest_call
longest_free_decided t r says = rw says (answered_decided tree_view t (longest_call 10 (slot_of t)) (longest_faults 10 (slot_of t)) (longest_refused 10 (slot_of t)))

module _ (t : Tree) (r : Result Run Refusal) (says : LongestFreeSays t r) (sound : Sound t) where
  -- what is answered is the longest, the lowest on a tie
  pub longest_free_is : (q : Run) → (answer_says r ≡ value q) ↔ Longest 10 false (slot_of t) q
  longest_free_is q = rw (says ∙ sound_answers tree_view t (longest_call 10 (slot_of t)) sound) (longest_promise 10 (slot_of t) q)

  -- and 7 exactly where the map is full
  pub longest_free_full : (answer_says r ≡ refused 7) ↔ Full 10 (slot_of t)
  longest_free_full = rw (says ∙ sound_answers tree_view t (longest_call 10 (slot_of t)) sound) (longest_full 10 (slot_of t))

-- ---- any two outcomes that a contract allows coincide

pub runs_one_answer : (t : Tree) (v : Bool) (before : List ℕ) (r q : Result ℕ Refusal) (after other : List ℕ) → RunsSays t v before r after → RunsSays t v before q other
    → (r ≡ q) × (after ≡ other)
runs_one_answer t v before r q after other p o =
    let same = p ∙ sym o in
    (answer_says_injective r q (ap (λ out. out.0) same), ap (λ out. out.1) same)

pub free_runs_one_answer : (t : Tree) (before : List ℕ) (r q : Result ℕ Refusal) (after other : List ℕ) → FreeRunsSays t before r after → FreeRunsSays t before q other
    → (r ≡ q) × (after ≡ other)
free_runs_one_answer t = runs_one_answer t false

pub used_runs_one_answer : (t : Tree) (before : List ℕ) (r q : Result ℕ Refusal) (after other : List ℕ) → UsedRunsSays t before r after → UsedRunsSays t before q other
    → (r ≡ q) × (after ≡ other)
used_runs_one_answer t = runs_one_answer t true

pub longest_free_one_answer : (t : Tree) (r q : Result Run Refusal) → LongestFreeSays t r → LongestFreeSays t q → r ≡ q
longest_free_one_answer t r q p o = answer_says_injective r q (p ∙ sym o)
