-- The free runs of a map of 2 ^ k and its used runs: the list of them in a lent buffer, and the longest. What each call checks, answers and leaves, and what
-- that promises. Rests on `Runs` and on `Promises`.
use Rattle.std.specs.Prelude.{◌≡◌, refl, ◌↔◌, Bool, true, false, not, List, [], ◌∷◌, ◌++◌, ℕ, zero, suc, ◌+◌, ◌-◌, ◌*◌, ◌/◌, ◌^◌, ◌≤◌, ◌<◌, T, ltb, length, get_or}
use Rattle.std.proofs.Common.{sym, ◌∙◌, inl, zero-le, le_antisymm, le_of_eq, zero-add, arith, get_or-append-add, get_or-drop}
use Rattle.std.proofs.Math.Path.{ap, fun_ext}
use Rattle.std.proofs.Math.Logic.{⊎_elim}
use Rattle.std.proofs.Math.ListN.{drop}
use borrow.Author.Tests.{not-true, not-false}
use Rattle.answers.specs.Said.{refused, ◌when◌}
use Rattle.answers.specs.Answers.{run}
use Rattle.answers.specs.Faults.{Fault, ◌if◌, FaultsDecide, finds_lt}
use Rattle.answers.specs.declared.Run.{Run}
use Rattle.bits.specs.Buffers.{put_at}
use Rattle.slots.specs.Sets.{Slots, all_used, finds_all_used}
use Rattle.slots.specs.Calls.{Call, says}
use Rattle.slots.specs.Promises.{RefusedBy, NoneFree, says_decided}
use Rattle.slots.specs.Runs.{runs_in, Holds, Whole, Listed, Apart, every_other, every_other_most, first_best, runs_apart, runs_few, listed_means, passing_listed}

-- ---- the runs of a map

-- whether the slot has the value
abbrev pub having : Bool → Slots → ℕ → Bool
having true S i = S i
having false S i = not (S i)

pub has_value : (v : Bool) (S : Slots) (i : ℕ) → having v S i ≡ true → S i ≡ v
has_value true S i e = e
has_value false S i e = not-true (S i) e

pub has_other : (v : Bool) (S : Slots) (i : ℕ) → having v S i ≡ false → S i ≡ not v
has_other true S i e = e
has_other false S i e = not-false (S i) e

pub having_other : (v : Bool) (S : Slots) (i : ℕ) → S i ≡ not v → having v S i ≡ false
having_other true S i e = e
having_other false S i e = ap not e

not_not : (b : Bool) → not (not b) ≡ b
not_not true = refl
not_not false = refl

-- not to have the value is to have the other
pub having_not : (v : Bool) (S : Slots) → having (not v) S ≡ (λ i. not (having v S i))
having_not true S = refl
having_not false S = fun_ext (λ i. sym (not_not (S i)))

-- and the value of the value is the slot's own
having_having : (v : Bool) (S : Slots) → having v (having v S) ≡ S
having_having true S = refl
having_having false S = fun_ext (λ i. not_not (S i))

-- the runs of slots that have the value: the used runs, or the free ones
unfoldable pub runs_of : ℕ → Bool → Slots → List Run
runs_of k v S = runs_in (having v S) 0 (2 ^ k)

-- the run is longer
abbrev pub longer : Run → Run → Bool
longer r q = ltb q.length r.length

-- the longest of them, the lowest on a tie; of none, a run of no slots
unfoldable pub longest_of : ℕ → Bool → Slots → Run
longest_of k v S = first_best longer (run 0 0) (runs_of k v S)

-- each run as two numbers, its start and its length
abbrev pub flat : List Run → List ℕ
flat [] = []
flat (r ∷ rs) = r.start ∷ (r.length ∷ flat rs)

-- ---- the calls

-- put them into the buffer, and answer how many there are. The numbers after them stay
unfoldable pub list_call : ℕ → Bool → Slots → List ℕ → Call (List ℕ) ℕ
list_call k v S buffer =
    let runs = runs_of k v S in
    record { checks = (11 when ltb (length buffer) (2 ^ k)) ∷ []; answer = length runs; after = put_at buffer 0 (flat runs) }

-- the longest free run
unfoldable pub longest_call : ℕ → Slots → Call Slots Run
longest_call k S = record { checks = (7 when all_used S 0 (2 ^ k)) ∷ []; answer = longest_of k false S; after = S }

-- ---- what the list means

-- a run of slots that have the value, and that no longer one contains
abbrev pub WholeRun : ℕ → Bool → Slots → Run → Type 0
WholeRun k v S r = Whole (having v S) 0 (2 ^ k) r

module _ (k : ℕ) (v : Bool) (S : Slots) where
  -- exactly these are listed
  pub listed_exactly : (r : Run) → Listed r (runs_of k v S) ↔ WholeRun k v S r
  unfolding runs_of
  listed_exactly = listed_means (having v S) 0 (2 ^ k)

  -- so each slot that has the value is in one of them
  pub slot_listed : (i : ℕ) → i < 2 ^ k → having v S i ≡ true → (r : Run) × Listed r (runs_of k v S) × Holds r i
  unfolding runs_of
  slot_listed i l = passing_listed (having v S) 0 (2 ^ k) i (zero-le, omega arith)

  pub listed_apart : Apart 0 (runs_of k v S)
  unfolding runs_of
  listed_apart = runs_apart (having v S) 0 (2 ^ k)

  -- they are at most half as many as there are slots, rounded up
  pub listed_few : 2 * length (runs_of k v S) ≤ suc (2 ^ k)
  unfolding runs_of
  listed_few = runs_few (having v S) 0 (2 ^ k)

-- so many as there can be, there are where every other slot has the value
pub alternating : Bool → Slots
alternating v = having v every_other

pub alternating_most : (k : ℕ) (v : Bool) → length (runs_of k v (alternating v)) ≡ (2 ^ k + 1) / 2
unfolding runs_of alternating
alternating_most k v = ap (λ (test : ℕ → Bool). length (runs_in test 0 (2 ^ k))) (having_having v every_other) ∙ every_other_most (2 ^ k) 0 refl

-- ---- what the list's call promises

-- the buffer has fewer numbers than the map has slots
abbrev pub list_faults : ℕ → List ℕ → List Fault
list_faults k buffer = (11 if (length buffer < 2 ^ k)) ∷ []

pub list_refused : (k : ℕ) (v : Bool) (S : Slots) (buffer : List ℕ) → RefusedBy (list_call k v S buffer) (list_faults k buffer)
unfolding list_call
list_refused k v S buffer = record { rising = omega arith; finds = (refl, finds_lt (length buffer) (2 ^ k), λ _. tt) }

pub flat_long : (rs : List Run) → length (flat rs) ≡ 2 * length rs
flat_long [] = refl
flat_long (r ∷ rs) = omega (arith, flat_long rs)

-- run j of the list, as the buffer has it
abbrev pub run_at : List ℕ → ℕ → Run
run_at buffer j = run (get_or buffer (2 * j) 0) (get_or buffer (suc (2 * j)) 0)

flat_at : (rs : List Run) (rest : List ℕ) (j : ℕ) → j < length rs → run_at (flat rs ++ rest) j ≡ get_or rs j (run 0 0)
flat_at [] rest j l = absurd (omega arith)
flat_at (r ∷ rs) rest zero l = refl
flat_at (r ∷ rs) rest (suc j) l =
    let two : 2 * suc j ≡ suc (suc (2 * j)) = omega arith in
    ap (λ (i : ℕ). run (get_or (flat (r ∷ rs) ++ rest) i 0) (get_or (flat (r ∷ rs) ++ rest) (suc i) 0)) two ∙ flat_at rs rest j (omega arith)

module _ (k : ℕ) (v : Bool) (S : Slots) (buffer : List ℕ) where
  abbrev found : List Run
  found = runs_of k v S

  abbrev left : List ℕ
  left = (list_call k v S buffer).after

  left_is : left ≡ flat found ++ drop (length (flat found)) buffer
  unfolding list_call put_at
  left_is = ap (λ (n : ℕ). flat found ++ drop n buffer) (zero-add (length (flat found)))

  -- numbers 2 j and 2 j + 1 are the start and the length of run j
  pub list_at : (j : ℕ) → j < length found → run_at left j ≡ get_or found j (run 0 0)
  list_at j l = rw left_is (flat_at found (drop (length (flat found)) buffer) j l)

  -- and the numbers after the list stay
  pub list_keeps : (i : ℕ) → 2 * length found ≤ i → get_or left i 0 ≡ get_or buffer i 0
  list_keeps i l =
      let long = flat_long found in
      let from : i ≡ length (flat found) + (i - length (flat found)) = omega arith in
      ap (λ (l : List ℕ). get_or l i 0) left_is
      ∙ ap (λ (p : ℕ). get_or (flat found ++ drop (length (flat found)) buffer) p 0) from
      ∙ get_or-append-add (flat found) _ (i - length (flat found)) 0
      ∙ get_or-drop (length (flat found)) buffer (i - length (flat found)) 0
      ∙ ap (λ (p : ℕ). get_or buffer p 0) (sym from)

-- ---- what the longest means

pub record Longest (k : ℕ) (v : Bool) (S : Slots) (r : Run) : Type 0 where
  pub whole : WholeRun k v S r
  pub none_longer : (q : Run) → WholeRun k v S q → q.length ≤ r.length
  pub lowest_run : (q : Run) → WholeRun k v S q → q.length ≡ r.length → r.start ≤ q.start

module _ (k : ℕ) (v : Bool) (S : Slots) where
  -- there is one longest
  pub longest_unique : (r q : Run) → Longest k v S r → Longest k v S q → r ≡ q
  longest_unique r q f g =
      let long : r.length ≡ q.length = le_antisymm (g.none_longer r f.whole) (f.none_longer q g.whole) in
      let starts : r.start ≡ q.start = le_antisymm (f.lowest_run q g.whole (sym long)) (g.lowest_run r f.whole long) in
      λ i. run (starts i) (long i)

-- ---- what its call promises

-- no slot is free
abbrev pub Full : ℕ → Slots → Type 0
Full k S = NoneFree k S 0

abbrev pub longest_faults : ℕ → Slots → List Fault
longest_faults k S = (7 if Full k S) ∷ []

module _ (k : ℕ) (S : Slots) where
  finds_full : T (all_used S 0 (2 ^ k)) ↔ Full k S
  finds_full =
      let found = finds_all_used S 0 (2 ^ k) in
      (λ t i l b. found.0 t i (l, omega arith), λ full. found.1 (λ i h. full i h.0 (omega (arith, h.1))))

  pub longest_refused : RefusedBy (longest_call k S) (longest_faults k S)
  unfolding longest_call
  longest_refused = record { rising = omega arith; finds = (refl, finds_full, λ _. tt) }

  pub longest_decided : FaultsDecide (says (longest_call k S)) (longest_of k false S) (longest_faults k S)
  unfolding longest_call
  longest_decided = says_decided (longest_call k S) (longest_faults k S) longest_refused

  pub longest_full : (says (longest_call k S) ≡ refused 7) ↔ Full k S
  longest_full = (
    λ said. ⊎_elim (λ f. f.1) (λ f. absurd f) ((longest_decided.refuses 7).0 said).0,
    λ full. (longest_decided.refuses 7).1 (inl (refl, full), λ j. ⊎_elim (λ f. le_of_eq (sym f.0)) (λ f. absurd f)),
  )
