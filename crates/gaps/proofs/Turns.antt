-- What the loops over the runs know at each turn, and what a slot found among 16,384 is among 1,024. Assumes nothing.
use mathlib.Core.Path.{◌≡◌, refl, sym, ap, ap₂, ◌∙◌}
use mathlib.Core.Bool.{Bool, false, not}
use mathlib.Core.List.{List, [], ◌∷◌, ◌++◌, append_assoc, append-nil}
use Prim.Native.Nat.{ℕ, ◌+◌, ◌-◌, ◌*◌, ◌≤◌, ◌<◌, min}
use lib.Dec.{ltb}
use borrow.Author.Tests.{ltb-true, ltb-false, lt-ltb}
use native.Mathlib.Nat.{min-eq_left, zero-add}
use native.Mathlib.Omega.{arith}
use lib.ListN.{length, set, length-append}
use Rattle.answers.specs.Answers.{run}
use Rattle.answers.specs.declared.Run.{Run}
use Rattle.bits.specs.Range.{either, least, least_to, least_is, least_none, least_from, least_passes, least_first}
use Rattle.bits.specs.Buffers.{put_at, put_length, put_put, put_two}
use Rattle.slots.specs.Sets.{Slots}
use Rattle.slots.specs.Lowest.{free_from}
use Rattle.slots.specs.Runs.{end_of, runs_from, next_run, next_listed, next_absent, next_ends, first_best, best_on, best_stays}
use Rattle.slots.specs.Gaps.{having, having_not, runs_of, longer, longest_of, flat, flat_long}
use Rattle.gaps.specs.Demands.{most_runs}

-- ---- the first free slot of a tree

module _ (S : Slots) (from : ℕ) (inside : from ≤ 1024) where
  abbrev test : ℕ → Bool
  test i = not (S i)

  far_is : free_from 14 S from ≡ least test from (16384 - from)
  unfolding free_from
  far_is = ap (λ (s : ℕ). least test s (16384 - from)) (min-eq_left (omega arith))

  near_none : 1024 ≤ free_from 14 S from → 1024 ≡ least test from (1024 - from)
  near_none l =
      let high : 1024 ≤ least test from (16384 - from) = rw (sym far_is) l in
      sym (least_none test from (1024 - from) (λ i f b. least_first test from (16384 - from) i f (omega arith)) ∙ omega arith)

  near_found : free_from 14 S from < 1024 → free_from 14 S from ≡ least test from (1024 - from)
  near_found l =
      let low : least test from (16384 - from) < 1024 = rw (sym far_is) l in
      far_is ∙ sym (least_is test from (1024 - from) (least test from (16384 - from)) (least_from test from (16384 - from)) (omega arith)
      (least_passes test from (16384 - from) (omega arith)) (λ i f b. least_first test from (16384 - from) i f b))

  pub near_free : (far : ℕ) → far ≡ free_from 14 S from → (r : ℕ) → r ≡ min far 1024 → r ≡ least test from (1024 - from)
  near_free far is r least_of =
      either (ltb far 1024)
      (λ t. let low = ltb-true far 1024 t in least_of ∙ min-eq_left (omega arith) ∙ is ∙ near_found (rw (sym is) low))
      (λ t. let high = ltb-false far 1024 t in omega (arith, least_of) ∙ near_none (rw (sym is) high))

-- ---- the next run, by the two searches

module _ (S : Slots) (v : Bool) (from : ℕ) where
  pub begins_near : from ≤ 1024 → (start : ℕ) → start ≡ least (having v S) from (1024 - from) → start ≤ 1024
  begins_near inside start begins = omega (arith, begins, least_to (having v S) from (1024 - from))

  -- it ends no sooner than it begins
  pub run_between : (start : ℕ) → start ≡ least (having v S) from (1024 - from) → (end : ℕ) → end ≡ least (having (not v) S) start (1024 - start)
      → (start ≤ end) × (run start (end - start) ≡ next_run (having v S) 1024 from)
  unfolding next_run
  run_between start begins end ends =
      let stops : end ≡ least (λ i. not (having v S i)) start (1024 - start) = ends ∙ ap (λ (test : ℕ → Bool). least test start (1024 - start)) (having_not v S) in (
        omega (arith, ends, least_from (having (not v) S) start (1024 - start)),
        ap (λ (e : ℕ). run start (e - start)) stops ∙ ap (λ (o : ℕ). run o (least (λ i. not (having v S i)) o (1024 - o) - o)) begins,
      )

-- ---- the longest so far

-- what the runs that are left make of it is the longest of all
pub record Comparing (S : Slots) (best : Run) (from : ℕ) : Type 0 where
  pub inside : from ≤ 1024
  pub some : 0 < best.length
  pub so_far : first_best longer best (runs_from (having false S) 1024 from) ≡ longest_of 10 false S

module _ (S : Slots) where
  abbrev first : Run
  first = next_run (having false S) 1024 0

  -- the first run beats none, and where there is no run none is the longest
  pub comparing_first : 0 < first.length → Comparing S first (end_of first)
  unfolding longest_of runs_of
  comparing_first some = record {
    inside = next_ends (having false S) 1024 0 (omega arith);
    some = some;
    so_far = sym (ap (first_best longer (run 0 0)) (next_listed (having false S) 1024 0 (omega arith) some)
        ∙ best_on longer (run 0 0) first (runs_from (having false S) 1024 (end_of first)) (lt-ltb 0 first.length some));
  }

  pub comparing_empty : first.length ≡ 0 → (longest_of 10 false S).length ≡ 0
  unfolding longest_of runs_of first_best
  comparing_empty none = ap (λ (rs : List Run). (first_best longer (run 0 0) rs).length) (next_absent (having false S) 1024 0 (omega arith) none)

module _ (S : Slots) (best : Run) (from : ℕ) (known : Comparing S best from) where
  abbrev next : Run
  next = next_run (having false S) 1024 from

  better_some : 0 < next.length → 0 < (first_best longer best (next ∷ [])).length
  unfolding first_best
  better_some some =
      either (longer next best) (λ e. rw (best_on longer best next [] e) some) (λ e. rw (best_stays longer best next [] e) known.some)

  pub comparing_on : 0 < next.length → Comparing S (first_best longer best (next ∷ [])) (end_of next)
  unfolding first_best
  comparing_on some = record {
    inside = next_ends (having false S) 1024 from known.inside;
    some = better_some some;
    so_far = sym (ap (first_best longer best) (next_listed (having false S) 1024 from known.inside some)) ∙ known.so_far;
  }

  pub comparing_none : next.length ≡ 0 → best ≡ longest_of 10 false S
  unfolding first_best
  comparing_none none = sym (ap (first_best longer best) (next_absent (having false S) 1024 from known.inside none)) ∙ known.so_far

-- ---- the list so far

pub record Listing (S : Slots) (v : Bool) (before list : List ℕ) (count from : ℕ) : Type 0 where
  pub inside : from ≤ 1024
  -- the runs that are written, and those that are left
  pub done : List Run
  pub so_far : done ++ runs_from (having v S) 1024 from ≡ runs_of 10 v S
  pub many : count ≡ length done
  pub written : list ≡ put_at before 0 (flat done)

flat_more : (rs : List Run) (r : Run) → flat (rs ++ (r ∷ [])) ≡ flat rs ++ (r.start ∷ (r.length ∷ []))
flat_more [] r = refl
flat_more (q ∷ qs) r = ap (λ (rest : List ℕ). q.start ∷ (q.length ∷ rest)) (flat_more qs r)

module _ (S : Slots) (v : Bool) (before : List ℕ) (long : 1024 ≤ length before) where
  pub listing_first : Listing S v before before 0 0
  unfolding runs_of put_at
  listing_first = record { inside = omega arith; done = []; so_far = refl; many = refl; written = refl }

  module _ (list : List ℕ) (count from : ℕ) (known : Listing S v before list count from) where
    abbrev found : Run
    found = next_run (having v S) 1024 from

    flat_count : length (flat known.done) ≡ 2 * count
    flat_count = omega (arith, flat_long known.done, known.many)

    whole : 0 < found.length → known.done ++ (found ∷ runs_from (having v S) 1024 (end_of found)) ≡ runs_of 10 v S
    whole some = sym (ap (λ (rs : List Run). known.done ++ rs) (next_listed (having v S) 1024 from known.inside some)) ∙ known.so_far

    -- there is room for one more
    pub listing_room : 0 < found.length → 2 * count + 2 ≤ 1024
    listing_room some =
        let all = ap length (whole some) in
        let parts = length-append known.done (found ∷ runs_from (having v S) 1024 (end_of found)) in
        omega (arith, all, parts, known.many, most_runs v S)

    listing_few : 2 * count ≤ 1024
    listing_few = omega (arith, ap length known.so_far, length-append known.done (runs_from (having v S) 1024 from), known.many, most_runs v S)

    pub listing_long : length list ≡ length before
    listing_long = let few = listing_few in ap length known.written ∙ put_length before 0 (flat known.done) (omega (arith, flat_count, zero-add (length (flat known.done))))

    pub listing_on : 0 < found.length → (start size : ℕ) → start ≡ found.start → size ≡ found.length → (next : ℕ) → next ≡ end_of found
        → Listing S v before (set (set list (2 * count) start) (2 * count + 1) size) (count + 1) next
    listing_on some start size starts sizes next ends =
        let room = listing_room some in
        let kept = listing_long in
        let pair = start ∷ (size ∷ []) in
        record {
          inside = omega (arith, ends, next_ends (having v S) 1024 from known.inside);
          done = known.done ++ (found ∷ []);
          so_far = append_assoc known.done (found ∷ []) (runs_from (having v S) 1024 next)
              ∙ ap (λ (e : ℕ). known.done ++ (found ∷ runs_from (having v S) 1024 e)) ends ∙ whole some;
          many = omega (arith, length-append known.done (found ∷ []), known.many);
          written = put_two list (2 * count) start size (omega (arith, kept))
              ∙ ap₂ (λ (l : List ℕ) (o : ℕ). put_at l o pair) known.written (sym (zero-add (length (flat known.done)) ∙ flat_count))
              ∙ put_put before 0 (flat known.done) pair (omega (arith, zero-add (length (flat known.done)), flat_count))
              ∙ ap (put_at before 0) (ap₂ (λ (s n : ℕ). flat known.done ++ (s ∷ (n ∷ []))) starts sizes ∙ sym (flat_more known.done found));
        }

    listed_all : runs_from (having v S) 1024 from ≡ [] → ◌≡◌ {A = ℕ × List ℕ} (count, list) (length (runs_of 10 v S), put_at before 0 (flat (runs_of 10 v S)))
    listed_all none =
        let all : known.done ≡ runs_of 10 v S = sym (append-nil known.done) ∙ ap (λ (rs : List Run). known.done ++ rs) (sym none) ∙ known.so_far in
        λ i. ((known.many ∙ ap length all) i, (known.written ∙ ap (λ (rs : List Run). put_at before 0 (flat rs)) all) i)

    pub listing_none : found.length ≡ 0 → ◌≡◌ {A = ℕ × List ℕ} (count, list) (length (runs_of 10 v S), put_at before 0 (flat (runs_of 10 v S)))
    listing_none none = listed_all (next_absent (having v S) 1024 from known.inside none)
