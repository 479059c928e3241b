-- What stood in specs/Gaps and rests on theorems there: moved, its statements unchanged. Rests on `Gaps`.
use Rattle.std.specs.Prelude.{◌≡◌, refl, ◌↔◌, Bool, true, false, not, List, [], ◌∷◌, ℕ, zero, suc, ◌^◌, ◌≤◌, ◌<◌, ltb, length, get_or}
use Rattle.std.proofs.Common.{sym, ◌∙◌, inl, inr, true≢false, zero-le, le_refl, arith}
use Rattle.std.proofs.Math.Path.{ap}
use Rattle.std.proofs.Math.Logic.{⊎_elim}
use borrow.Author.Tests.{ltb-true, ltb-false, le-ltb, not-true}
use Rattle.answers.specs.Said.{value}
use Rattle.answers.specs.Answers.{run}
use Rattle.answers.specs.declared.Run.{Run}
use Rattle.bits.specs.Range.{either}
use Rattle.slots.specs.Sets.{Slots}
use Rattle.slots.specs.Calls.{says}
use Rattle.slots.specs.Runs.{end_of, Listed, Apart, Order, listed_place, best_listed, best_unbeaten, best_first}
use Rattle.slots.specs.Gaps.{having, runs_of, longer, longest_of, longest_call, listed_exactly, slot_listed, listed_apart, Longest, longest_unique, Full, longest_decided}

-- lowest first, and each once: of two places in the list the later run begins after the earlier has ended
apart_sorted : (from : ℕ) (rs : List Run) → Apart from rs → (j : ℕ) → j < length rs → from ≤ (get_or rs j (run 0 0)).start
apart_sorted from [] apart j l = absurd (omega arith)
apart_sorted from (r ∷ rs) apart zero l = apart.0
apart_sorted from (r ∷ rs) apart (suc j) l = omega (arith, apart.0, apart_sorted (suc (end_of r)) rs apart.1 j (omega arith))

apart_rises : (from : ℕ) (rs : List Run) → Apart from rs → (i j : ℕ) → i < j → j < length rs → end_of (get_or rs i (run 0 0)) < (get_or rs j (run 0 0)).start
apart_rises from [] apart i j l h = absurd (omega arith)
apart_rises from (r ∷ rs) apart i zero l h = absurd (omega arith)
apart_rises from (r ∷ rs) apart zero (suc j) l h = apart_sorted (suc (end_of r)) rs apart.1 j (omega arith)
apart_rises from (r ∷ rs) apart (suc i) (suc j) l h = apart_rises (suc (end_of r)) rs apart.1 i j (omega arith) (omega arith)

pub listed_rises : (k : ℕ) (v : Bool) (S : Slots) (i j : ℕ) → i < j → j < length (runs_of k v S)
    → end_of (get_or (runs_of k v S) i (run 0 0)) < (get_or (runs_of k v S) j (run 0 0)).start
listed_rises k v S = apart_rises 0 (runs_of k v S) (listed_apart k v S)

-- there is none exactly where no slot has the value
pub none_listed : (k : ℕ) (v : Bool) (S : Slots) → (length (runs_of k v S) ≡ 0) ↔ ((i : ℕ) → i < 2 ^ k → having v S i ≡ false)
none_listed k v S = (
  λ none i l. either (having v S i)
      (λ has. let found = slot_listed k v S i l has in
      let place = (listed_place found.0 (runs_of k v S)).0 found.1 in
      absurd (omega (arith, none, place.1)))
      (λ other. other),
  λ none. either (ltb 0 (length (runs_of k v S)))
      (λ some. let r = get_or (runs_of k v S) 0 (run 0 0) in
      let first = ((listed_exactly k v S r).0 ((listed_place r (runs_of k v S)).1 (0, ltb-true 0 (length (runs_of k v S)) some, refl))).is_run in
      absurd (true≢false (sym (first.each r.start (le_refl r.start, omega (arith, first.some))) ∙ none r.start (omega (arith, first.some, first.ends)))))
      (λ some. omega (arith, ltb-false 0 (length (runs_of k v S)) some)),
)

longer_order : Order longer
longer_order = record {
  one_way = λ r q e. le-ltb r.length q.length (omega (arith, ltb-true q.length r.length e));
  through = λ r q p e f. le-ltb p.length r.length (omega (arith, ltb-false q.length r.length e, ltb-false p.length q.length f));
}

module _ (k : ℕ) (v : Bool) (S : Slots) where
  abbrev all : List Run
  all = runs_of k v S

  -- where it has a slot it is one of the runs
  longest_listed : 0 < (longest_of k v S).length → Listed (longest_of k v S) all
  unfolding longest_of
  longest_listed pos = ⊎_elim (λ none. absurd (omega (arith, pos, ap (λ (r : Run). r.length) none))) (λ is. is) (best_listed longer (run 0 0) all)

  pub longest_is : 0 < (longest_of k v S).length → Longest k v S (longest_of k v S)
  unfolding longest_of
  longest_is pos = record {
    whole = (listed_exactly k v S _).0 (longest_listed pos);
    none_longer = λ q whole. ltb-false _ q.length (best_unbeaten longer longer_order (run 0 0) all q (inr ((listed_exactly k v S q).1 whole)));
    lowest_run = λ q whole same.
        best_first longer longer_order (run 0 0) all 0 (omega arith) (listed_apart k v S) q (inr ((listed_exactly k v S q).1 whole))
        (le-ltb q.length (longest_of k v S).length (omega arith));
  }

  -- where a slot has the value, the longest has a slot
  pub some_longest : (i : ℕ) → i < 2 ^ k → having v S i ≡ true → 0 < (longest_of k v S).length
  unfolding longest_of
  some_longest i l has =
      let in_run = slot_listed k v S i l has in
      let held = in_run.2 in
      omega (arith, held, ltb-false (longest_of k v S).length in_run.0.length (best_unbeaten longer longer_order (run 0 0) all in_run.0 (inr in_run.1)))

module _ (k : ℕ) (S : Slots) where
  -- not full: one slot is free
  open_slot : (Full k S → ⊥) → 0 < (longest_of k false S).length
  open_slot room =
      either (ltb 0 (longest_of k false S).length) (λ t. ltb-true 0 (longest_of k false S).length t)
      (λ t. absurd (room (λ i l b. either (S i) (λ used. used) (λ free. absurd (omega (arith, some_longest k false S i b (ap not free), ltb-false 0 (longest_of k false S).length t))))))

  -- the answer is the longest free run, the lowest on a tie; and 7 exactly when the map is full
  pub longest_promise : (r : Run) → (says (longest_call k S) ≡ value r) ↔ Longest k false S r
  longest_promise r = (
    λ said.
        let accepted = ((longest_decided k S).accepts r).0 said in
        rw accepted.1 at (longest_is k false S (open_slot (λ full. accepted.0 7 (inl (refl, full))))),
    λ is.
        let whole = is.whole.is_run in
        let free : having false S r.start ≡ true = whole.each r.start (le_refl r.start, omega (arith, whole.some)) in
        let inside : r.start < 2 ^ k = omega (arith, whole.some, whole.ends) in
        ((longest_decided k S).accepts r).1 (
          λ j. ⊎_elim (λ f. true≢false (sym (f.1 r.start zero-le inside) ∙ not-true (S r.start) free)) (λ f. f),
          longest_unique k false S (longest_of k false S) r (longest_is k false S (some_longest k false S r.start inside free)) is,
        ),
  )
