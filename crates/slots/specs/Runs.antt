-- Runs of numbers that pass a test, each as long as possible: the list of them, lowest first, and the longest. A map's free runs and its used runs are
-- both such runs, by the value that is looked for. Rests on `Sets`.
use Rattle.std.specs.Prelude.{◌≡◌, ◌↔◌, ◌⊎◌, Bool, ltb, eqb, length, get_or}
use Rattle.std.proofs.Math.Path.{refl, ap}
use Rattle.std.proofs.Common.{sym, subst, ap₂, ◌∙◌, ⊎_elim, true≢false, le_refl, le_trans, le_antisymm, lt_of_not-le, zero-add, add-zero, add-suc, suc-add}
use Rattle.std.proofs.Math.Logic.{inl, inr}
use Rattle.std.proofs.Math.Bool.{true, false, not}
use mathlib.Core.List.{List, [], ◌∷◌}
use Prim.Native.Nat.{ℕ, zero, suc, ◌+◌, ◌-◌, ◌*◌, ◌/◌, ◌%◌, ◌≤◌, ◌<◌}
use native.Mathlib.Omega.{arith}
use borrow.Author.Tests.{ltb-true, ltb-false, eqb-true, eqb-false, eq-eqb, ne_eqb, not-true, not-false}
use Rattle.answers.specs.Answers.{run}
use Rattle.answers.specs.declared.Run.{Run}
use Rattle.bits.specs.Range.{either, le_of_not_lt, least, least_from, least_to, least_passes, least_first}
use Rattle.slots.specs.Sets.{Named}

-- ---- the runs

-- a number that passes joins the run that begins right after it, and is else a run of its own
unfoldable pub joined : ℕ → List Run → List Run
joined s [] = run s 1 ∷ []
joined s (r ∷ rs) = elim (eqb r.start (suc s)) [ true ↦ run s (suc r.length) ∷ rs | false ↦ run s 1 ∷ r ∷ rs ]

-- the runs of those of the n numbers from s on that pass, lowest first
unfoldable pub runs_in : (ℕ → Bool) → ℕ → ℕ → List Run
runs_in test s zero = []
runs_in test s (suc n) =
    let rest = runs_in test (suc s) n in
    elim (test s) [ true ↦ joined s rest | false ↦ rest ]

-- ---- what they mean

-- where a run ends
abbrev pub end_of : Run → ℕ
end_of r = r.start + r.length

-- the number is one of the run's
abbrev pub Holds : Run → ℕ → Type 0
Holds r i = Named r.start r.length i

-- a run of the n numbers from s on: it has a number, lies there, and each of its numbers passes
pub record RunIn (test : ℕ → Bool) (s n : ℕ) (r : Run) : Type 0 where
  pub some : 0 < r.length
  pub from : s ≤ r.start
  pub ends : end_of r ≤ s + n
  pub each : (i : ℕ) → Holds r i → test i ≡ true

-- and it is the longest possible: no other such run has all of its numbers
pub record Whole (test : ℕ → Bool) (s n : ℕ) (r : Run) : Type 0 where
  pub is_run : RunIn test s n r
  pub longest : (q : Run) → RunIn test s n q → q.start ≤ r.start → end_of r ≤ end_of q → q ≡ r

-- the run stands in the list
abbrev pub Listed : Run → List Run → Type 0
Listed r [] = ⊥
Listed r (q ∷ qs) = (r ≡ q) ⊎ Listed r qs

-- each begins after the one before has ended, and one number at least lies between them: so they rise, and none stands there twice
abbrev pub Apart : ℕ → List Run → Type 0
Apart from [] = Unit {0}
Apart from (r ∷ rs) = (from ≤ r.start) × Apart (suc (end_of r)) rs

-- ---- a run is known by its start and its length, and by its start and its end

same_run : (r q : Run) → r.start ≡ q.start → r.length ≡ q.length → r ≡ q
same_run r q starts lengths i = run (starts i) (lengths i)

same_ends : (r q : Run) → r.start ≡ q.start → end_of r ≡ end_of q → r ≡ q
same_ends r q starts ends = same_run r q starts (omega arith)

-- ---- the longest possible is what no neighbour continues

pub record Closed (test : ℕ → Bool) (s n : ℕ) (r : Run) : Type 0 where
  pub is_run : RunIn test s n r
  pub before : (i : ℕ) → s ≤ i → suc i ≡ r.start → test i ≡ false
  pub after : end_of r < s + n → test (end_of r) ≡ false

module _ (test : ℕ → Bool) (s n : ℕ) where
  -- a run that has a number of a closed one goes no further than it
  from_inside : (r q : Run) → Closed test s n r → RunIn test s n q → (i : ℕ) → Holds r i → Holds q i → r.start ≤ q.start
  from_inside r q closed other i in-r in-q =
      le_of_not_lt (λ lt.
      let last : ℕ = r.start - 1 in
      true≢false (sym (other.each last (omega arith, omega (arith, in-r, in-q))) ∙ closed.before last (omega (arith, other.from)) (omega arith)))

  to_inside : (r q : Run) → Closed test s n r → RunIn test s n q → (i : ℕ) → Holds r i → Holds q i → end_of q ≤ end_of r
  to_inside r q closed other i in-r in-q =
      le_of_not_lt (λ lt.
      true≢false (sym (other.each (end_of r) (omega (arith, in-r, in-q), lt)) ∙ closed.after (omega (arith, other.ends))))

  pub whole_means : (r : Run) → Whole test s n r ↔ Closed test s n r
  whole_means r = (
    λ whole.
        let is = whole.is_run in
        record {
          is_run = is;
          before = λ i l next. either (test i)
              (λ t. let longer : run i (suc r.length) ≡ r = whole.longest (run i (suc r.length)) (record {
                some = omega arith;
                from = l;
                ends = omega (arith, is.ends);
                each = λ p h. either (eqb p i) (λ e. ap test (eqb-true p i e) ∙ t) (λ e. is.each p (above p i h.0 (eqb-false p i e) next, omega (arith, h.1)));
              }) (omega arith) (omega arith) in
              absurd (omega (arith, ap (λ (q : Run). q.start) longer)))
              (λ t. t);
          after = λ lt. either (test (end_of r))
              (λ t. let longer : run r.start (suc r.length) ≡ r = whole.longest (run r.start (suc r.length)) (record {
                some = omega arith;
                from = is.from;
                ends = omega arith;
                each = λ p h. either (eqb p (end_of r)) (λ e. ap test (eqb-true p (end_of r) e) ∙ t) (λ e. is.each p (h.0, below p (end_of r) (eqb-false p (end_of r) e) (omega (arith, h.1))));
              }) (omega arith) (omega arith) in
              absurd (omega (arith, ap (λ (q : Run). q.length) longer)))
              (λ t. t);
        },
    λ closed.
        let is = closed.is_run in
        record {
          is_run = is;
          longest = λ q other l h.
              let first : Holds r r.start = (le_refl r.start, omega (arith, is.some)) in
              let there : Holds q r.start = (l, omega (arith, is.some)) in
              same_ends q r (le_antisymm l (from_inside r q closed other r.start first there)) (le_antisymm (to_inside r q closed other r.start first there) h);
        },
  )
    where
      above : (p i : ℕ) → i ≤ p → (p ≡ i → ⊥) → suc i ≡ r.start → r.start ≤ p
      above p i l other next = le_of_not_lt (λ lt. other (omega arith))

      below : (p e : ℕ) → (p ≡ e → ⊥) → p ≤ e → p < e
      below p e other l = lt_of_not-le (λ g. other (omega arith))

  -- two that share a number are one
  pub closed_one : (r q : Run) → Closed test s n r → Closed test s n q → (i : ℕ) → Holds r i → Holds q i → r ≡ q
  closed_one r q f g i in-r in-q =
      same_ends r q
      (le_antisymm (from_inside r q f g.is_run i in-r in-q) (from_inside q r g f.is_run i in-q in-r))
      (le_antisymm (to_inside q r g f.is_run i in-q in-r) (to_inside r q f g.is_run i in-r in-q))

-- ---- the list, number by number

-- a number joins what comes after it
module _ (test : ℕ → Bool) (s n : ℕ) where
  pub runs_hit : test s ≡ true → runs_in test s (suc n) ≡ joined s (runs_in test (suc s) n)
  unfolding runs_in
  runs_hit e = rw (e, runs_in)

  pub runs_miss : test s ≡ false → runs_in test s (suc n) ≡ runs_in test (suc s) n
  unfolding runs_in
  runs_miss e = rw (e, runs_in)

-- the run right after it, or a run of its own
module _ (s : ℕ) (r : Run) (rs : List Run) where
  pub joined_longer : r.start ≡ suc s → joined s (r ∷ rs) ≡ run s (suc r.length) ∷ rs
  unfolding joined
  joined_longer e = ap (λ (b : Bool). elim b [ true ↦ run s (suc r.length) ∷ rs | false ↦ run s 1 ∷ r ∷ rs ]) (eq-eqb r.start (suc s) e)

  pub joined_alone : (r.start ≡ suc s → ⊥) → joined s (r ∷ rs) ≡ run s 1 ∷ r ∷ rs
  unfolding joined
  joined_alone e = ap (λ (b : Bool). elim b [ true ↦ run s (suc r.length) ∷ rs | false ↦ run s 1 ∷ r ∷ rs ]) (ne_eqb r.start (suc s) e)

-- the list begins at s
abbrev Begins : ℕ → List Run → Type 0
Begins s [] = ⊥
Begins s (r ∷ rs) = r.start ≡ s

joined_begins : (s : ℕ) (rs : List Run) → Begins s (joined s rs)
unfolding joined
joined_begins s [] = refl
joined_begins s (r ∷ rs) =
    either (eqb r.start (suc s)) (λ e. rw (joined_longer s r rs (eqb-true r.start (suc s) e))) (λ e. rw (joined_alone s r rs (eqb-false r.start (suc s) e)))

runs_begin : (test : ℕ → Bool) (s n : ℕ) → 0 < n → test s ≡ true → Begins s (runs_in test s n)
runs_begin test s zero pos e = absurd (omega arith)
runs_begin test s (suc n) pos e = rw (runs_hit test s n e) (joined_begins s (runs_in test (suc s) n))

-- they lie apart
apart_later : (from later : ℕ) (rs : List Run) → from ≤ later → Apart later rs → Apart from rs
apart_later from later [] l h = tt
apart_later from later (r ∷ rs) l h = (le_trans l h.0, h.1)

-- what is listed begins no earlier
pub listed_from : (from : ℕ) (rs : List Run) → Apart from rs → (r : Run) → Listed r rs → from ≤ r.start
listed_from from [] h r is = absurd is
listed_from from (p ∷ ps) h r (inl is) = rw is h.0
listed_from from (p ∷ ps) h r (inr is) = omega (arith, h.0, listed_from (suc (end_of p)) ps h.1 r is)

joined_apart : (s : ℕ) (rs : List Run) → Apart (suc s) rs → Apart s (joined s rs)
unfolding joined
joined_apart s [] h = (le_refl s, tt)
joined_apart s (r ∷ rs) h =
    either (eqb r.start (suc s))
    (λ e. let same = eqb-true r.start (suc s) e in rw (joined_longer s r rs same) (le_refl s, apart_later (suc (s + suc r.length)) (suc (end_of r)) rs (omega arith) h.1))
    (λ e. let other = eqb-false r.start (suc s) e in rw (joined_alone s r rs other) (le_refl s, (past h.0 other, h.1)))
  where
    past : suc s ≤ r.start → (r.start ≡ suc s → ⊥) → suc (s + 1) ≤ r.start
    past l other = let above : suc s < r.start = lt_of_not-le (λ g. other (omega arith)) in omega arith

pub runs_apart : (test : ℕ → Bool) (s n : ℕ) → Apart s (runs_in test s n)
unfolding runs_in
runs_apart test s zero = tt
runs_apart test s (suc n) =
    either (test s) (λ e. rw (runs_hit test s n e) (joined_apart s (runs_in test (suc s) n) (runs_apart test (suc s) n)))
    (λ e. rw (runs_miss test s n e) (apart_later s (suc s) (runs_in test (suc s) n) (omega arith) (runs_apart test (suc s) n)))

-- each is closed
module _ (test : ℕ → Bool) (s n : ℕ) where
  -- a run of the numbers after s, seen from s on
  closed_before : (r : Run) → Closed test (suc s) n r → (suc s ≡ r.start → test s ≡ false) → Closed test s (suc n) r
  closed_before r closed free = record {
    is_run = record { some = closed.is_run.some; from = omega (arith, closed.is_run.from); ends = omega (arith, closed.is_run.ends); each = closed.is_run.each };
    before = λ i l next. either (eqb i s) (λ e. let same = eqb-true i s e in rw same (free (omega arith)))
        (λ e. closed.before i (later i l (eqb-false i s e)) next);
    after = λ lt. closed.after (omega arith);
  }
    where
      later : (i : ℕ) → s ≤ i → (i ≡ s → ⊥) → suc s ≤ i
      later i l other = lt_of_not-le (λ g. other (omega arith))

  -- s alone
  closed_alone : test s ≡ true → (0 < n → test (suc s) ≡ false) → Closed test s (suc n) (run s 1)
  closed_alone e free = record {
    is_run = record { some = omega arith; from = le_refl s; ends = omega arith; each = λ i h. let same : s ≡ i = omega (arith, h.0, h.1) in rw (sym same) e };
    before = λ i l next. absurd (omega arith);
    after = λ lt. ap test next ∙ free (omega arith);
  }
    where
      next : s + 1 ≡ suc s
      next = omega arith

  -- s and the run after it
  closed_longer : test s ≡ true → (r : Run) → Closed test (suc s) n r → r.start ≡ suc s → Closed test s (suc n) (run s (suc r.length))
  closed_longer e r closed starts = record {
    is_run = record {
      some = omega arith;
      from = le_refl s;
      ends = omega (arith, closed.is_run.ends);
      each = λ i h. either (eqb i s) (λ t. ap test (eqb-true i s t) ∙ e) (λ t. closed.is_run.each i (later i h.0 (eqb-false i s t), omega (arith, h.1)));
    };
    before = λ i l next. absurd (omega arith);
    after = λ lt. ap test ends ∙ closed.after (omega arith);
  }
    where
      later : (i : ℕ) → s ≤ i → (i ≡ s → ⊥) → r.start ≤ i
      later i l other = let above : s < i = lt_of_not-le (λ g. other (omega arith)) in omega arith

      ends : s + suc r.length ≡ end_of r
      ends = omega arith

  joined_closed : test s ≡ true → (rs : List Run) → (0 < n → test (suc s) ≡ true → Begins (suc s) rs) → Apart (suc s) rs
      → ((r : Run) → Listed r rs → Closed test (suc s) n r) → (r : Run) → Listed r (joined s rs) → Closed test s (suc n) r
  unfolding joined
  joined_closed e [] begins apart each r (inl is) =
      rw is (closed_alone e (λ pos. either (test (suc s)) (λ t. absurd (begins pos t)) (λ t. t)))
  joined_closed e [] begins apart each r (inr is) = absurd is
  joined_closed e (q ∷ qs) begins apart each r is =
      either (eqb q.start (suc s))
      (λ t. let same = eqb-true q.start (suc s) t in longer same (rw (joined_longer s q qs same) at is))
      (λ t. let other = eqb-false q.start (suc s) t in alone other (rw (joined_alone s q qs other) at is))
    where
      -- what is listed after the first begins later than right after s
      after_first : Listed r qs → suc s ≡ r.start → test s ≡ false
      after_first is next = absurd (omega (arith, apart.0, listed_from (suc (end_of q)) qs apart.1 r is))

      longer : q.start ≡ suc s → Listed r (run s (suc q.length) ∷ qs) → Closed test s (suc n) r
      longer same (inl is) = rw is (closed_longer e q (each q (inl refl)) same)
      longer same (inr is) = closed_before r (each r (inr is)) (after_first is)

      alone : (q.start ≡ suc s → ⊥) → Listed r (run s 1 ∷ q ∷ qs) → Closed test s (suc n) r
      alone other (inl is) = rw is (closed_alone e (λ pos. either (test (suc s)) (λ u. absurd (other (begins pos u))) (λ u. u)))
      alone other (inr (inl is)) = rw is (closed_before q (each q (inl refl)) (λ next. absurd (other (sym next))))
      alone other (inr (inr is)) = closed_before r (each r (inr is)) (after_first is)

listed_closed : (test : ℕ → Bool) (s n : ℕ) (r : Run) → Listed r (runs_in test s n) → Closed test s n r
unfolding runs_in
listed_closed test s zero r is = absurd is
listed_closed test s (suc n) r is =
    either (test s)
    (λ e. joined_closed test s n e (runs_in test (suc s) n) (runs_begin test (suc s) n) (runs_apart test (suc s) n) (listed_closed test (suc s) n) r (rw (runs_hit test s n e) at is))
    (λ e. closed_before test s n r (listed_closed test (suc s) n r (rw (runs_miss test s n e) at is)) (λ _. e))

-- each number that passes is in one of them
joined_holds : (s i : ℕ) (rs : List Run) (r : Run) → Listed r rs → Holds r i → (q : Run) × Listed q (joined s rs) × Holds q i
unfolding joined
joined_holds s i [] r is h = absurd is
joined_holds s i (p ∷ ps) r is h =
    either (eqb p.start (suc s))
    (λ e. let same = eqb-true p.start (suc s) e in rw (joined_longer s p ps same) (longer same is))
    (λ e. rw (joined_alone s p ps (eqb-false p.start (suc s) e)) (r, inr is, h))
  where
    longer : p.start ≡ suc s → Listed r (p ∷ ps) → (q : Run) × Listed q (run s (suc p.length) ∷ ps) × Holds q i
    longer same (inl is) =
        let lower : r.start ≡ p.start = ap (λ (q : Run). q.start) is in
        let alike : r.length ≡ p.length = ap (λ (q : Run). q.length) is in
        (run s (suc p.length), inl refl, (omega (arith, h.0), omega (arith, h.1)))
    longer same (inr is) = (r, inr is, h)

joined_first : (s : ℕ) (rs : List Run) → (q : Run) × Listed q (joined s rs) × Holds q s
unfolding joined
joined_first s [] = (run s 1, inl refl, (le_refl s, omega arith))
joined_first s (r ∷ rs) =
    either (eqb r.start (suc s))
    (λ e. rw (joined_longer s r rs (eqb-true r.start (suc s) e)) (run s (suc r.length), inl refl, (le_refl s, omega arith)))
    (λ e. rw (joined_alone s r rs (eqb-false r.start (suc s) e)) (run s 1, inl refl, (le_refl s, omega arith)))

pub passing_listed : (test : ℕ → Bool) (s n i : ℕ) → Named s n i → test i ≡ true → (r : Run) × Listed r (runs_in test s n) × Holds r i
unfolding runs_in
passing_listed test s zero i h e = absurd (omega (arith, h.0, h.1))
passing_listed test s (suc n) i h e =
    either (eqb i s)
    (λ t. let same = eqb-true i s t in rw (runs_hit test s n (rw (sym same) e), same) (joined_first s (runs_in test (suc s) n)))
    (λ t. let tail = passing_listed test (suc s) n i (later (eqb-false i s t), omega (arith, h.1)) e in
    either (test s) (λ u. rw (runs_hit test s n u) (joined_holds s i (runs_in test (suc s) n) tail.0 tail.1 tail.2))
    (λ u. rw (runs_miss test s n u) tail))
  where
    later : (i ≡ s → ⊥) → suc s ≤ i
    later other = lt_of_not-le (λ g. other (omega (arith, h.0)))

-- ---- listed exactly if it is the longest possible

pub listed_means : (test : ℕ → Bool) (s n : ℕ) (r : Run) → Listed r (runs_in test s n) ↔ Whole test s n r
listed_means test s n r = (
  λ is. (whole_means test s n r).1 (listed_closed test s n r is),
  λ whole.
      let closed = (whole_means test s n r).0 whole in
      let is = whole.is_run in
      let first : Holds r r.start = (le_refl r.start, omega (arith, is.some)) in
      let found = passing_listed test s n r.start (is.from, omega (arith, is.some, is.ends)) (is.each r.start first) in
      let same : r ≡ found.0 = closed_one test s n r found.0 closed (listed_closed test s n found.0 found.1) r.start first found.2 in
      rw same found.1,
)

-- to be listed is to stand at a place of the list
pub listed_place : (r : Run) (rs : List Run) → Listed r rs ↔ ((j : ℕ) × (j < length rs) × (get_or rs j (run 0 0) ≡ r))
listed_place r rs = (to rs, λ place. from rs place.0 place.1 place.2)
  where
    to : (rs : List Run) → Listed r rs → (j : ℕ) × (j < length rs) × (get_or rs j (run 0 0) ≡ r)
    to [] is = absurd is
    to (q ∷ qs) (inl is) = (0, omega arith, sym is)
    to (q ∷ qs) (inr is) = let later = to qs is in (suc later.0, omega (arith, later.1), later.2)

    from : (rs : List Run) (j : ℕ) → j < length rs → get_or rs j (run 0 0) ≡ r → Listed r rs
    from [] j l e = absurd (omega arith)
    from (q ∷ qs) zero l e = inl (sym e)
    from (q ∷ qs) (suc j) l e = inr (from qs j (omega arith) e)

-- ---- how many there are: each takes a number, and each but the last one more after it

apart_few : (from end : ℕ) (rs : List Run) → from ≤ suc end → Apart from rs → ((r : Run) → Listed r rs → (0 < r.length) × (end_of r ≤ end)) → from + 2 * length rs ≤ suc end
apart_few from end [] l apart each = omega arith
apart_few from end (r ∷ rs) l apart each =
    let here = each r (inl refl) in
    let rest = apart_few (suc (end_of r)) end rs (omega (arith, here.1)) apart.1 (λ q is. each q (inr is)) in
    omega (arith, here.0, apart.0, rest)

-- at most half of the numbers, rounded up
pub runs_few : (test : ℕ → Bool) (s n : ℕ) → 2 * length (runs_in test s n) ≤ suc n
runs_few test s n =
    let few = apart_few s (s + n) (runs_in test s n) (omega arith) (runs_apart test s n)
    (λ r is. let closed = listed_closed test s n r is in (closed.is_run.some, closed.is_run.ends)) in
    omega (arith, few)

-- ---- from run to run, as a loop finds them: `end` is where the numbers end

abbrev pub runs_from : (ℕ → Bool) → ℕ → ℕ → List Run
runs_from test end s = runs_in test s (end - s)

module _ (test : ℕ → Bool) where
  -- numbers that fail are passed over
  runs_skip : (d s n : ℕ) → ((i : ℕ) → s ≤ i → i < s + d → test i ≡ false) → runs_in test s (d + n) ≡ runs_in test (s + d) n
  runs_skip zero s n fails = rw (zero-add n, add-zero s)
  runs_skip (suc d) s n fails =
      ap (runs_in test s) (suc-add d n) ∙ runs_miss test s (d + n) (fails s (le_refl s) (omega arith))
      ∙ runs_skip d (suc s) n (λ i l b. fails i (omega arith) (omega arith))
      ∙ ap (λ (from : ℕ). runs_in test from n) (suc-add s d ∙ sym (add-suc s d))

  -- numbers that pass, up to one that fails or to the end, are a run
  runs_take : (d s n : ℕ) → ((i : ℕ) → s ≤ i → i < s + suc d → test i ≡ true) → (0 < n → test (s + suc d) ≡ false)
      → runs_in test s (suc d + n) ≡ run s (suc d) ∷ runs_in test (s + suc d) n
  unfolding joined runs_in
  runs_take zero s n passes stops =
      let next : s + 1 ≡ suc s = omega arith in
      ap (runs_in test s) one ∙ runs_hit test s n (passes s (le_refl s) (omega arith))
      ∙ by n (λ pos. ap test (sym next) ∙ stops pos)
      ∙ ap (λ (from : ℕ). run s 1 ∷ runs_in test from n) (sym next)
    where
      one : 1 + n ≡ suc n
      one = omega arith

      alone : (rs : List Run) → Apart (suc (suc s)) rs → joined s rs ≡ run s 1 ∷ rs
      alone [] apart = refl
      alone (r ∷ rs) apart = joined_alone s r rs (λ e. omega (arith, apart.0))

      by : (n : ℕ) → (0 < n → test (suc s) ≡ false) → joined s (runs_in test (suc s) n) ≡ run s 1 ∷ runs_in test (suc s) n
      by zero free = alone [] tt
      by (suc n) free = rw (runs_miss test (suc s) n (free (omega arith))) (alone (runs_in test (suc (suc s)) n) (runs_apart test (suc (suc s)) n))
  runs_take (suc d) s n passes stops =
      let ends : suc s + suc d ≡ s + suc (suc d) = omega arith in
      ap (runs_in test s) (suc-add (suc d) n) ∙ runs_hit test s (suc d + n) (passes s (le_refl s) (omega arith))
      ∙ ap (joined s) (runs_take d (suc s) n (λ i l b. passes i (omega arith) (omega arith)) (λ pos. ap test ends ∙ stops pos))
      ∙ joined_longer s (run (suc s) (suc d)) (runs_in test (suc s + suc d) n) refl
      ∙ ap (λ (from : ℕ). run s (suc (suc d)) ∷ runs_in test from n) ends

  module _ (end s : ℕ) where
    -- the next run goes from o up to e
    pub runs_next : (o e : ℕ) → s ≤ o → o < e → e ≤ end → ((i : ℕ) → s ≤ i → i < o → test i ≡ false) → ((i : ℕ) → o ≤ i → i < e → test i ≡ true)
        → (e < end → test e ≡ false) → runs_from test end s ≡ run o (e - o) ∷ runs_from test end e
    runs_next o e l lt within fails passes stops =
        let at-o : s + (o - s) ≡ o = omega arith in
        let long : suc (e - o - 1) ≡ e - o = omega arith in
        let at-e : o + suc (e - o - 1) ≡ e = omega arith in
        ap (runs_in test s) (omega arith)
        ∙ runs_skip (o - s) s (suc (e - o - 1) + (end - e)) (λ i f b. fails i f (omega arith))
        ∙ ap (λ (from : ℕ). runs_in test from (suc (e - o - 1) + (end - e))) at-o
        ∙ runs_take (e - o - 1) o (end - e) (λ i f b. passes i f (omega arith)) (λ pos. ap test at-e ∙ stops (omega arith))
        ∙ ap₂ (λ (n from : ℕ). run o n ∷ runs_in test from (end - e)) long at-e

    -- there is no more
    pub runs_done : ((i : ℕ) → s ≤ i → i < end → test i ≡ false) → runs_from test end s ≡ []
    unfolding runs_in
    runs_done fails =
        ap (runs_in test s) (sym (add-zero (end - s))) ∙ runs_skip (end - s) s 0 (λ i l b. fails i l (omega arith))

-- so many as there can be, there are where every other number passes
abbrev pub every_other : ℕ → Bool
every_other i = eqb (i % 2) 0

every_other_next : (s n : ℕ) → s % 2 ≡ 0 → runs_in every_other s (suc (suc n)) ≡ run s 1 ∷ runs_in every_other (suc (suc s)) n
every_other_next s n even =
    let fails : every_other (s + 1) ≡ false = ne_eqb ((s + 1) % 2) 0 (λ e. omega arith) in
    let two : suc (s + 1) ≡ suc (suc s) = omega arith in
    ap (runs_in every_other s) (omega arith)
    ∙ runs_take every_other 0 s (suc n) (λ i l b. let same : i ≡ s = omega arith in ap every_other same ∙ eq-eqb (s % 2) 0 even) (λ pos. fails)
    ∙ ap (λ (rs : List Run). run s 1 ∷ rs) (runs_miss every_other (s + 1) n fails ∙ ap (λ (from : ℕ). runs_in every_other from n) two)

pub every_other_most : (n s : ℕ) → s % 2 ≡ 0 → length (runs_in every_other s n) ≡ (n + 1) / 2
unfolding runs_in joined
every_other_most zero s even = refl
every_other_most (suc zero) s even = ap length (runs_hit every_other s 0 (eq-eqb (s % 2) 0 even))
every_other_most (suc (suc n)) s even =
    let rest = every_other_most n (suc (suc s)) (omega arith) in
    ap length (every_other_next s n even) ∙ omega (arith, rest)

-- the next run from s on: where the next number that passes is, and how many pass from there; none, where no number is left that passes
unfoldable pub next_run : (ℕ → Bool) → ℕ → ℕ → Run
next_run test end s =
    let o = least test s (end - s) in
    run o (least (λ i. not (test i)) o (end - o) - o)

module _ (test : ℕ → Bool) (end s : ℕ) (inside : s ≤ end) where
  abbrev first : ℕ
  first = least test s (end - s)

  abbrev stop : ℕ
  stop = least (λ i. not (test i)) first (end - first)

  first_to : first ≤ end
  first_to = omega (arith, least_to test s (end - s))

  stop_to : stop ≤ end
  stop_to = omega (arith, least_to (λ i. not (test i)) first (end - first), first_to)

  stop_from : first ≤ stop
  stop_from = least_from (λ i. not (test i)) first (end - first)

  fails_before : (i : ℕ) → s ≤ i → i < first → test i ≡ false
  fails_before i l b = least_first test s (end - s) i l b

  passes_there : (i : ℕ) → first ≤ i → i < stop → test i ≡ true
  passes_there i l b = not-false (test i) (least_first (λ i. not (test i)) first (end - first) i l b)

  -- where it has no number there is none
  pub next_none : (next_run test end s).length ≡ 0 → (i : ℕ) → s ≤ i → i < end → test i ≡ false
  unfolding next_run
  next_none none i l b =
      either (ltb first end)
      (λ t. let found = ltb-true first end t in
      let same : stop ≡ first = omega (arith, none, stop_from) in
      let passes = least_passes test s (end - s) (omega arith) in
      let fails = not-true (test stop) (least_passes (λ i. not (test i)) first (end - first) (omega arith)) in
      absurd (true≢false (sym passes ∙ ap test (sym same) ∙ fails)))
      (λ t. fails_before i l (omega (arith, ltb-false first end t)))

  -- where it has one, it is the first of the list
  pub next_listed : 0 < (next_run test end s).length → runs_from test end s ≡ next_run test end s ∷ runs_from test end (end_of (next_run test end s))
  unfolding next_run
  next_listed some =
      let ends : first + (stop - first) ≡ stop = omega (arith, stop_from) in
      runs_next test end s first stop (least_from test s (end - s)) (omega arith) stop_to fails_before passes_there
      (λ lt. not-true (test stop) (least_passes (λ i. not (test i)) first (end - first) (omega (arith, stop_from))))
      ∙ ap (λ (from : ℕ). run first (stop - first) ∷ runs_from test end from) (sym ends)

  pub next_ends : end_of (next_run test end s) ≤ end
  unfolding next_run
  next_ends = omega (arith, stop_from, stop_to)

  pub next_later : s ≤ (next_run test end s).start
  unfolding next_run
  next_later = least_from test s (end - s)

  pub next_absent : (next_run test end s).length ≡ 0 → runs_from test end s ≡ []
  next_absent none = runs_done test end s (next_none none)

-- ---- the first that none beats: of several that do not beat each other, the one that stands first

unfoldable pub first_best : (Run → Run → Bool) → Run → List Run → Run
first_best beats best [] = best
first_best beats best (r ∷ rs) = first_best beats (elim (beats r best) [ true ↦ r | false ↦ best ]) rs

-- an order of runs: two do not beat each other, and what does not beat what does not beat a third does not beat the third
pub record Order (beats : Run → Run → Bool) : Type 0 where
  pub one_way : (r q : Run) → beats r q ≡ true → beats q r ≡ false
  pub through : (r q p : Run) → beats r q ≡ false → beats q p ≡ false → beats r p ≡ false

module _ (beats : Run → Run → Bool) where
  pub best_on : (best r : Run) (rs : List Run) → beats r best ≡ true → first_best beats best (r ∷ rs) ≡ first_best beats r rs
  unfolding first_best
  best_on best r rs e = rw e

  pub best_stays : (best r : Run) (rs : List Run) → beats r best ≡ false → first_best beats best (r ∷ rs) ≡ first_best beats best rs
  unfolding first_best
  best_stays best r rs e = rw e

  -- it is one of them
  pub best_listed : (best : Run) (rs : List Run) → Listed (first_best beats best rs) (best ∷ rs)
  unfolding first_best
  best_listed best [] = inl refl
  best_listed best (r ∷ rs) =
      either (beats r best)
      (λ e. subst (λ q. Listed q (best ∷ r ∷ rs)) (sym (best_on best r rs e)) (inr (best_listed r rs)))
      (λ e. subst (λ q. Listed q (best ∷ r ∷ rs)) (sym (best_stays best r rs e)) (⊎_elim (λ is. inl is) (λ is. inr (inr is)) (best_listed best rs)))

  module _ (order : Order beats) where
    -- none beats it
    pub best_unbeaten : (best : Run) (rs : List Run) (q : Run) → Listed q (best ∷ rs) → beats q (first_best beats best rs) ≡ false
    unfolding first_best
    best_unbeaten best [] q (inl is) = rw is (either (beats best best) (λ e. order.one_way best best e) (λ e. e))
    best_unbeaten best [] q (inr is) = absurd is
    best_unbeaten best (r ∷ rs) q is =
        either (beats r best)
        (λ e. let x = first_best beats r rs in
        rw (best_on best r rs e)
        (⊎_elim (λ same. rw same (order.through best r x (order.one_way r best e) (best_unbeaten r rs r (inl refl)))) (best_unbeaten r rs q) is))
        (λ e. let x = first_best beats best rs in
        rw (best_stays best r rs e)
        (⊎_elim (λ same. best_unbeaten best rs q (inl same))
        (⊎_elim (λ same. rw same (order.through r best x e (best_unbeaten best rs best (inl refl)))) (λ later. best_unbeaten best rs q (inr later))) is))

    -- and none that it does not beat begins before it
    pub best_first : (best : Run) (rs : List Run) (from : ℕ) → best.start ≤ from → Apart from rs → (q : Run) → Listed q (best ∷ rs)
        → beats (first_best beats best rs) q ≡ false → (first_best beats best rs).start ≤ q.start
    unfolding first_best
    best_first best [] from l apart q (inl is) tied = rw is (le_refl best.start)
    best_first best [] from l apart q (inr is) tied = absurd is
    best_first best (r ∷ rs) from l apart q is tied =
        either (beats r best)
        (λ e. let x = first_best beats r rs in
        let t : beats x q ≡ false = rw (best_on best r rs e) at tied in
        rw (best_on best r rs e)
        (⊎_elim (λ same. absurd (true≢false (sym e ∙ order.through r x best (best_unbeaten r rs r (inl refl)) (rw same at t))))
        (λ later. best_first r rs (suc (end_of r)) (omega arith) apart.1 q later t) is))
        (λ e. let x = first_best beats best rs in
        let t : beats x q ≡ false = rw (best_stays best r rs e) at tied in
        let low : (p : Run) → Listed p (best ∷ rs) → beats x p ≡ false → x.start ≤ p.start = best_first best rs (suc (end_of r)) (omega (arith, l, apart.0)) apart.1 in
        rw (best_stays best r rs e)
        (⊎_elim (λ same. low q (inl same) t)
        (⊎_elim (λ same. rw same (omega (arith, low best (inl refl) (order.through x r best (rw same at t) e), l, apart.0))) (λ later. low q (inr later) t)) is))
