-- Three questions about the n numbers from s on, for any test: which is the least that passes, whether all pass, and how many do. Rests on
-- nothing of ours.
use Rattle.std.specs.Prelude.{◌≡◌, refl, ◌↔◌, Bool, true, false, not, ◌&&◌, ◌||◌, T, leb, ltb}
use Rattle.std.proofs.Common.{sym, ap, ap₂, ◌∙◌, true≢false, le_antisymm, lt_trans, lt_of_not-le, le_of_suc-le-suc, eq-or-lt_of_le, zero-add, add-zero, suc-add, add-suc, mul-zero, mul-suc, add_comm, leb-true, ltb-true, le-leb, lt-ltb, le-ltb}
use Rattle.std.proofs.Math.Logic.{⊎_elim}
use Rattle.std.proofs.lemmas.Bool.{false≢true}
use Prim.Native.Nat.{ℕ, zero, suc, ◌+◌, ◌*◌, ◌≤◌, ◌<◌, zero-le}
use Rattle.std.proofs.Math.Nat.{le_refl, le_trans, le-suc}
use native.Mathlib.Omega.{arith}
use Rattle.std.proofs.Math.Dec.{not_T}

-- 1 for a test that passes, 0 for one that fails
abbrev pub bit : Bool → ℕ
bit true = 1
bit false = 0

-- the least of the n numbers from s on that passes, or s + n where none does
unfoldable pub least : (ℕ → Bool) → ℕ → ℕ → ℕ
least test s zero = s
least test s (suc n) = elim (test s) [ true ↦ s | false ↦ least test (suc s) n ]

-- whether each of the n numbers from s on passes
unfoldable pub every : (ℕ → Bool) → ℕ → ℕ → Bool
every test s zero = true
every test s (suc n) = elim (test s) [ true ↦ every test (suc s) n | false ↦ false ]

-- how many of the n numbers from s on pass
unfoldable pub count : (ℕ → Bool) → ℕ → ℕ → ℕ
count test s zero = 0
count test s (suc n) = bit (test s) + count test (suc s) n

-- i is one of the n numbers from s on
unfoldable pub within : ℕ → ℕ → ℕ → Bool
within s n i = leb s i && ltb i (s + n)

-- ---- with one side known, the other decides

pub and_true : (b : Bool) → b && true ≡ b
and_true true = refl
and_true false = refl

pub and_false : (b : Bool) → b && false ≡ false
and_false true = refl
and_false false = refl

pub or_true : (b : Bool) → b || true ≡ true
or_true true = refl
or_true false = refl

pub or_false : (b : Bool) → b || false ≡ b
or_false true = refl
or_false false = refl

-- ---- a test passes or fails

pub either : {P : Type 0} (b : Bool) → (b ≡ true → P) → (b ≡ false → P) → P
either true passed failed = passed refl
either false passed failed = failed refl

-- two tests that pass together are equal
pub same_test : (a b : Bool) → (T a → T b) → (T b → T a) → a ≡ b
same_test true true f g = refl
same_test true false f g = absurd (f tt)
same_test false true f g = absurd (g tt)
same_test false false f g = refl

-- an order from the failure of its converse
pub le_of_not_lt : {m n : ℕ} → (n < m → ⊥) → m ≤ n
le_of_not_lt h = le_of_suc-le-suc (lt_of_not-le h)

-- ---- within

pub within_named : (s n i : ℕ) → (s ≤ i) × (i < s + n) → within s n i ≡ true
unfolding within
within_named s n i h = rw (le-leb s i h.0, lt-ltb i (s + n) h.1)

pub within_found : (s n i : ℕ) → within s n i ≡ true → (s ≤ i) × (i < s + n)
unfolding within
within_found s n i e =
    either (leb s i) (λ l. (leb-true s i l, ltb-true i (s + n) (rw (l, within) at e))) (λ l. absurd (false≢true (rw (l, within) at e)))

pub within_other : (s n i : ℕ) → ((s ≤ i) × (i < s + n) → ⊥) → within s n i ≡ false
unfolding within
within_other s n i h =
    either (leb s i) (λ e. rw e (le-ltb i (s + n) (le_of_not_lt (λ lt. h (leb-true s i e, lt))))) (λ e. rw e)

-- ---- the least that passes

module _ (test : ℕ → Bool) where
  -- a number that passes is the answer, and one that fails is passed over
  pub least_hit : (s n : ℕ) → test s ≡ true → least test s (suc n) ≡ s
  unfolding least
  least_hit s n e = rw (e, least)

  pub least_miss : (s n : ℕ) → test s ≡ false → least test s (suc n) ≡ least test (suc s) n
  unfolding least
  least_miss s n e = rw (e, least)

  pub least_from : (s n : ℕ) → s ≤ least test s n
  unfolding least
  least_from s zero = le_refl s
  least_from s (suc n) =
      either (test s) (λ e. rw (least_hit s n e) (le_refl s)) (λ e. rw (least_miss s n e) (le_trans (le-suc s) (least_from (suc s) n)))

  pub least_to : (s n : ℕ) → least test s n ≤ s + n
  unfolding least
  least_to s zero = omega arith
  least_to s (suc n) =
      either (test s) (λ e. rw (least_hit s n e) (omega arith)) (λ e. rw (least_miss s n e) (omega (arith, least_to (suc s) n)))

  -- where one passes, the least that passes does
  pub least_passes : (s n : ℕ) → least test s n < s + n → test (least test s n) ≡ true
  unfolding least
  least_passes s zero h = absurd (omega arith)
  least_passes s (suc n) h =
      either (test s) (λ e. rw (least_hit s n e) e)
      (λ e. rw (least_miss s n e) (least_passes (suc s) n (omega (arith, rw (least_miss s n e) at h))))

  -- none below it does
  pub least_first : (s n i : ℕ) → s ≤ i → i < least test s n → test i ≡ false
  unfolding least
  least_first s zero i l h = absurd (omega arith)
  least_first s (suc n) i l h =
      either (test s) (λ e. absurd (omega (arith, rw (least_hit s n e) at h)))
      (λ e. ⊎_elim (λ q. rw (← q) e) (λ lt. least_first (suc s) n i lt (rw (least_miss s n e) at h)) (eq-or-lt_of_le l))

  -- so it is the only number that passes with none below it
  pub least_is : (s n r : ℕ) → s ≤ r → r < s + n → test r ≡ true → ((i : ℕ) → s ≤ i → i < r → test i ≡ false) → least test s n ≡ r
  least_is s n r l h passes first = le_antisymm
      (le_of_not_lt (λ lt. true≢false (sym passes ∙ least_first s n r l lt)))
      (le_of_not_lt (λ lt. true≢false (sym (least_passes s n (lt_trans lt h)) ∙ first (least test s n) (least_from s n) lt)))

  -- and past the end exactly where none passes
  pub least_none : (s n : ℕ) → ((i : ℕ) → s ≤ i → i < s + n → test i ≡ false) → least test s n ≡ s + n
  least_none s n none = le_antisymm (least_to s n)
      (le_of_not_lt (λ lt. true≢false (sym (least_passes s n lt) ∙ none (least test s n) (least_from s n) lt)))

-- ---- all pass, or one fails

module _ (test : ℕ → Bool) where
  every_hit : (s n : ℕ) → test s ≡ true → every test s (suc n) ≡ every test (suc s) n
  unfolding every
  every_hit s n e = rw (e, every)

  every_miss : (s n : ℕ) → test s ≡ false → every test s (suc n) ≡ false
  unfolding every
  every_miss s n e = rw (e, every)

  pub every_passes : (s n : ℕ) → T (every test s n) → (i : ℕ) → s ≤ i → i < s + n → test i ≡ true
  unfolding every
  every_passes s zero t i l h = absurd (omega arith)
  every_passes s (suc n) t i l h =
      either (test s)
      (λ e. ⊎_elim (λ q. rw (← q) e) (λ lt. every_passes (suc s) n (rw (every_hit s n e) at t) i lt (omega arith)) (eq-or-lt_of_le l))
      (λ e. absurd (rw (every_miss s n e) at t))

  -- where not all pass, here is one that fails
  pub every_fails : (s n : ℕ) → T (not (every test s n)) → (i : ℕ) × (s ≤ i) × (i < s + n) × (test i ≡ false)
  unfolding every
  every_fails s zero t = absurd t
  every_fails s (suc n) t =
      either (test s)
      (λ e.
      let later = every_fails (suc s) n (rw (every_hit s n e) at t) in
      (later.0, le_trans (le-suc s) later.1, omega (arith, later.2), later.3))
      (λ e. (s, le_refl s, omega arith, e))

  pub finds_every : (s n : ℕ) → T (every test s n) ↔ ((i : ℕ) → s ≤ i → i < s + n → test i ≡ true)
  finds_every s n = (
    every_passes s n,
    λ all. either (every test s n) (λ e. rw e tt)
        (λ e. let bad = every_fails s n (rw e tt) in absurd (true≢false (sym (all bad.0 bad.1 bad.2) ∙ bad.3))),
  )

  pub finds_failing : (s n : ℕ) → T (not (every test s n)) ↔ ((i : ℕ) × (s ≤ i) × (i < s + n) × (test i ≡ false))
  finds_failing s n = (
    every_fails s n,
    λ bad. not_T (every test s n) (λ t. true≢false (sym (every_passes s n t bad.0 bad.1 bad.2) ∙ bad.3)),
  )

-- tests that agree on the range pass together
pub every_agree : (test other : ℕ → Bool) (s n : ℕ) → ((i : ℕ) → s ≤ i → i < s + n → test i ≡ other i) → every test s n ≡ every other s n
every_agree test other s n agree = same_test _ _
    (λ t. (finds_every other s n).1 (λ i l h. sym (agree i l h) ∙ (finds_every test s n).0 t i l h))
    (λ t. (finds_every test s n).1 (λ i l h. agree i l h ∙ (finds_every other s n).0 t i l h))

-- the n numbers from s on all pass exactly when each number below w passes or is none of them
pub every_within : (test : ℕ → Bool) (w s n : ℕ) → s + n ≤ w → every (λ i. not (within s n i) || test i) 0 w ≡ every test s n
every_within test w s n ends = same_test _ _
    (λ t. (finds_every test s n).1 (λ i l h.
    let below : i < 0 + w = omega arith in rw (within_named s n i (l, h)) at (whole.0 t i zero-le below)))
    (λ t. whole.1 (λ i _ _.
    either (within s n i) (λ e. let h = within_found s n i e in rw e ((finds_every test s n).0 t i h.0 h.1)) (λ e. rw e)))
  where
    whole : T (every (λ i. not (within s n i) || test i) 0 w) ↔ ((i : ℕ) → 0 ≤ i → i < 0 + w → not (within s n i) || test i ≡ true)
    whole = finds_every (λ i. not (within s n i) || test i) 0 w

-- ---- the numbers from suc s on are those from s on, each one more

pub least_shift : (test : ℕ → Bool) (s n : ℕ) → least test (suc s) n ≡ suc (least (λ i. test (suc i)) s n)
unfolding least
least_shift test s zero = refl
least_shift test s (suc n) =
    let down : ℕ → Bool = λ i. test (suc i) in
    either (test (suc s)) (λ e. least_hit test (suc s) n e ∙ ap suc (sym (least_hit down s n e)))
    (λ e. least_miss test (suc s) n e ∙ least_shift test (suc s) n ∙ ap suc (sym (least_miss down s n e)))

pub count_shift : (test : ℕ → Bool) (s n : ℕ) → count test (suc s) n ≡ count (λ i. test (suc i)) s n
unfolding count
count_shift test s zero = refl
count_shift test s (suc n) = ap (λ (c : ℕ). bit (test (suc s)) + c) (count_shift test (suc s) n)

-- tests that agree on the range count alike
pub count_agree : (test other : ℕ → Bool) (s n : ℕ) → ((i : ℕ) → s ≤ i → i < s + n → test i ≡ other i) → count test s n ≡ count other s n
unfolding count
count_agree test other s zero h = refl
count_agree test other s (suc n) h =
    ap₂ (λ (b : Bool) (c : ℕ). bit b + c) (h s (le_refl s) (omega arith))
    (count_agree test other (suc s) n (λ i l lt. h i (omega arith) (omega arith)))

-- ---- counting in parts

pub count_most : (test : ℕ → Bool) (s n : ℕ) → count test s n ≤ n
unfolding count
count_most test s zero = zero-le
count_most test s (suc n) = omega (arith, bit_most (test s), count_most test (suc s) n)
  where
    bit_most : (b : Bool) → bit b ≤ 1
    bit_most true = omega arith
    bit_most false = omega arith

-- those that pass and those that do not are all
pub count_not : (test : ℕ → Bool) (s n : ℕ) → count test s n + count (λ i. not (test i)) s n ≡ n
unfolding count
count_not test s zero = refl
count_not test s (suc n) = let rest = count_not test (suc s) n in omega (arith, rest, either_bit (test s))
  where
    either_bit : (b : Bool) → bit b + bit (not b) ≡ 1
    either_bit true = refl
    either_bit false = refl

-- the numbers from s on are those from 0 on, each s more
pub count_moved : (test : ℕ → Bool) (s n : ℕ) → count test s n ≡ count (λ i. test (s + i)) 0 n
count_moved test zero n = count_agree test (λ i. test (0 + i)) 0 n (λ i l lt. ap test (sym (zero-add i)))
count_moved test (suc s) n =
    count_shift test s n ∙ count_moved (λ i. test (suc i)) s n
    ∙ count_agree (λ i. test (suc (s + i))) (λ i. test (suc s + i)) 0 n (λ i l lt. ap test (sym (suc-add s i)))

-- a range in two parts
pub count_split : (test : ℕ → Bool) (s m n : ℕ) → count test s (m + n) ≡ count test s m + count test (s + m) n
unfolding count
count_split test s zero n = rw (zero-add n, add-zero s, zero-add (count test s n))
count_split test s (suc m) n = rw (suc-add m n, add-suc s m, sym (suc-add s m), count_split test (suc s) m n) (omega arith)

-- tests that all answer alike
pub count_same : (test : ℕ → Bool) (b : Bool) (s n : ℕ) → ((i : ℕ) → s ≤ i → i < s + n → test i ≡ b) → count test s n ≡ bit b * n
unfolding count
count_same test b s zero h = sym (mul-zero (bit b))
count_same test b s (suc n) h =
    ap₂ (λ (c : Bool) (m : ℕ). bit c + m) (h s (le_refl s) (omega arith)) (count_same test b (suc s) n (λ i l lt. h i (omega arith) (omega arith)))
    ∙ sym (mul-suc (bit b) n ∙ add_comm (bit b * n) (bit b))
