-- Rounding in document 01's terms, over the width w: what each call answers, and that the answers are the least multiple not below, the greatest
-- not above, and divisibility. Rests on `Powers` and on `answers`.
use Rattle.std.specs.Prelude.{◌≡◌, refl, ◌↔◌, ◌⊎◌, Bool, true, false, not, [], ◌∷◌, ℕ, ◌+◌, ◌-◌, ◌*◌, ◌/◌, ◌%◌, ◌^◌, ◌≤◌, ◌<◌, T, leb, eqb}
use Rattle.std.proofs.Common.{inl, inr, ⊎_elim, le_antisymm, le_of_suc-le-suc, mul-le-mul_right, le-div_iff_mul-le, div-lt_iff_lt-mul, arith, eqb→eq, T_not}
use Rattle.std.proofs.Math.Nat.{suc-mul, mul-mod_left, mod-lt, div-add-mod', div-mul-le_self}
use Rattle.std.proofs.Math.Dec.{not_T}
use Rattle.bits.specs.Range.{same_test}
use Rattle.answers.specs.Said.{Said, value, ◌when◌, judged}
use Rattle.answers.specs.Faults.{◌if◌, FaultsDecide}
use Rattle.answers.proofs.Faults.{faults_decide}
use Rattle.rounding.specs.Powers.{PowerOfTwo, is_power, power_found, power_pos, zero_no_power}

-- ---- what is answered

-- the greatest multiple of a that is not above v, and the least that is not below v
unfoldable pub down : ℕ → ℕ → ℕ
down a v = v / a * a

unfoldable pub up : ℕ → ℕ → ℕ
up a v = down a (v + (a - 1))

unfoldable pub aligned_up : ℕ → ℕ → ℕ → Said ℕ
aligned_up w v a = judged ((8 when not (is_power w a)) ∷ (9 when leb (2 ^ w) (up a v)) ∷ []) (up a v)

unfoldable pub aligned_down : ℕ → ℕ → ℕ → Said ℕ
aligned_down w v a = judged ((8 when not (is_power w a)) ∷ []) (down a v)

unfoldable pub aligned : ℕ → ℕ → ℕ → Said Bool
aligned w v a = judged ((8 when not (is_power w a)) ∷ []) (eqb (v % a) 0)

-- ---- multiples

-- n is a multiple of a
abbrev pub Multiple : ℕ → ℕ → Type 0
Multiple a n = (q : ℕ) × (n ≡ q * a)

pub record LeastNotBelow (a v r : ℕ) : Type 0 where
  pub multiple : Multiple a r
  pub not_below : v ≤ r
  pub least : (m : ℕ) → Multiple a m → v ≤ m → r ≤ m

pub record GreatestNotAbove (a v r : ℕ) : Type 0 where
  pub multiple : Multiple a r
  pub not_above : r ≤ v
  pub greatest : (m : ℕ) → Multiple a m → m ≤ v → m ≤ r

module _ (a v : ℕ) (pos : 0 < a) where
  pub down_greatest : GreatestNotAbove a v (down a v)
  unfolding down
  down_greatest = record {
    multiple = (_, refl);
    not_above = div-mul-le_self v a;
    greatest = λ m p h. rw p.1 (mul-le-mul_right a ((le-div_iff_mul-le pos).1 (rw p.1 at h)));
  }

  pub up_least : LeastNotBelow a v (up a v)
  unfolding up down
  up_least = record {
    multiple = (_, refl);
    not_below = omega (arith, div-add-mod' (v + (a - 1)) a, mod-lt (v + (a - 1)) pos);
    least = λ m p h. rw p.1 (mul-le-mul_right a (le_of_suc-le-suc ((div-lt_iff_lt-mul pos).1 (rw suc-mul (omega (arith, p.1))))));
  }

-- it lies less than a above the value
pub up_near : (a v : ℕ) → up a v ≤ v + (a - 1)
unfolding up down
up_near a v = div-mul-le_self (v + (a - 1)) a

pub divides : (a v : ℕ) → T (eqb (v % a) 0) ↔ Multiple a v
divides a v = (
  λ t. (v / a, omega (arith, eqb→eq (v % a) 0 t, div-add-mod' v a)),
  λ p. rw (p.1, mul-mod_left p.0 a) tt,
)

-- one number is the least, and one the greatest
pub least_unique : (a v r s : ℕ) → LeastNotBelow a v r → LeastNotBelow a v s → r ≡ s
least_unique a v r s p q = le_antisymm (p.least s q.multiple q.not_below) (q.least r p.multiple p.not_below)

pub greatest_unique : (a v r s : ℕ) → GreatestNotAbove a v r → GreatestNotAbove a v s → r ≡ s
greatest_unique a v r s p q = le_antisymm (q.greatest r p.multiple p.not_above) (p.greatest s q.multiple q.not_above)

-- ---- the faults of document 01, and that each call is refused by them alone

-- 8: the alignment is 0 or no power of two
abbrev pub NoPower : ℕ → Type 0
NoPower a = (a ≡ 0) ⊎ (PowerOfTwo a → ⊥)

-- 9: no multiple that is not below the value fits the width
abbrev pub NoneFits : ℕ → ℕ → ℕ → Type 0
NoneFits w v a = (m : ℕ) → Multiple a m → v ≤ m → m < 2 ^ w → ⊥

pub no_power : (a : ℕ) → NoPower a → PowerOfTwo a → ⊥
no_power a (inl e) p = zero_no_power (rw e at p)
no_power a (inr n) p = n p

module _ (w v a : ℕ) (held : a < 2 ^ w) where
  pub power : T (not (not (is_power w a))) → PowerOfTwo a
  power t = (power_found w a held).0 (not_not (is_power w a) t)
    where
      not_not : (b : Bool) → T (not (not b)) → T b
      not_not true h = h
      not_not false h = h

  pub finds_no_power : T (not (is_power w a)) ↔ NoPower a
  finds_no_power = (
    λ t. inr (λ p. T_not (is_power w a) t ((power_found w a held).1 p)),
    λ n. not_T (is_power w a) (λ t. no_power a n ((power_found w a held).0 t)),
  )

  pub align_down_faults : FaultsDecide (aligned_down w v a) (down a v) ((8 if NoPower a) ∷ [])
  unfolding aligned_down
  align_down_faults = faults_decide _ _ (down a v) (omega arith) (refl, finds_no_power, λ _. tt)

  pub is_aligned_faults : FaultsDecide (aligned w v a) (eqb (v % a) 0) ((8 if NoPower a) ∷ [])
  unfolding aligned
  is_aligned_faults = faults_decide _ _ (eqb (v % a) 0) (omega arith) (refl, finds_no_power, λ _. tt)

  -- ---- the promises: a value is given exactly when the alignment is a power of two and, for rounding up, the multiple fits

  -- where 8 is not given, the alignment is a power of two
  pub power_else : (NoPower a → ⊥) → PowerOfTwo a
  power_else h = power (not_T (not (is_power w a)) (λ t. h (finds_no_power.0 t)))

  -- a call that only 8 refuses
  by_power : {A : Type 0} (said : Said A) (x : A) → FaultsDecide said x ((8 if NoPower a) ∷ []) → (y : A) → (said ≡ value y) ↔ (PowerOfTwo a × (x ≡ y))
  by_power said x decide y = (
    λ e. (power_else (λ n. ((decide.accepts y).0 e).0 8 (inl (refl, n))), ((decide.accepts y).0 e).1),
    λ g. (decide.accepts y).1 (λ k. ⊎_elim (λ f. no_power a f.1 g.0) (λ f. f), g.1),
  )

  pub align_down_promise : (r : ℕ) → (aligned_down w v a ≡ value r) ↔ (PowerOfTwo a × GreatestNotAbove a v r)
  align_down_promise r =
      let decided = by_power (aligned_down w v a) (down a v) align_down_faults r in (
        λ said. let g = decided.0 said in (g.0, rw (← g.1) (down_greatest a v (power_pos a g.0))),
        λ g. decided.1 (g.0, greatest_unique a v (down a v) r (down_greatest a v (power_pos a g.0)) g.1),
      )

  pub is_aligned_promise : (b : Bool) → (aligned w v a ≡ value b) ↔ (PowerOfTwo a × (T b ↔ Multiple a v))
  is_aligned_promise b =
      let decided = by_power (aligned w v a) (eqb (v % a) 0) is_aligned_faults b in
      let found = divides a v in (
        λ said. let g = decided.0 said in (g.0, rw (← g.1) found),
        λ g. decided.1 (g.0, same_test (eqb (v % a) 0) b (λ t. g.1.1 (found.0 t)) (λ t. found.1 (g.1.0 t))),
      )
