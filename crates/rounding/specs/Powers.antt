-- Powers of two: what they are, and the test that finds them among the numbers of w bits. Rests on the search of `bits`.
use Rattle.std.specs.Prelude.{◌≡◌, ◌↔◌, Bool, ℕ, ◌^◌, ◌<◌, T, ltb, eqb}
use Rattle.std.proofs.Common.{sym, ◌∙◌, true≢false, zero-le, lt_of_not-le, lt_irrefl, lt_of_lt_of_le, ne_of_gt, arith, ltb→lt, lt→ltb, pow_pos, pow_mono, eqb-true, eq-eqb}
use Rattle.bits.specs.Range.{least, least_passes, least_first}

-- n is 2 ^ k for some k
abbrev pub PowerOfTwo : ℕ → Type 0
PowerOfTwo n = (k : ℕ) × (n ≡ 2 ^ k)

-- the k below w with 2 ^ k ≡ n, or w where there is none
unfoldable pub exponent : ℕ → ℕ → ℕ
exponent w n = least (λ k. eqb (2 ^ k) n) 0 w

-- n is 2 ^ k for some k below w
unfoldable pub is_power : ℕ → ℕ → Bool
is_power w n = ltb (exponent w n) w

-- 0 is none
pub zero_no_power : PowerOfTwo 0 → ⊥
zero_no_power p = ne_of_gt (pow_pos p.0) (sym p.1)

pub power_pos : (n : ℕ) → PowerOfTwo n → 0 < n
power_pos n p = rw p.1 (pow_pos p.0)

-- a power that w bits hold has an exponent below w
pub power_exponent : (w k : ℕ) → 2 ^ k < 2 ^ w → k < w
power_exponent w k h = lt_of_not-le (λ l. lt_irrefl _ (lt_of_lt_of_le h (pow_mono l)))

-- the test finds just the powers of two, among the numbers of w bits
pub power_found : (w n : ℕ) → n < 2 ^ w → T (is_power w n) ↔ PowerOfTwo n
unfolding is_power exponent
power_found w n h = (found, finds)
  where
    test : ℕ → Bool
    test k = eqb (2 ^ k) n

    found : T (ltb (least test 0 w) w) → PowerOfTwo n
    found t = (least test 0 w, sym (eqb-true _ n (least_passes test 0 w (omega (arith, ltb→lt)))))

    finds : PowerOfTwo n → T (ltb (least test 0 w) w)
    finds p = lt→ltb _ w (lt_of_not-le (λ l. true≢false (sym (eq-eqb _ n (sym p.1)) ∙ least_first test 0 w p.0 zero-le (lt_of_lt_of_le (power_exponent w p.0 (rw p.1 at h)) l))))
