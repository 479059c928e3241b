-- Rounding by masks, over the width w: what the code computes at each way out is what `Multiples` defines. Every width cites these.
-- Assumes nothing.
use mathlib.Core.Path.{◌≡◌, refl, sym, ap, ◌∙◌}
use mathlib.Core.Bool.{Bool, true, false, not}
use mathlib.Core.List.{List, [], ◌∷◌}
use Prim.Native.Nat.{ℕ, zero, suc, ◌+◌, ◌-◌, ◌*◌, ◌/◌, ◌%◌, ◌^◌, ◌≤◌, ◌<◌}
use native.Mathlib.Nat.{zero-add, mod_self, le_trans, lt_of_lt_of_le, le_of_lt, not-le_of_lt, sub-add_cancel, pow-suc, mul-le-mul_right, lt_of_mul-lt-mul_right}
use native.Mathlib.Omega.{arith}
use lib.Arith.{bin_ind}
use lib.Bits.{bit_and, and_step, and_self, and_mask, and_high}
use lib.Count.{ones, ones_step}
use lib.Dec.{eqb, eqb→eq, leb}
use lib.Pow.{pow_pos, pow_mono, pow-add, shr_mod, high_ones, le_ones}
use Rattle.std.proofs.lemmas.Nat.{zero_from_ones}
use borrow.Author.Tests.{eq-eqb, le-leb, lt-leb}
use Rattle.answers.specs.Said.{value, refused, Check, ◌when◌, judged, judged_checked, judged_first, value_injective}
use Rattle.bits.specs.Range.{same_test, le_of_not_lt}
use Rattle.rounding.specs.Powers.{PowerOfTwo, is_power, power_found, power_pos, power_exponent}
use Rattle.rounding.specs.Multiples.{down, up, up_least, Multiple, aligned_up, aligned_down, aligned}

-- ---- the test for a power of two

none_set : ones 0 ≡ 0
unfolding ones
none_set = refl

one_set : ones 1 ≡ 1
unfolding ones
one_set = refl

-- a number with just one digit set is a power of two
counted_power : (n : ℕ) → ones n ≡ 1 → PowerOfTwo n
counted_power = bin_ind (λ (n : ℕ). ones n ≡ 1 → PowerOfTwo n) (λ e. absurd (omega (arith, none_set))) step
  where
    step : (n : ℕ) → (ones (n / 2) ≡ 1 → PowerOfTwo (n / 2)) → ones n ≡ 1 → PowerOfTwo n
    step n half e = parity (n % 2) refl
      where
        counted : n % 2 + ones (n / 2) ≡ 1
        counted = sym (ones_step n) ∙ e

        parity : (d : ℕ) → n % 2 ≡ d → PowerOfTwo n
        parity zero even =
            let p = half (omega (arith, counted)) in
            (suc p.0, rw (pow-suc 2 p.0) (omega (arith, p.1)))
        parity (suc zero) odd =
            let rest = zero_from_ones (n / 2) (omega (arith, counted)) in
            (zero, omega (arith, rest))
        parity (suc (suc d)) e' = absurd (omega arith)

power_counts : (k : ℕ) → ones (2 ^ k) ≡ 1
power_counts zero = one_set
power_counts (suc k) =
    let half : 2 ^ suc k / 2 ≡ 2 ^ k = rw (pow-suc 2 k) (omega arith) in
    let even : 2 ^ suc k % 2 ≡ 0 = rw (pow-suc 2 k) (omega arith) in
    ones_step (2 ^ suc k) ∙ rw (even, half) (zero-add _ ∙ power_counts k)

pub power_by_count : (w n : ℕ) → n < 2 ^ w → eqb (ones n) 1 ≡ is_power w n
power_by_count w n h = same_test _ _
    (λ t. (power_found w n h).1 (counted_power n (eqb→eq _ 1 t)))
    (λ t. let p = (power_found w n h).0 t in rw (eq-eqb (ones n) 1 (ap ones p.1 ∙ power_counts p.0)) tt)

-- a number that has no digit in common with the one below it is a power of two
cleared_power : (n : ℕ) → 0 < n → bit_and n (n - 1) ≡ 0 → PowerOfTwo n
cleared_power = bin_ind (λ (n : ℕ). 0 < n → bit_and n (n - 1) ≡ 0 → PowerOfTwo n) (λ h e. absurd (omega arith)) step
  where
    step : (n : ℕ) → (0 < n / 2 → bit_and (n / 2) (n / 2 - 1) ≡ 0 → PowerOfTwo (n / 2)) → 0 < n → bit_and n (n - 1) ≡ 0 → PowerOfTwo n
    step n half h e = parity (n % 2) refl
      where
        rest : bit_and (n / 2) ((n - 1) / 2) ≡ 0
        rest = omega (arith, sym (and_step n (n - 1)) ∙ e)

        parity : (d : ℕ) → n % 2 ≡ d → PowerOfTwo n
        parity zero even =
            let lower : (n - 1) / 2 ≡ n / 2 - 1 = omega arith in
            let p = half (omega arith) (rw lower at rest) in
            (suc p.0, rw (pow-suc 2 p.0) (omega (arith, p.1)))
        parity (suc zero) odd =
            let lower : (n - 1) / 2 ≡ n / 2 = omega arith in
            (zero, omega (arith, sym (and_self (n / 2)) ∙ (rw lower at rest)))
        parity (suc (suc d)) e' = absurd (omega arith)

pub power_by_mask : (w n : ℕ) → n < 2 ^ w → 0 < n → eqb (bit_and n (n - 1)) 0 ≡ is_power w n
power_by_mask w n h pos = same_test _ _
    (λ t. (power_found w n h).1 (cleared_power n pos (eqb→eq _ 0 t)))
    (λ t. let p = (power_found w n h).0 t in rw (eq-eqb (bit_and n (n - 1)) 0 (rw p.1 (and_mask (2 ^ p.0) p.0 ∙ mod_self (2 ^ p.0)))) tt)

-- ---- rounding by a mask

-- all ones but the k lowest, in two forms
high_places : (w k : ℕ) → k ≤ w → (2 ^ w - 1) - (2 ^ k - 1) ≡ 2 ^ (w - k + k) - 2 ^ k
high_places w k l = rw (sub-add_cancel l) (omega (arith, pow_pos k))

pub last_multiple : (w k : ℕ) → k ≤ w → (2 ^ w - 1) - (2 ^ k - 1) ≡ (2 ^ (w - k) - 1) * 2 ^ k
last_multiple w k l = high_places w k l ∙ high_ones (w - k) k

-- they clear the k low digits
clear_low : (w k n : ℕ) → k ≤ w → n < 2 ^ w → bit_and n ((2 ^ w - 1) - (2 ^ k - 1)) ≡ down (2 ^ k) n
unfolding down
clear_low w k n l h =
    rw (high_places w k l) (and_high n (w - k) k ∙ ap (λ (q : ℕ). q * 2 ^ k) (shr_mod (w - k) k (rw (sub-add_cancel l) h)))

-- they are the greatest multiple that w bits hold
multiple_fits : (w k m : ℕ) → k ≤ w → Multiple (2 ^ k) m → m < 2 ^ w → m ≤ (2 ^ w - 1) - (2 ^ k - 1)
multiple_fits w k m l p h =
    let wide : 2 ^ w ≡ 2 ^ (w - k) * 2 ^ k = ap (λ (n : ℕ). 2 ^ n) (sym (sub-add_cancel l)) ∙ pow-add 2 (w - k) k in
    rw (last_multiple w k l, p.1) (mul-le-mul_right (2 ^ k) (le_ones (w - k) (lt_of_mul-lt-mul_right (2 ^ k) (rw (p.1, wide) at h))))

-- ---- the ways out

-- the mask was refused, or is the digits below that of a power of two
module _ (w a : ℕ) where
  pub refused_alignment : {A : Type 0} (cs : List Check) (x : A) (k : ℕ) → refused k ≡ judged ((8 when not (is_power w a)) ∷ []) (a - 1) → refused k ≡ judged ((8 when not (is_power w a)) ∷ cs) x
  refused_alignment cs x k said = sym (judged_first ((8 when not (is_power w a)) ∷ []) cs (a - 1) x k (sym said))

  pub mask_found : (mask : ℕ) → value mask ≡ judged ((8 when not (is_power w a)) ∷ []) (a - 1) → (is_power w a ≡ true) × (mask ≡ a - 1)
  unfolding judged
  mask_found mask said =
      let passed = judged_checked 8 (not (is_power w a)) [] (a - 1) mask (sym said) in
      (sym (not_not (is_power w a)) ∙ ap not passed.0, sym (value_injective passed.1))
    where
      not_not : (b : Bool) → not (not b) ≡ b
      not_not true = refl
      not_not false = refl

module _ (w a : ℕ) (few : w ≤ 64) (held : a < 2 ^ w) (passed : is_power w a ≡ true) where
  judged_on : {A : Type 0} (cs : List Check) (x : A) → judged ((8 when not (is_power w a)) ∷ cs) x ≡ judged cs x
  unfolding judged
  judged_on cs x = rw (ap not passed)

  power : PowerOfTwo a
  power = (power_found w a held).0 (rw passed tt)

  pub align_pos : 0 < a
  align_pos = power_pos a power

  below_width : power.0 ≤ w
  below_width = le_of_lt (power_exponent w power.0 (rw power.1 at held))

  -- the mask's complement clears down to a multiple
  by_mask : (n : ℕ) → n < 2 ^ w → bit_and n ((2 ^ 64 - 1) - (a - 1)) ≡ down a n
  by_mask n h = rw power.1 (clear_low 64 power.0 n (le_trans below_width few) (lt_of_lt_of_le h (pow_mono few)))

  -- the greatest multiple that fits
  last : Multiple a ((2 ^ w - 1) - (a - 1))
  last = rw power.1 (2 ^ (w - power.0) - 1, last_multiple w power.0 below_width)

  fits : (m : ℕ) → Multiple a m → m < 2 ^ w → m ≤ (2 ^ w - 1) - (a - 1)
  fits m p l = rw power.1 (multiple_fits w power.0 m below_width (rw power.1 at p) l)

  pub refused_width : (v : ℕ) → (2 ^ w - 1) - (a - 1) < v → refused 9 ≡ aligned_up w v a
  unfolding aligned_up judged
  refused_width v h =
      let bound = up_least a v align_pos in
      let past : 2 ^ w ≤ up a v = le_of_not_lt (λ l. not-le_of_lt h (le_trans bound.not_below (fits (up a v) bound.multiple l))) in
      sym (judged_on ((9 when leb (2 ^ w) (up a v)) ∷ []) (up a v) ∙ rw (le-leb (2 ^ w) (up a v) past))

  pub rounded_up : (v : ℕ) → v ≤ (2 ^ w - 1) - (a - 1) → value (bit_and (v + (a - 1)) ((2 ^ 64 - 1) - (a - 1))) ≡ aligned_up w v a
  unfolding aligned_up judged up
  rounded_up v h =
      let within : up a v ≤ (2 ^ w - 1) - (a - 1) = (up_least a v align_pos).least _ last h in
      let small : up a v < 2 ^ w = omega (arith, pow_pos w) in
      ap value (by_mask (v + (a - 1)) (omega (arith, align_pos)))
      ∙ sym (judged_on ((9 when leb (2 ^ w) (up a v)) ∷ []) (up a v) ∙ rw (lt-leb (2 ^ w) (up a v) small))

  pub rounded_down : (v : ℕ) → v < 2 ^ w → value (bit_and v ((2 ^ 64 - 1) - (a - 1))) ≡ aligned_down w v a
  unfolding aligned_down judged
  rounded_down v h = ap value (by_mask v h) ∙ sym (judged_on [] (down a v))

  pub divided : (v : ℕ) → value (eqb (bit_and v (a - 1)) 0) ≡ aligned w v a
  unfolding aligned judged
  divided v =
      let rest : bit_and v (a - 1) ≡ v % a = rw power.1 (and_mask v power.0) in
      ap (λ (r : ℕ). value (eqb r 0)) rest ∙ sym (judged_on [] (eqb (v % a) 0))
