-- What stood in specs/Digits and rests on theorems there: moved, its statements unchanged. Rests on `Digits`.
use Rattle.std.specs.Prelude.{◌≡◌, refl, Bool, true, false, not, ◌&&◌, ◌||◌, leb, ltb, eqb}
use Rattle.std.proofs.Common.{sym, ap, ap₂, ◌∙◌, zero-lt-suc, le_of_suc-le-suc, not-suc-le-zero, mod-lt, mod-eq_of_lt, add-zero, pow-suc, arith, pow_pos, ltb→lt, lt→ltb, lt-ltb, le-ltb, leb-true}
use Prim.Native.Nat.{ℕ, zero, suc, ◌+◌, ◌-◌, ◌*◌, ◌/◌, ◌%◌, ◌^◌, ◌≤◌, ◌<◌, zero-le, min, max}
use Rattle.std.proofs.Math.Nat.{mod-one, zero-min, min-zero, suc-min-suc, zero-max, max-zero, suc-max-suc}
use Rattle.std.proofs.Math.Arith.{digits_div, digits_mod, mod-mul, dbl_pred}
use Rattle.std.specs.Int.Bits.{bit_and, bit_or, and_step, or_step}
use Rattle.std.proofs.Math.Dec.{leb-suc-suc}
use Rattle.bits.specs.Range.{bit, and_true, and_false, either, same_test, within}
use Rattle.bits.specs.Digits.{is_one, digit, number, bit_lt, two_pos, half_lt, number_digit, number_agree, down_digit, up_digit, zero_digit, power_digit}

is_one_bit : (b : Bool) → is_one (bit b) ≡ b
is_one_bit true = refl
is_one_bit false = refl

-- the lowest digit of a number, and the rest of it
low_digit : (q d : ℕ) → d < 2 → digit (q * 2 + d) 0 ≡ is_one d
unfolding digit
low_digit q d h = ap is_one (digits_mod q h)

high_digit : (q d i : ℕ) → d < 2 → digit (q * 2 + d) (suc i) ≡ digit q i
unfolding digit
high_digit q d i h = ap (λ (n : ℕ). digit n i) (digits_div q h)

-- ---- a number and its digits

pub digit_number : (f : ℕ → Bool) (w i : ℕ) → i < w → digit (number f w) i ≡ f i
unfolding number
digit_number f zero i h = absurd (not-suc-le-zero h)
digit_number f (suc w) zero h = low_digit _ _ (bit_lt (f 0)) ∙ is_one_bit (f 0)
digit_number f (suc w) (suc i) h =
    high_digit _ _ i (bit_lt (f 0)) ∙ digit_number (λ j. f (suc j)) w i (le_of_suc-le-suc h)

-- a number below 2 ^ w is the one made of its digits
pub number_is : (w n : ℕ) (f : ℕ → Bool) → n < 2 ^ w → ((i : ℕ) → i < w → digit n i ≡ f i) → n ≡ number f w
number_is w n f h agree = sym (number_digit n w h) ∙ number_agree (digit n) f w agree

-- two numbers below 2 ^ w with equal digits are equal
pub equal_digits : (w a b : ℕ) → a < 2 ^ w → b < 2 ^ w → ((i : ℕ) → i < w → digit a i ≡ digit b i) → a ≡ b
equal_digits w a b ha hb h = number_is w a (digit b) ha h ∙ number_digit b w hb

-- ---- and, or: digit by digit

module _ (op f : ℕ → ℕ → ℕ) (g : Bool → Bool → Bool)
    (step : (a b : ℕ) → op a b ≡ op (a / 2) (b / 2) * 2 + f (a % 2) (b % 2))
    (low : (x y : ℕ) → x < 2 → y < 2 → f x y < 2)
    (same : (x y : ℕ) → is_one (f x y) ≡ g (is_one x) (is_one y)) where
  lowest : (a b : ℕ) → f (a % 2) (b % 2) < 2
  lowest a b = low (a % 2) (b % 2) (mod-lt a two_pos) (mod-lt b two_pos)

  digitwise : (a b i : ℕ) → digit (op a b) i ≡ g (digit a i) (digit b i)
  unfolding digit
  digitwise a b zero = rw (step a b) (low_digit _ _ (lowest a b) ∙ same (a % 2) (b % 2))
  digitwise a b (suc i) = rw (step a b) (high_digit _ _ i (lowest a b) ∙ digitwise (a / 2) (b / 2) i)

min_digit : (x y : ℕ) → is_one (min x y) ≡ is_one x && is_one y
min_digit zero y = rw zero-min
min_digit (suc x) zero = rw min-zero
min_digit (suc x) (suc y) = rw suc-min-suc

max_digit : (x y : ℕ) → is_one (max x y) ≡ is_one x || is_one y
max_digit zero y = rw zero-max
max_digit (suc x) zero = rw max-zero
max_digit (suc x) (suc y) = rw suc-max-suc

pub and_digit : (a b i : ℕ) → digit (bit_and a b) i ≡ digit a i && digit b i
and_digit = digitwise bit_and min ◌&&◌ and_step (λ x y hx hy. omega arith) min_digit

pub or_digit : (a b i : ℕ) → digit (bit_or a b) i ≡ digit a i || digit b i
or_digit = digitwise bit_or max ◌||◌ or_step (λ x y hx hy. omega arith) max_digit

-- ---- the complement in w places

complement_step : (w a : ℕ) → a < 2 ^ suc w → (2 ^ suc w - 1) - a ≡ ((2 ^ w - 1) - a / 2) * 2 + (1 - a % 2)
complement_step w a h =
    let e : 2 ^ suc w ≡ 2 ^ w * 2 = pow-suc 2 w in
    let half : a / 2 < 2 ^ w = half_lt a w h in
    rw e (omega arith)

pub complement_digit : (w a i : ℕ) → a < 2 ^ w → i < w → digit ((2 ^ w - 1) - a) i ≡ not (digit a i)
unfolding digit
complement_digit zero a i h l = absurd (not-suc-le-zero l)
complement_digit (suc w) a zero h l = rw (complement_step w a h) (low_digit _ (1 - a % 2) (omega arith) ∙ flipped (a % 2) (mod-lt a two_pos))
  where
    flipped : (d : ℕ) → d < 2 → is_one (1 - d) ≡ not (is_one d)
    flipped zero k = refl
    flipped (suc zero) k = refl
    flipped (suc (suc d)) k = absurd (omega arith)
complement_digit (suc w) a (suc i) h l =
    rw (complement_step w a h) (high_digit _ (1 - a % 2) i (omega arith) ∙ complement_digit w (a / 2) i (half_lt a w h) (le_of_suc-le-suc l))

-- only the w lowest places are kept
kept_step : (a w : ℕ) → a % 2 ^ suc w ≡ (a / 2 % 2 ^ w) * 2 + a % 2
kept_step a w = ap (λ (p : ℕ). a % p) (pow-suc 2 w) ∙ mod-mul a (pow_pos w) two_pos

pub kept_digit : (a w i : ℕ) → digit (a % 2 ^ w) i ≡ ltb i w && digit a i
unfolding digit
kept_digit a zero i = rw (mod-one a, le-ltb i 0 zero-le) (zero_digit i)
kept_digit a (suc w) zero = rw (kept_step a w, lt-ltb 0 (suc w) (zero-lt-suc w)) (low_digit _ _ (mod-lt a two_pos))
kept_digit a (suc w) (suc i) = rw (kept_step a w, leb-suc-suc (suc i) w) (high_digit _ _ i (mod-lt a two_pos) ∙ kept_digit (a / 2) w i)

-- a number below 2 ^ w has no 1 from place w on
pub past_digit : (n w i : ℕ) → n < 2 ^ w → w ≤ i → digit n i ≡ false
past_digit n w i h l = rw (← mod-eq_of_lt h) (kept_digit n w i ∙ ap (λ (b : Bool). b && digit n i) (le-ltb i w l))

-- up by k places in a word of w, as the machine shifts
pub shifted_digit : (a k w i : ℕ) → digit (a * 2 ^ k % 2 ^ w) i ≡ ltb i w && (leb k i && digit a (i - k))
shifted_digit a k w i = kept_digit (a * 2 ^ k) w i ∙ ap (λ (b : Bool). ltb i w && b) (up_digit a k i)

-- the number of one digit
pub bit_digit : (b : Bool) (i : ℕ) → digit (bit b) i ≡ eqb i 0 && b
bit_digit true i = power_digit 0 i ∙ sym (and_true (eqb i 0))
bit_digit false i = zero_digit i ∙ sym (and_false (eqb i 0))

-- a place as the machine reads it
pub read_digit : (n i : ℕ) → eqb (n / 2 ^ i % 2) 1 ≡ digit n i
unfolding digit
read_digit n i = one_digit (n / 2 ^ i % 2) (mod-lt (n / 2 ^ i) two_pos) ∙ down_digit n i 0 ∙ ap (digit n) (add-zero i)
  where
    one_digit : (d : ℕ) → d < 2 → eqb d 1 ≡ is_one d
    one_digit zero h = refl
    one_digit (suc zero) h = refl
    one_digit (suc (suc d)) h = absurd (omega arith)

low_step : (k : ℕ) → 2 ^ suc k - 1 ≡ (2 ^ k - 1) * 2 + 1
low_step k = ap (λ (p : ℕ). p - 1) (pow-suc 2 k) ∙ dbl_pred (pow_pos k)

pub low_mask_digit : (k i : ℕ) → digit (2 ^ k - 1) i ≡ ltb i k
unfolding digit
low_mask_digit zero i = zero_digit i ∙ sym (le-ltb i 0 zero-le)
low_mask_digit (suc k) zero = rw (low_step k) (low_digit (2 ^ k - 1) 1 (omega arith) ∙ sym (lt-ltb 0 (suc k) (zero-lt-suc k)))
low_mask_digit (suc k) (suc i) = rw (low_step k) (high_digit (2 ^ k - 1) 1 i (omega arith) ∙ low_mask_digit k i ∙ sym (leb-suc-suc (suc i) k))

-- of w ones, n are kept and moved up to place s: ones at the n places from s on that a word of w has
pub run_digit : (w s n i : ℕ) → n ≤ w → i < w → digit ((2 ^ w - 1) / 2 ^ (w - n) * 2 ^ s % 2 ^ w) i ≡ within s n i
unfolding within
run_digit w s n i h l =
    shifted_digit ((2 ^ w - 1) / 2 ^ (w - n)) s w i
    ∙ ap₂ (λ (b c : Bool). b && (leb s i && c)) (lt-ltb i w l) (down_digit (2 ^ w - 1) (w - n) (i - s) ∙ low_mask_digit w (w - n + (i - s)))
    ∙ either (leb s i) (λ e. rw e (same_test _ _ (λ t. omega (arith, leb-true s i e, ltb→lt, lt→ltb)) (λ t. omega (arith, leb-true s i e, ltb→lt, lt→ltb)))) (λ e. rw e)
