-- The binary digits of a number as Booleans, the number made of given digits, and what the machine's operations do to them. Every law is over
-- the width and the place, and follows from one step: the lowest digit is `n % 2`, and `n / 2` holds the rest. Rests on `Range`.
use Rattle.std.specs.Prelude.{◌≡◌, refl, Bool, true, false, ◌&&◌, leb, eqb}
use Rattle.std.proofs.Common.{sym, ap, ap₂, ◌∙◌, true≢false, zero-lt-suc, mod-lt, div-one, div-add-mod', mul-one, mul_comm, mul-div_cancel, zero-add, suc-add, pow-suc, add-one, arith, shr_lt, eq-eqb}
use Rattle.std.proofs.lemmas.Bool.{false≢true}
use Prim.Native.Nat.{ℕ, zero, suc, ◌+◌, ◌-◌, ◌*◌, ◌/◌, ◌%◌, ◌^◌, ◌<◌}
use Rattle.std.proofs.Math.Nat.{div-div-eq-div-mul, mul-mod_left, sub-zero, suc-sub-suc}
use Rattle.std.proofs.Math.Arith.{digits_lt, lt-one}
use Rattle.std.specs.Int.Bits.{shifted_half, shifted_even}
use Rattle.std.specs.Int.Count.{ones, ones_step, count_trailing_zeros, under}
use Rattle.std.proofs.Math.Dec.{leb-zero, leb-suc-zero, leb-suc-suc, eqb-zero-suc, eqb-suc-zero, eqb-suc-suc}
use Rattle.bits.specs.Range.{bit, either, least, count, least_hit, least_miss, least_shift, count_shift}

-- ---- digits

-- a digit is a 1
abbrev pub is_one : ℕ → Bool
is_one zero = false
is_one (suc d) = true

-- whether place i of n, counted from the lowest, holds a 1
unfoldable pub digit : ℕ → ℕ → Bool
digit n zero = is_one (n % 2)
digit n (suc i) = digit (n / 2) i

-- the number below 2 ^ w whose place i holds a 1 exactly if `f i`, for each place below w
unfoldable pub number : (ℕ → Bool) → ℕ → ℕ
number f zero = 0
number f (suc w) = number (λ i. f (suc i)) w * 2 + bit (f 0)

bit_is_one : (d : ℕ) → d < 2 → bit (is_one d) ≡ d
bit_is_one zero h = refl
bit_is_one (suc zero) h = refl
bit_is_one (suc (suc d)) h = absurd (omega arith)

pub bit_lt : (b : Bool) → bit b < 2
bit_lt true = omega arith
bit_lt false = omega arith

pub two_pos : 0 < 2
two_pos = zero-lt-suc 1

pub half_lt : (n w : ℕ) → n < 2 ^ suc w → n / 2 < 2 ^ w
half_lt n w h = shr_lt w 1 (rw add-one h)

-- ---- a number and its digits

pub number_lt : (f : ℕ → Bool) (w : ℕ) → number f w < 2 ^ w
unfolding number
number_lt f zero = omega arith
number_lt f (suc w) = rw pow-suc (digits_lt (number_lt (λ i. f (suc i)) w) (bit_lt (f 0)))

pub number_digit : (n w : ℕ) → n < 2 ^ w → number (digit n) w ≡ n
unfolding number digit
number_digit n zero h = sym (lt-one h)
number_digit n (suc w) h =
    ap₂ (λ (q d : ℕ). q * 2 + d) (number_digit (n / 2) w (half_lt n w h)) (bit_is_one (n % 2) (mod-lt n two_pos)) ∙ div-add-mod' n 2

pub number_agree : (f g : ℕ → Bool) (w : ℕ) → ((i : ℕ) → i < w → f i ≡ g i) → number f w ≡ number g w
unfolding number
number_agree f g zero h = refl
number_agree f g (suc w) h =
    ap₂ (λ (q : ℕ) (b : Bool). q * 2 + bit b) (number_agree (λ i. f (suc i)) (λ i. g (suc i)) w (λ i l. h (suc i) (omega arith))) (h 0 (omega arith))

-- ---- shifts

-- down by k places: place i holds what place k + i held
pub down_digit : (a k i : ℕ) → digit (a / 2 ^ k) i ≡ digit a (k + i)
unfolding digit
down_digit a zero i = ap₂ digit (div-one a) (sym (zero-add i))
down_digit a (suc k) i =
    ap (λ (n : ℕ). digit n i) (ap (λ (p : ℕ). a / p) (pow-suc 2 k ∙ mul_comm (2 ^ k) 2) ∙ sym (div-div-eq-div-mul a 2 (2 ^ k)))
    ∙ down_digit (a / 2) k i ∙ ap (digit a) (sym (suc-add k i))

-- up by k places: the k lowest places hold 0, and place i holds what place i - k held
pub up_digit : (a k i : ℕ) → digit (a * 2 ^ k) i ≡ leb k i && digit a (i - k)
unfolding digit
up_digit a zero i = rw (leb-zero i) (ap₂ digit (mul-one a) (sym (sub-zero i)))
up_digit a (suc k) zero = rw (leb-suc-zero k) (ap is_one (shifted_even a k))
up_digit a (suc k) (suc i) = rw (leb-suc-suc k i, suc-sub-suc i k) (ap (λ (n : ℕ). digit n i) (shifted_half a k) ∙ up_digit a k i)

-- no place of 0 holds a 1
pub zero_digit : (i : ℕ) → digit 0 i ≡ false
unfolding digit
zero_digit zero = refl
zero_digit (suc i) = zero_digit i

-- ---- one place, and the lowest places

pub power_digit : (x i : ℕ) → digit (2 ^ x) i ≡ eqb i x
unfolding digit
power_digit zero zero = sym (eq-eqb 0 0 refl)
power_digit zero (suc i) = zero_digit i ∙ sym (eqb-suc-zero i)
power_digit (suc x) zero = ap (λ (p : ℕ). is_one (p % 2)) (pow-suc 2 x) ∙ ap is_one (mul-mod_left (2 ^ x) 2) ∙ sym (eqb-zero-suc x)
power_digit (suc x) (suc i) =
    ap (λ (p : ℕ). digit (p / 2) i) (pow-suc 2 x) ∙ ap (λ (n : ℕ). digit n i) (mul-div_cancel (2 ^ x) two_pos) ∙ power_digit x i ∙ sym (eqb-suc-suc i x)

-- ---- counts

-- the count of ones is the number of places that hold a 1
pub ones_count : (w n : ℕ) → n < 2 ^ w → ones n ≡ count (digit n) 0 w
unfolding ones count digit
ones_count zero n h = ap ones (lt-one h)
ones_count (suc w) n h =
    ones_step n
    ∙ ap₂ ◌+◌ (sym (bit_is_one (n % 2) (mod-lt n two_pos))) (ones_count w (n / 2) (half_lt n w h) ∙ sym (count_shift (digit n) 0 w))

under_one : (d t : ℕ) → is_one d ≡ true → under d t ≡ 0
under_one zero t e = absurd (false≢true e)
under_one (suc d) t e = refl

under_zero : (d t : ℕ) → is_one d ≡ false → under d t ≡ suc t
under_zero zero t e = refl
under_zero (suc d) t e = absurd (true≢false e)

-- trailing zeros is the least place that holds a 1, or the width
pub trailing_least : (w n : ℕ) → count_trailing_zeros w n ≡ least (digit n) 0 w
unfolding count_trailing_zeros least digit
trailing_least zero n = refl
trailing_least (suc w) n =
    let rest : ℕ = count_trailing_zeros w (n / 2) in
    either (digit n 0) (λ e. under_one (n % 2) rest e ∙ sym (least_hit (digit n) 0 w e))
    (λ e. under_zero (n % 2) rest e ∙ ap suc (trailing_least w (n / 2)) ∙ sym (least_shift (digit n) 0 w) ∙ sym (least_miss (digit n) 0 w e))
