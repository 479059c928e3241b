-- The fewest digits of a number, as `io::decimal` makes them, are its decimal. Assumes nothing.
use mathlib.Core.Path.{◌≡◌, sym, ap, subst, ◌∙◌}
use mathlib.Core.List.{[], ◌∷◌, ◌++◌}
use Prim.Native.Nat.{ℕ, zero, suc, ◌+◌, ◌-◌, ◌/◌, ◌%◌, ◌^◌, ◌≤◌, ◌<◌}
use native.Mathlib.Nat.{pow-suc, mod-lt, mod-eq_of_lt, div-lt_iff_lt-mul, le-div_iff_mul-le, div-lt_self, one-le-pow, zero-lt-suc}
use native.Mathlib.Omega.{arith}
use borrow.Author.Tests.{lt-ltb}
use Rattle.io.specs.Digits.{hex_digit_ascii, last_digits, IsDigitCount}
use Rattle.texts.specs.Decimal.{decimal_within, decimal, decimal_digit, decimal_tens}

ten_pos : 0 < 10
ten_pos = zero-lt-suc 9

-- a digit below ten is shown by its glyph
shown : (d : ℕ) → d < 10 → hex_digit_ascii d ≡ 48 + d
shown d small = rw (lt-ltb d 10 small)

fewest_digits : (k most n : ℕ) → n < most → IsDigitCount 10 1 n k → decimal_within most n ≡ last_digits 10 k n
fewest_digits k zero n few least = absurd (omega (arith, few))
fewest_digits zero (suc most) n few least = let some = least.0 in absurd (omega (arith, some))
fewest_digits (suc zero) (suc most) n few least =
    let small : n < 10 = least.1 in
    decimal_digit most n small ∙ sym (ap (λ (d : ℕ). hex_digit_ascii d ∷ []) (mod-eq_of_lt small) ∙ ap (λ (d : ℕ). d ∷ []) (shown n small))
fewest_digits (suc (suc k)) (suc most) n few least =
    decimal_tens most n ten
    ∙ (λ i. fewest_digits (suc k) most (n / 10) less (omega arith, below, from) i ++ (sym (shown (n % 10) (mod-lt n ten_pos)) i ∷ []))
  where
    one_less : (j : ℕ) → suc j - 1 ≡ j
    one_less j = omega arith

    large : 10 ^ suc k ≤ n
    large = subst (λ (j : ℕ). 10 ^ j ≤ n) (one_less (suc k)) (least.2 (omega arith))

    some : 1 ≤ 10 ^ k
    some = one-le-pow k 10 ten_pos

    ten : 10 ≤ n
    ten = let tens = pow-suc 10 k in omega (arith, large, tens, some)

    less : n / 10 < most
    less = let shrinks = div-lt_self {n = n} {k = 10} (omega (arith, ten)) (omega arith) in omega (arith, few, shrinks)

    below : n / 10 < 10 ^ suc k
    below = (div-lt_iff_lt-mul ten_pos).1 (subst (λ (most : ℕ). n < most) (pow-suc 10 (suc k)) least.1)

    from : 1 < suc k → 10 ^ (suc k - 1) ≤ n / 10
    from more =
        subst (λ (j : ℕ). 10 ^ j ≤ n / 10) (sym (one_less k))
        ((le-div_iff_mul-le ten_pos).1 (subst (λ (least : ℕ). least ≤ n) (pow-suc 10 k) large))

pub decimal_digits : (n k : ℕ) → IsDigitCount 10 1 n k → decimal n ≡ last_digits 10 k n
unfolding decimal
decimal_digits n k least = fewest_digits k (suc n) n (omega arith) least
