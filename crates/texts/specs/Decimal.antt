-- A number in plain decimal, as bytes, and what that means. Rests on nothing of ours but choices by a test.
use Rattle.std.specs.Prelude.{◌≡◌, refl, true, false, List, [], ◌∷◌, ◌++◌, ℕ, zero, suc, ◌+◌, ◌-◌, ◌*◌, ◌/◌, ◌%◌, ◌^◌, ◌≤◌, ◌<◌, ltb, length, get_or}
use Rattle.std.proofs.Common.{sym, ap, ◌∙◌, pow-suc, div-lt_iff_lt-mul, zero-lt-suc, arith, length-append, lt-ltb, le-ltb, ltb-true, ltb-false}
use Rattle.bits.specs.Range.{either}

-- a number in decimal, without zeros in front: a digit, or the digits of its tens and then its last one; the first number bounds how many
unfoldable pub decimal_within : ℕ → ℕ → List ℕ
decimal_within zero n = []
decimal_within (suc most) n = elim (ltb n 10) [ true ↦ (48 + n) ∷ [] | false ↦ decimal_within most (n / 10) ++ ((48 + n % 10) ∷ []) ]

unfoldable pub decimal : ℕ → List ℕ
decimal n = decimal_within (suc n) n

pub decimal_digit : (most n : ℕ) → n < 10 → decimal_within (suc most) n ≡ (48 + n) ∷ []
unfolding decimal_within
decimal_digit most n small = rw (lt-ltb n 10 small, decimal_within)

pub decimal_tens : (most n : ℕ) → 10 ≤ n → decimal_within (suc most) n ≡ decimal_within most (n / 10) ++ ((48 + n % 10) ∷ [])
unfolding decimal_within
decimal_tens most n large = rw (le-ltb n 10 large, decimal_within)

-- ---- what plain decimal means, for every number and without a bound

-- a bound above the number gives the same digits as any other
bound_alike : (most more n : ℕ) → n < most → n < more → decimal_within most n ≡ decimal_within more n
bound_alike zero more n l h = absurd (omega (arith, l))
bound_alike (suc most) zero n l h = absurd (omega (arith, h))
bound_alike (suc most) (suc more) n l h =
    either (ltb n 10)
    (λ e. let small = ltb-true n 10 e in decimal_digit most n small ∙ sym (decimal_digit more n small))
    (λ e.
    let large : 10 ≤ n = ltb-false n 10 e in
    decimal_tens most n large
    ∙ ap (λ (tens : List ℕ). tens ++ ((48 + n % 10) ∷ [])) (bound_alike most more (n / 10) (omega arith) (omega arith))
    ∙ sym (decimal_tens more n large))

-- a number below ten is one digit; any other is the digits of its tens and then its last digit
pub decimal_small : (n : ℕ) → n < 10 → decimal n ≡ (48 + n) ∷ []
unfolding decimal
decimal_small n small = decimal_digit n n small

pub decimal_large : (n : ℕ) → 10 ≤ n → decimal n ≡ decimal (n / 10) ++ ((48 + n % 10) ∷ [])
unfolding decimal
decimal_large n large =
    decimal_tens n n large
    ∙ ap (λ (tens : List ℕ). tens ++ ((48 + n % 10) ∷ [])) (bound_alike n (suc (n / 10)) (n / 10) (omega arith) (omega arith))

-- the number that some digits say, read from the front: each moves what was read before it up by ten
unfoldable pub read_on : ℕ → List ℕ → ℕ
read_on n [] = n
read_on n (byte ∷ bytes) = read_on (n * 10 + (byte - 48)) bytes

read_then : (n : ℕ) (xs ys : List ℕ) → read_on n (xs ++ ys) ≡ read_on (read_on n xs) ys
unfolding read_on
read_then n [] ys = refl
read_then n (x ∷ xs) ys = read_then (n * 10 + (x - 48)) xs ys

says_within : (most n : ℕ) → n < most → read_on 0 (decimal_within most n) ≡ n
unfolding read_on
says_within zero n l = absurd (omega (arith, l))
says_within (suc most) n l =
    either (ltb n 10)
    (λ e. rw (decimal_digit most n (ltb-true n 10 e)) (omega arith))
    (λ e.
    let large : 10 ≤ n = ltb-false n 10 e in
    rw (decimal_tens most n large, read_then 0 (decimal_within most (n / 10)) ((48 + n % 10) ∷ []), says_within most (n / 10) (omega arith)) (omega arith))

-- the digits of a number say that number
pub decimal_says : (n : ℕ) → read_on 0 (decimal n) ≡ n
unfolding decimal
decimal_says n = says_within (suc n) n (omega arith)

front_stays : (xs ys : List ℕ) → 48 < get_or xs 0 0 → 48 < get_or (xs ++ ys) 0 0
front_stays [] ys some = absurd (omega (arith, some))
front_stays (x ∷ xs) ys some = some

front_within : (most n : ℕ) → 0 < n → n < most → 48 < get_or (decimal_within most n) 0 0
front_within zero n pos l = absurd (omega (arith, l))
front_within (suc most) n pos l =
    either (ltb n 10)
    (λ e. rw (decimal_digit most n (ltb-true n 10 e)) (omega arith))
    (λ e.
    let large : 10 ≤ n = ltb-false n 10 e in
    rw (decimal_tens most n large) (front_stays (decimal_within most (n / 10)) _ (front_within most (n / 10) (omega arith) (omega arith))))

-- and no zero stands in front of a number above 0
pub decimal_front : (n : ℕ) → 0 < n → 48 < get_or (decimal n) 0 0
unfolding decimal
decimal_front n pos = front_within (suc n) n pos (omega arith)

-- ---- a number has no more digits than it needs

pub decimal_short : (k most n : ℕ) → n < 10 ^ suc k → length (decimal_within most n) ≤ suc k
unfolding decimal_within
decimal_short k zero n small = omega arith
decimal_short zero (suc most) n small = rw (decimal_digit most n small) (omega arith)
decimal_short (suc k) (suc most) n small =
    either (ltb n 10)
    (λ one. rw (decimal_digit most n (ltb-true n 10 one)) (omega arith))
    (λ more.
    let tens = decimal_short k most (n / 10) ((div-lt_iff_lt-mul (zero-lt-suc 9)).1 (rw (sym (pow-suc 10 (suc k))) small)) in
    rw (decimal_tens most n (ltb-false n 10 more), length-append) (omega (arith, tens)))
