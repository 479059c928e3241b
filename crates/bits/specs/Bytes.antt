-- A number from its bytes, low byte first, and its bytes again, over the count of bytes; and so for numbers in a row. Rests on nothing of ours.
use Rattle.std.specs.Prelude.{◌≡◌, refl, Bool, true, false, ◌&&◌, List, [], ◌∷◌, ◌++◌, ℕ, zero, suc, ◌+◌, ◌-◌, ◌*◌, ◌/◌, ◌%◌, ◌^◌, ◌≤◌, ◌<◌, T, ltb, length, get_or, take, drop}
use Rattle.std.proofs.Common.{sym, ap, ap₂, ◌∙◌, append_assoc, zero-lt-suc, suc-add, zero-add, mod-lt, div-add-mod', div-one, div-lt_iff_lt-mul, pow-suc, mul_comm, mul_assoc, add-mul, zero-mul, suc-mul, add_comm, mul-le-mul_right, arith, ltb→lt, length-append, length-drop, length-take-le, take-add, drop-drop, drop-cons, take_at, drop_at, lt-ltb}
use Rattle.std.proofs.Math.Nat.{div-div-eq-div-mul}
use Rattle.std.proofs.Math.Arith.{digits_lt, digits_div, digits_mod, lt-one, mod-mul}
use Rattle.std.proofs.Math.Pow.{are_bytes}

unfoldable pub from_bytes : List ℕ → ℕ
from_bytes [] = 0
from_bytes (b ∷ bs) = from_bytes bs * 256 + b

-- the k low bytes of n
unfoldable pub to_bytes : ℕ → ℕ → List ℕ
to_bytes zero n = []
to_bytes (suc k) n = n % 256 ∷ to_bytes k (n / 256)

byte_pos : 0 < 256
byte_pos = zero-lt-suc 255

both : (a b : Bool) → T (a && b) → T a × T b
both true b t = (tt, t)
both false b t = absurd t

-- ---- k bytes are made, each of them a byte

pub to_bytes_length : (k n : ℕ) → length (to_bytes k n) ≡ k
unfolding to_bytes
to_bytes_length zero n = refl
to_bytes_length (suc k) n = ap suc (to_bytes_length k (n / 256))

pub to_bytes_bytes : (k n : ℕ) → T (are_bytes (to_bytes k n))
unfolding to_bytes
to_bytes_bytes zero n = tt
to_bytes_bytes (suc k) n = rw (lt-ltb (n % 256) 256 (mod-lt n byte_pos)) (to_bytes_bytes k (n / 256))

-- ---- k bytes make a number below 256 ^ k, and each such number is made of k bytes in one way

pub from_bytes_lt : (bs : List ℕ) → T (are_bytes bs) → from_bytes bs < 256 ^ length bs
unfolding from_bytes
from_bytes_lt [] t = zero-lt-suc 0
from_bytes_lt (b ∷ bs) t =
    let parts = both (ltb b 256) (are_bytes bs) t in
    rw pow-suc (digits_lt (from_bytes_lt bs parts.1) (ltb→lt b 256 parts.0))

pub from_to : (k n : ℕ) → n < 256 ^ k → from_bytes (to_bytes k n) ≡ n
unfolding from_bytes to_bytes
from_to zero n h = sym (lt-one h)
from_to (suc k) n h =
    ap (λ (q : ℕ). q * 256 + n % 256) (from_to k (n / 256) ((div-lt_iff_lt-mul byte_pos).1 (rw pow-suc at h))) ∙ div-add-mod' n 256

pub to_from : (bs : List ℕ) → T (are_bytes bs) → to_bytes (length bs) (from_bytes bs) ≡ bs
unfolding from_bytes to_bytes
to_from [] t = refl
to_from (b ∷ bs) t =
    let parts = both (ltb b 256) (are_bytes bs) t in
    let small : b < 256 = ltb→lt b 256 parts.0 in
    ap₂ (λ (d q : ℕ). d ∷ to_bytes (length bs) q) (digits_mod (from_bytes bs) small) (digits_div (from_bytes bs) small)
    ∙ ap (λ (rest : List ℕ). b ∷ rest) (to_from bs parts.1)

-- ---- bytes in two parts are a number in two parts

pub from_parts : (xs ys : List ℕ) → from_bytes (xs ++ ys) ≡ from_bytes ys * 256 ^ length xs + from_bytes xs
unfolding from_bytes
from_parts [] ys = omega arith
from_parts (x ∷ xs) ys =
    rw (from_parts xs ys, pow-suc 256 (length xs), add-mul (from_bytes ys * 256 ^ length xs) (from_bytes xs) 256, mul_assoc (from_bytes ys) (256 ^ length xs) 256) (omega arith)

powers_pos : (j : ℕ) → 0 < 256 ^ j
powers_pos zero = zero-lt-suc 0
powers_pos (suc j) = let before = powers_pos j in rw pow-suc (omega (arith, before))

pub to_parts : (j k n : ℕ) → to_bytes (j + k) n ≡ to_bytes j n ++ to_bytes k (n / 256 ^ j)
unfolding to_bytes
to_parts zero k n = ap₂ to_bytes (zero-add k) (sym (div-one n))
to_parts (suc j) k n =
    ap (λ (m : ℕ). to_bytes m n) (suc-add j k)
    ∙ ap (λ (rest : List ℕ). n % 256 ∷ rest)
    (to_parts j k (n / 256) ∙ ap (λ (high : ℕ). to_bytes j (n / 256) ++ to_bytes k high) (div-div-eq-div-mul n 256 (256 ^ j) ∙ ap (λ (m : ℕ). n / m) (mul_comm 256 (256 ^ j) ∙ sym (pow-suc 256 j))))

-- the low bytes of a number are those of its low part
pub to_low : (j n : ℕ) → to_bytes j (n % 256 ^ j) ≡ to_bytes j n
unfolding to_bytes
to_low zero n = refl
to_low (suc j) n =
    rw (pow-suc, mod-mul n (powers_pos j) byte_pos)
    (ap₂ (λ (low high : ℕ). low ∷ to_bytes j high) (digits_mod (n / 256 % 256 ^ j) (mod-lt n byte_pos)) (digits_div (n / 256 % 256 ^ j) (mod-lt n byte_pos))
    ∙ ap (λ (rest : List ℕ). n % 256 ∷ rest) (to_low j (n / 256)))

-- ---- a number in a row of bytes

-- the number in the k bytes from an offset on; bytes that are not there count nothing
abbrev pub number_in : ℕ → List ℕ → ℕ → ℕ
number_in k bytes i = from_bytes (take k (drop i bytes))

pub number_one : (bytes : List ℕ) (i : ℕ) → i < length bytes → number_in 1 bytes i ≡ get_or bytes i 0
unfolding from_bytes
number_one bytes i inside = rw (drop-cons bytes i 0 inside) (omega arith)

pub number_parts : (j k : ℕ) (bytes : List ℕ) (i : ℕ) → i + j ≤ length bytes → number_in (j + k) bytes i ≡ number_in k bytes (i + j) * 256 ^ j + number_in j bytes i
number_parts j k bytes i inside =
    ap from_bytes (take-add j k (drop i bytes))
    ∙ from_parts (take j (drop i bytes)) (take k (drop j (drop i bytes)))
    ∙ ap₂ (λ (rest : List ℕ) (m : ℕ). from_bytes (take k rest) * 256 ^ m + number_in j bytes i) (drop-drop j i bytes) front
  where
    front : length (take j (drop i bytes)) ≡ j
    front = let left = length-drop i bytes in length-take-le j (drop i bytes) (omega (arith, left))

-- two bytes, one by one
pub number_two : (bytes : List ℕ) (i : ℕ) → suc i < length bytes → number_in 2 bytes i ≡ get_or bytes (i + 1) 0 * 256 + get_or bytes i 0
number_two bytes i inside =
    number_parts 1 1 bytes i (omega (arith, inside))
    ∙ ap₂ (λ (high low : ℕ). high * 256 + low) (number_one bytes (i + 1) (omega (arith, inside))) (number_one bytes i (omega (arith, inside)))

-- ---- numbers in a row, each in k bytes

unfoldable pub bytes_of : ℕ → List ℕ → List ℕ
bytes_of k [] = []
bytes_of k (n ∷ ns) = to_bytes k n ++ bytes_of k ns

-- the first so many of them
unfoldable pub numbers_of : ℕ → ℕ → List ℕ → List ℕ
numbers_of k zero bytes = []
numbers_of k (suc many) bytes = from_bytes (take k bytes) ∷ numbers_of k many (drop k bytes)

-- one part of k more
one_more : (m k : ℕ) → k + m * k ≡ suc m * k
one_more m k = add_comm k (m * k) ∙ sym (suc-mul m k)

pub bytes_of_length : (k : ℕ) (ns : List ℕ) → length (bytes_of k ns) ≡ length ns * k
unfolding bytes_of
bytes_of_length k [] = sym (zero-mul k)
bytes_of_length k (n ∷ ns) =
    length-append (to_bytes k n) (bytes_of k ns) ∙ ap₂ (λ (a b : ℕ). a + b) (to_bytes_length k n) (bytes_of_length k ns) ∙ one_more (length ns) k

pub bytes_of_parts : (k : ℕ) (ns ms : List ℕ) → bytes_of k (ns ++ ms) ≡ bytes_of k ns ++ bytes_of k ms
unfolding bytes_of
bytes_of_parts k [] ms = refl
bytes_of_parts k (n ∷ ns) ms =
    ap (λ (rest : List ℕ). to_bytes k n ++ rest) (bytes_of_parts k ns ms) ∙ sym (append_assoc (to_bytes k n) (bytes_of k ns) (bytes_of k ms))

pub numbers_of_length : (k many : ℕ) (bytes : List ℕ) → length (numbers_of k many bytes) ≡ many
unfolding numbers_of
numbers_of_length k zero bytes = refl
numbers_of_length k (suc many) bytes = ap suc (numbers_of_length k many (drop k bytes))

pub numbers_of_at : (k many : ℕ) (bytes : List ℕ) (i : ℕ) → i < many → get_or (numbers_of k many bytes) i 0 ≡ number_in k bytes (i * k)
unfolding numbers_of
numbers_of_at k zero bytes i inside = absurd (omega (arith, inside))
numbers_of_at k (suc many) bytes zero inside = rw (zero-mul k)
numbers_of_at k (suc many) bytes (suc i) inside =
    numbers_of_at k many (drop k bytes) i (omega (arith, inside)) ∙ ap (λ (rest : List ℕ). from_bytes (take k rest)) (drop-drop (i * k) k bytes ∙ ap (λ (m : ℕ). drop m bytes) (one_more i k))

-- ---- they are read as they were written, and written as they were read

joined : (a b : Bool) → T a → T b → T (a && b)
joined true b s t = t
joined false b s t = absurd s

pub bytes_append : (xs ys : List ℕ) → T (are_bytes xs) → T (are_bytes ys) → T (are_bytes (xs ++ ys))
bytes_append [] ys p q = q
bytes_append (x ∷ xs) ys p q = let parts = both (ltb x 256) (are_bytes xs) p in joined (ltb x 256) _ parts.0 (bytes_append xs ys parts.1 q)

pub bytes_take : (k : ℕ) (xs : List ℕ) → T (are_bytes xs) → T (are_bytes (take k xs))
bytes_take zero xs p = tt
bytes_take (suc k) [] p = p
bytes_take (suc k) (x ∷ xs) p = let parts = both (ltb x 256) (are_bytes xs) p in joined (ltb x 256) _ parts.0 (bytes_take k xs parts.1)

pub bytes_drop : (k : ℕ) (xs : List ℕ) → T (are_bytes xs) → T (are_bytes (drop k xs))
bytes_drop zero xs p = p
bytes_drop (suc k) [] p = p
bytes_drop (suc k) (x ∷ xs) p = bytes_drop k xs (both (ltb x 256) (are_bytes xs) p).1

pub bytes_of_bytes : (k : ℕ) (ns : List ℕ) → T (are_bytes (bytes_of k ns))
unfolding bytes_of
bytes_of_bytes k [] = tt
bytes_of_bytes k (n ∷ ns) = bytes_append (to_bytes k n) (bytes_of k ns) (to_bytes_bytes k n) (bytes_of_bytes k ns)

pub read_written : (k : ℕ) (ns rest : List ℕ) → ((i : ℕ) → i < length ns → get_or ns i 0 < 256 ^ k) → numbers_of k (length ns) (bytes_of k ns ++ rest) ≡ ns
unfolding bytes_of numbers_of
read_written k [] rest fit = refl
read_written k (n ∷ ns) rest fit =
    let split = append_assoc (to_bytes k n) (bytes_of k ns) rest in
    ap₂ (λ (first : ℕ) (more : List ℕ). first ∷ more)
    (ap (λ (all : List ℕ). from_bytes (take k all)) split ∙ ap from_bytes (take_at (to_bytes k n) _ k (to_bytes_length k n)) ∙ from_to k n (fit 0 (omega arith)))
    (ap (λ (all : List ℕ). numbers_of k (length ns) (drop k all)) split
    ∙ ap (numbers_of k (length ns)) (drop_at (to_bytes k n) _ k (to_bytes_length k n))
    ∙ read_written k ns rest (λ i l. fit (suc i) (omega (arith, l))))

pub written_read : (k many : ℕ) (bytes : List ℕ) → many * k ≤ length bytes → T (are_bytes bytes) → bytes_of k (numbers_of k many bytes) ≡ take (many * k) bytes
unfolding bytes_of numbers_of
written_read k zero bytes fits are = rw (zero-mul k)
written_read k (suc many) bytes fits are =
    ap₂ (λ (first more : List ℕ). first ++ more) here (written_read k many (drop k bytes) (omega (arith, left, room)) (bytes_drop k bytes are))
    ∙ sym (take-add k (many * k) bytes)
    ∙ ap (λ (m : ℕ). take m bytes) (one_more many k)
  where
    room : k + many * k ≤ length bytes
    room = rw (one_more many k) fits

    left : length (drop k bytes) ≡ length bytes - k
    left = length-drop k bytes

    front : length (take k bytes) ≡ k
    front = length-take-le k bytes (omega (arith, room))

    here : to_bytes k (from_bytes (take k bytes)) ≡ take k bytes
    here = ap (λ (m : ℕ). to_bytes m (from_bytes (take k bytes))) (sym front) ∙ to_from (take k bytes) (bytes_take k bytes are)

-- each number fits its k bytes
pub number_lt : (k : ℕ) (bytes : List ℕ) (i : ℕ) → T (are_bytes bytes) → i + k ≤ length bytes → number_in k bytes i < 256 ^ k
number_lt k bytes i are inside =
    let left = length-drop i bytes in
    rw (length-take-le k (drop i bytes) (omega (arith, left))) at (from_bytes_lt (take k (drop i bytes)) (bytes_take k (drop i bytes) (bytes_drop i bytes are)))

pub numbers_of_lt : (k many : ℕ) (bytes : List ℕ) → T (are_bytes bytes) → (i : ℕ) → i < many → many * k ≤ length bytes → get_or (numbers_of k many bytes) i 0 < 256 ^ k
numbers_of_lt k many bytes are i inside fits = rw (numbers_of_at k many bytes i inside) (number_lt k bytes (i * k) are (omega (arith, one_more i k, fits, mul-le-mul_right {m = suc i} {n = many} k inside)))
