-- What the library makes of the bytes of a number is what `Bytes` makes of them. Assumes nothing.
use Rattle.std.specs.Prelude.{◌≡◌, refl, List, [], ◌∷◌, ◌++◌, ℕ, zero, suc, ◌+◌, ◌-◌, ◌*◌, ◌/◌, ◌%◌, ◌^◌, ◌<◌, length, get_or, take, drop}
use Rattle.std.proofs.Common.{sym, ap, ap₂, ◌∙◌, arith, pow-suc, div-one, take-suc, length-take-le, drop-drop, zero-mul, suc-mul, add_comm, take_all, le_of_eq, length-drop}
use Rattle.std.proofs.lemmas.List.{drop-take, take-take}
use Rattle.std.proofs.Math.Nat.{div-div-eq-div-mul}
use Rattle.std.specs.Int.{byte_at, byte_worth, bytes_low_first, sum_through, from_le_bytes, w64}
use Rattle.std.specs.Simd.{first_chunks}
use borrow.Rule.Slice.PartMut.{put_mid, Post-is}
use Rattle.bits.specs.Bytes.{from_bytes, to_bytes, from_parts, number_in}
use Rattle.bits.specs.Buffers.{put_at}

here : (i n : ℕ) → byte_at i n ≡ n / 256 ^ i % 256
here zero n = ap (λ (m : ℕ). m % 256) (sym (div-one n))
here (suc i) n = refl

low_first : (i k n : ℕ) → bytes_low_first i k n ≡ to_bytes k (n / 256 ^ i)
unfolding to_bytes
low_first i zero n = refl
low_first i (suc k) n =
    ap₂ (λ (byte : ℕ) (rest : List ℕ). byte ∷ rest) (here i n)
    (low_first (suc i) k n ∙ ap (to_bytes k) (ap (λ (m : ℕ). n / m) (pow-suc 256 i) ∙ sym (div-div-eq-div-mul n (256 ^ i) 256)))

-- the k low bytes of a number
pub written : (k n : ℕ) → bytes_low_first 0 k n ≡ to_bytes k n
written k n = low_first 0 k n ∙ ap (to_bytes k) (div-one n)

worth : (i b : ℕ) → byte_worth i b ≡ b * 256 ^ i
worth zero b = omega arith
worth (suc i) b = refl

-- and the number of k bytes
pub read : (k : ℕ) (bytes : List ℕ) → k < length bytes → sum_through (λ i. byte_worth i (get_or bytes i 0)) k ≡ from_bytes (take (suc k) bytes)
unfolding from_bytes
read zero [] inside = absurd (omega (arith, inside))
read zero (b ∷ bytes) inside = omega arith
read (suc k) bytes inside =
    ap₂ (λ (a b : ℕ). a + b) (read k bytes (omega (arith, inside))) (worth (suc k) (get_or bytes (suc k) 0))
    ∙ sum
    ∙ sym (ap from_bytes (take-suc bytes (suc k) 0 inside) ∙ from_parts (take (suc k) bytes) (get_or bytes (suc k) 0 ∷ []))
  where
    long : length (take (suc k) bytes) ≡ suc k
    long = length-take-le (suc k) bytes (omega (arith, inside))

    sum : from_bytes (take (suc k) bytes) + get_or bytes (suc k) 0 * 256 ^ suc k ≡ from_bytes (get_or bytes (suc k) 0 ∷ []) * 256 ^ length (take (suc k) bytes) + from_bytes (take (suc k) bytes)
    sum = rw long (omega arith)

-- the i-th part of n bytes
pub chunk_at : (n k : ℕ) (bytes : List ℕ) (i : ℕ) (d : List ℕ) → i < k → get_or (first_chunks n k bytes) i d ≡ take n (drop (i * n) bytes)
chunk_at n zero bytes i d inside = absurd (omega (arith, inside))
chunk_at n (suc k) bytes zero d inside = ap (λ (m : ℕ). take n (drop m bytes)) (sym (zero-mul n))
chunk_at n (suc k) bytes (suc i) d inside = chunk_at n k (drop n bytes) i d (omega (arith, inside)) ∙ ap (take n) (drop-drop (i * n) n bytes ∙ ap (λ (m : ℕ). drop m bytes) (add_comm n (i * n) ∙ sym (suc-mul i n)))

-- bytes in the place of as many
pub placed : (buffer part text : List ℕ) (s e : ℕ) → s + length text ≡ e → part ≡ text → put_mid s (e - s) buffer part ≡ put_at buffer s text
unfolding put_at
placed buffer part text s e ends copied =
    (λ i. take s buffer ++ (copied i ++ (Post-is s e buffer (omega (arith, ends)) ∙ ap (λ (n : ℕ). drop n buffer) (sym ends)) i))

-- the i-th word of an image
pub word_at : (image : List ℕ) (parts : List (List ℕ)) (i : ℕ) (d : List ℕ) → length image ≡ 136 → i < 16
    → parts ≡ first_chunks 8 (length (take 128 (drop 3 image)) / 8) (take 128 (drop 3 image)) → from_le_bytes w64 (get_or parts i d) ≡ number_in 8 image (3 + 8 * i)
word_at image parts i d whole inside are =
    ap (from_le_bytes w64) (part ∙ front) ∙ read 7 (take 8 (drop (3 + 8 * i) image)) (omega (arith, long)) ∙ ap from_bytes (take_all 8 _ (le_of_eq long))
  where
    left : length (drop 3 image) ≡ 133
    left = length-drop 3 image ∙ ap (λ (n : ℕ). n - 3) whole

    many : length (take 128 (drop 3 image)) ≡ 128
    many = length-take-le 128 (drop 3 image) (omega (arith, left))

    rest : length (drop (3 + 8 * i) image) ≡ 133 - 8 * i
    rest = length-drop (3 + 8 * i) image ∙ omega (arith, whole)

    long : length (take 8 (drop (3 + 8 * i) image)) ≡ 8
    long = length-take-le 8 (drop (3 + 8 * i) image) (omega (arith, rest, inside))

    part : get_or parts i d ≡ take 8 (drop (i * 8) (take 128 (drop 3 image)))
    part =
        ap (λ (all : List (List ℕ)). get_or all i d) (are ∙ ap (λ (n : ℕ). first_chunks 8 (n / 8) (take 128 (drop 3 image))) many)
        ∙ chunk_at 8 16 (take 128 (drop 3 image)) i d inside

    all : 128 ≡ i * 8 + (128 - i * 8)
    all = omega (arith, inside)

    place : 3 + i * 8 ≡ 3 + 8 * i
    place = omega arith

    front : take 8 (drop (i * 8) (take 128 (drop 3 image))) ≡ take 8 (drop (3 + 8 * i) image)
    front =
        ap (take 8) (ap (λ (n : ℕ). drop (i * 8) (take n (drop 3 image))) all ∙ drop-take (i * 8) (128 - i * 8) (drop 3 image))
        ∙ take-take 8 (128 - i * 8) (drop (i * 8) (drop 3 image)) (omega (arith, inside))
        ∙ ap (take 8) (drop-drop (i * 8) 3 image ∙ ap (λ (n : ℕ). drop n image) place)
