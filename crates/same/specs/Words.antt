-- What the commit's word gives, slot by slot, whenever it gives an answer. Rests on `BitmapAllocator`, the digits of `bits` and `slots`.
use Rattle.std.specs.Prelude.{◌≡◌, refl, Bool, ◌||◌, ℕ, ◌+◌, ◌-◌, ◌*◌, ◌%◌, ◌^◌, ◌≤◌, ◌<◌, ltb, eqb}
use Rattle.std.proofs.Common.{sym, ◌∙◌, true≢false, zero-le, mod-eq_of_lt, pow-suc, eqb→eq, pow_pos, pow_mono}
use Rattle.std.proofs.Math.Path.{ap, ap₂}
use Rattle.std.proofs.Math.Bool.{true, false, not, ◌&&◌}
use Rattle.std.proofs.lemmas.Bool.{false≢true}
use Rattle.std.proofs.Math.Option.{none, some}
use native.Mathlib.Omega.{arith}
use Rattle.std.proofs.lemmas.Nat.{or_lt}
use Rattle.std.specs.Int.Bits.{and_lt, and_le_l}
use Rattle.std.proofs.Math.Dec.{leb}
use Rattle.std.proofs.Math.Pow.{pow-lt}
use borrow.Author.Tests.{le-ltb, le-leb, lt-leb, eq-eqb, ne_eqb, ltb-true, ltb-false, eqb-true}
use Rattle.bits.specs.Range.{either, same_test, within, least, least_passes, least_first, or_false, or_true, and_false, and_true}
use Rattle.bits.specs.Digits.{digit, number, number_lt, power_digit, zero_digit, trailing_least}
use Rattle.bits.proofs.Digits.{number_is, digit_number, and_digit, or_digit, complement_digit, low_mask_digit, equal_digits}
use Rattle.slots.specs.Sets.{painted, all_free, finds_all_free}
use Rattle.source.specs.Machine.{Run, gives, ◌&◌, ◌∣◌, !u64, trailing_ones}
use Rattle.source.specs.BitmapAllocator.{Bitmap64, Allocator64, set64, next_free64, get64}
use Rattle.same.specs.Acts.{Found, Acts}
use Rattle.same.specs.Answering.{Answers, answers_tested, sum_answers, difference_answers, one_answers}
use Rattle.same.specs.Whenever.{Whenever, so, sum_then, difference_then, one_then}

abbrev pub word : ℕ → Bitmap64
word bits = record { bits = bits }

-- ---- next_free

neither : (a b : Bool) → not (a || b) ≡ true → (a ≡ false) × (b ≡ false)
neither true b e = absurd (false≢true e)
neither false true e = absurd (false≢true e)
neither false false e = (refl, refl)

first_of : (a b : Bool) → not (a || b) ≡ false → b ≡ false → a ≡ true
first_of true b e f = refl
first_of false true e f = absurd (true≢false f)
first_of false false e f = absurd (true≢false e)

module _ (bits : ℕ) (fits : bits < 2 ^ 64) where
  module _ (s : ℕ) (inside : s < 64) where
    free_from_lem : ℕ
    free_from_lem = !u64 (bits ∣ (2 ^ s - 1))

    place : (i : ℕ) → i < 64 → digit free_from_lem i ≡ not (digit bits i || ltb i s)
    unfolding free_from_lem
    place i l =
        complement_digit 64 (bits ∣ (2 ^ s - 1)) i (or_lt 64 bits (2 ^ s - 1) fits (omega (arith, pow-lt inside))) l
        ∙ ap not (or_digit bits (2 ^ s - 1) i ∙ ap (λ (b : Bool). digit bits i || b) (low_mask_digit s i))

    passed : (i : ℕ) → s ≤ i → i < 64 → digit free_from_lem i ≡ false → digit bits i ≡ true
    passed i from l e = first_of (digit bits i) (ltb i s) (sym (place i l) ∙ e) (le-ltb i s from)

    picked : (idx : ℕ) → idx ≡ least (digit free_from_lem) 0 64 → (b : Bool) → ltb idx 64 ≡ b
        → Found 6 (digit bits) s (elim b [ true ↦ some idx | false ↦ none ])
    picked idx e true small =
        let l : idx < 64 = ltb-true idx 64 small in
        let free = neither (digit bits idx) (ltb idx s) (sym (place idx l) ∙ ap (digit free_from_lem) e ∙ least_passes (digit free_from_lem) 0 64 (omega arith)) in
        record {
          from = ltb-false idx s free.1;
          inside = l;
          free = free.0;
          first = λ i from below. passed i from (omega arith) (least_first (digit free_from_lem) 0 64 i zero-le (omega arith));
        }
    picked idx e false large = λ i from l.
        passed i from l (least_first (digit free_from_lem) 0 64 i zero-le (omega (arith, ltb-false idx 64 large)))

  pub next_free_finds : (s : ℕ) → Whenever (next_free64 (word bits) s) (λ r. (s < 64) × Found 6 (digit bits) s r)
  unfolding next_free64 free_from_lem
  next_free_finds s =
      one_then _ _ 64 s (λ l. difference_then _ _ (2 ^ s) 1 (λ _.
      (l, picked s l (trailing_ones (bits ∣ (2 ^ s - 1))) (trailing_least 64 (!u64 (bits ∣ (2 ^ s - 1)))) _ refl)))

  -- ---- get

  and_one : (i : ℕ) → i < 64 → not (eqb (bits & 2 ^ i) 0) ≡ digit bits i
  and_one i l =
      either (digit bits i)
      (λ e. ap not (ne_eqb (bits & 2 ^ i) 0 (λ z. true≢false (sym (at_place ∙ rw e) ∙ ap (λ (n : ℕ). digit n i) z ∙ zero_digit i))) ∙ sym e)
      (λ e. ap not (eq-eqb (bits & 2 ^ i) 0 (equal_digits 64 (bits & 2 ^ i) 0 (and_lt 64 bits (2 ^ i) fits (pow-lt l)) (pow_pos 64) (λ j h.
      and_digit bits (2 ^ i) j ∙ ap (λ (b : Bool). digit bits j && b) (power_digit i j) ∙ elsewhere e j (eqb j i) refl ∙ sym (zero_digit j)))) ∙ sym e)
    where
      at_place : digit (bits & 2 ^ i) i ≡ digit bits i && true
      at_place = and_digit bits (2 ^ i) i ∙ ap (λ (b : Bool). digit bits i && b) (power_digit i i ∙ eq-eqb i i refl)

      elsewhere : digit bits i ≡ false → (j : ℕ) (b : Bool) → eqb j i ≡ b → digit bits j && b ≡ false
      elsewhere e j true same = rw (eqb-true j i same, e)
      elsewhere e j false differs = and_false (digit bits j)

  pub get_tells : (i : ℕ) → Whenever (get64 (word bits) i) (λ b. (i < 64) × (b ≡ digit bits i))
  unfolding get64
  get_tells i = one_then _ _ 64 i (λ l. (l, and_one i l))

  -- ---- empty

  pub empty_tells : eqb bits 0 ≡ all_free (digit bits) 0 64
  empty_tells =
      let found = finds_all_free (digit bits) 0 64 in
      same_test (eqb bits 0) (all_free (digit bits) 0 64)
      (λ e. found.1 (λ i _. rw (eqb→eq bits 0 e) (zero_digit i)))
      (λ free. rw (equal_digits 64 bits 0 fits (pow_pos 64) (λ i l. found.0 free i (zero-le, omega arith) ∙ sym (zero_digit i))) tt)

  -- ---- set

  module _ (s n : ℕ) (inside : s < 64) (some_end : 1 ≤ s + n) (ends : s + n - 1 < 64) where
    pub end_mask : ((2 ^ (s + n - 1) - 1) * 2 ^ 1 % 2 ^ 64) + 1 ≡ 2 ^ (s + n) - 1
    end_mask =
        let next_power : 2 ^ (s + n) ≡ 2 ^ (s + n - 1) * 2 = ap (λ (e : ℕ). 2 ^ e) (omega arith) ∙ pow-suc 2 (s + n - 1) in
        let top : 2 ^ (s + n) ≤ 2 ^ 64 = pow_mono {i = s + n} {j = 64} (omega arith) in
        ap (λ (m : ℕ). m + 1) (mod-eq_of_lt (omega (arith, pow_pos (s + n - 1)))) ∙ omega (arith, pow_pos (s + n - 1))

    mask : ℕ
    mask = !u64 (2 ^ s - 1) & (2 ^ (s + n) - 1)

    mask_place : (i : ℕ) → i < 64 → digit mask i ≡ within s n i
    unfolding mask within
    mask_place i l =
        and_digit (!u64 (2 ^ s - 1)) (2 ^ (s + n) - 1) i
        ∙ ap₂ ◌&&◌ (complement_digit 64 (2 ^ s - 1) i (omega (arith, pow-lt inside)) l ∙ ap not (low_mask_digit s i) ∙ from) (low_mask_digit (s + n) i)
      where
        from : not (ltb i s) ≡ leb s i
        from = either (ltb i s) (λ e. rw (e, lt-leb s i (ltb-true i s e))) (λ e. rw (e, le-leb s i (ltb-false i s e)))

    mask_fits : mask < 2 ^ 64
    unfolding mask
    mask_fits = omega (arith, and_le_l (!u64 (2 ^ s - 1)) (2 ^ (s + n) - 1))

    marked : bits ∣ mask ≡ number (painted (digit bits) s n true) 64
    unfolding painted
    marked = number_is 64 (bits ∣ mask) _ (or_lt 64 bits mask fits mask_fits) (λ i l.
        or_digit bits mask i ∙ ap (λ (b : Bool). digit bits i || b) (mask_place i l) ∙ by (digit bits i) (within s n i))
      where
        by : (a b : Bool) → a || b ≡ elim b [ true ↦ true | false ↦ a ]
        by a true = or_true a
        by a false = or_false a

    cleared : bits & !u64 mask ≡ number (painted (digit bits) s n false) 64
    unfolding painted
    cleared = number_is 64 (bits & !u64 mask) _ (omega (arith, and_le_l bits (!u64 mask))) (λ i l.
        and_digit bits (!u64 mask) i ∙ ap (λ (b : Bool). digit bits i && b) (complement_digit 64 mask i mask_fits l ∙ ap not (mask_place i l)) ∙ by (digit bits i) (within s n i))
      where
        by : (a b : Bool) → a && not b ≡ elim b [ true ↦ false | false ↦ a ]
        by a true = and_false a
        by a false = and_true a

    -- with the end's mask as the machine makes it
    written : (v : Bool) (e : ℕ) → e ≡ 2 ^ (s + n) - 1
        → Whenever (elim v as (λ _. Run Bitmap64) [ true ↦ gives (word (bits ∣ (!u64 (2 ^ s - 1) & e))) | false ↦ gives (word (bits & !u64 (!u64 (2 ^ s - 1) & e))) ])
        (λ left. (1 ≤ s + n) × (s + n ≤ 64) × (left ≡ word (number (painted (digit bits) s n v) 64)))
    unfolding mask
    written true e same = (some_end, omega arith, ap (λ (m : ℕ). word (bits ∣ (!u64 (2 ^ s - 1) & m))) same ∙ ap word marked)
    written false e same = (some_end, omega arith, ap (λ (m : ℕ). word (bits & !u64 (!u64 (2 ^ s - 1) & m))) same ∙ ap word cleared)

  -- whenever set gives a word, the range lies in it and has the value, and every other slot is as it was
  pub set_paints : (s n : ℕ) (v : Bool) → Whenever (set64 (word bits) s n v) (λ left. (1 ≤ s + n) × (s + n ≤ 64) × (left ≡ word (number (painted (digit bits) s n v) 64)))
  unfolding set64
  set_paints s n v =
      one_then _ _ 64 s (λ inside. difference_then _ _ (2 ^ s) 1 (λ _.
      sum_then _ _ s n (λ _. difference_then _ _ (s + n) 1 (λ some_end.
      one_then _ _ 64 (s + n - 1) (λ ends. difference_then _ _ (2 ^ (s + n - 1)) 1 (λ _.
      sum_then _ _ ((2 ^ (s + n - 1) - 1) * 2 ^ 1 % 2 ^ 64) 1 (λ _.
      written s n inside some_end ends v (((2 ^ (s + n - 1) - 1) * 2 ^ 1 % 2 ^ 64) + 1) (end_mask s n inside some_end ends))))))))

-- ---- where there is an answer

get64_answers : (bits i : ℕ) → i < 64 → Answers (get64 (word bits) i)
unfolding get64
get64_answers bits i l = one_answers _ 64 i l tt

next_free64_answers : (bits s : ℕ) → s < 64 → Answers (next_free64 (word bits) s)
unfolding next_free64
next_free64_answers bits s l = one_answers _ 64 s l (difference_answers _ (2 ^ s) 1 (pow_pos s) tt)

set64_answers : (bits s n : ℕ) (v : Bool) → s < 64 → 1 ≤ s + n → s + n ≤ 64 → Answers (set64 (word bits) s n v)
unfolding set64
set64_answers bits s n v inside some_end ends =
    let last : s + n - 1 < 64 = omega arith in
    let top : 2 ^ (s + n) ≤ 2 ^ 64 = pow_mono {i = s + n} {j = 64} ends in
    one_answers _ 64 s inside (difference_answers _ (2 ^ s) 1 (pow_pos s)
    (sum_answers _ s n (omega arith) (difference_answers _ (s + n) 1 some_end
    (one_answers _ 64 (s + n - 1) last (difference_answers _ (2 ^ (s + n - 1)) 1 (pow_pos (s + n - 1))
    (sum_answers _ ((2 ^ (s + n - 1) - 1) * 2 ^ 1 % 2 ^ 64) 1 (omega (arith, end_mask 0 (pow_pos 64) s n inside some_end last, pow_pos (s + n)))
    (answers_tested v _ _ (λ _. tt) (λ _. tt))))))))

-- ---- so the word answers as its digits do

pub word_acts : Acts Allocator64 6 (λ w. digit w.bits) (λ w. w.bits < 2 ^ 64)
word_acts = record {
  capacity = refl;
  finds = λ w fits s. so (next_free64 w s) _ _ (next_free_finds w.bits fits s) (λ r told. told.1);
  reads = λ w fits i. get_tells w.bits fits i;
  paints = λ w fits s n v. so (set64 w s n v) _ _ (set_paints w.bits fits s n v) (λ after told. (
    rw told.2 (number_lt (painted (digit w.bits) s n v) 64),
    λ i l. ap (λ (x : Bitmap64). digit x.bits i) told.2 ∙ digit_number (painted (digit w.bits) s n v) 64 i l,
  ));
  counts = λ w fits. refl;
  vacant = λ w fits. empty_tells w.bits fits;
  finds_some = λ w fits s l. next_free64_answers w.bits s l;
  reads_some = λ w fits i l. get64_answers w.bits i l;
  paints_some = λ w fits s n v pos ends. set64_answers w.bits s n v (omega arith) (omega arith) ends;
  counts_some = λ w fits. tt;
}
