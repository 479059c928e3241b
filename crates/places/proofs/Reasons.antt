-- What the machine's operations on a word of w digits come to, place by place: the reasons behind `places`. Assumes nothing.
use mathlib.Core.Path.{◌≡◌, refl, sym, ap, ap₂, ◌∙◌}
use mathlib.Core.Logic.{◌↔◌}
use mathlib.Core.Bool.{Bool, true, false, not, ◌&&◌, ◌||◌}
use Prim.Native.Nat.{ℕ, ◌+◌, ◌-◌, ◌*◌, ◌/◌, ◌%◌, ◌^◌, ◌≤◌, ◌<◌, zero-le, min}
use native.Mathlib.Nat.{lt_of_le_of_lt, mod-lt, min-eq_left, min-eq_right, sub-eq-zero_of_le}
use native.Mathlib.Omega.{arith}
use lib.Bits.{bit_and, bit_or, or_lt, and_le_l, and_comm}
use lib.Dec.{T, leb, ltb, eqb, eqb→eq, eqb_refl, ltb→lt, lt→ltb}
use lib.Count.{count_trailing_zeros}
use lib.Pow.{pow_pos}
use Rattle.std.proofs.Math.Nat.{pow-le-pow_right}
use borrow.Author.Tests.{lt-ltb, le-ltb, leb-true, leb-false, le-leb, not-true, ltb-true, ltb-false}
use Rattle.bits.specs.Range.{and_true, and_false, within, least, least_from, least_to, least_passes, least_first, least_is, least_none, either, same_test, every, finds_every, within_other}
use Rattle.bits.specs.Digits.{digit, number, zero_digit, down_digit, trailing_least}
use Rattle.bits.proofs.Digits.{number_is, equal_digits, and_digit, or_digit, complement_digit, shifted_digit, low_mask_digit}
use Rattle.slots.specs.Sets.{Slots}
use Rattle.slots.specs.Lowest.{free_from}
use Rattle.places.specs.Places.{painted_place}

-- ---- masks for a run

-- no place of the word is in the run
pub no_run : (w s n : ℕ) → ((i : ℕ) → i < w → (s ≤ i) × (i < s + n) → ⊥) → 0 ≡ number (within s n) w
no_run w s n outside = number_is w 0 (within s n) (pow_pos w) (λ i l. zero_digit i ∙ sym (within_other s n i (outside i l)))

pub run_by_table : (w s n : ℕ) → (2 ^ min n w - 1) * 2 ^ s % 2 ^ w ≡ number (within s n) w
unfolding within
run_by_table w s n = number_is w _ (within s n) (mod-lt _ (pow_pos w)) (λ i l.
    shifted_digit (2 ^ min n w - 1) s w i
    ∙ ap₂ (λ (b c : Bool). b && (leb s i && c)) (lt-ltb i w l) (low_mask_digit (min n w) (i - s))
    ∙ cut i l)
  where
    cut : (i : ℕ) → i < w → leb s i && ltb (i - s) (min n w) ≡ within s n i
    cut i l =
        either (leb s i)
        (λ e. rw (e, within) (same_test _ _ (λ t. omega (arith, leb-true s i e, ltb→lt, lt→ltb)) (λ t. omega (arith, leb-true s i e, ltb→lt, lt→ltb))))
        (λ e. rw (e, within))

-- all ones shifted up leave n zeros below them, whose complement is n ones
low_ones : (w n : ℕ) → n ≤ w → (2 ^ w - 1) - (2 ^ w - 1) * 2 ^ n % 2 ^ w ≡ 2 ^ n - 1
low_ones w n h = equal_digits w _ (2 ^ n - 1) (omega (arith, pow_pos w)) (omega (arith, pow_pos w, pow_pos n, pow-le-pow_right {n = 2} (omega arith) h)) (λ i l.
    complement_digit w _ i (mod-lt _ (pow_pos w)) l
    ∙ ap not (shifted_digit (2 ^ w - 1) n w i ∙ ap₂ (λ (b c : Bool). b && (leb n i && c)) (lt-ltb i w l) (low_mask_digit w (i - n) ∙ lt-ltb (i - n) w (omega arith)) ∙ and_true (leb n i))
    ∙ either (leb n i) (λ e. rw e (sym (low_mask_digit n i ∙ le-ltb i n (leb-true n i e))))
    (λ e. rw e (sym (low_mask_digit n i ∙ lt-ltb i n (leb-false n i e)))))

pub run_by_shifts : (w s n : ℕ) → n ≤ w → number (within s n) w ≡ ((2 ^ w - 1) - (2 ^ w - 1) * 2 ^ n % 2 ^ w) * 2 ^ s % 2 ^ w
run_by_shifts w s n h = sym (ap (λ (ones : ℕ). ones * 2 ^ s % 2 ^ w) (low_ones w n h) ∙ rw (min-eq_left h) at (run_by_table w s n))

-- a run of w places or more is cut off by the word alone
pub run_to_the_end : (w s n : ℕ) → w ≤ n → (2 ^ w - 1) * 2 ^ s % 2 ^ w ≡ number (within s n) w
run_to_the_end w s n h = rw (min-eq_right h) at (run_by_table w s n)

-- ---- all free, all used, painting: of a word and a mask that both have at most w digits

module _ (w word mask : ℕ) (word_held : word < 2 ^ w) (mask-held : mask < 2 ^ w) where
  both_held : bit_and word mask < 2 ^ w
  both_held = lt_of_le_of_lt (and_le_l word mask) word_held

  pub free_by_mask : eqb (bit_and word mask) 0 ≡ every (λ i. not (digit mask i && digit word i)) 0 w
  free_by_mask = same_test _ _ (λ t. found.1 (λ i _ l. clear (eqb→eq _ 0 t) i)) (λ t. rw (none (found.0 t)) tt)
    where
      found : T (every (λ i. not (digit mask i && digit word i)) 0 w) ↔ ((i : ℕ) → 0 ≤ i → i < 0 + w → not (digit mask i && digit word i) ≡ true)
      found = finds_every (λ i. not (digit mask i && digit word i)) 0 w

      swapped : (i : ℕ) → digit (bit_and word mask) i ≡ digit mask i && digit word i
      swapped i = ap (λ (n : ℕ). digit n i) (and_comm word mask) ∙ and_digit mask word i

      clear : bit_and word mask ≡ 0 → (i : ℕ) → not (digit mask i && digit word i) ≡ true
      clear e i = ap not (sym (swapped i) ∙ ap (λ (n : ℕ). digit n i) e ∙ zero_digit i)

      none : ((i : ℕ) → 0 ≤ i → i < 0 + w → not (digit mask i && digit word i) ≡ true) → bit_and word mask ≡ 0
      none all = equal_digits w _ 0 both_held (pow_pos w) (λ i l. swapped i ∙ not-true _ (all i zero-le (omega arith)) ∙ sym (zero_digit i))

  pub used_by_mask : eqb (bit_and word mask) mask ≡ every (λ i. not (digit mask i) || digit word i) 0 w
  used_by_mask = same_test _ _ (λ t. found.1 (λ i _ l. covered (eqb→eq _ mask t) i)) (λ t. rw (whole (found.0 t)) (eqb_refl mask))
    where
      found : T (every (λ i. not (digit mask i) || digit word i) 0 w) ↔ ((i : ℕ) → 0 ≤ i → i < 0 + w → not (digit mask i) || digit word i ≡ true)
      found = finds_every (λ i. not (digit mask i) || digit word i) 0 w

      implied : (x m : Bool) → x && m ≡ m → not m || x ≡ true
      implied x true e = sym (and_true x) ∙ e
      implied x false e = refl

      implies : (x m : Bool) → not m || x ≡ true → x && m ≡ m
      implies x true e = rw e
      implies x false e = and_false x

      covered : bit_and word mask ≡ mask → (i : ℕ) → not (digit mask i) || digit word i ≡ true
      covered e i = implied (digit word i) (digit mask i) (sym (and_digit word mask i) ∙ ap (λ (n : ℕ). digit n i) e)

      whole : ((i : ℕ) → 0 ≤ i → i < 0 + w → not (digit mask i) || digit word i ≡ true) → bit_and word mask ≡ mask
      whole all = equal_digits w _ mask both_held mask-held
          (λ i l. and_digit word mask i ∙ implies (digit word i) (digit mask i) (all i zero-le (omega arith)))

  pub marked : bit_or word mask ≡ number (painted_place word mask true) w
  unfolding painted_place
  marked = number_is w _ (painted_place word mask true) (or_lt w word mask word_held mask-held)
      (λ i l. or_digit word mask i ∙ chosen (digit word i) (digit mask i))
    where
      chosen : (x m : Bool) → x || m ≡ elim m as (λ _. Bool) [ true ↦ true | false ↦ x ]
      chosen true true = refl
      chosen true false = refl
      chosen false true = refl
      chosen false false = refl

  pub unmarked : number (painted_place word mask false) w ≡ bit_and word ((2 ^ w - 1) - mask)
  unfolding painted_place
  unmarked = sym (number_is w _ (painted_place word mask false) (lt_of_le_of_lt (and_le_l word _) word_held)
      (λ i l. and_digit word _ i ∙ ap (λ (b : Bool). digit word i && b) (complement_digit w mask i mask-held l) ∙ chosen (digit word i) (digit mask i)))
    where
      chosen : (x m : Bool) → x && not m ≡ elim m as (λ _. Bool) [ true ↦ false | false ↦ x ]
      chosen true true = refl
      chosen true false = refl
      chosen false true = refl
      chosen false false = refl

-- from the word's end on the answer is that end
pub free_beyond : (S : Slots) (from : ℕ) → 64 ≤ from → 64 ≡ free_from 6 S from
unfolding free_from least
free_beyond S from past = rw (min-eq_right past, sub-eq-zero_of_le past)

-- ---- the first free place: trailing zeros of the complement, whose places below s are shifted out

module _ (w word s : ℕ) (word_held : word < 2 ^ w) (inside : s < w) where
  abbrev left : ℕ
  left = ((2 ^ w - 1) - word) / 2 ^ s * 2 ^ s % 2 ^ w

  abbrev free : ℕ → Bool
  free i = not (digit word i)

  left_digit : (i : ℕ) → i < w → digit left i ≡ leb s i && free i
  left_digit i l =
      shifted_digit (((2 ^ w - 1) - word) / 2 ^ s) s w i
      ∙ either (leb s i)
      (λ e.
      let back : s + (i - s) ≡ i = omega (arith, leb-true s i e) in
      rw (lt-ltb i w l, e, down_digit ((2 ^ w - 1) - word) s (i - s), back) (complement_digit w word i word_held l))
      (λ e. rw (lt-ltb i w l, e))

  -- every place before the first free one is used or below s
  passed_over : (i : ℕ) → i < w → i < least free s (w - s) → digit left i ≡ false
  passed_over i l before =
      left_digit i l
      ∙ either (leb s i) (λ e. rw (e, least_first free s (w - s) i (leb-true s i e) before)) (λ e. rw e)

  pub first_by_zeros : count_trailing_zeros w left ≡ least free s (w - s)
  first_by_zeros =
      let place : ℕ = least free s (w - s) in
      let to : place ≤ s + (w - s) = least_to free s (w - s) in
      trailing_least w left
      ∙ either (ltb place w)
      (λ e.
      let found : place < w = ltb-true place w e in
      least_is (digit left) 0 w place zero-le (omega arith)
      (left_digit place found ∙ rw (le-leb s place (least_from free s (w - s)), least_passes free s (w - s) (omega arith)))
      (λ i _ before. passed_over i (omega arith) before))
      (λ e.
      let none : w ≤ place = ltb-false place w e in
      least_none (digit left) 0 w (λ i _ l. passed_over i (omega arith) (omega arith)) ∙ omega arith)
