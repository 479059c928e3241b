-- What stood in specs/Masks and rests on theorems there: moved, its statements unchanged. Rests on `Masks`.
use Rattle.std.specs.Prelude.{◌≡◌, refl, ◌↔◌, Bool, ◌&&◌, ℕ, ◌≤◌, T, leb, ltb}
use Rattle.std.proofs.Common.{sym, ap, ◌∙◌, inl, arith, ltb-true, ltb-false}
use Rattle.std.proofs.Math.Nat.{min-eq_left}
use Rattle.std.proofs.lemmas.Bool.{lt-leb}
use Rattle.answers.specs.Said.{value}
use Rattle.answers.specs.Faults.{finds_le, finds_both}
use Rattle.bits.specs.Range.{and_false, either, le_of_not_lt}
use Rattle.bits.specs.Digits.{digit, number_lt}
use Rattle.bits.proofs.Digits.{digit_number, past_digit, low_mask_digit}
use Rattle.bits.specs.Masks.{low_mask, places, mask_between, mask_faults}

-- ---- what the answers mean

-- entry k has a 1 in each place below k and in no other: k ones
pub low_mask_places : (k i : ℕ) → k ≤ 64 → digit (low_mask k) i ≡ ltb i k
unfolding low_mask
low_mask_places k i h = rw (min-eq_left h) (low_mask_digit k i)

places_digit : (s e i : ℕ) → e ≤ 63 → digit (places s e) i ≡ leb s i && leb i e
unfolding places
places_digit s e i h =
    either (ltb i 64) (λ t. digit_number _ 64 i (ltb-true i 64 t))
    (λ t. past_digit _ 64 i (number_lt _ 64) (ltb-false i 64 t)
    ∙ sym (ap (λ (b : Bool). leb s i && b) (lt-leb i e (omega (arith, ltb-false i 64 t))) ∙ and_false (leb s i)))

-- it has ones exactly from bit s to bit e
pub mask_places : (s e m i : ℕ) → mask_between s e ≡ value m → T (digit m i) ↔ ((s ≤ i) × (i ≤ e))
mask_places s e m i said =
    let accepted = ((mask_faults s e).accepts m).0 said in
    let small : e ≤ 63 = le_of_not_lt (λ lt. accepted.0 4 (inl (refl, lt))) in
    rw (← accepted.1, places_digit s e i small) (finds_both (leb s i) (leb i e) (finds_le s i) (finds_le i e))
