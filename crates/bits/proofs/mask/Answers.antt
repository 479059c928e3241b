-- `bits::mask` meets its contract: each answer is the case of `mask` that the tests lead to, and ones kept and moved up are the ones asked
-- for, digit by digit. Assumes nothing.
use mathlib.Core.Path.{◌≡◌, sym, ap, ◌∙◌}
use mathlib.Core.Bool.{Bool, ◌&&◌}
use Prim.Native.Nat.{ℕ, ◌+◌, ◌-◌, ◌*◌, ◌/◌, ◌%◌, ◌^◌, ◌≤◌, ◌<◌}
use native.Mathlib.Nat.{mod-lt}
use native.Mathlib.Omega.{arith}
use lib.Dec.{leb, leb→le, le→leb, ltb→lt, lt→ltb}
use lib.Pow.{pow_pos}
use borrow.Author.Tests.{lt-ltb, le-ltb}
use Rattle.answers.specs.Said.{value, judged}
use Rattle.bits.specs.Range.{within, same_test}
use Rattle.bits.specs.Digits.{number, number_lt}
use Rattle.bits.proofs.Digits.{digit_number, equal_digits, run_digit}
use Rattle.bits.specs.Masks.{mask_between, places}
use Rattle.bits.proofs.mask.Goals as goal

module _ (w s e : ℕ) (order : s ≤ e) (fits : e < w) where
  same_places : (i : ℕ) → within s (e - s + 1) i ≡ leb s i && leb i e
  unfolding within
  same_places i = ap (λ (b : Bool). leb s i && b) (same_test _ _ (λ t. omega (arith, ltb→lt, le→leb)) (λ t. omega (arith, leb→le, lt→ltb)))

  by_shifts : (2 ^ w - 1) / 2 ^ (w - 1 - (e - s)) * 2 ^ s % 2 ^ w ≡ number (λ i. leb s i && leb i e) w
  by_shifts =
      let kept : w - 1 - (e - s) ≡ w - (e - s + 1) = omega arith in
      equal_digits w _ _ (mod-lt _ (pow_pos w)) (number_lt _ w)
      (λ i l. rw kept (run_digit w s (e - s + 1) i (omega arith) l) ∙ same_places i ∙ sym (digit_number _ w i l))

pub returns-then-end-gt63 : goal.returns-then-end-gt63
unfolding mask_between judged
returns-then-end-gt63 c = rw (lt-ltb 63 c.args.end (omega arith))

pub returns-then-end-start : goal.returns-then-end-start
unfolding mask_between judged
returns-then-end-start c =
    let asked = c.args in
    rw (le-ltb 63 asked.end (omega arith), lt-ltb asked.end asked.start (omega arith))

pub returns : goal.returns
unfolding mask_between places judged
returns c =
    let asked = c.args in
    rw (le-ltb 63 asked.end (omega arith), le-ltb asked.end asked.start (omega arith))
    (ap value (by_shifts 64 asked.start asked.end (omega arith) (omega arith)))
