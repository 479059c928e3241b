-- `bits::one_bit` meets its contract: each answer is the case of `one_bit` that the test leads to, and a one moved up to a place below 64 is not lost.
-- Assumes nothing.
use mathlib.Core.Path.{ap, ◌∙◌}
use Prim.Native.Nat.{◌^◌}
use native.Mathlib.Nat.{one-mul}
use native.Mathlib.Omega.{arith}
use lib.Pow.{shl_exact}
use borrow.Author.Tests.{lt-ltb, le-ltb}
use Rattle.answers.specs.Said.{value, judged}
use Rattle.bits.specs.Masks.{one_bit}
use Rattle.bits.proofs.one_bit.Goals as goal

pub returns-then-position-gt63 : goal.returns-then-position-gt63
unfolding one_bit judged
returns-then-position-gt63 c = rw (lt-ltb 63 c.args.position (omega arith))

pub returns : goal.returns
unfolding one_bit judged
returns c =
    let x = c.args.position in
    rw (le-ltb 63 x (omega arith)) (ap value (shl_exact 1 x 64 (omega arith) (omega arith) ∙ one-mul (2 ^ x)))
