-- `judges::next_try` meets its contract: the multiple that follows a place, by shifts. Assumes nothing.
use Prim.Native.Nat.{◌-◌, ◌^◌}
use native.Mathlib.Nat.{div-le_self}
use native.Mathlib.Omega.{arith}
use borrow.Author.Tests.{eq-eqb, ne_eqb}
use Rattle.slots.specs.Tries.{next_try, next_by_shifts, small_power}
use Rattle.judges.proofs.next_try.Goals as goal

pub overflow_add-result : goal.overflow_add-result
overflow_add-result c = omega (arith, div-le_self c.args.start (2 ^ c.args.a))

pub returns-then-free-start : goal.returns-then-free-start
unfolding next_try
returns-then-free-start c =
    let asked = c.args in
    rw (eq-eqb asked.free asked.start c.if-free-start.true) (next_by_shifts 64 asked.a asked.start (omega (arith, small_power 14 asked.a (omega arith))))

pub overflow_add-result-2 : goal.overflow_add-result-2
overflow_add-result-2 c = omega (arith, div-le_self (c.args.free - 1) (2 ^ c.args.a))

pub returns : goal.returns
unfolding next_try
returns c =
    let asked = c.args in
    rw (ne_eqb asked.free asked.start c.if-free-start.false) (next_by_shifts 64 asked.a (asked.free - 1) (omega (arith, small_power 14 asked.a (omega arith))))
