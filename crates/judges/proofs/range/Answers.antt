-- `judges::range` meets its contract: each way out is the law of a range at the capacity of the size. Assumes nothing.
use mathlib.Core.Path.{sym}
use native.Mathlib.Omega.{arith}
use Rattle.answers.specs.declared.Reply.TheVariants.{Done as ok}
use Rattle.slots.proofs.Ways.{range_empty, range_starts_past, range_ends_past, range_inside}
use Rattle.judges.specs.Sizes.{exponent_of}
use Rattle.judges.proofs.range.Goals as goal

pub returns-then-n-eq0 : goal.returns-then-n-eq0
returns-then-n-eq0 c =
    let asked = c.args in
    sym (range_empty (exponent_of asked.size) asked.start asked.n ok c.if-n-eq0.true)

pub returns-then-slots-start : goal.returns-then-slots-start
returns-then-slots-start c =
    let asked = c.args in
    sym (range_starts_past (exponent_of asked.size) asked.start asked.n ok (omega arith) (rw (sym c.capacity-slots.ensures) (omega arith)))

pub returns-then-slots-start-2 : goal.returns-then-slots-start-2
returns-then-slots-start-2 c =
    let asked = c.args in
    sym (range_ends_past (exponent_of asked.size) asked.start asked.n ok (omega arith) (rw (sym c.capacity-slots.ensures) (omega arith)) (rw (sym c.capacity-slots.ensures) (omega arith)))

pub returns : goal.returns
returns c =
    let asked = c.args in
    sym (range_inside (exponent_of asked.size) asked.start asked.n ok (omega arith) (rw (sym c.capacity-slots.ensures) (omega arith)) (rw (sym c.capacity-slots.ensures) (omega arith)))
