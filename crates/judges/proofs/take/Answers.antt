-- `judges::take` meets its contract: the refusals of its numbers, and else what the search says. Assumes nothing.
use mathlib.Core.Path.{sym, ap, ◌∙◌}
use native.Mathlib.Omega.{arith}
use Rattle.answers.specs.Said.{on_value}
use Rattle.answers.specs.declared.Reply.TheVariants.{At as at}
use Rattle.slots.proofs.Ways.{take_empty, take_too_aligned, take_too_many}
use Rattle.slots.specs.Tries.{take_searched}
use Rattle.views.specs.Painting.{slot_in}
use Rattle.views.specs.Full.{filled}
use Rattle.judges.specs.Sizes.{exponent_of}
use Rattle.judges.proofs.take.Goals as goal

pub returns-then-n-eq0 : goal.returns-then-n-eq0
unfolding on_value
returns-then-n-eq0 c =
    let asked = c.args in
    sym (take_empty (exponent_of asked.size) (slot_in (filled asked.words.now asked.fulls.now)) asked.n asked.a c.if-n-eq0.true)

pub returns-then-exponent-a : goal.returns-then-exponent-a
unfolding on_value
returns-then-exponent-a c =
    let asked = c.args in
    sym (take_too_aligned (exponent_of asked.size) (slot_in (filled asked.words.now asked.fulls.now)) asked.n asked.a (omega arith) (rw (sym c.exponent.ensures) (omega arith)))

pub returns-then-capacity-n : goal.returns-then-capacity-n
unfolding on_value
returns-then-capacity-n c =
    let asked = c.args in
    sym (take_too_many (exponent_of asked.size) (slot_in (filled asked.words.now asked.fulls.now)) asked.n asked.a (omega arith) (rw (sym c.exponent.ensures) (omega arith)) (rw (sym c.capacity.ensures) (omega arith)))

pub lowest_start-requires : goal.lowest_start-requires
lowest_start-requires c =
    (omega arith, rw (sym c.capacity.ensures) (omega arith), rw (sym c.exponent.ensures) (omega arith))

pub returns : goal.returns
returns c =
    let asked = c.args in
    ap (on_value at) c.lowest_start.ensures
    ∙ take_searched (exponent_of asked.size) (slot_in (filled asked.words.now asked.fulls.now)) asked.n asked.a (omega arith) (rw (sym c.exponent.ensures) (omega arith)) (rw (sym c.capacity.ensures) (omega arith))
