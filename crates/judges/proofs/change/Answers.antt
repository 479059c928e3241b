-- `judges::change` meets its contract: the refusals of the range, and then that of the slots. Assumes nothing.
use Rattle.std.proofs.Common.{sym, ap, ◌∙◌}
use Rattle.std.proofs.lemmas.Result.{err_from_is_err_and}
use Rattle.answers.specs.Said.{refused}
use Rattle.views.specs.Painting.{slot_in}
use Rattle.judges.specs.Sizes.{exponent_of}
use Rattle.judges.proofs.Changing.{range_refuses, slots_refuse, slots_pass}
use Rattle.judges.proofs.change.Goals as goal

pub returns-in_err-range : goal.returns-in_err-range
returns-in_err-range c =
    let asked = c.args in
    let said = err_from_is_err_and c.from_residual.result c.from_residual.ensures.1 in
    rw (said.1, said.2)
    (sym (range_refuses (exponent_of asked.size) (slot_in asked.words.now) asked.start asked.n asked.used c.range.result c.range.ensures _ c.in_err-range.was))

pub returns-then-not-ready : goal.returns-then-not-ready
returns-then-not-ready c =
    let asked = c.args in
    ap refused c.unready.ensures
    ∙ sym (slots_refuse (exponent_of asked.size) (slot_in asked.words.now) asked.start asked.n asked.used c.range.result c.range.ensures _ c.in_ok-range.was _ c.ready.ensures c.if-not-ready.true)

pub returns : goal.returns
returns c =
    let asked = c.args in
    sym (slots_pass (exponent_of asked.size) (slot_in asked.words.now) asked.start asked.n asked.used c.range.result c.range.ensures _ c.in_ok-range.was _ c.ready.ensures c.if-not-ready.false)
