-- `third::Third::taken` meets its contract: what was judged, carried out. Assumes nothing.
use Rattle.std.specs.Prelude.{true}
use Rattle.std.proofs.lemmas.Result.{err_from_is_err_and}
use Rattle.answers.specs.Said.{on_value}
use Rattle.answers.specs.declared.Reply.TheVariants.{At}
use Rattle.slots.specs.Calls.{take_call}
use Rattle.slots.proofs.Outcomes.{take_paints}
use Rattle.third.specs.Layout.{third_view, slot_of}
use Rattle.third.proofs.Outcomes.{refuses, carries}
use Rattle.third.proofs.Third.taken.Goals as goal

pub returns-in_err-start : goal.returns-in_err-start
unfolding on_value
returns-in_err-start c =
    let asked = c.args in
    let said = err_from_is_err_and c.from_residual.result c.from_residual.ensures.1 in
    rw (said.1, said.2) (refuses asked.self.now (take_call 14 (slot_of asked.self.now) asked.n asked.a) _ c.in_err-start.ensures)

pub returns : goal.returns
unfolding on_value
returns c =
    let asked = c.args in
    let t = asked.self.now in
    let start = c.in_ok-start.start in
    let told = c.in_ok-start.ensures in
    carries t c.requires (take_call 14 (slot_of t) asked.n asked.a) start asked.n true (take_paints third_view t asked.n asked.a start told) (At start) told _ c.carry_out.ensures
