-- `third::Third::claimed` meets its contract: what was judged, carried out. Assumes nothing.
use Rattle.std.specs.Prelude.{true}
use Rattle.std.proofs.lemmas.Result.{err_from_is_err_and}
use Rattle.slots.specs.Calls.{claim_call}
use Rattle.slots.specs.Promises.{claim_after}
use Rattle.third.specs.Layout.{slot_of}
use Rattle.third.proofs.Outcomes.{refuses, carries}
use Rattle.third.proofs.Third.claimed.Goals as goal

pub returns-in_err-done : goal.returns-in_err-done
returns-in_err-done c =
    let said = err_from_is_err_and c.from_residual.result c.from_residual.ensures.1 in
    rw (said.1, said.2) (refuses c.args.self.now (claim_call 14 (slot_of c.args.self.now) c.args.start c.args.n) _ c.in_err-done.ensures)

pub returns : goal.returns
returns c =
    let asked = c.args in
    let t = asked.self.now in
    carries t c.requires (claim_call 14 (slot_of t) asked.start asked.n) asked.start asked.n true (claim_after 14 (slot_of t) asked.start asked.n) _ c.in_ok-done.ensures _ c.carry_out.ensures
