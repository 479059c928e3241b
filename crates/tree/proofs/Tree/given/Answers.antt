-- `tree::Tree::given` meets its contract: what was judged, carried out. Assumes nothing.
use Rattle.std.proofs.lemmas.Result.{err_from_is_err_and}
use Rattle.slots.specs.Calls.{set_call}
use Rattle.slots.specs.Promises.{set_after}
use Rattle.slots.specs.View.{answered}
use Rattle.tree.specs.Layout.{slot_of}
use Rattle.tree.proofs.Outcomes.{refuses, carries_set}
use Rattle.tree.proofs.Tree.given.Goals as goal

pub returns-in_err-done : goal.returns-in_err-done
unfolding answered set_call
returns-in_err-done c =
    let asked = c.args in
    let said = err_from_is_err_and c.from_residual.result c.from_residual.ensures.1 in
    rw (said.1, said.2) (refuses asked.self.now (set_call 10 (slot_of asked.self.now) asked.start asked.n asked.used) _ c.in_err-done.ensures)

pub returns : goal.returns
unfolding answered set_call
returns c =
    let asked = c.args in
    let t = asked.self.now in
    carries_set t c.requires (set_call 10 (slot_of t) asked.start asked.n asked.used) asked.start asked.n asked.used (set_after 10 (slot_of t) asked.start asked.n asked.used) _ c.in_ok-done.ensures _ c.set_out.ensures
