-- `tree::Tree::freed` meets its contract: what was judged, carried out. Assumes nothing.
use Rattle.std.specs.Prelude.{false}
use Rattle.std.proofs.lemmas.Result.{err_from_is_err_and}
use Rattle.slots.specs.Calls.{free_call}
use Rattle.slots.specs.Promises.{free_after}
use Rattle.slots.proofs.Promises.{free_passed}
use Rattle.tree.specs.Layout.{slot_of}
use Rattle.tree.proofs.Outcomes.{refuses, carries}
use Rattle.tree.proofs.Tree.freed.Goals as goal

pub returns-in_err-done : goal.returns-in_err-done
returns-in_err-done c =
    let said = err_from_is_err_and c.from_residual.result c.from_residual.ensures.1 in
    rw (said.1, said.2) (refuses c.args.self.now (free_call 10 (slot_of c.args.self.now) c.args.start c.args.n) _ c.in_err-done.ensures)

pub returns : goal.returns
returns c =
    let asked = c.args in
    let t = asked.self.now in
    carries t c.requires (free_call 10 (slot_of t) asked.start asked.n) asked.start asked.n false (free_after 10 (slot_of t) asked.start asked.n) _ c.in_ok-done.ensures _
    (λ reply said. let passed = free_passed 10 (slot_of t) asked.start asked.n reply said in (passed.0.1, passed.1)) c.carry_out.ensures
