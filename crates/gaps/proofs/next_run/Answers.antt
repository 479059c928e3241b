-- `gaps::next_run` meets its contract: from the next slot that has the value to the next that has the other. Assumes nothing.
use Rattle.std.proofs.Common.{sym, arith}
use Rattle.views.specs.Painting.{slot_in}
use Rattle.gaps.proofs.Turns.{begins_near, run_between}
use Rattle.gaps.proofs.next_run.Goals as goal

pub next_of-end-requires : goal.next_of-end-requires
next_of-end-requires c = begins_near (slot_in c.args.words.now) c.args.used c.args.from c.requires c.next_of-start.result c.next_of-start.ensures

pub returns-then-start-end : goal.returns-then-start-end
returns-then-start-end c =
    let same = run_between (slot_in c.args.words.now) c.args.used c.args.from c.next_of-start.result c.next_of-start.ensures c.next_of-end.result c.next_of-end.ensures in
    rw (sym same.1) (omega (arith, c.if-start-end.true))

pub overflow_sub-result : goal.overflow_sub-result
overflow_sub-result c =
    (run_between (slot_in c.args.words.now) c.args.used c.args.from c.next_of-start.result c.next_of-start.ensures c.next_of-end.result c.next_of-end.ensures).0

pub returns : goal.returns
returns c =
    let same = run_between (slot_in c.args.words.now) c.args.used c.args.from c.next_of-start.result c.next_of-start.ensures c.next_of-end.result c.next_of-end.ensures in
    (same.1, omega (arith, same.0, c.if-start-end.false))
