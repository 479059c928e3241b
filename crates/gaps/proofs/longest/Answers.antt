-- `gaps::longest` meets its contract: from the first run to the next, with the longest so far (`Comparing`). Assumes nothing.
use Rattle.std.proofs.Common.{false, ap, arith}
use Rattle.answers.specs.declared.Run.{Run}
use Rattle.slots.specs.Runs.{end_of, next_later, next_ends}
use Rattle.slots.specs.Gaps.{having}
use Rattle.views.specs.Painting.{slot_in}
use Rattle.gaps.proofs.Turns.{comparing_first, comparing_empty, comparing_on, comparing_none}
use Rattle.gaps.proofs.longest.Goals as goal

pub returns-in_err-best : goal.returns-in_err-best
returns-in_err-best c = rw c.from_residual.ensures (comparing_empty (slot_in c.args.words.now) c.in_err-best.ensures)

pub overflow_add-from : goal.overflow_add-from
overflow_add-from c =
    let ends = next_ends (having false (slot_in c.args.words.now)) 1024 0 (omega arith) in
    record { fits = omega (arith, ap end_of c.in_ok-best.ensures.0, ends) }

pub loop-next-init : goal.loop-next-init
loop-next-init c =
    let is = c.in_ok-best.ensures.0 in
    rw is (comparing_first (slot_in c.args.words.now) (rw is at c.in_ok-best.ensures.1))

pub overflow_add-from-in-Some : goal.overflow_add-from-in-Some
overflow_add-from-in-Some c =
    let ends = next_ends (having false (slot_in c.args.words.now)) 1024 c.loop-next.from c.loop-next.invariant.inside in
    record { fits = omega (arith, ap end_of c.in-Some.ensures.0, ends) }

pub loop-next-smaller : goal.loop-next-smaller
loop-next-smaller c =
    let later = next_later (having false (slot_in c.args.words.now)) 1024 c.loop-next.from c.loop-next.invariant.inside in
    let ends = next_ends (having false (slot_in c.args.words.now)) 1024 c.loop-next.from c.loop-next.invariant.inside in
    omega (arith, ap end_of c.in-Some.ensures.0, ap (λ (r : Run). r.start) c.in-Some.ensures.0, c.in-Some.ensures.1, later, ends)

pub loop-next-preserved : goal.loop-next-preserved
loop-next-preserved c =
    let is = c.in-Some.ensures.0 in
    rw (c.better-best.ensures, is)
    (comparing_on (slot_in c.args.words.now) c.loop-next.best c.loop-next.from c.loop-next.invariant (rw is at c.in-Some.ensures.1))

pub returns : goal.returns
returns c = (comparing_none (slot_in c.args.words.now) c.loop-next.best c.loop-next.from c.loop-next.invariant c.in_default.ensures, c.loop-next.invariant.some)
