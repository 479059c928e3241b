-- `rows::all_used` meets its contract: a run that reaches past the words is not used there. Assumes nothing.
use Rattle.std.proofs.Common.{true, ap, ◌∙◌, arith, pos_of_ne-zero}
use Rattle.slots.specs.Sets.{all_used}
use Rattle.views.specs.Painting.{slot_in, slot_past, end_in}
use Rattle.rows.proofs.Reasons.{has_all, run_has_not}
use Rattle.rows.proofs.all_used.Goals as goal

pub returns-then-n-eq0 : goal.returns-then-n-eq0
returns-then-n-eq0 c =
    let asked = c.args in
    has_all true asked.words.now asked.start asked.n 0 (λ p named b. absurd (omega arith)) (λ p named b. absurd (omega (arith, c.if-n-eq0.true, named.0, named.1)))

pub returns-then-held-start : goal.returns-then-held-start
returns-then-held-start c =
    let asked = c.args in
    run_has_not true (slot_in asked.words.now) asked.start asked.n asked.start (omega arith, omega (arith, pos_of_ne-zero c.if-n-eq0.false))
    (slot_past asked.words.now asked.start (omega arith))

pub returns-then-held-start-2 : goal.returns-then-held-start-2
returns-then-held-start-2 c =
    let asked = c.args in
    let held = c.slots-held.result in
    run_has_not true (slot_in asked.words.now) asked.start asked.n held (omega arith, omega arith) (slot_past asked.words.now held (omega arith))

pub returns : goal.returns
unfolding end_in
returns c =
    let asked = c.args in
    c.all_are.ensures ∙ ap (all_used (slot_in asked.words.now) asked.start) (omega arith)
