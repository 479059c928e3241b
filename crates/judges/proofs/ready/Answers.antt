-- `judges::ready` meets its contract: all free for a claim, all used for a free. Assumes nothing.
use mathlib.Core.Path.{sym, ap, ◌∙◌}
use mathlib.Core.Bool.{Bool}
use Rattle.views.specs.Painting.{slot_in}
use Rattle.judges.specs.Judged.{ready_for}
use Rattle.judges.proofs.ready.Goals as goal

pub returns-then-used : goal.returns-then-used
returns-then-used c =
    let asked = c.args in
    c.all_free.ensures ∙ sym (ap (λ (v : Bool). ready_for v (slot_in asked.words.now) asked.start asked.n) c.if-used.true)

pub returns : goal.returns
returns c =
    let asked = c.args in
    c.all_used.ensures ∙ sym (ap (λ (v : Bool). ready_for v (slot_in asked.words.now) asked.start asked.n) c.if-used.false)
