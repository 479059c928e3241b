-- `judges::next_free` meets its contract: 4 past the end, and else what the search says. Assumes nothing.
use mathlib.Core.Path.{sym, ◌∙◌}
use Rattle.slots.proofs.Ways.{next_free_past}
use Rattle.slots.specs.Tries.{next_says}
use Rattle.views.specs.Full.{seen_from}
use Rattle.judges.specs.Sizes.{exponent_of}
use Rattle.judges.proofs.next_free.Goals as goal

pub returns-then-capacity-start : goal.returns-then-capacity-start
returns-then-capacity-start c =
    let asked = c.args in
    sym (next_free_past (exponent_of asked.size) (seen_from asked.words.now asked.fulls.now asked.start) asked.start (rw (sym c.capacity.ensures) c.if-capacity-start.true))

pub returns : goal.returns
returns c =
    let asked = c.args in
    c.next_free_in.ensures
    ∙ next_says (exponent_of asked.size) (seen_from asked.words.now asked.fulls.now asked.start) asked.start (rw (sym c.capacity.ensures) c.if-capacity-start.false)
