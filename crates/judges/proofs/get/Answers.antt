-- `judges::get` meets its contract: 4 past the end, and else the slot. Assumes nothing.
use mathlib.Core.Path.{sym, ap, ◌∙◌}
use Rattle.answers.specs.Said.{value}
use Rattle.slots.proofs.Ways.{get_past, get_inside}
use Rattle.views.specs.Painting.{slot_in}
use Rattle.judges.specs.Sizes.{exponent_of}
use Rattle.judges.proofs.get.Goals as goal

pub returns-then-capacity-slot : goal.returns-then-capacity-slot
returns-then-capacity-slot c =
    let asked = c.args in
    sym (get_past (exponent_of asked.size) (slot_in asked.words.now) asked.slot (rw (sym c.capacity.ensures) c.if-capacity-slot.true))

pub returns : goal.returns
returns c =
    let asked = c.args in
    ap value c.get.ensures
    ∙ sym (get_inside (exponent_of asked.size) (slot_in asked.words.now) asked.slot (rw (sym c.capacity.ensures) c.if-capacity-slot.false))
