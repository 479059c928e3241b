-- `judges::next_free_in` meets its contract: the first free slot of the row, where it lies within the size. Assumes nothing.
use mathlib.Core.Path.{sym, ap, ◌∙◌}
use native.Mathlib.Omega.{arith}
use Rattle.answers.specs.Said.{value}
use Rattle.views.specs.Full.{seen_from}
use Rattle.judges.specs.Sizes.{exponent_of, capacity_most}
use Rattle.judges.proofs.Room.{room_none, room_found}
use Rattle.judges.proofs.next_free_in.Goals as goal

pub returns-then-capacity-free : goal.returns-then-capacity-free
returns-then-capacity-free c =
    let asked = c.args in
    room_none (exponent_of asked.size) (seen_from asked.words.now asked.fulls.now asked.start) asked.start (capacity_most asked.size)
    (rw (sym c.first_free-free.ensures, sym c.capacity.ensures) c.if-capacity-free.true)

pub returns : goal.returns
returns c =
    let asked = c.args in
    ap value c.first_free-free.ensures
    ∙ room_found (exponent_of asked.size) (seen_from asked.words.now asked.fulls.now asked.start) asked.start (capacity_most asked.size)
    (rw (sym c.first_free-free.ensures, sym c.capacity.ensures) (omega arith))
