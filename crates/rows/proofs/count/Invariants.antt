-- `rows::count` meets its contract: before each word, the total is the count of the slots before it. Assumes nothing.
use Rattle.std.specs.Prelude.{◌≡◌, ◌*◌}
use Rattle.bits.specs.Range.{count}
use Rattle.views.specs.Painting.{slot_in}
use Rattle.rows.proofs.count.Given as goal

abbrev pub invariant-loop-word : goal.invariant-loop-word
invariant-loop-word l = l.total ≡ count (slot_in l.words) 0 (l.word-index * 64)
