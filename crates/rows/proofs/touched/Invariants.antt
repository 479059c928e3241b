-- `rows::touched` meets its contract: before each word, the bits of the reached words before it are up to date. Assumes nothing.
use Rattle.std.specs.Prelude.{◌≡◌, ◌*◌}
use Rattle.views.specs.Painting.{end_in}
use Rattle.rows.specs.Rows.{mark_test}
use Rattle.views.specs.Marks.{part_words}
use Rattle.rows.proofs.Reasons.{touched_first}
use Rattle.rows.proofs.touched.Given as goal

abbrev pub invariant-loop-i : goal.invariant-loop-i
invariant-loop-i l = l.updated ≡ touched_first (mark_test l.mark) l.part l.marks l.start (end_in (part_words l.part * 64) l.start l.n) l.i
