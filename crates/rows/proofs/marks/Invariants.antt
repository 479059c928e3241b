-- `rows::marks` meets its contract: before each word, the places of the words before it are set. Assumes nothing.
use Rattle.std.specs.Prelude.{◌≡◌}
use Rattle.rows.specs.Rows.{mark_test}
use Rattle.views.specs.Marks.{passes_at}
use Rattle.rows.proofs.Reasons.{first_places}
use Rattle.rows.proofs.marks.Given as goal

abbrev pub invariant-loop-i : goal.invariant-loop-i
invariant-loop-i l = l.marks ≡ first_places (passes_at (mark_test l.mark) l.part) 16 l.i
