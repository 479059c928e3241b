-- `rows::paint` meets its contract: before each word, those before it are painted. Assumes nothing.
use Rattle.std.specs.Prelude.{◌≡◌}
use Rattle.views.specs.Painting.{slots_in, end_in, painted_first}
use Rattle.rows.proofs.paint.Given as goal

abbrev pub invariant-loop-i : goal.invariant-loop-i
invariant-loop-i l = l.words ≡ painted_first l.initial.words l.start (end_in (slots_in l.initial.words) l.start l.n) l.used l.i
