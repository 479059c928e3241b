-- `rows::all_are` meets its contract: before each word, the run's slots in the words before it have the value. Assumes nothing.
use Rattle.std.specs.Prelude.{◌-◌}
use Rattle.views.specs.Painting.{slots_in, end_in}
use Rattle.rows.proofs.Reasons.{HasTo}
use Rattle.rows.proofs.all_are.Given as goal

abbrev pub invariant-loop-i : goal.invariant-loop-i
invariant-loop-i l = HasTo l.used l.words l.start (end_in (slots_in l.words) l.start l.n - l.start) l.i
