-- `rows::fits` meets its contract: the run is free in the words, and before each word none that it reaches is marked. Assumes nothing.
use Rattle.rows.proofs.Reasons.{UnmarkedTo}
use Rattle.rows.proofs.fits.Given as goal

abbrev pub invariant-loop-reached : goal.invariant-loop-reached
invariant-loop-reached l = UnmarkedTo l.fulls l.start l.reached
