-- `measured::gaps_longest` meets its contract: after so many turns, so many questions. Assumes nothing.
use mathlib.Core.Path.{◌≡◌}
use Rattle.tree.specs.Layout.{holding}
use Rattle.measured.specs.Gaps.{longest_in, repeated}
use Rattle.measured.proofs.gaps_longest.Given as goal

abbrev pub invariant-loop : goal.invariant-loop
invariant-loop l = l.found ≡ repeated (λ _. longest_in (holding l.words)) l.counter l.initial.found
