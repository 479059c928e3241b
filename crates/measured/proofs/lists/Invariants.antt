-- `measured::lists` meets its contract: after so many turns, so many listings. Assumes nothing.
use mathlib.Core.Path.{◌≡◌}
use mathlib.Core.List.{List}
use Prim.Native.Nat.{ℕ}
use lib.ListN.{length}
use Rattle.tree.specs.Layout.{holding}
use Rattle.measured.specs.Gaps.{listing, repeated}
use Rattle.measured.proofs.lists.Given as goal

abbrev pub invariant-loop : goal.invariant-loop
invariant-loop l =
    ◌≡◌ {A = ℕ × List ℕ} (l.count, l.list) (repeated (listing l.used (holding l.words)) l.counter (0, l.initial.list)) × (length l.list ≡ length l.initial.list)
