-- `spans::overlap` meets its contract: of two intervals in order, each starts before the other ends exactly when the later start is not past the
-- earlier end. Assumes nothing.
use mathlib.Core.Path.{◌≡◌, ap}
use mathlib.Core.Bool.{◌&&◌}
use Prim.Native.Nat.{ℕ, ◌≤◌}
use native.Mathlib.Omega.{arith}
use lib.Dec.{leb, leb→le, le→leb}
use borrow.Author.Tests.{le-ltb, le-leb, lt-leb}
use Rattle.answers.specs.Said.{value, judged}
use Rattle.answers.specs.Faults.{finds_le, finds_both}
use Rattle.bits.specs.Range.{same_test}
use Rattle.spans.specs.Overlap.{meet, overlaps}
use Rattle.spans.proofs.overlap.Goals as goal

in_order : (a b c d : ℕ) → a ≤ b → c ≤ d → value (leb a d && leb c b) ≡ overlaps a b c d
unfolding overlaps meet judged
in_order a b c d ab cd =
    let both = finds_both (leb a d) (leb c b) (finds_le a d) (finds_le c b) in
    rw (le-ltb b a ab, le-ltb d c cd)
    (ap value (same_test _ _ (λ t. omega (arith, both.0 t, le→leb)) (λ t. both.1 (omega (arith, leb→le)))))

pub returns-then-x_first-y_last : goal.returns-then-x_first-y_last
returns-then-x_first-y_last c =
    let asked = c.args in
    rw (← in_order asked.x_first asked.x_last asked.y_first asked.y_last (omega arith) (omega arith), le-leb asked.x_first asked.y_last (omega arith))

pub returns-else-x_first-y_last : goal.returns-else-x_first-y_last
returns-else-x_first-y_last c =
    let asked = c.args in
    rw (← in_order asked.x_first asked.x_last asked.y_first asked.y_last (omega arith) (omega arith), lt-leb asked.x_first asked.y_last (omega arith))
