-- `bits::low_mask` meets its contract: the whole table equals the rows of its rule, and the entry that is read is at most 64.
-- Assumes nothing.
use mathlib.Core.Path.{◌≡◌, refl, ap, ◌∙◌}
use Prim.Native.Nat.{ℕ, ◌-◌, ◌^◌, min}
use native.Mathlib.Omega.{arith}
use Rattle.bits.specs.Masks.{low_mask}
use Rattle.bits.proofs.Table.{entry}
use Rattle.bits.proofs.low_mask.Goals as goal

-- cut off once, or twice, at 64
cut_twice : (k : ℕ) → low_mask (min k 64) ≡ low_mask k
unfolding low_mask
cut_twice k = ap (λ (width : ℕ). 2 ^ width - 1) (omega arith)

pub offset_bounds-min : goal.offset_bounds-min
offset_bounds-min c = omega (arith, c.min.ensures)

pub returns : goal.returns
unfolding low_mask
returns c =
    let width = c.min in
    entry low_mask 65 _ refl width.result (omega (arith, width.ensures)) ∙ ap low_mask width.ensures ∙ cut_twice _
