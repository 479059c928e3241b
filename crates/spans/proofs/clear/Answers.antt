-- `spans::clear` meets its contract: the part that comes back is all zeros. Assumes nothing.
use Rattle.std.proofs.Common.{◌≡◌, ◌∙◌, List, ℕ, ◌++◌, ◌-◌, ◌≤◌, length, take, replicate, ap, ap₂, le-ltb}
use borrow.Rule.Slice.PartMut.{mid_of, put_mid, mid_len, Post-is}
use Rattle.answers.specs.Said.{value, judged, leaving}
use Rattle.spans.specs.Clearing.{zeroed, cleared}
use Rattle.spans.proofs.clear.Goals as goal

-- zeros put in the place of the part make the zeroed buffer
put_zeros : (bytes zeros : List ℕ) (s e : ℕ) → s ≤ e → e ≤ length bytes → zeros ≡ replicate (length (mid_of s (e - s) bytes)) 0
    → put_mid s (e - s) bytes zeros ≡ zeroed bytes s e
unfolding zeroed
put_zeros bytes zeros s e order fits all =
    ap₂ (λ (middle rest : List ℕ). take s bytes ++ (middle ++ rest)) (all ∙ ap (λ (n : ℕ). replicate n 0) (mid_len s e bytes fits)) (Post-is s e bytes order)

pub returns : goal.returns
unfolding cleared judged leaving
returns c =
    let order = c.if-end-start.false in
    let fits = c.if-bytes-end.false in
    rw (le-ltb _ _ fits, le-ltb _ _ order) (ap (λ (bytes : List ℕ). (value tt, bytes)) (put_zeros _ _ _ _ order fits (c.fill.ensures.after (λ y same. same))))
