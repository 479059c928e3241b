-- `rows::next_open` meets its contract: each word passed is marked, and each mark is asked once. Assumes nothing.
use mathlib.Core.Path.{ap, ◌∙◌}
use Prim.Native.Nat.{ℕ, ◌+◌, ◌*◌, ◌/◌, ◌%◌}
use native.Mathlib.Nat.{le_refl, le_trans}
use native.Mathlib.Omega.{arith}
use lib.Dec.{ltb}
use borrow.Author.Tests.{ltb-true, ltb-false}
use Rattle.bits.specs.Range.{either}
use Rattle.bits.specs.Digits.{digit}
use Rattle.slots.specs.Lowest.{free_from}
use Rattle.rows.proofs.Reasons.{unmarked_past, marked_before, open_from_lem, open_at, open_found, open_none}
use Rattle.rows.proofs.next_open.Goals as goal

pub loop-i-init : goal.loop-i-init
loop-i-init c = (le_refl c.args.from, c.requires, λ j l b. absurd (omega arith))

-- past the marks
pub returns-then-fulls-i : goal.returns-then-fulls-i
returns-then-fulls-i c =
    let asked = c.args in
    let inv = c.loop-i.invariant in
    let i = c.loop-i.i in
    open_found asked.fulls.now asked.from i inv.0 c.loop-i-test.true (unmarked_past asked.fulls.now i c.if-fulls-i.true) inv.2

pub returns-then-place-lt-PARTS : goal.returns-then-place-lt-PARTS
returns-then-place-lt-PARTS c =
    let asked = c.args in
    let fulls = asked.fulls.now in
    let inv = c.loop-i.invariant in
    let i = c.loop-i.i in
    let place = c.first_free-place.result in
    let told = c.first_free-place.ensures ∙ ap (λ (m : ℕ). free_from 6 (digit m) (i % 16)) c.from.ensures in
    open_found fulls asked.from (i / 16 * 16 + place) (le_trans inv.0 (open_from_lem fulls i place told)) (omega (arith, c.loop-i-test.true, c.if-place-lt-PARTS.true))
    (open_at fulls i place told c.if-place-lt-PARTS.true)
    (λ j l b. either (ltb j i) (λ t. inv.2 j l (ltb-true j i t)) (λ t. marked_before fulls i place told j (ltb-false j i t) (omega (arith, c.if-place-lt-PARTS.true)) b))

pub loop-i-smaller : goal.loop-i-smaller
loop-i-smaller c = omega (arith, c.loop-i-test.true)

pub loop-i-preserved : goal.loop-i-preserved
loop-i-preserved c =
    let fulls = c.args.fulls.now in
    let inv = c.loop-i.invariant in
    let i = c.loop-i.i in
    let place = c.first_free-place.result in
    let told = c.first_free-place.ensures ∙ ap (λ (m : ℕ). free_from 6 (digit m) (i % 16)) c.from.ensures in (
      omega (arith, inv.0),
      omega (arith, c.loop-i-test.true),
      λ j l b. either (ltb j i) (λ t. inv.2 j l (ltb-true j i t)) (λ t. marked_before fulls i place told j (ltb-false j i t) b (omega (arith, c.if-place-lt-PARTS.false))),
    )

pub returns : goal.returns
returns c =
    let inv = c.loop-i.invariant in
    open_none c.args.fulls.now c.args.from c.requires (λ j l b. inv.2 j l (omega (arith, inv.1, c.loop-i-test.false)))
