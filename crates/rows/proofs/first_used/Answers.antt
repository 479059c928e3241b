-- `rows::first_used` meets its contract: each slot passed is free (`PassedFree`), and each word is asked once. Assumes nothing.
use Rattle.std.proofs.Common.{◌≡◌, ◌-◌, ◌*◌, ◌/◌, sym, ap, subst, ◌∙◌, arith, max}
use Rattle.std.proofs.Math.Nat.{le_refl, le_of_lt}
use Rattle.bits.specs.Range.{least}
use Rattle.views.specs.Painting.{slot_in, slot_past, word_there}
use Rattle.views.specs.Full.{marked, filled, filled_slots, filled_marked}
use Rattle.rows.proofs.Reasons.{PassedFree, used_found, used_late, used_next, used_answer}
use Rattle.rows.proofs.first_used.Goals as goal

-- there is nothing to search
pub returns-then-end-from : goal.returns-then-end-from
unfolding least
returns-then-end-from c =
    let asked = c.args in
    let none : asked.end - asked.from ≡ 0 = omega arith in
    sym (ap (least (slot_in (filled asked.words.now asked.fulls.now)) asked.from) none)

-- the word is marked
pub returns-then-marked : goal.returns-then-marked
returns-then-marked c =
    let asked = c.args in
    let words = asked.words.now in
    let fulls = asked.fulls.now in
    let start = c.max-start.result in
    let whole = word_there words c.loop-i.i (omega arith) in
    let at : start / 64 ≡ c.loop-i.i = omega arith in
    used_found (filled words fulls) asked.from asked.end start (subst (PassedFree (filled words fulls) asked.from asked.end) (sym c.max-start.ensures) c.loop-i.invariant) start (le_refl start) (omega arith)
    (filled_marked words fulls start (omega (arith, whole.2)) (ap (marked fulls) at ∙ sym c.marked.ensures ∙ c.if-marked.true)) (λ p l b. absurd (omega arith))

pub bounds-words-i : goal.bounds-words-i
bounds-words-i c = (word_there c.args.words.now c.loop-i.i (omega arith)).0

-- once the word is asked
pub returns-then-place-lt64 : goal.returns-then-place-lt64
returns-then-place-lt64 c =
    let asked = c.args in
    let words = asked.words.now in
    let fulls = asked.fulls.now in
    let start = c.max-start.result in
    let i = c.loop-i.i in
    let whole = word_there words i (omega arith) in
    let at : i ≡ start / 64 = omega arith in
    c.min-then-place-lt64.ensures
    ∙ used_answer words fulls asked.from asked.end start i c.first_free-place.result
    (subst (PassedFree (filled words fulls) asked.from asked.end) (sym c.max-start.ensures) c.loop-i.invariant)
    (omega (arith, whole.2)) at (c.type_inv.words i).fits (sym c.marked.ensures ∙ c.if-marked.false) c.first_free-place.ensures c.if-place-lt64.true c.if-end-from.false

pub loop-i-preserved : goal.loop-i-preserved
loop-i-preserved c =
    let asked = c.args in
    let words = asked.words.now in
    let fulls = asked.fulls.now in
    let start = c.max-start.result in
    let i = c.loop-i.i in
    let whole = word_there words i (omega arith) in
    let at : i ≡ start / 64 = omega arith in
    subst (PassedFree (filled words fulls) asked.from asked.end) (omega arith)
    (used_next words fulls asked.from asked.end start i c.first_free-place.result
    (subst (PassedFree (filled words fulls) asked.from asked.end) (sym c.max-start.ensures) c.loop-i.invariant)
    (omega (arith, whole.2)) at (c.type_inv.words i).fits (sym c.marked.ensures ∙ c.if-marked.false) c.first_free-place.ensures c.if-place-lt64.false)

-- the rest of the range lies past the words
pub returns : goal.returns
returns c =
    let asked = c.args in
    let words = asked.words.now in
    let seen = filled words asked.fulls.now in
    let start = max asked.from (c.loop-i.i * 64) in
    used_late seen asked.from asked.end start c.loop-i.invariant asked.end (le_of_lt c.if-end-from.false) (le_refl asked.end)
    (λ p l b. slot_past seen p (rw (filled_slots words asked.fulls.now) (omega arith)))
