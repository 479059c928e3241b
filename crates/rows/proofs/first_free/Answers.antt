-- `rows::first_free` meets its contract: each slot passed is used, or lies in a word that is marked (`Searching`), and each other word is asked once. Assumes
-- nothing.
use Rattle.std.proofs.Common.{ℕ, ◌+◌, ◌*◌, ◌/◌, ◌≤◌, sym, ap, subst, ◌∙◌, arith}
use Rattle.std.proofs.Math.Nat.{le_refl, le_of_lt, min-eq_left, min-eq_right}
use Rattle.slots.specs.Sets.{Slots}
use Rattle.slots.specs.Lowest.{free_from}
use Rattle.views.specs.Painting.{slots_in}
use Rattle.views.specs.Full.{filled, filled_slots, seen_from}
use Rattle.rows.proofs.Reasons.{Passed, passed_none, passed_all, far_from, open_later, open_most, seen_filled, seen_here, used_inside, word_of, next_near, found_free, next_after_marked, next_after_used}
use Rattle.rows.proofs.first_free.Goals as goal
use Rattle.rows.proofs.first_free.Goals.{then-place-lt64+else-not-marked, else-place-lt64}

pub returns-then-from-ge-MOST_SLOTS : goal.returns-then-from-ge-MOST_SLOTS
returns-then-from-ge-MOST_SLOTS c =
    let asked = c.args in
    far_from (seen_from asked.words.now asked.fulls.now asked.from) asked.from c.if-from-ge-MOST_SLOTS.true

-- the slot itself
pub returns-then-not-get : goal.returns-then-not-get
returns-then-not-get c =
    let asked = c.args in
    seen_here asked.words.now asked.fulls.now asked.from c.if-from-ge-MOST_SLOTS.false (sym c.get.ensures ∙ c.if-not-get.true)

pub loop-start-init : goal.loop-start-init
loop-start-init c =
    let asked = c.args in
    let seen = filled asked.words.now asked.fulls.now in
    let here = used_inside asked.words.now asked.from (sym c.get.ensures ∙ c.if-not-get.false) in
    (omega arith, subst (Passed seen asked.from) (sym (min-eq_left (le_of_lt here))) (passed_none seen asked.from c.if-from-ge-MOST_SLOTS.false))

pub bounds-words-i : goal.bounds-words-i
bounds-words-i c = word_of c.args.words.now c.loop-start.start (omega arith)

-- a place of the word that is not marked; the slot that was asked first is used, so what is seen is what the filled words hold
pub returns-then-not-marked : goal.returns-then-not-marked
returns-then-not-marked c =
    let asked = c.args in
    let words = asked.words.now in
    let fulls = asked.fulls.now in
    found_free words fulls asked.from c.loop-start.start c.first_free-place.result c.loop-start.invariant.1 (omega arith) c.first_free-place.ensures c.if-place-lt64.true
    (sym c.marked.ensures ∙ c.if-not-marked.true)
    ∙ ap (λ (S : Slots). free_from 14 S asked.from) (sym (seen_filled words fulls asked.from (sym c.get.ensures ∙ c.if-not-get.false)))

-- ---- where the ways meet: no slot of the word counts as free

pub next_open-start-requires : goal.next_open-start-requires
next_open-start-requires c = next_near c.args.words.now c.loop-start.start (omega arith)

pub overflow_mul-start : goal.overflow_mul-start
overflow_mul-start c = record { fits = omega (arith, open_most c.args.fulls.now (c.loop-start.start / 64 + 1) (next_near c.args.words.now c.loop-start.start (omega arith))) }

pub loop-start-smaller : goal.loop-start-smaller
loop-start-smaller c = omega (arith, open_later c.args.fulls.now (c.loop-start.start / 64 + 1) (next_near c.args.words.now c.loop-start.start (omega arith)))

pub loop-start-preserved : goal.loop-start-preserved
loop-start-preserved c =
    let asked = c.args in
    let words = asked.words.now in
    let fulls = asked.fulls.now in
    let start = c.loop-start.start in
    let next = c.next_open-start.result * 64 in
    let goes = ap (λ (o : ℕ). o * 64) c.next_open-start.ensures in
    let on = c.loop-start.invariant.1 in (
      omega (arith, open_most fulls (start / 64 + 1) (next_near words start (omega arith))),
      elim c.if-place-lt64.branch [
        | then-place-lt64+else-not-marked w ↦ next_after_marked words fulls asked.from start c.first_free-place.result on (omega arith) c.first_free-place.ensures next goes (sym w.marked.ensures ∙ w.if-not-marked.false)
        | else-place-lt64 w ↦ next_after_used words fulls asked.from start c.first_free-place.result on (omega arith) c.first_free-place.ensures next goes w.if-place-lt64.false
      ],
    )

pub returns : goal.returns
returns c =
    let asked = c.args in
    let words = asked.words.now in
    let fulls = asked.fulls.now in
    let seen = filled words fulls in
    let past : slots_in words ≤ c.loop-start.start = omega arith in
    c.slots-end.ensures
    ∙ passed_all seen asked.from (slots_in words) (subst (Passed seen asked.from) (min-eq_right past) c.loop-start.invariant.1) (rw (filled_slots words fulls) (le_refl (slots_in words)))
    ∙ ap (λ (S : Slots). free_from 14 S asked.from) (sym (seen_filled words fulls asked.from (sym c.get.ensures ∙ c.if-not-get.false)))
