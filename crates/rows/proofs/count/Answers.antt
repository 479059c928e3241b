-- `rows::count` meets its contract: before each word, the total is the count of the slots before it. Assumes nothing.
use Rattle.std.proofs.Common.{ℕ, ◌+◌, ◌*◌, ◌/◌, ◌<◌, length-take, refl, ap, ap₂, ◌∙◌, arith}
use Rattle.std.proofs.lemmas.List.{get_or-take}
use Rattle.bits.specs.Range.{count, count_most}
use Rattle.bits.specs.Digits.{digit}
use Rattle.views.specs.Painting.{slots_in, slot_in, slots_most}
use Rattle.rows.proofs.Reasons.{word_most, count_next}
use Rattle.rows.proofs.count.Goals as goal

pub loop-word-init : goal.loop-word-init
unfolding count
loop-word-init c = refl

pub overflow_add-total : goal.overflow_add-total
overflow_add-total c =
    let words = c.args.words.now in
    let i = c.loop-word.word-index in
    record { fits = omega (arith, c.loop-word.invariant, word_most _ _ c.count-total.ensures, count_most (slot_in words) 0 (i * 64), length-take {A = ℕ}, c.slots.ensures, slots_most words) }

pub loop-word-preserved : goal.loop-word-preserved
loop-word-preserved c =
    let words = c.args.words.now in
    let i = c.loop-word.word-index in
    let near : i < c.slots.result / 64 = omega (arith, length-take {A = ℕ}) in
    ap₂ (λ (m n : ℕ). m + n) c.loop-word.invariant (c.count-total.ensures ∙ ap (λ (word : ℕ). count (digit word) 0 64) (get_or-take (c.slots.result / 64) words i 0 near))
    ∙ count_next words i (omega arith)

pub overflow_cast-result : goal.overflow_cast-result
overflow_cast-result c =
    let words = c.args.words.now in
    record { fits = omega (arith, c.loop-word.invariant, count_most (slot_in words) 0 (c.loop-word.word-index * 64), length-take {A = ℕ}, c.slots.ensures, slots_most words) }

pub returns : goal.returns
unfolding slots_in
returns c =
    let words = c.args.words.now in
    c.loop-word.invariant ∙ ap (count (slot_in words) 0) (omega (arith, length-take {A = ℕ}))
