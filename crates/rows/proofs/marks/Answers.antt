-- `rows::marks` meets its contract: before each word, the places of the words before it are set. Assumes nothing.
use Rattle.std.proofs.Common.{ℕ, ◌*◌, ◌^◌, ◌<◌, length-take, ap, ap₂, ◌∙◌, arith, bit_or}
use Rattle.std.proofs.lemmas.List.{get_or-take}
use Rattle.bits.specs.Range.{bit}
use Rattle.rows.specs.Rows.{mark_test}
use Rattle.views.specs.Marks.{passes_at, marks_of, part_words}
use Rattle.rows.proofs.Reasons.{no_places, next_place, part_places, part_most, first_places, zero_fails}
use Rattle.rows.proofs.marks.Goals as goal

pub loop-i-init : goal.loop-i-init
loop-i-init c = no_places (passes_at (mark_test c.args.mark) c.args.part.now) 16

pub mark_bit-marks-requires : goal.mark_bit-marks-requires
mark_bit-marks-requires c = omega (arith, length-take {A = ℕ}, part_most c.args.part.now, c.words_of.ensures)

pub loop-i-preserved : goal.loop-i-preserved
loop-i-preserved c =
    let part = c.args.part.now in
    let test = mark_test c.args.mark in
    let i = c.loop-i.i in
    let near : i < c.words_of.result = omega (arith, length-take {A = ℕ}) in
    ap₂ bit_or c.loop-i.invariant (c.mark_bit-marks.ensures ∙ ap (λ (word : ℕ). bit (test word) * 2 ^ i) (get_or-take c.words_of.result part i 0 near))
    ∙ next_place (passes_at test part) 16 i (omega (arith, part_most part, c.words_of.ensures))

pub returns : goal.returns
unfolding marks_of part_words
returns c =
    let part = c.args.part.now in
    let test = mark_test c.args.mark in
    c.loop-i.invariant ∙ ap (first_places (passes_at test part) 16) (omega (arith, length-take {A = ℕ}, c.words_of.ensures))
    ∙ part_places test (zero_fails c.args.mark) part
