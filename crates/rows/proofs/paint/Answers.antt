-- `rows::paint` meets its contract: before each word, those before it are painted. Assumes nothing.
use Rattle.std.proofs.Common.{◌≡◌, ◌/◌, sym, ◌∙◌, arith}
use Rattle.views.specs.Painting.{slots_in, end_in, painted_words, paint_none, slots_most, word_there}
use Rattle.rows.proofs.Reasons.{before_end, paint_step, paint_past, ends_within}
use Rattle.rows.proofs.paint.Goals as goal

pub loop-i-init : goal.loop-i-init
loop-i-init c =
    let asked = c.args in
    sym (paint_none asked.words.now asked.start (end_in (slots_in asked.words.now) asked.start asked.n) asked.used (asked.start / 64) (omega arith))

pub bounds-words-i : goal.bounds-words-i
bounds-words-i c = omega (arith, (word_there c.args.words.now c.loop-i.i (omega (arith, (before_end _ _ _ _ c.end_of-end.ensures).0))).0)

pub part_mask-requires : goal.part_mask-requires
part_mask-requires c = (omega arith, omega (arith, (before_end _ _ _ _ c.end_of-end.ensures).0, slots_most c.args.words.now))

pub bounds-words-i-in-loop-i : goal.bounds-words-i-in-loop-i
bounds-words-i-in-loop-i c = omega (arith, (word_there c.args.words.now c.loop-i.i (omega (arith, (before_end _ _ _ _ c.end_of-end.ensures).0))).0)

pub loop-i-preserved : goal.loop-i-preserved
loop-i-preserved c =
    let asked = c.args in
    let words = asked.words.now in
    let e = end_in (slots_in words) asked.start asked.n in
    let ends : c.end_of-end.result ≡ e = cc in
    paint_step words asked.start e asked.used c.loop-i.words c.loop-i.i c.end_of-end.result c.part_mask.result c.paint.result
    (omega arith) (omega arith) c.loop-i.invariant ends c.part_mask.ensures c.paint.ensures

pub returns : goal.returns
unfolding painted_words
returns c =
    let asked = c.args in
    let words = asked.words.now in
    let e = end_in (slots_in words) asked.start asked.n in
    let ends : c.end_of-end.result ≡ e = cc in
    c.loop-i.invariant ∙ paint_past words asked.start e asked.used c.loop-i.i (omega arith) (ends_within words asked.start asked.n)
