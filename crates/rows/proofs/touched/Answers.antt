-- `rows::touched` meets its contract: before each word, the bits of the reached words before it are up to date. Assumes nothing.
use Rattle.std.proofs.Common.{◌≡◌, ℕ, ◌*◌, ◌/◌, ap, ◌∙◌, arith}
use Rattle.views.specs.Painting.{end_in}
use Rattle.rows.specs.Rows.{mark_test, with_bit}
use Rattle.views.specs.Marks.{passes_at, part_words, touched_marks}
use Rattle.rows.proofs.Reasons.{before_end, part_there, touch_none, touch_on, touch_all}
use Rattle.rows.proofs.touched.Goals as goal

pub loop-i-init : goal.loop-i-init
loop-i-init c =
    let asked = c.args in
    touch_none (mark_test asked.mark) asked.part.now asked.marks asked.start (end_in (part_words asked.part.now * 64) asked.start asked.n) c.ranges.marks.fits (asked.start / 64) (omega arith)

pub bounds-part-i : goal.bounds-part-i
bounds-part-i c = (part_there c.args.part.now c.loop-i.i (omega (arith, (before_end _ _ _ _ c.end_of-end.ensures).0))).0

pub with_bit-updated-requires : goal.with_bit-updated-requires
with_bit-updated-requires c = (part_there c.args.part.now c.loop-i.i (omega (arith, (before_end _ _ _ _ c.end_of-end.ensures).0))).1

pub loop-i-preserved : goal.loop-i-preserved
loop-i-preserved c =
    let asked = c.args in
    let part = asked.part.now in
    let i = c.loop-i.i in
    let ends : c.end_of-end.result ≡ end_in (part_words part * 64) asked.start asked.n = cc in
    c.with_bit-updated.ensures ∙ ap (λ (m : ℕ). with_bit m (passes_at (mark_test asked.mark) part i) i) c.loop-i.invariant
    ∙ touch_on (mark_test asked.mark) part asked.marks asked.start (end_in (part_words part * 64) asked.start asked.n) i (omega arith) (omega arith)

pub returns : goal.returns
unfolding touched_marks
returns c =
    let asked = c.args in
    let part = asked.part.now in
    let ends : c.end_of-end.result ≡ end_in (part_words part * 64) asked.start asked.n = cc in
    c.loop-i.invariant ∙ touch_all (mark_test asked.mark) part asked.marks asked.start (end_in (part_words part * 64) asked.start asked.n) c.loop-i.i (omega arith)
