-- `gap_report::write` meets its contract: 1, and else the four parts, one after the other. Assumes nothing.
use Rattle.std.proofs.Common.{◌≡◌, sym, ◌∙◌, length, arith, rules}
use Rattle.std.proofs.lemmas.Result.{err_from_is_err_and}
use Rattle.answers.specs.Said.{refused}
use Rattle.bits.specs.Range.{count_most}
use Rattle.tree.specs.Layout.{slot_of}
use Rattle.tree.specs.Demands.{refused_unsound, counted_sound}
use Rattle.gap_report.proofs.Outcomes.{shown_unsound, shown_put}
use Rattle.gap_report.proofs.write.Goals as goal

pub returns-in_err-used : goal.returns-in_err-used
returns-in_err-used c =
    let asked = c.args in
    let p = err_from_is_err_and c.from_residual.result c.from_residual.ensures.1 in
    let so = refused_unsound asked.tree c.used.result c.used.ensures c.in_err-used.field-0.0 c.in_err-used.was in
    rw (p.1, p.2) ((λ i. (refused (so.1 i), asked.text.now)) ∙ sym (shown_unsound asked.tree asked.text.now so.0))

-- else the tree is sound, and has so many used slots
pub put_runs-after_free-requires : goal.put_runs-after_free-requires
put_runs-after_free-requires c = (counted_sound c.args.tree c.used.result c.used.ensures _ c.in_ok-used.was).0

pub put_runs-after_used-requires : goal.put_runs-after_used-requires
put_runs-after_used-requires c = (counted_sound c.args.tree c.used.result c.used.ensures _ c.in_ok-used.was).0

pub overflow_sub-used : goal.overflow_sub-used
overflow_sub-used c =
    omega (arith, (counted_sound c.args.tree c.used.result c.used.ensures _ c.in_ok-used.was).1, count_most (slot_of c.args.tree) 0 1024)

pub returns : goal.returns
returns c =
    let asked = c.args in
    let long : length asked.text.now ≡ 20480 = search rules in
    let counted = counted_sound asked.tree c.used.result c.used.ensures _ c.in_ok-used.was in
    shown_put asked.tree asked.text.now counted.0 long _ counted.1
    (c.put_runs-after_free.result, c.put_runs-after_free.new.text) (c.put_runs-after_used.result, c.put_runs-after_used.new.text)
    (c.put_longest-after_longest.result, c.put_longest-after_longest.new.text) (c.put_slots.result, c.put_slots.new.text)
    c.put_runs-after_free.ensures c.put_runs-after_used.ensures c.put_longest-after_longest.ensures c.put_slots.ensures
