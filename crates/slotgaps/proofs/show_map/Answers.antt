-- `slotgaps::show_map` is safe: the lines have room. Assumes nothing.
use Rattle.std.proofs.Common.{sym, ap, length-take-le}
use Rattle.answers.specs.Answers.{answer_says}
use Rattle.gap_report.specs.Demands.{write_inside}
use Rattle.slotgaps.proofs.show_map.Goals as goal

pub slice_bounds-lines-end : goal.slice_bounds-lines-end
slice_bounds-lines-end g c = write_inside c.args.map _ c.write.result _ c.write.ensures _ (ap answer_says c.in-Ok.is)

pub slice_bounds-write_all-end : goal.slice_bounds-write_all-end
slice_bounds-write_all-end g c = sym (length-take-le _ _ (write_inside c.args.map _ c.write.result _ c.write.ensures _ (ap answer_says c.in-Ok.is)))
