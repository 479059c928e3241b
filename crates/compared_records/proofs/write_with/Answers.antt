-- `compared_records::write_with` is safe: the lines have room, and are no longer than they can be. Assumes nothing.
use Rattle.std.proofs.Common.{sym, ap, length-take-le}
use Rattle.answers.specs.Answers.{answer_says}
use Rattle.gap_report.specs.Demands.{write_inside}
use Rattle.compared_records.proofs.write_with.Goals as goal

pub slice_bounds-lines-end : goal.slice_bounds-lines-end
slice_bounds-lines-end g c = write_inside c.args.map _ c.write.result _ c.write.ensures _ (ap answer_says c.in-Ok.is)

pub slice_bounds-write-end : goal.slice_bounds-write-end
slice_bounds-write-end g c = sym (length-take-le _ _ (write_inside c.args.map _ c.write.result _ c.write.ensures _ (ap answer_says c.in-Ok.is)))
