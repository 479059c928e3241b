-- `runner::reported` meets its contract. The loop's invariant is `Running`, and its measure is what is left of the record. Assumes nothing.
use Rattle.std.proofs.Common.{◌+◌, ap}
use Rattle.report.specs.Report.{used, written}
use Rattle.runner.proofs.Running.{starts, line_fits, turns, not_refused, last_fits, finishes, rest_fits, rest_put}
use Rattle.runner.proofs.reported.Goals as goal

pub loop-next-init : goal.loop-next-init
loop-next-init c = let asked = c.requires in starts _ _ _ c.new_empty-map.ensures asked.0 asked.1

pub put_line-length-requires : goal.put_line-length-requires
put_line-length-requires c =
    rest_fits c.loop-next.report c.loop-next.length _
    (line_fits c.loop-next.invariant c.loop-next-test.true c.field_at-piece.ensures c.carried_out-step.result c.carried_out-step.ensures)

pub loop-next-preserved : goal.loop-next-preserved
loop-next-preserved c =
    let put = c.put_line-length in
    let end = c.loop-next.length in
    turns c.loop-next.invariant c.loop-next-test.true c.field_at-piece.ensures c.carried_out-step.result c.carried_out-step.ensures
    (end + put.result) _ (ap (λ n. end + n) put.ensures.value) (rest_put c.loop-next.report end _ _ put.ensures.report_after)

pub unwrap-used-requires : goal.unwrap-used-requires
unwrap-used-requires c = not_refused c.loop-next.invariant c.loop-next-test.false c.used.result c.used.ensures

pub put_number-length-requires : goal.put_number-length-requires
put_number-length-requires c =
    rest_fits c.loop-next.report c.loop-next.length (written (used c.unwrap-used.result)) (last_fits c.loop-next.invariant c.loop-next-test.false c.used.result c.used.ensures _ c.unwrap-used.ensures)

pub returns : goal.returns
returns c =
    let put = c.put_number-length in
    let end = c.loop-next.length in
    finishes c.loop-next.invariant c.loop-next-test.false c.used.result c.used.ensures _ c.unwrap-used.ensures
    (end + put.result) _ (ap (λ n. end + n) put.ensures.value) (rest_put c.loop-next.report end _ _ put.ensures.report_after)
