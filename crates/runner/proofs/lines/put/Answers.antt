-- `runner::lines::put` meets its contract: there is room. Assumes nothing.
use Rattle.std.proofs.Common.{◌∙◌, ap, arith, zero-add}
use Rattle.texts.specs.Texts.{put_fits}
use Rattle.runner.specs.Inner.{put_start}
use Rattle.runner.proofs.lines.put.Goals as goal

pub returns : goal.returns
returns c =
    let asked = c.args in
    let out = c.put.ensures ∙ put_fits 0 asked.report.now asked.words.now (omega arith) in
    record { value = ap (λ o. o.0) out ∙ zero-add _; report_after = ap (λ o. o.1) out ∙ put_start asked.report.now asked.words.now }
