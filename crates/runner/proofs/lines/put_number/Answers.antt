-- `runner::lines::put_number` meets its contract: the word, the digits, and the end of the line, one after the other. Assumes nothing.
use Rattle.std.proofs.Common.{◌≤◌, ◌≡◌, ◌∙◌, ◌+◌, ◌++◌, length, sym, ap, arith, zero-add, length-append}
use Rattle.texts.specs.Texts.{put_fits, end}
use Rattle.texts.specs.Decimal.{decimal}
use Rattle.report.specs.Report.{numbered}
use Rattle.runner.specs.Inner.{put_start}
use Rattle.runner.proofs.Texts.{end_fits, all_put, all_length}
use Rattle.runner.proofs.lines.put_number.Goals as goal

pub put-after_word-requires : goal.put-after_word-requires
put-after_word-requires c = omega (arith, c.requires, length-append c.args.word.now (decimal c.args.n ++ end))

pub returns : goal.returns
returns c =
    let report = c.args.report.now in
    let word = c.args.word.now in
    let n = c.args.n in
    let fits : 0 + length (numbered word n) ≤ length report = omega arith in
    let ends : c.put-after_word.result ≡ 0 + length word = omega (arith, c.put-after_word.ensures.value) in
    let worded = c.put-after_word.ensures.report_after ∙ sym (put_start report word) in
    let room = end_fits report word 0 n fits _ _ ends worded _ _ c.put_number-after_number.ensures in
    let out = c.put.ensures ∙ put_fits _ _ end room in
    record {
      value = all_length report word 0 n fits _ _ ends worded _ _ c.put_number-after_number.ensures _ (ap (λ o. o.0) out) ∙ zero-add _;
      report_after = all_put report word 0 n fits _ _ ends worded _ _ c.put_number-after_number.ensures _ (ap (λ o. o.1) out) ∙ put_start report (numbered word n);
    }
