-- `texts::put_number` meets its contract: the digits that are put are the number's. Assumes nothing.
use mathlib.Core.Path.{sym, ap, ◌∙◌}
use Rattle.texts.specs.Texts.{put_in}
use Rattle.texts.proofs.Decimals.{decimal_digits}
use Rattle.texts.proofs.put_number.Goals as goal

pub returns : goal.returns
returns c =
    let asked = c.args in
    c.put.ensures ∙ ap (put_in (asked.at, asked.buffer.now)) (c.decimal-count.ensures.digits ∙ sym (decimal_digits asked.n c.decimal-count.result c.decimal-count.ensures.len))
