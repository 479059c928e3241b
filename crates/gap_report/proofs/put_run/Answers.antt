-- `gap_report::put_run` meets its contract: five texts, one after the other. Assumes nothing.
use mathlib.Core.Path.{ap, ◌∙◌}
use mathlib.Core.List.{List}
use Prim.Native.Nat.{ℕ}
use Rattle.texts.specs.Decimal.{decimal}
use Rattle.texts.specs.Texts.{end, put_in, put_all}
use Rattle.gap_report.specs.Lines.{space}
use Rattle.gap_report.proofs.put_run.Goals as goal

pub returns : goal.returns
unfolding put_all
returns c =
    let asked = c.args in
    c.put.ensures ∙ ap (λ (held : ℕ × List ℕ). put_in held end) (
    c.put_number-after_length.ensures ∙ ap (λ (held : ℕ × List ℕ). put_in held (decimal asked.run.length)) (
    c.put-after_space.ensures ∙ ap (λ (held : ℕ × List ℕ). put_in held space) (
    c.put_number-after_start.ensures ∙ ap (λ (held : ℕ × List ℕ). put_in held (decimal asked.run.start)) c.put-after_word.ensures)))
