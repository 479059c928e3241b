-- `gap_report::put_longest` meets its contract: a run's line, or that there is none. Assumes nothing.
use mathlib.Core.Path.{sym, ap, ◌∙◌}
use Rattle.answers.specs.Said.{Said}
use Rattle.answers.specs.Answers.{answer_says}
use Rattle.answers.specs.declared.Run.{Run}
use Rattle.texts.specs.Texts.{put_all}
use Rattle.gap_report.specs.Lines.{longest_line}
use Rattle.gap_report.proofs.put_longest.Goals as goal

pub returns-in-Ok : goal.returns-in-Ok
returns-in-Ok c =
    let asked = c.args in
    c.put_run.ensures
    ∙ ap (λ (said : Said Run). put_all (asked.at, asked.text.now) (longest_line said)) (sym (ap answer_says c.in-Ok.is) ∙ c.longest_free.ensures)

pub returns-in-Err : goal.returns-in-Err
unfolding put_all
returns-in-Err c =
    let asked = c.args in
    c.put.ensures
    ∙ ap (λ (said : Said Run). put_all (asked.at, asked.text.now) (longest_line said)) (sym (ap answer_says c.in-Err.is) ∙ c.longest_free.ensures)
