-- `tree::sound` meets its contract: a tree is sound exactly if each field is that of its words. Assumes nothing.
use Rattle.std.proofs.Common.{sym, ap, ◌∙◌}
use Rattle.answers.specs.Faults.{finds_eq}
use Rattle.tree.specs.declared.Stored.{Stored}
use Rattle.tree.specs.Layout.{tree_of, stored_of}
use Rattle.tree.proofs.Values.{both_fit}
use Rattle.tree.proofs.Outcomes.{sound_shown}
use Rattle.tree.proofs.sound.Goals as goal

pub returns-then-marks-stored : goal.returns-then-marks-stored
returns-then-marks-stored c =
    let asked = c.args in
    let fit = both_fit asked.stored c.well_formed.1.0 in
    sound_shown (tree_of asked.words.now asked.stored) fit.0 fit.1 _
    (λ no. absurd no, λ e. c.if-marks-stored.true (c.marks.ensures ∙ ap (λ (s : Stored). s.summary) e))

pub returns-then-marks-stored-2 : goal.returns-then-marks-stored-2
returns-then-marks-stored-2 c =
    let asked = c.args in
    let fit = both_fit asked.stored c.well_formed.1.0 in
    sound_shown (tree_of asked.words.now asked.stored) fit.0 fit.1 _
    (λ no. absurd no, λ e. c.if-marks-stored-2.true (c.marks-2.ensures ∙ ap (λ (s : Stored). s.full) e))

pub returns : goal.returns
returns c =
    let asked = c.args in
    let fit = both_fit asked.stored c.well_formed.1.0 in
    let counted = finds_eq c.count.result asked.stored.count in
    sound_shown (tree_of asked.words.now asked.stored) fit.0 fit.1 _ (
      λ same. (λ i. stored_of
          ((sym c.marks.ensures ∙ c.if-marks-stored.false) i)
          ((sym c.marks-2.ensures ∙ c.if-marks-stored-2.false) i)
          ((sym c.count.ensures ∙ counted.0 same) i)),
      λ e. counted.1 (c.count.ensures ∙ ap (λ (s : Stored). s.count) e),
    )
