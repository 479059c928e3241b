-- `measured::word_frees` meets its contract: the fold over the starts is the series. Assumes nothing.
use Rattle.std.proofs.Common.{ap, ◌∙◌, [], ◌∷◌, rules}
use Rattle.std.proofs.lemmas.Iterator.{YieldsList-from_slice}
use Rattle.std.proofs.lemmas.Iterator.Consumers.{fold_from_yields_List}
use Rattle.slots.specs.Plain.{free}
use Rattle.word.specs.Layout.{word_view}
use Rattle.measured.specs.Series.{frees_of, left_after}
use Rattle.measured.proofs.Turns.{frees_last, finished}
use Rattle.measured.proofs.word_frees.Goals as goal

pub returns : goal.returns
returns c =
    let asked = c.args in
    let turns = fold_from_yields_List _ (λ t start. left_after word_view t (free start asked.n)) _ c.fold-map.result c.fold-map.ensures.ran
    (YieldsList-from_slice asked.starts.now (cc)) (λ t start u q k. search rules) in
    let ends = turns ∙ frees_last word_view asked.n asked.starts.now c.holding.result in
    finished word_view (λ w. w.bits ∷ []) _ _ _ (frees_of asked.starts.now asked.n) _ _ _ c.holding.ensures ends (ap (λ b. b ∷ []) c.bits.ensures) c.left_in.ensures.used c.left_in.ensures.words
