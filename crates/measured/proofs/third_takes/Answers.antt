-- `measured::third_takes` meets its contract: the fold over the turns is the series. Assumes nothing.
use Rattle.std.proofs.Common.{◌∙◌, arith, rules}
use Rattle.std.proofs.lemmas.Iterator.{YieldsList-from_range}
use Rattle.std.proofs.lemmas.Iterator.Consumers.{fold_from_yields_List}
use Rattle.slots.specs.Plain.{take}
use Rattle.third.specs.Layout.{third_view}
use Rattle.measured.specs.Series.{takes_of, left_after}
use Rattle.measured.proofs.Turns.{takes_last, finished}
use Rattle.measured.proofs.third_takes.Goals as goal

pub returns : goal.returns
returns c =
    let asked = c.args in
    let turns = fold_from_yields_List _ (λ t turn. left_after third_view t (take asked.n asked.a)) _ c.fold-map.result c.fold-map.ensures.ran
    (YieldsList-from_range 0 asked.times asked.times (cc) (omega arith)) (λ t turn u q k. search rules) in
    let ends = turns ∙ takes_last third_view asked.n asked.a asked.times 0 c.holding.result in
    finished third_view (λ t. t.words) _ _ _ (takes_of asked.n asked.a asked.times) _ _ _ c.holding.ensures ends c.words.ensures c.left_in.ensures.used c.left_in.ensures.words
