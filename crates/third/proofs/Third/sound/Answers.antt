-- `third::Third::sound` meets its contract: each tree is asked, and the summary over them. Assumes nothing.
use mathlib.Core.Path.{◌≡◌, refl, sym, ◌∙◌}
use borrow.Author.Rules.{rules}
use Rattle.std.proofs.lemmas.Iterator.{YieldsList-from_range}
use Rattle.std.proofs.lemmas.Iterator.Search.{all_from_yields_List}
use Rattle.third.proofs.Outcomes.{tree_sound, trees_sound, sound_shown, unsound_shown}
use Rattle.third.proofs.Third.sound.Goals as goal

pub returns-then-all : goal.returns-then-all
returns-then-all c =
    let t = c.args.self.now in
    let asked : c.all.result ≡ trees_sound t = all_from_yields_List (tree_sound t) _ _ c.all.result c.all.ensures.ran (YieldsList-from_range 0 16 16 refl refl) (λ x b q k. search rules) in
    sound_shown t c.requires (sym asked ∙ c.if-all.true) _ c.top.ensures

pub returns-else-all : goal.returns-else-all
returns-else-all c =
    let t = c.args.self.now in
    let asked : c.all.result ≡ trees_sound t = all_from_yields_List (tree_sound t) _ _ c.all.result c.all.ensures.ran (YieldsList-from_range 0 16 16 refl refl) (λ x b q k. search rules) in
    c.if-all.false ∙ unsound_shown t c.requires (sym asked ∙ c.if-all.false)
