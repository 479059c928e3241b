-- `image::fields::held` meets its contract: the words with their own fields, and the summary that stands there. Assumes nothing.
use mathlib.Core.Path.{ap, ◌∙◌}
use Rattle.tree.specs.Layout.{stored_of, tree_of, holding}
use Rattle.image.specs.Image.{held_in}
use Rattle.image.proofs.fields.held.Goals as goal

pub returns : goal.returns
unfolding held_in
returns c =
    c.with_summary.ensures
    ∙ (λ i. let t = (c.holding.ensures ∙ ap holding c.words_in-words.ensures) i in tree_of t.words (stored_of (c.two_at-summary.ensures i) t.stored.full t.stored.count))
