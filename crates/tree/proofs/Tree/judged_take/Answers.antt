-- `tree::Tree::judged_take` meets its contract: 1 where the tree is not sound, and else what the judge of take says, whose search sees the words. Assumes nothing.
use Rattle.std.specs.Prelude.{ℕ, List, [], ◌∷◌}
use Rattle.std.proofs.Common.{sym, ap, ◌∙◌}
use Rattle.std.proofs.lemmas.Result.{err_from_is_err_and}
use Rattle.answers.specs.Said.{on_value}
use Rattle.slots.specs.Calls.{says, take_call}
use Rattle.slots.specs.View.{found_sound}
use Rattle.views.specs.Painting.{slot_in}
use Rattle.views.specs.Full.{filled}
use Rattle.tree.specs.declared.Stored.{Stored}
use Rattle.tree.specs.Layout.{tree_view, is_tree_means}
use Rattle.tree.proofs.Outcomes.{check_refuses, search_sees}
use Rattle.tree.proofs.Tree.judged_take.Goals as goal

pub returns-in_err-checked : goal.returns-in_err-checked
unfolding on_value
returns-in_err-checked c =
    let said = err_from_is_err_and c.from_residual.result c.from_residual.ensures.1 in
    rw (said.1, said.2) (check_refuses c.args.self.now _ _ c.in_err-checked.ensures)

pub returns : goal.returns
returns c =
    let asked = c.args in
    let t = asked.self.now in
    let found = c.in_ok-checked.ensures in
    let h = (is_tree_means t).0 c.requires in
    c.take.ensures
    ∙ ap (λ (stored : Stored). says (take_call 10 (slot_in (filled t.words (stored.full ∷ []))) asked.n asked.a)) found.0
    ∙ ap (λ (words : List ℕ). says (take_call 10 (slot_in words) asked.n asked.a)) (search_sees t h.2 h.3 h.0 found.1)
    ∙ sym (found_sound tree_view t _ found.1)
