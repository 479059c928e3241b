-- `tree::Tree::next_free` meets its contract: 1 where the tree is not sound, and else what the judge says, whose search sees the words. Assumes nothing.
use Rattle.std.specs.Prelude.{[], ◌∷◌}
use Rattle.std.proofs.Common.{sym, ap, ◌∙◌}
use Rattle.std.proofs.lemmas.Result.{err_from_is_err_and}
use Rattle.slots.specs.Sets.{Slots}
use Rattle.slots.specs.Calls.{says, next_free_call}
use Rattle.slots.specs.View.{found_sound}
use Rattle.views.specs.Full.{seen_from, seen_right}
use Rattle.tree.specs.declared.Stored.{Stored}
use Rattle.tree.specs.Layout.{tree_view, is_tree_means}
use Rattle.tree.proofs.Values.{is_tree}
use Rattle.tree.proofs.Outcomes.{check_refuses, search_sees}
use Rattle.tree.proofs.Tree.next_free.Goals as goal

pub returns-in_err-checked : goal.returns-in_err-checked
returns-in_err-checked c =
    let said = err_from_is_err_and c.from_residual.result c.from_residual.ensures.1 in
    rw (said.1, said.2) (check_refuses c.args.self _ _ c.in_err-checked.ensures)

pub returns : goal.returns
returns c =
    let t = c.args.self in
    let found = c.in_ok-checked.ensures in
    let h = (is_tree_means t).0 (is_tree t c.well_formed.0) in
    c.next_free.ensures
    ∙ ap (λ (stored : Stored). says (next_free_call 10 (seen_from t.words (stored.full ∷ []) c.args.start) c.args.start)) found.0
    ∙ ap (λ (S : Slots). says (next_free_call 10 S c.args.start)) (seen_right t.words (t.stored.full ∷ []) (search_sees t h.2 h.3 h.0 found.1) c.args.start)
    ∙ sym (found_sound tree_view t _ found.1)
