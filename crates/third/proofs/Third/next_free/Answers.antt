-- `third::Third::next_free` meets its contract: 1 where the map is not sound, and else what the judge says, whose search sees the words. Assumes nothing.
use Rattle.std.proofs.Common.{sym, ap, ◌∙◌}
use Rattle.std.proofs.lemmas.Result.{err_from_is_err_and}
use Rattle.slots.specs.Sets.{Slots}
use Rattle.slots.specs.Calls.{says, next_free_call}
use Rattle.views.specs.Full.{seen_from, seen_right}
use Rattle.third.specs.declared.Third.{Third}
use Rattle.third.proofs.Values.{is_third}
use Rattle.third.proofs.Outcomes.{check_refuses, check_passes, search_sees}
use Rattle.third.proofs.Third.next_free.Goals as goal

pub returns-in_err-fulls : goal.returns-in_err-fulls
returns-in_err-fulls c =
    let said = err_from_is_err_and c.from_residual.result c.from_residual.ensures.1 in
    rw (said.1, said.2) (check_refuses c.args.self _ _ c.in_err-fulls.ensures)

pub returns : goal.returns
returns c =
    let t = c.args.self in
    let start = c.args.start in
    let found = c.in_ok-fulls.ensures in
    c.next_free.ensures
    ∙ ap (λ (map : Third). says (next_free_call 14 (seen_from t.words map.fulls start) start)) found.0
    ∙ ap (λ (S : Slots). says (next_free_call 14 S start)) (seen_right t.words t.fulls (search_sees t (is_third t c.well_formed.0) (sym found.1)) start)
    ∙ check_passes t _ found.1
