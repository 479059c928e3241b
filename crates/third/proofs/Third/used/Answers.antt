-- `third::Third::used` meets its contract: 1 where the map is not sound, and else the sum of the stored counts. Assumes nothing.
use Rattle.std.proofs.Common.{sym, ap, ◌∙◌}
use Rattle.std.proofs.lemmas.Result.{err_from_is_err_and}
use Rattle.answers.specs.Said.{value}
use Rattle.slots.specs.Calls.{used_call}
use Rattle.slots.specs.Promises.{used_promise}
use Rattle.views.specs.Trees.{sum_first}
use Rattle.third.specs.declared.Third.{Third}
use Rattle.third.specs.Layout.{slot_of}
use Rattle.third.proofs.Values.{is_third}
use Rattle.third.proofs.Outcomes.{check_refuses, check_passes, used_shown}
use Rattle.third.proofs.Third.used.Goals as goal

pub returns-in_err-checked : goal.returns-in_err-checked
returns-in_err-checked c =
    let said = err_from_is_err_and c.from_residual.result c.from_residual.ensures.1 in
    rw (said.1, said.2) (check_refuses c.args.self _ _ c.in_err-checked.ensures)

pub returns : goal.returns
returns c =
    let t = c.args.self in
    let found = c.in_ok-checked.ensures in
    let total = c.total.ensures ∙ ap (λ (map : Third). sum_first map.counts 16) found.0 in
    ap value (total ∙ used_shown t (is_third t c.well_formed.0) (sym found.1)) ∙ sym (used_promise 14 (slot_of t)) ∙ check_passes t (used_call 14 (slot_of t)) found.1
