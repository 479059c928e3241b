-- `jobs::Jobs::state` meets its contract: 1 where a reaped slot is not used, and else the slot's two marks. Assumes nothing.
use Rattle.std.proofs.Common.{Bool, sym, ap, ◌∙◌}
use Rattle.std.proofs.lemmas.Result.{err_from_is_err_and}
use Rattle.answers.specs.Said.{value, on_value}
use Rattle.answers.specs.Answers.{answer_says}
use Rattle.slots.specs.Jobs.{state_call, state_by}
use Rattle.views.specs.Painting.{slot_in}
use Rattle.jobs.specs.Layout.{marks_of}
use Rattle.jobs.proofs.Outcomes.{shown_kept, asked_amiss, state_told}
use Rattle.jobs.proofs.Jobs.state.Goals as goal

pub returns-in_err-kept_tree : goal.returns-in_err-kept_tree
returns-in_err-kept_tree c =
    let j = c.args.self in
    let said = err_from_is_err_and c.from_residual.result c.from_residual.ensures.1 in
    rw (said.1, said.2) (sym (asked_amiss j (state_call 10 (marks_of j) c.args.slot) _ c.in_err-kept_tree.ensures))

pub returns-in_err-used : goal.returns-in_err-used
unfolding on_value
returns-in_err-used c =
    let j = c.args.self in
    let kept = c.in_ok-kept_tree.ensures in
    let said = err_from_is_err_and c.from_residual-in_err-used.result c.from_residual-in_err-used.ensures.1 in
    rw (said.1, said.2)
    (sym (state_told j (shown_kept j kept.1) c.args.slot
    ∙ ap (on_value (λ (used : Bool). state_by used (slot_in j.reaped c.args.slot))) (sym (rw (← kept.0) c.get.ensures) ∙ ap answer_says c.in_err-used.was)))

pub returns : goal.returns
unfolding on_value
returns c =
    let j = c.args.self in
    let kept = c.in_ok-kept_tree.ensures in
    let slot = c.args.slot in
    ap value (c.state_by.ensures ∙ ap (state_by c.in_ok-used.used) c.get-2.ensures)
    ∙ sym (state_told j (shown_kept j kept.1) slot
    ∙ ap (on_value (λ (used : Bool). state_by used (slot_in j.reaped slot))) (sym (rw (← kept.0) c.get.ensures) ∙ ap answer_says c.in_ok-used.was))
