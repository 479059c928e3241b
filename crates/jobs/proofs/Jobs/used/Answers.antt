-- `jobs::Jobs::used` meets its contract: 1 where a reaped slot is not used, and else what the tree says. Assumes nothing.
use Rattle.std.proofs.Common.{sym, ◌∙◌}
use Rattle.std.proofs.lemmas.Result.{err_from_is_err_and}
use Rattle.slots.specs.Calls.{used_call}
use Rattle.tree.specs.declared.Tree.{Tree}
use Rattle.tree.specs.Layout.{slot_of}
use Rattle.jobs.specs.Layout.{used_of}
use Rattle.jobs.proofs.Outcomes.{asked_amiss, asked_below}
use Rattle.jobs.proofs.Jobs.used.Goals as goal

pub returns-in_err-kept_tree : goal.returns-in_err-kept_tree
returns-in_err-kept_tree c =
    let j = c.args.self in
    let said = err_from_is_err_and c.from_residual.result c.from_residual.ensures.1 in
    rw (said.1, said.2) (sym (asked_amiss j (used_call 10 (used_of j)) _ c.in_err-kept_tree.ensures))

pub returns : goal.returns
returns c =
    c.used.ensures ∙ asked_below c.args.self (λ (t : Tree). used_call 10 (slot_of t)) _ c.in_ok-kept_tree.ensures
