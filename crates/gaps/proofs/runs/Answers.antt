-- `gaps::runs` meets its contract: 1, then 11, and else the list. Assumes nothing.
use Rattle.std.proofs.Common.{List, ℕ, length, sym, ap, ◌∙◌}
use Rattle.std.proofs.lemmas.Result.{err_from_is_err_and}
use Rattle.answers.specs.Said.{value, refused}
use Rattle.bits.specs.Buffers.{put_at}
use Rattle.slots.specs.Gaps.{runs_of, flat}
use Rattle.views.specs.Painting.{slot_in}
use Rattle.gaps.proofs.Outcomes.{list_unsound, list_short, list_whole}
use Rattle.gaps.proofs.runs.Goals as goal

pub returns-in_err-words : goal.returns-in_err-words
returns-in_err-words c =
    let asked = c.args in
    let said = err_from_is_err_and c.from_residual.result c.from_residual.ensures.1 in
    rw (said.1, said.2) (ap (λ (k : ℕ). (refused k, asked.list.now)) c.in_err-words.ensures.1 ∙ sym (list_unsound asked.used asked.tree asked.list.now c.in_err-words.ensures.0))

pub returns-then-list-lt-SLOTS : goal.returns-then-list-lt-SLOTS
returns-then-list-lt-SLOTS c =
    let asked = c.args in
    sym (list_short asked.used asked.tree asked.list.now c.in_ok-words.ensures.0 c.if-list-lt-SLOTS.true)

pub returns : goal.returns
returns c =
    let asked = c.args in
    (λ i. (value (c.put_runs-count.ensures i).0, (c.put_runs-count.ensures i).1))
    ∙ ap (λ (words : List ℕ). (value (length (runs_of 10 asked.used (slot_in words))), put_at asked.list.now 0 (flat (runs_of 10 asked.used (slot_in words))))) c.in_ok-words.ensures.1
    ∙ sym (list_whole asked.used asked.tree asked.list.now c.in_ok-words.ensures.0 c.if-list-lt-SLOTS.false)
