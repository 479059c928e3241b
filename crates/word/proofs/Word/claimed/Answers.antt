-- `word::Word::claimed` meets its contract: what was judged of its one word, carried out. Assumes nothing.
use Rattle.std.specs.Prelude.{true}
use Rattle.std.proofs.Common.{◌∙◌}
use Rattle.std.proofs.lemmas.Result.{err_from_is_err_and}
use Rattle.slots.specs.Sets.{Slots}
use Rattle.slots.specs.Calls.{claim_call}
use Rattle.slots.specs.Promises.{claim_after}
use Rattle.word.specs.Layout.{slot_of}
use Rattle.word.proofs.Outcomes.{answers, refuses, carries}
use Rattle.word.proofs.Word.claimed.Goals as goal

pub returns-in_err-done : goal.returns-in_err-done
returns-in_err-done c =
    let asked = c.args in
    let w = asked.self.now in
    let said = err_from_is_err_and c.from_residual.result c.from_residual.ensures.1 in
    rw (said.1, said.2) (refuses w (claim_call 6 (slot_of w) asked.start asked.n) _
    (c.in_err-done.ensures ∙ answers w c.requires (λ (S : Slots). claim_call 6 S asked.start asked.n)))

pub returns : goal.returns
returns c =
    let asked = c.args in
    let w = asked.self.now in
    carries w c.requires (claim_call 6 (slot_of w) asked.start asked.n) asked.start asked.n true (claim_after 6 (slot_of w) asked.start asked.n) _
    (c.in_ok-done.ensures ∙ answers w c.requires (λ (S : Slots). claim_call 6 S asked.start asked.n)) _ c.carry_out.ensures
