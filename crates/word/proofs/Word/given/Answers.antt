-- `word::Word::given` meets its contract: what was judged of its range, carried out. Assumes nothing.
use Rattle.std.proofs.Common.{sym, ◌∙◌}
use Rattle.std.proofs.lemmas.Result.{err_from_is_err_and}
use Rattle.slots.specs.Calls.{says, set_call}
use Rattle.slots.specs.View.{sound_answers}
use Rattle.slots.specs.Promises.{set_after}
use Rattle.word.specs.Layout.{slot_of, word_view}
use Rattle.word.proofs.Outcomes.{refuses, carries}
use Rattle.word.proofs.Word.given.Goals as goal

pub returns-in_err-done : goal.returns-in_err-done
unfolding says set_call
returns-in_err-done c =
    let asked = c.args in
    let w = asked.self.now in
    let call = set_call 6 (slot_of w) asked.start asked.n asked.used in
    let said = err_from_is_err_and c.from_residual.result c.from_residual.ensures.1 in
    rw (said.1, said.2) (refuses w call _ (c.in_err-done.ensures ∙ sym (sound_answers word_view w call tt)))

pub returns : goal.returns
unfolding says set_call
returns c =
    let asked = c.args in
    let w = asked.self.now in
    let call = set_call 6 (slot_of w) asked.start asked.n asked.used in
    carries w c.requires call asked.start asked.n asked.used (set_after 6 (slot_of w) asked.start asked.n asked.used) _
    (c.in_ok-done.ensures ∙ sym (sound_answers word_view w call tt)) _ c.carry_out.ensures
