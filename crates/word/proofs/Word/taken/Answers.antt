-- `word::Word::taken` meets its contract: what was judged of its one word, carried out. Assumes nothing.
use Rattle.std.specs.Prelude.{true}
use Rattle.std.proofs.Common.{◌∙◌}
use Rattle.std.proofs.lemmas.Result.{err_from_is_err_and}
use Rattle.answers.specs.Said.{on_value}
use Rattle.answers.specs.declared.Reply.TheVariants.{At}
use Rattle.slots.specs.Sets.{Slots}
use Rattle.slots.specs.Calls.{take_call}
use Rattle.slots.proofs.Outcomes.{take_paints}
use Rattle.word.specs.Layout.{word_view, slot_of}
use Rattle.word.proofs.Outcomes.{searched, refuses, carries}
use Rattle.word.proofs.Word.taken.Goals as goal

pub returns-in_err-start : goal.returns-in_err-start
unfolding on_value
returns-in_err-start c =
    let asked = c.args in
    let w = asked.self.now in
    let said = err_from_is_err_and c.from_residual.result c.from_residual.ensures.1 in
    rw (said.1, said.2) (refuses w (take_call 6 (slot_of w) asked.n asked.a) _
    (c.in_err-start.ensures ∙ searched w c.requires (λ (S : Slots). take_call 6 S asked.n asked.a)))

pub returns : goal.returns
unfolding on_value
returns c =
    let asked = c.args in
    let w = asked.self.now in
    let start = c.in_ok-start.start in
    let told = c.in_ok-start.ensures ∙ searched w c.requires (λ (S : Slots). take_call 6 S asked.n asked.a) in
    carries w c.requires (take_call 6 (slot_of w) asked.n asked.a) start asked.n true (take_paints word_view w asked.n asked.a start told) (At start) told _ c.carry_out.ensures
