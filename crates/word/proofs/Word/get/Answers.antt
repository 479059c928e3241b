-- `word::Word::get` meets its contract: what the judge says of its one word. Assumes nothing.
use mathlib.Core.Path.{◌∙◌}
use Rattle.slots.specs.Sets.{Slots}
use Rattle.slots.specs.Calls.{get_call}
use Rattle.word.proofs.Values.{is_word}
use Rattle.word.proofs.Outcomes.{answers}
use Rattle.word.proofs.Word.get.Goals as goal

pub returns : goal.returns
returns c =
    let w = c.args.self in
    c.get.ensures ∙ answers w (is_word w c.well_formed.0) (λ (S : Slots). get_call 6 S c.args.slot)
