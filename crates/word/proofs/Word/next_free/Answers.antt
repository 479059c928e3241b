-- `word::Word::next_free` meets its contract: what the judge says of its one word. Assumes nothing.
use mathlib.Core.Path.{◌∙◌}
use Rattle.slots.specs.Sets.{Slots}
use Rattle.slots.specs.Calls.{next_free_call}
use Rattle.word.proofs.Values.{is_word}
use Rattle.word.proofs.Outcomes.{searched_from}
use Rattle.word.proofs.Word.next_free.Goals as goal

pub returns : goal.returns
returns c =
    let w = c.args.self in
    c.next_free.ensures ∙ searched_from w (is_word w c.well_formed.0) (λ (S : Slots). next_free_call 6 S c.args.start) c.args.start
