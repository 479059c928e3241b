-- `measured::left_in` meets its contract: the words hold 64 slots each. Assumes nothing.
use mathlib.Core.Path.{ap, ◌∙◌}
use borrow.Author.Rules.{rules}
use Rattle.bits.specs.Range.{count}
use Rattle.views.specs.Painting.{slot_in, slots_all}
use Rattle.measured.proofs.left_in.Goals as goal

pub returns-clause-used : goal.returns-clause-used
returns-clause-used g c = c.count.ensures ∙ ap (count (slot_in c.args.left) 0) (slots_all c.args.left g.row.N (search rules) c.requires)
