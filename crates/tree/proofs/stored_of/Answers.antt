-- `tree::stored_of` meets its contract: both marks and the count of the words. Assumes nothing.
use Rattle.tree.specs.Layout.{stored_of}
use Rattle.tree.proofs.stored_of.Goals as goal

pub returns : goal.returns
returns c = λ i. stored_of (c.marks.ensures i) (c.marks-2.ensures i) (c.count.ensures i)
