-- `rounding::pages::page_offset` meets its contract: the 12 low digits are the remainder. Assumes nothing.
use lib.Bits.{and_mask}
use Rattle.rounding.specs.Pages.{page_offset}
use Rattle.rounding.proofs.pages.page_offset.Goals as goal

pub returns : goal.returns
unfolding page_offset
returns c = and_mask c.args.x 12
