-- `rounding::pages::page_align_up` meets its contract, which is that of `align_up` at the page size. Assumes nothing.
use Rattle.rounding.specs.Widths.{align_up_says}
use Rattle.rounding.specs.Pages.{page_size, page_up}
use Rattle.rounding.proofs.pages.page_align_up.Goals as goal

pub returns : goal.returns
unfolding page_up
returns c = align_up_says 64 c.args.x page_size c.align_up.result c.align_up.ensures
