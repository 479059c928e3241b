-- `rounding::pages::round_to_pages` meets its contract. Assumes nothing.
use borrow.Author.Rules.{rules}
use Rattle.rounding.specs.Pages.{pages, page_offset}
use Rattle.rounding.proofs.pages.round_to_pages.Goals as goal

pub returns-then-page_offset-eq0 : goal.returns-then-page_offset-eq0
unfolding pages page_offset
returns-then-page_offset-eq0 c = search rules

pub returns : goal.returns
unfolding pages page_offset
returns c = search rules
