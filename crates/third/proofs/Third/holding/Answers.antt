-- `third::Third::holding` meets its contract: each field is made anew of the words. Assumes nothing.
use borrow.Author.Rules.{rules}
use Rattle.third.proofs.Outcomes.{made_anew}
use Rattle.third.proofs.Third.holding.Goals as goal

pub returns : goal.returns
returns c = made_anew _ _ _ _ _ (record { so_many = search rules; each_fits = λ i l. search rules }) _ c.renew.ensures _ c.top.ensures
