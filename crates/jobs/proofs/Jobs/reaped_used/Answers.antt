-- `jobs::Jobs::reaped_used` meets its contract: each pair of words is asked in turn. Assumes nothing.
use mathlib.Core.Path.{ap, ◌∙◌}
use mathlib.Core.Bool.{true, false}
use mathlib.Core.List.{List}
use Prim.Native.Nat.{ℕ}
use borrow.Author.Rules.{rules}
use borrow.Author.Tests.{tests}
use Rattle.std.proofs.lemmas.Iterator.{cases_from_all, YieldsList-from_slice, YieldsList-from_zip}
use Rattle.slots.specs.JobView.{reaped_used}
use Rattle.views.specs.Painting.{slot_in}
use Rattle.jobs.proofs.Reaped.{Tells, asked_in_turn}
use Rattle.jobs.proofs.Jobs.reaped_used.Goals as goal

pub returns : goal.returns
returns c =
    let words = c.words-words.result in
    let reaped = c.args.self.now.reaped in
    asked_in_turn words reaped (search rules) (search rules) _
    (cases_from_all c.all.new.self _ _ (Tells true) (Tells false) c.all.ensures.ran (YieldsList-from_zip {s = c.zip.result} (YieldsList-from_slice words (cc)) (YieldsList-from_slice reaped (cc)))
    (λ x q k. search (rules, tests)) (λ x q k. search (rules, tests)))
    ∙ ap (λ (ws : List ℕ). reaped_used (slot_in ws) (slot_in reaped) 1024) c.words-words.ensures
