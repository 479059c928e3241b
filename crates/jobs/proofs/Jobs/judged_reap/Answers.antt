-- `jobs::Jobs::judged_reap` meets its contract: the checks that come first, and then that each named slot is used and none is reaped. Assumes nothing.
use Rattle.std.proofs.Common.{List, ℕ, sym, ap, ◌∙◌}
use Rattle.std.proofs.lemmas.Result.{err_from_is_err_and}
use Rattle.answers.specs.Said.{judged_found, judged_passed}
use Rattle.answers.specs.declared.Reply.TheVariants.{Done as ok}
use Rattle.slots.specs.Sets.{all_used}
use Rattle.views.specs.Painting.{slot_in}
use Rattle.jobs.proofs.Outcomes.{idle_unused, idle_reaped, none_idle, reap_first, reap_by}
use Rattle.jobs.proofs.Jobs.judged_reap.Goals as goal

pub returns-in_err-judged_range : goal.returns-in_err-judged_range
returns-in_err-judged_range c =
    let said = err_from_is_err_and c.from_residual.result c.from_residual.ensures.1 in
    rw (said.1, said.2) (sym (reap_first c.args.self.now c.args.start c.args.n c.judged_range.result c.judged_range.ensures _ c.in_err-judged_range.was))

pub returns-then-not-all_used : goal.returns-then-not-all_used
returns-then-not-all_used c =
    let j = c.args.self.now in
    let start = c.args.start in
    let n = c.args.n in
    let told = c.all_used.ensures ∙ ap (λ (ws : List ℕ). all_used (slot_in ws) start n) c.words-words.ensures in
    sym (reap_by j start n c.judged_range.result c.judged_range.ensures _ c.in_ok-judged_range.was
    ∙ judged_found 13 _ ok (idle_unused j start n _ told c.if-not-all_used.true))

pub returns-then-not-all_free : goal.returns-then-not-all_free
returns-then-not-all_free c =
    let j = c.args.self.now in
    let start = c.args.start in
    let n = c.args.n in
    sym (reap_by j start n c.judged_range.result c.judged_range.ensures _ c.in_ok-judged_range.was
    ∙ judged_found 13 _ ok (idle_reaped j start n _ c.all_free.ensures c.if-not-all_free.true))

pub returns : goal.returns
returns c =
    let j = c.args.self.now in
    let start = c.args.start in
    let n = c.args.n in
    let told = c.all_used.ensures ∙ ap (λ (ws : List ℕ). all_used (slot_in ws) start n) c.words-words.ensures in
    sym (reap_by j start n c.judged_range.result c.judged_range.ensures _ c.in_ok-judged_range.was
    ∙ judged_passed 13 _ ok (none_idle j start n _ _ told c.all_free.ensures c.if-not-all_used.false c.if-not-all_free.false))
