-- `third::Third::judged_take` meets its contract: 1 where the map is not sound, and else what the judge of take says, whose search sees the words. Assumes nothing.
use Rattle.std.specs.Prelude.{ℕ, List}
use Rattle.std.proofs.Common.{sym, ap, ◌∙◌}
use Rattle.std.proofs.lemmas.Result.{err_from_is_err_and}
use Rattle.answers.specs.Said.{on_value}
use Rattle.slots.specs.Calls.{says, take_call}
use Rattle.views.specs.Painting.{slot_in}
use Rattle.views.specs.Full.{filled}
use Rattle.third.specs.declared.Third.{Third}
use Rattle.third.proofs.Outcomes.{check_refuses, check_passes, search_sees}
use Rattle.third.proofs.Third.judged_take.Goals as goal

pub returns-in_err-marks : goal.returns-in_err-marks
unfolding on_value
returns-in_err-marks c =
    let said = err_from_is_err_and c.from_residual.result c.from_residual.ensures.1 in
    rw (said.1, said.2) (check_refuses c.args.self.now _ _ c.in_err-marks.ensures)

pub returns : goal.returns
returns c =
    let asked = c.args in
    let t = asked.self.now in
    let found = c.in_ok-marks.ensures in
    c.take.ensures
    ∙ ap (λ (map : Third). says (take_call 14 (slot_in (filled t.words map.fulls)) asked.n asked.a)) found.0
    ∙ ap (λ (words : List ℕ). says (take_call 14 (slot_in words) asked.n asked.a)) (search_sees t c.requires (sym found.1))
    ∙ check_passes t _ found.1
