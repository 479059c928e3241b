-- `rows::all_free` meets its contract: what of the run lies past the words is free. Assumes nothing.
use Rattle.std.proofs.Common.{false, refl, ◌∙◌, arith}
use Rattle.views.specs.Painting.{slots_in, slot_past, end_in}
use Rattle.rows.proofs.Reasons.{has_all, free_cut}
use Rattle.rows.proofs.all_free.Goals as goal

pub returns-then-slots-start : goal.returns-then-slots-start
returns-then-slots-start c =
    let asked = c.args in
    has_all false asked.words.now asked.start asked.n 0 (λ p named b. absurd (omega arith)) (λ p named past. slot_past asked.words.now p (omega (arith, named.0)))

pub returns : goal.returns
returns c =
    let asked = c.args in
    let words = asked.words.now in
    c.all_are.ensures ∙ free_cut words asked.start asked.n (end_in (slots_in words) asked.start asked.n) refl
