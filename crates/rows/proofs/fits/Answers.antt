-- `rows::fits` meets its contract: the run is free in the words, and before each word none that it reaches is marked. Assumes nothing.
use Rattle.std.proofs.Common.{◌≡◌, sym, ◌∙◌, arith}
use Rattle.views.specs.Painting.{slots_in, end_in}
use Rattle.rows.proofs.Reasons.{fits_not, fits_none, fits_marked, fits_all}
use Rattle.rows.proofs.fits.Goals as goal

pub returns-then-not-all_free : goal.returns-then-not-all_free
returns-then-not-all_free c =
    let asked = c.args in
    fits_not asked.words.now asked.fulls.now asked.start asked.n _ c.all_free.ensures c.if-not-all_free.true

pub returns-then-n-eq0 : goal.returns-then-n-eq0
returns-then-n-eq0 c =
    let asked = c.args in
    fits_none asked.words.now asked.fulls.now asked.start asked.n c.if-n-eq0.true

pub returns-then-marked : goal.returns-then-marked
returns-then-marked c =
    let asked = c.args in
    let ends : c.end_of-end.result ≡ end_in (slots_in asked.words.now) asked.start asked.n = cc in
    fits_marked asked.words.now asked.fulls.now asked.start asked.n c.loop-reached.reached (omega arith) (omega arith) c.if-n-eq0.false (sym c.marked.ensures ∙ c.if-marked.true)

pub returns : goal.returns
returns c =
    let asked = c.args in
    let ends : c.end_of-end.result ≡ end_in (slots_in asked.words.now) asked.start asked.n = cc in
    fits_all asked.words.now asked.fulls.now asked.start asked.n _ c.all_free.ensures c.if-not-all_free.false c.loop-reached.reached (omega arith) c.loop-reached.invariant
