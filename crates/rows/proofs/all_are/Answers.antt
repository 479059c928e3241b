-- `rows::all_are` meets its contract: before each word, the run's slots in the words before it have the value. Assumes nothing.
use Rattle.std.proofs.Common.{◌≡◌, ℕ, ◌+◌, ◌-◌, ◌*◌, ◌/◌, ◌≤◌, sym, ap, ◌∙◌, arith, get_or}
use Rattle.places.specs.Places.{run_mask}
use Rattle.views.specs.Painting.{slots_in, end_in, part_mask, word_there}
use Rattle.rows.specs.Rows.{mask_has}
use Rattle.rows.proofs.Reasons.{has_none, has_on, has_not, has_all, has_last, first_part, part_whole, part_to_end, word_of, before_end, after_start}
use Rattle.rows.proofs.all_are.Goals as goal
use Rattle.rows.proofs.all_are.Goals.{then-last-start-via-then-last-start, then-last-start-via-else-last-start+then-end-eq0}

pub bounds-words-start : goal.bounds-words-start
bounds-words-start c = word_of c.args.words.now c.args.start c.requires

pub returns-then-not-word_is : goal.returns-then-not-word_is
returns-then-not-word_is c =
    let asked = c.args in
    let words = asked.words.now in
    let cut = after_start words asked.start asked.n c.requires in
    has_not asked.used words asked.start (end_in (slots_in words) asked.start asked.n - asked.start) (asked.start / 64) (omega (arith, c.requires)) _ _ c.word_is.ensures
    (c.run_mask.ensures ∙ first_part words asked.start asked.n c.requires ∙ ap (λ (e : ℕ). part_mask asked.start e (asked.start / 64)) cut) c.if-not-word_is.true

pub loop-i-init : goal.loop-i-init
loop-i-init c =
    let asked = c.args in
    let words = asked.words.now in
    let n = end_in (slots_in words) asked.start asked.n - asked.start in
    let cut = after_start words asked.start asked.n c.requires in
    has_on asked.used words asked.start n (asked.start / 64) (omega (arith, c.requires)) _ _ c.word_is.ensures
    (c.run_mask.ensures ∙ first_part words asked.start asked.n c.requires ∙ ap (λ (e : ℕ). part_mask asked.start e (asked.start / 64)) cut) c.if-not-word_is.false
    (has_none asked.used words asked.start n)

-- ---- whole words

pub bounds-words-i : goal.bounds-words-i
bounds-words-i c = (word_there c.args.words.now c.loop-i.i (omega (arith, (before_end _ _ _ _ c.end_of-end.ensures).0))).0

pub returns-then-not-word_is-2 : goal.returns-then-not-word_is-2
returns-then-not-word_is-2 c =
    let asked = c.args in
    let words = asked.words.now in
    let e = end_in (slots_in words) asked.start asked.n in
    let ends : c.end_of-end.result ≡ e = cc in
    let cut = after_start words asked.start asked.n c.requires in
    has_not asked.used words asked.start (e - asked.start) c.loop-i.i (omega (arith, (before_end _ _ _ _ ends).0)) _ _ c.word_is-in-loop-i.ensures
    (c.run_mask-in-loop-i.ensures ∙ part_whole asked.start (asked.start + (e - asked.start)) c.loop-i.i (omega arith) (omega arith)) c.if-not-word_is-2.true

pub loop-i-preserved : goal.loop-i-preserved
loop-i-preserved c =
    let asked = c.args in
    let words = asked.words.now in
    let e = end_in (slots_in words) asked.start asked.n in
    let ends : c.end_of-end.result ≡ e = cc in
    let cut = after_start words asked.start asked.n c.requires in
    has_on asked.used words asked.start (e - asked.start) c.loop-i.i (omega (arith, (before_end _ _ _ _ ends).0)) _ _ c.word_is-in-loop-i.ensures
    (c.run_mask-in-loop-i.ensures ∙ part_whole asked.start (asked.start + (e - asked.start)) c.loop-i.i (omega arith) (omega arith)) c.if-not-word_is-2.false c.loop-i.invariant

-- ---- the last word

pub returns-then-last-start : goal.returns-then-last-start
returns-then-last-start c =
    let asked = c.args in
    let words = asked.words.now in
    let e = end_in (slots_in words) asked.start asked.n in
    let ends : c.end_of-end.result ≡ e = cc in
    let cut = after_start words asked.start asked.n c.requires in
    let past : c.end_of-end.result ≤ c.loop-i.i * 64 = elim c.then-last-start.branch [
      | then-last-start-via-then-last-start w ↦ omega arith
      | then-last-start-via-else-last-start+then-end-eq0 w ↦ omega arith
    ] in
    has_all asked.used words asked.start (e - asked.start) c.loop-i.i c.loop-i.invariant (λ p named b. absurd (omega (arith, named.1)))

pub bounds-words-last : goal.bounds-words-last
bounds-words-last c = (word_there c.args.words.now (c.end_of-end.result / 64) (omega (arith, (before_end _ _ _ _ c.end_of-end.ensures).0))).0

pub returns : goal.returns
returns c =
    let asked = c.args in
    let words = asked.words.now in
    let e = end_in (slots_in words) asked.start asked.n in
    let ends : c.end_of-end.result ≡ e = cc in
    let cut = after_start words asked.start asked.n c.requires in
    let i = c.loop-i.i in
    let here : i ≡ c.end_of-end.result / 64 = omega arith in
    has_last asked.used words asked.start (e - asked.start) i (omega (arith, (before_end _ _ _ _ ends).0)) _ _
    (c.word_is-2.ensures ∙ ap (λ (j : ℕ). mask_has asked.used (get_or words j 0) c.run_mask-2.result) (sym here))
    (c.run_mask-2.ensures ∙ ap (run_mask 0) (omega arith) ∙ part_to_end asked.start (asked.start + (e - asked.start)) i (omega arith) (omega arith)) (omega arith) c.loop-i.invariant
