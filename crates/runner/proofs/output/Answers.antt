-- `runner::output` meets its contract: the report, and `big` exactly where the runner refuses, since the buffer is never too short. Assumes nothing.
use mathlib.Core.Path.{◌≡◌, sym, ap, ◌∙◌}
use mathlib.Core.List.{List, ◌++◌}
use Prim.Native.Nat.{ℕ, ◌≤◌}
use native.Mathlib.Omega.{arith}
use lib.ListN.{length}
use lib.Dec.{ltb}
use borrow.Author.Rules.{rules}
use borrow.Author.Tests.{ltb-true, ltb-false}
use Rattle.answers.specs.Said.{value≢refused, value_injective}
use Rattle.std.specs.Prelude.{Result, Ok, Err}
use Rattle.answers.specs.Answers.{answer_says}
use Rattle.answers.specs.declared.Refusal.{Refusal}
use Rattle.bits.specs.Range.{either}
use Rattle.texts.specs.Texts.{end}
use Rattle.report.specs.Report.{big_word, ran, ran_too_long, ran_accepted, RunSays, output_big, output_report, OutputSays}
use Rattle.bits.specs.Buffers.{put_at}
use Rattle.runner.proofs.output.Goals as goal

module _ (bytes before mid : List ℕ) (r : Result ℕ Refusal) (outcome : RunSays bytes before r mid) (room : 54624 ≤ length before) where
  said : (out : _) → ran bytes before ≡ out → answer_says r ≡ out.0
  said out is = ap (λ o. o.0) (outcome ∙ is)

  left : (out : _) → ran bytes before ≡ out → mid ≡ out.1
  left out is = ap (λ o. o.1) (outcome ∙ is)

  -- a refusal is for the record's length, and keeps the buffer
  said_big : (why : Refusal) → r ≡ Err why → (n : ℕ) (after : List ℕ) → n ≡ 4 → after ≡ put_at mid 0 (big_word ++ end) → OutputSays bytes before n after
  unfolding put_at
  said_big why is n after ends put =
      either (ltb 32768 (length bytes))
      (λ long.
      let too_long = ltb-true 32768 (length bytes) long in
      rw (output_big bytes too_long) (λ i. (ends i, (put ∙ ap (λ (buffer : List ℕ). put_at buffer 0 (big_word ++ end)) (left _ (ran_too_long bytes before too_long))) i)))
      (λ limit. absurd (value≢refused _ _ (sym (said _ (ran_accepted bytes before (ltb-false 32768 (length bytes) limit) room)) ∙ ap answer_says is)))

  reported : (n : ℕ) → r ≡ Ok n → OutputSays bytes before n mid
  reported n is =
      either (ltb 32768 (length bytes))
      (λ long. absurd (value≢refused _ _ (sym (ap answer_says is) ∙ said _ (ran_too_long bytes before (ltb-true 32768 (length bytes) long)))))
      (λ limit.
      let accepted = ran_accepted bytes before (ltb-false 32768 (length bytes) limit) room in
      rw (output_report bytes (ltb-false 32768 (length bytes) limit))
      (λ i. (value_injective (sym (ap answer_says is) ∙ said _ accepted) i, left _ accepted i)))

pub returns-in-Err : goal.returns-in-Err
unfolding put_at
returns-in-Err c =
    let sized : length c.args.text.now ≡ 54624 = search rules in
    said_big c.args.«record».now c.args.text.now _ c.run.result c.run.ensures (omega (arith, sized)) _ c.in-Err.is _ _ c.put.ensures.value c.put.ensures.report_after

pub returns-in-Ok : goal.returns-in-Ok
returns-in-Ok c =
    let sized : length c.args.text.now ≡ 54624 = search rules in
    reported c.args.«record».now c.args.text.now _ c.run.result c.run.ensures (omega (arith, sized)) _ c.in-Ok.is
