-- What stood in specs/Demands and rests on theorems there: moved, its statements unchanged. Rests on `Demands`.
use Rattle.std.specs.Prelude.{◌≡◌, refl, List, ℕ, ◌≤◌, ltb, length, Result}
use Rattle.std.proofs.Math.Path.{sym, ap}
use Rattle.std.proofs.Common.{◌∙◌, inl, arith, ltb-true, ltb-false}
use Rattle.answers.specs.Said.{value}
use Rattle.answers.specs.Answers.{answer_says}
use Rattle.answers.specs.declared.Refusal.{Refusal}
use Rattle.bits.specs.Range.{either}
use Rattle.slots.specs.Calls.{used_call}
use Rattle.slots.specs.Series.{answers_of}
use Rattle.tree.specs.Layout.{tree_view, slot_of, tree_calls}
use Rattle.report.specs.Fields.{fields}
use Rattle.report.specs.Report.{Line, used, lines_of, empty_tree, left_of, RunSays, output_of, output_big, output_report}
use Rattle.report.proofs.Limits.{report_fits}
use Rattle.report.specs.Demands.{run_accepts, said_in, last_in, lines_answer, last_counts, asked}

-- ---- refusals

module _ (bytes buffer : List ℕ) where
  -- the report that is said to be there has room in its buffer
  pub run_fits : (r : Result ℕ Refusal) (after : List ℕ) → RunSays bytes buffer r after → (n : ℕ) → answer_says r ≡ value n → n ≤ 54624
  run_fits r after says n e =
      let accepted = (run_accepts bytes buffer n).0 (sym (ap (λ x. x.0) says) ∙ e) in
      either (ltb 32768 (length bytes))
      (λ long. absurd (accepted.0 12 (inl (refl, ltb-true 32768 (length bytes) long))))
      (λ limit. omega (arith, accepted.1, report_fits bytes (ltb-false 32768 (length bytes) limit)))

-- what the program writes: one outcome, and it always fits
module _ (bytes : List ℕ) where
  pub output_fits : length (output_of bytes) ≤ 54624
  output_fits =
      either (ltb 32768 (length bytes))
      (λ long. rw (output_big bytes (ltb-true _ _ long)) (omega arith))
      (λ limit. let short_enough = report_fits bytes (ltb-false _ _ limit) in rw (output_report bytes (ltb-false _ _ limit)) (omega (arith, short_enough)))

-- ---- of the runner, which starts from the empty tree

module _ (bytes : List ℕ) where
  pub run_answers : said_in (lines_of empty_tree (fields bytes)) ≡ answers_of tree_view tree_calls empty_tree (asked bytes)
  run_answers = lines_answer empty_tree (fields bytes)

  pub run_counts : (line : Line) → last_in line (lines_of empty_tree (fields bytes)) ≡ used (used_call 10 (slot_of (left_of bytes))).answer
  run_counts line = last_counts empty_tree (fields bytes) line
