-- `compared_records::answer` is safe: what is handed on is the report. Assumes nothing.
use Rattle.std.specs.Prelude.{Result, Ok}
use Rattle.std.proofs.Common.{◌≡◌, ℕ, ◌≤◌, List, length, sym, ap, arith, rules, length-take-le}
use Rattle.answers.specs.declared.Refusal.{Refusal}
use Rattle.report.specs.Report.{RunSays}
use Rattle.answers.specs.Answers.{answer_says}
use Rattle.report.specs.Demands.{run_map_runs}
use Rattle.report.proofs.Demands.{run_fits}
use Rattle.compared_records.proofs.answer.Goals as goal

-- the report has room
inside : (bytes before after : List ℕ) (r : Result ℕ Refusal) (n : ℕ) → RunSays bytes before r after → length after ≡ 54624 → r ≡ Ok n → n ≤ length after
inside bytes before after r n ran long is = omega (arith, long, run_fits bytes before r after ran n (ap answer_says is))

pub slice_bounds-report-end : goal.slice_bounds-report-end
slice_bounds-report-end g c = inside _ _ _ _ _ (run_map_runs _ _ _ _ _ c.run_map-ran.ensures) (search rules) c.in-Ok.is

pub slice_bounds-write_with-end : goal.slice_bounds-write_with-end
slice_bounds-write_with-end g c = sym (length-take-le _ _ (inside _ _ _ _ _ (run_map_runs _ _ _ _ _ c.run_map-ran.ensures) (search rules) c.in-Ok.is))
