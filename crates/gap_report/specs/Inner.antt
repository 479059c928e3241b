-- What a helper puts: the lines of the runs that pairs of numbers are. Rests on `Lines`.
use Rattle.std.specs.Prelude.{List, [], ◌∷◌, ◌++◌, ℕ, get_or}
use Rattle.answers.specs.Answers.{run}
use Rattle.gap_report.specs.Lines.{run_line}

-- a line for each pair, a start and a length
unfoldable pub lines_in : List ℕ → List (List ℕ) → List (List ℕ)
lines_in word [] = []
lines_in word (pair ∷ pairs) = run_line word (run (get_or pair 0 0) (get_or pair 1 0)) ++ lines_in word pairs
