-- What stood in specs/Report and rests on theorems there: moved, its statements unchanged. Rests on `Report`.
use Rattle.std.specs.Prelude.{◌≡◌, List, ◌∷◌, ◌++◌, ℕ}
use Rattle.std.proofs.Common.{ap, ◌∙◌}
use Rattle.tree.specs.declared.Tree.{Tree}
use Rattle.report.specs.Fields.{Field, first_field}
use Rattle.report.proofs.Fields.{fields_first}
use Rattle.report.specs.Report.{written, carried, lines_of, text_of, report_from}

pub report_first : (t : Tree) (b : ℕ) (bytes : List ℕ)
    → let first = first_field (b ∷ bytes) in
    let out = carried t first.0 in
    report_from t (b ∷ bytes) ≡ written out.0 ++ report_from out.1 first.1
unfolding report_from lines_of text_of
report_first t b bytes = ap (λ (fs : List Field). text_of (lines_of t fs)) (fields_first b bytes)

pub report_reads : (t : Tree) (b : ℕ) (bytes : List ℕ) (field : Field) (rest : List ℕ) → first_field (b ∷ bytes) ≡ (field, rest)
    → report_from t (b ∷ bytes) ≡ written (carried t field).0 ++ report_from (carried t field).1 rest
report_reads t b bytes field rest first =
    report_first t b bytes ∙ (λ i. let out = carried t (first i).0 in written out.0 ++ report_from out.1 (first i).1)
