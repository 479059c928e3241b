-- Document 01's record and its report, and the empty record: two rows, and one statement that each holds, by computing. Rests on `Report`.
use Rattle.std.specs.Prelude.{◌≡◌, refl, List, [], ◌∷◌, ℕ}
use Rattle.answers.specs.Said.{judged, leaving}
use Rattle.texts.specs.Decimal.{decimal_within, decimal}
use Rattle.bits.specs.Bytes.{from_bytes}
use Rattle.bits.specs.Range.{least, every, count, within}
use Rattle.bits.specs.Digits.{digit, number}
use Rattle.slots.specs.Sets.{all_free, all_used, painted}
use Rattle.slots.specs.Lowest.{fits_at, lowest}
use Rattle.slots.specs.Calls.{take_call, claim_call, free_call, used_call}
use Rattle.slots.specs.View.{answered, changed}
use Rattle.views.specs.Words.{listed}
use Rattle.views.specs.Painting.{slots_in, slot_in}
use Rattle.report.specs.Fields.{first_field, fields_within, fields}
use Rattle.report.specs.Report.{lines_of, text_of, report_from, report_of}

-- a record, and its report
pub record Row : Type 0 where
  pub bytes : List ℕ
  pub report : List ℕ

abbrev pub EachReports : List Row → Type 0
EachReports [] = Unit {0}
EachReports (row ∷ rows) = (report_of row.bytes ≡ row.report) × EachReports rows

-- take 3 at a multiple of 4, take 2, free 1 to 3, free 0 and 1, take 4 at a multiple of 4
abbrev pub paper_record : List ℕ
paper_record =
    1 ∷ 3 ∷ 0 ∷ 3 ∷ 0 ∷ 2 ∷ 1 ∷ 3 ∷ 0 ∷ 2 ∷ 0 ∷ 0
    ∷ 3 ∷ 4 ∷ 0 ∷ 1 ∷ 0 ∷ 3 ∷ 0 ∷ 3 ∷ 4 ∷ 0 ∷ 0 ∷ 0 ∷ 2 ∷ 0
    ∷ 1 ∷ 3 ∷ 0 ∷ 4 ∷ 0 ∷ 2 ∷ []

-- the lines `at 0`, `at 3`, `ok`, `no 5`, `at 8`, `used 6`
abbrev pub paper_report : List ℕ
paper_report =
    97 ∷ 116 ∷ 32 ∷ 48 ∷ 10 ∷ 97 ∷ 116 ∷ 32 ∷ 51 ∷ 10 ∷ 111 ∷ 107 ∷ 10
    ∷ 110 ∷ 111 ∷ 32 ∷ 53 ∷ 10 ∷ 97 ∷ 116 ∷ 32 ∷ 56 ∷ 10 ∷ 117 ∷ 115 ∷ 101 ∷ 100 ∷ 32 ∷ 54 ∷ 10 ∷ []

-- and `used 0`
abbrev pub rows : List Row
rows =
    record { bytes = paper_record; report = paper_report }
    ∷ record { bytes = []; report = 117 ∷ 115 ∷ 101 ∷ 100 ∷ 32 ∷ 48 ∷ 10 ∷ [] }
    ∷ []

pub each_reports : EachReports rows
unfolding report_from text_of lines_of decimal decimal_within fields fields_within first_field from_bytes changed answered leaving judged take_call claim_call free_call used_call lowest fits_at least every count within all_free all_used painted slot_in slots_in digit number listed
each_reports = (refl, (refl, tt))
