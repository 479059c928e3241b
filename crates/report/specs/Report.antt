-- Carrying fields out, and the report: each field's line is the answer of its own call on the map that the one before left, as in the series of
-- demand 3. It has no limit of length of its own; the runner's limits stand in front, in `ran`. Rests on `Fields`, on the tree's view and on `answers`.
use Rattle.std.specs.Prelude.{◌≡◌, true, false, List, [], ◌∷◌, ◌++◌, ℕ, ◌≤◌, ◌<◌, ltb, length, drop, Result}
use Rattle.std.proofs.Common.{ap, ◌∙◌, append-nil}
use borrow.Author.Tests.{lt-ltb, le-ltb}
use Rattle.answers.specs.Said.{Said, value, refused, ◌when◌, judged, leaving}
use Rattle.answers.specs.Answers.{answer_says}
use Rattle.answers.specs.declared.Reply.{Reply}
use Rattle.answers.specs.declared.Reply.TheVariants.{At as at, Done as ok}
use Rattle.answers.specs.declared.Refusal.{Refusal}
use Rattle.texts.specs.Decimal.{decimal}
use Rattle.texts.specs.Texts.{end}
use Rattle.slots.specs.Sets.{none}
use Rattle.slots.specs.Calls.{used_call}
use Rattle.slots.specs.Series.{made}
use Rattle.tree.specs.declared.Tree.{Tree}
use Rattle.tree.specs.Layout.{tree_view, slot_of, of_slots, tree_calls}
use Rattle.report.specs.Fields.{Field, call, skip, bad, cut, fields, fields_none}

-- ---- lines

pub data Line : Type 0 where
  -- what a call said
  said : Said Reply → Line
  -- what became of a field that was no call
  skipped : Line
  stopped : Line
  short : Line
  -- how many slots are used in the end
  used : ℕ → Line

-- ---- the words

-- the words, in bytes: `at `, `ok`, `no `, `skip`, `bad`, `cut`, `big`, `used `
abbrev pub at_word : List ℕ
at_word = 97 ∷ 116 ∷ 32 ∷ []

abbrev pub ok_word : List ℕ
ok_word = 111 ∷ 107 ∷ []

abbrev pub no_word : List ℕ
no_word = 110 ∷ 111 ∷ 32 ∷ []

abbrev pub skip_word : List ℕ
skip_word = 115 ∷ 107 ∷ 105 ∷ 112 ∷ []

abbrev pub bad_word : List ℕ
bad_word = 98 ∷ 97 ∷ 100 ∷ []

abbrev pub cut_word : List ℕ
cut_word = 99 ∷ 117 ∷ 116 ∷ []

abbrev pub big_word : List ℕ
big_word = 98 ∷ 105 ∷ 103 ∷ []

abbrev pub used_word : List ℕ
used_word = 117 ∷ 115 ∷ 101 ∷ 100 ∷ 32 ∷ []

-- a word and a number
abbrev pub numbered : List ℕ → ℕ → List ℕ
numbered word n = word ++ (decimal n ++ end)

-- a line's bytes
abbrev pub written : Line → List ℕ
written (said (value (at n))) = numbered at_word n
written (said (value ok)) = ok_word ++ end
written (said (refused k)) = numbered no_word k
written skipped = skip_word ++ end
written stopped = bad_word ++ end
written short = cut_word ++ end
written (used n) = numbered used_word n

-- ---- carrying out

-- the line of one field, and the map that it leaves
abbrev pub carried : Tree → Field → Line × Tree
carried t (call asked) = let out = made tree_view tree_calls t asked in (said out.0, out.1)
carried t skip = (skipped, t)
carried t bad = (stopped, t)
carried t cut = (short, t)

-- the map that some fields leave
abbrev pub left_by : Tree → List Field → Tree
left_by t [] = t
left_by t (field ∷ rest) = left_by (carried t field).1 rest

-- the lines of some fields from a map on, and last how many slots are used
unfoldable pub lines_of : Tree → List Field → List Line
lines_of t [] = used (used_call 10 (slot_of t)).answer ∷ []
lines_of t (field ∷ rest) = let out = carried t field in out.0 ∷ lines_of out.1 rest

unfoldable pub text_of : List Line → List ℕ
text_of [] = []
text_of (line ∷ lines) = written line ++ text_of lines

-- ---- the report

unfoldable pub report_from : Tree → List ℕ → List ℕ
report_from t bytes = text_of (lines_of t (fields bytes))

-- ---- the report, a field at a time: its line, and the report of what is left from the map that it left; and last the count

pub report_end : (t : Tree) → report_from t [] ≡ written (used (used_call 10 (slot_of t)).answer)
unfolding report_from lines_of text_of
report_end t = ap (λ (fs : List Field). text_of (lines_of t fs)) fields_none ∙ append-nil _

-- the runner starts from the empty tree
abbrev pub empty_tree : Tree
empty_tree = of_slots none

abbrev pub report_of : List ℕ → List ℕ
report_of bytes = report_from empty_tree bytes

-- the map that a record leaves
abbrev pub left_of : List ℕ → Tree
left_of bytes = left_by empty_tree (fields bytes)

-- the text at the buffer's start; the bytes after it stay
abbrev pub over : List ℕ → List ℕ → List ℕ
over text buffer = text ++ drop (length text) buffer

-- what is said and what the buffer then holds: 12 comes before 11
unfoldable pub ran : List ℕ → List ℕ → Said ℕ × List ℕ
ran bytes buffer =
    leaving (judged ((12 when ltb 32768 (length bytes)) ∷ (11 when ltb (length buffer) 54624) ∷ []) (length (report_of bytes)))
    (λ _. over (report_of bytes) buffer) buffer

-- 12: the record is too long; then 11: the buffer is too short; else the report stands at the buffer's start
module _ (bytes buffer : List ℕ) where
  pub ran_too_long : 32768 < length bytes → ran bytes buffer ≡ (refused 12, buffer)
  unfolding ran leaving judged
  ran_too_long long = rw (lt-ltb 32768 (length bytes) long)

  pub ran_too_short : length bytes ≤ 32768 → length buffer < 54624 → ran bytes buffer ≡ (refused 11, buffer)
  unfolding ran leaving judged
  ran_too_short limit little = rw (le-ltb 32768 (length bytes) limit, lt-ltb (length buffer) 54624 little)

  pub ran_accepted : length bytes ≤ 32768 → 54624 ≤ length buffer → ran bytes buffer ≡ (value (length (report_of bytes)), over (report_of bytes) buffer)
  unfolding ran leaving judged
  ran_accepted limit room = rw (le-ltb 32768 (length bytes) limit, le-ltb (length buffer) 54624 room)

-- the same, and the map that the record leaves; a run that is refused leaves the empty tree
unfoldable pub ran_map : List ℕ → List ℕ → Said ℕ × List ℕ × Tree
ran_map bytes buffer = let out = ran bytes buffer in (out.0, out.1, (leaving out.0 (λ _. left_of bytes) empty_tree).1)

module _ (bytes buffer : List ℕ) where
  pub map_refused : (k : ℕ) → ran bytes buffer ≡ (refused k, buffer) → ran_map bytes buffer ≡ (refused k, buffer, empty_tree)
  unfolding ran_map leaving
  map_refused k e = rw e

  pub map_accepted : length bytes ≤ 32768 → 54624 ≤ length buffer → ran_map bytes buffer ≡ (value (length (report_of bytes)), over (report_of bytes) buffer, left_of bytes)
  unfolding ran_map leaving
  map_accepted limit room = rw (ran_accepted bytes buffer limit room)

-- the contracts
abbrev pub RunSays : List ℕ → List ℕ → Result ℕ Refusal → List ℕ → Type 0
RunSays bytes before r after = (answer_says r, after) ≡ ran bytes before

abbrev pub RunMapSays : List ℕ → List ℕ → Result ℕ Refusal → Tree → List ℕ → Type 0
RunMapSays bytes before r map after = (answer_says r, after, map) ≡ ran_map bytes before

-- ---- what the program writes: the report, or for a record that is too long only `big`

unfoldable pub output_of : List ℕ → List ℕ
output_of bytes = elim (ltb 32768 (length bytes)) [ true ↦ big_word ++ end | false ↦ report_of bytes ]

pub output_big : (bytes : List ℕ) → 32768 < length bytes → output_of bytes ≡ big_word ++ end
unfolding output_of
output_big bytes long = rw (lt-ltb 32768 (length bytes) long, output_of)

pub output_report : (bytes : List ℕ) → length bytes ≤ 32768 → output_of bytes ≡ report_of bytes
unfolding output_of
output_report bytes limit = rw (le-ltb 32768 (length bytes) limit, output_of)

abbrev pub OutputSays : List ℕ → List ℕ → ℕ → List ℕ → Type 0
OutputSays bytes before r after = ◌≡◌ {A = ℕ × List ℕ} (r, after) (length (output_of bytes), over (output_of bytes) before)
