-- What the private functions of the runner do: each enum of the code in the terms of `Fields` and `Report`, and what is put into a report. Rests on
-- these two.
use Rattle.std.specs.Prelude.{◌≡◌, List, ◌++◌, ℕ, ◌+◌, ◌≤◌, ◌<◌, length, take, drop, Result}
use Rattle.std.proofs.Common.{sym, ap, ◌∙◌, append_assoc, length-append, drop-drop, zero-add}
use Rattle.std.proofs.Math.Seq.{take-append_seam, drop-append-add}
use Rattle.answers.specs.Said.{Said, refused}
use Rattle.answers.specs.Refusals.{number_of}
use Rattle.answers.specs.Answers.{answer_says}
use Rattle.answers.specs.declared.Reply.{Reply}
use Rattle.answers.specs.declared.Refusal.{Refusal}
use Rattle.answers.specs.declared.Changed.{Changed}
use Rattle.slots.specs.Plain.{take as askTake, claim as askClaim, free as askFree}
use Rattle.tree.specs.declared.Tree.{Tree}
use Rattle.runner.specs.declared.Step.{Step}
use Rattle.runner.specs.declared.fields.Kind.{Kind as CodeKind}
use Rattle.runner.specs.declared.fields.Kind.TheVariants.{Take as Kind-as-Take, Claim as Kind-as-Claim, Free as Kind-as-Free, Skip as Kind-as-Skip, Stop as Kind-as-Stop}
use Rattle.runner.specs.declared.fields.Field.{Field as CodeField}
use Rattle.runner.specs.declared.fields.Field.TheVariants.{Take as Field-as-Take, Claim as Field-as-Claim, Free as Field-as-Free, Skip as Field-as-Skip, Bad as Field-as-Bad, Cut as Field-as-Cut}
use Rattle.runner.specs.declared.fields.Piece.{Piece}
use Rattle.runner.specs.declared.lines.Line.{Line as CodeLine}
use Rattle.runner.specs.declared.lines.Line.TheVariants.{Said as Line-as-Said, Skipped as Line-as-Skipped, Stopped as Line-as-Stopped, Short as Line-as-Short}
use Rattle.bits.specs.Buffers.{put_at}
use Rattle.report.specs.Fields.{Kind, takes, claims, frees, skips, stops, Field, call, skip, bad, cut, first_field}
use Rattle.report.specs.Report.{Line, said, skipped, stopped, short, carried, empty_tree, over}

abbrev pub kind_says : CodeKind → Kind
kind_says Kind-as-Take = takes
kind_says Kind-as-Claim = claims
kind_says Kind-as-Free = frees
kind_says Kind-as-Skip = skips
kind_says Kind-as-Stop = stops

abbrev pub field_says : CodeField → Field
field_says (Field-as-Take n a) = call (askTake n a)
field_says (Field-as-Claim start n) = call (askClaim start n)
field_says (Field-as-Free start n) = call (askFree start n)
field_says Field-as-Skip = skip
field_says Field-as-Bad = bad
field_says Field-as-Cut = cut

abbrev pub answer_line : Result Reply Refusal → Line
answer_line answer = said (answer_says answer)

abbrev pub line_says : CodeLine → Line
line_says (Line-as-Said answer) = answer_line answer
line_says Line-as-Skipped = skipped
line_says Line-as-Stopped = stopped
line_says Line-as-Short = short

-- the first field of the bytes from an offset on, and the bytes from the next one on, which is further
pub record PieceSays (bytes : List ℕ) (offset : ℕ) (r : Piece) : Type 0 where
  pub reads_as : ◌≡◌ {A = Field × List ℕ} (field_says r.field, drop r.next bytes) (first_field (drop offset bytes))
  pub further : offset < r.next
  pub inside : r.next ≤ length bytes

-- a run that was refused
abbrev pub RefusedSays : Refusal → Result ℕ Refusal → Tree → Type 0
RefusedSays why r map = ◌≡◌ {A = Said ℕ × Tree} (answer_says r, map) (refused (number_of why), empty_tree)

-- the line of a call and the map that it left; the line of any field and the map that it leaves
abbrev pub SaidSays : Changed Refusal Tree → Step → Type 0
SaidSays changed r = ◌≡◌ {A = Line × Tree} (line_says r.line, r.map) (answer_line changed.answer, changed.map)

abbrev pub StepSays : Tree → CodeField → Step → Type 0
StepSays t field r = (line_says r.line, r.map) ≡ carried t (field_says field)

-- what is put at a buffer's start
pub put_start : (buffer text : List ℕ) → put_at buffer 0 text ≡ over text buffer
unfolding put_at
put_start buffer text = ap (λ (n : ℕ). text ++ drop n buffer) (zero-add (length text))

-- what follows the report so far makes the report longer
pub put_over : (buffer text more : List ℕ) → put_at (over text buffer) (length text) more ≡ over (text ++ more) buffer
unfolding put_at
put_over buffer text more = (λ i. front i ++ (more ++ back i)) ∙ sym (append_assoc text more (drop (length (text ++ more)) buffer))
  where
    front : take (length text) (over text buffer) ≡ text
    front = take-append_seam text (drop (length text) buffer)

    back : drop (length text + length more) (over text buffer) ≡ drop (length (text ++ more)) buffer
    back =
        drop-append-add text (drop (length text) buffer) (length more)
        ∙ drop-drop (length more) (length text) buffer
        ∙ ap (λ (n : ℕ). drop n buffer) (sym (length-append text more))
