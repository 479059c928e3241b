-- The runner's loop: what is written is the report so far, and what is left to write is the report of the bytes that are left, from the map that
-- stands. Assumes nothing.
use mathlib.Core.Path.{◌≡◌, refl, sym, ap, ◌∙◌}
use mathlib.Core.List.{List, [], ◌∷◌, ◌++◌, append_assoc, append-nil}
use Prim.Native.Nat.{ℕ, suc, ◌+◌, ◌≤◌, ◌<◌}
use native.Mathlib.Omega.{arith}
use lib.ListN.{length, get_or, take, drop, length-append, length-drop, drop_of_length-le}
use lib.Seq.{drop-cons, drop-drop, take_all}
use Rattle.std.proofs.Common.{le_of_eq, ◌-◌}
use borrow.Rule.Slice.PartMut.{put_mid, post_of}
use Rattle.answers.specs.Said.{value, judged, value≢refused, value_injective}
use Rattle.std.specs.Prelude.{Result, Ok, Err}
use Rattle.std.specs.Result.{IsOk}
use Rattle.answers.specs.Answers.{answer_says}
use Rattle.answers.specs.declared.Refusal.{Refusal}
use Rattle.slots.specs.Sets.{none}
use Rattle.slots.specs.Calls.{says, used_call}
use Rattle.slots.specs.View.{sound_answers}
use Rattle.tree.specs.declared.Tree.{Tree}
use Rattle.tree.specs.Layout.{tree_view, slot_of, of_slots, Sound}
use Rattle.tree.specs.Says.{UsedSays}
use Rattle.runner.specs.declared.Step.{Step}
use Rattle.runner.specs.declared.fields.Piece.{Piece}
use Rattle.report.specs.Fields.{first_field, fields, fields_none}
use Rattle.report.proofs.Fields.{fields_first}
use Rattle.report.specs.Report.{used, written, carried, report_from, report_end, report_of, left_by, left_of, over, ran_map, map_accepted}
use Rattle.report.proofs.Report.{report_reads}
use Rattle.report.proofs.Limits.{report_fits}
use Rattle.report.specs.Demands.{carried_sound}
use Rattle.bits.specs.Buffers.{put_at}
use Rattle.runner.specs.Inner.{line_says, field_says, PieceSays, StepSays, put_over}

pub record Running (bytes before : List ℕ) (map : Tree) (next end : ℕ) (report : List ℕ) : Type 0 where
  -- the report so far
  pub done : List ℕ
  pub ends : end ≡ length done
  pub held : report ≡ over done before
  pub left : report_of bytes ≡ done ++ report_from map (drop next bytes)
  pub map_left : left_by map (fields (drop next bytes)) ≡ left_of bytes
  pub inside : next ≤ length bytes
  pub sound : Sound map
  -- what was judged before the loop
  pub limit : length bytes ≤ 32768
  pub room : 54624 ≤ length before

over_length : (text before : List ℕ) → length text ≤ length before → length (over text before) ≡ length before
over_length text before fits = simp (length-append, length-drop) (omega arith)

-- what is put at the start of what lies behind an offset
module _ (report : List ℕ) (end : ℕ) where
  abbrev behind : List ℕ
  behind = take (length report - end) (drop end report)

  behind_is : behind ≡ drop end report
  behind_is = take_all (length report - end) (drop end report) (le_of_eq (length-drop end report))

  pub rest_fits : (line : List ℕ) → end + length line ≤ length report → length line ≤ length behind
  rest_fits line fits = let long = ap length behind_is ∙ length-drop end report in omega (arith, fits, long)

  pub rest_put : (line part : List ℕ) → part ≡ over line behind → put_mid end (length report - end) report part ≡ put_at report end line
  unfolding put_at
  rest_put line part put =
      (λ i. take end report ++ ((put ∙ ap (over line) behind_is ∙ ap (λ (l : List ℕ). line ++ l) (drop-drop (length line) end report)) i ++ none i))
      ∙ ap (λ (l : List ℕ). take end report ++ l) (append-nil _)
    where
      none : post_of end (length report - end) report ≡ []
      none = drop-drop (length report - end) end report ∙ drop_of_length-le report {i = end + (length report - end)} (omega arith)

pub starts : (bytes before : List ℕ) (t : Tree) → t ≡ of_slots none → length bytes ≤ 32768 → 54624 ≤ length before → Running bytes before t 0 0 before
starts bytes before t is limit room = record {
  done = [];
  ends = refl;
  held = refl;
  left = ap (λ (map : Tree). report_from map bytes) (sym is);
  map_left = ap (λ (map : Tree). left_by map (fields bytes)) is;
  inside = omega arith;
  sound = rw is (tree_view.made_sound none tt);
  limit = limit;
  room = room;
}

module _ {bytes before : List ℕ} {map : Tree} {next end : ℕ} {report : List ℕ} (running : Running bytes before map next end report) where
  abbrev done : List ℕ
  done = running.done

  -- the buffer is as long as it was, and whatever comes next in the report has room in it
  whole : length (report_of bytes) ≡ length done + length (report_from map (drop next bytes))
  whole = ap length running.left ∙ length-append done (report_from map (drop next bytes))

  report_length : length report ≡ length before
  report_length =
      let fits = report_fits bytes running.limit in
      let room = running.room in
      ap length running.held ∙ over_length done before (omega (arith, whole, fits, room))

  has_room : (line rest : List ℕ) → report_from map (drop next bytes) ≡ line ++ rest → end + length line ≤ length report
  has_room line rest e =
      let fits = report_fits bytes running.limit in
      let room = running.room in
      let at_end = running.ends in
      let parts = ap length e ∙ length-append line rest in
      omega (arith, fits, whole, parts, report_length, room, at_end)

  -- and makes it longer
  puts : (line rest : List ℕ) → report_from map (drop next bytes) ≡ line ++ rest → (after : List ℕ) → after ≡ put_at report end line
      → (after ≡ over (done ++ line) before) × (report_of bytes ≡ (done ++ line) ++ rest)
  puts line rest e after put = (
    put ∙ (λ i. put_at (running.held i) (running.ends i) line) ∙ put_over before done line,
    running.left ∙ ap (λ (l : List ℕ). done ++ l) e ∙ sym (append_assoc done line rest),
  )

  longer : (line : List ℕ) (last : ℕ) → last ≡ end + length line → last ≡ length (done ++ line)
  longer line last e = let at_end = running.ends in let both = length-append done line in omega (arith, e, at_end, both)

  -- ---- a turn

  module _ (more : next < length bytes) {piece : Piece} (reads : PieceSays bytes next piece) (step : Step) (steps : StepSays map piece.field step) where
    abbrev line : List ℕ
    line = written (line_says step.line)

    abbrev rest : List ℕ
    rest = report_from step.map (drop piece.next bytes)

    first : drop next bytes ≡ get_or bytes next 0 ∷ drop (suc next) bytes
    first = drop-cons bytes next 0 more

    is_first : first_field (get_or bytes next 0 ∷ drop (suc next) bytes) ≡ (field_says piece.field, drop piece.next bytes)
    is_first = ap first_field (sym first) ∙ sym reads.reads_as

    line_first : report_from map (drop next bytes) ≡ line ++ rest
    line_first =
        ap (report_from map) first ∙ report_reads map (get_or bytes next 0) (drop (suc next) bytes) _ _ is_first
        ∙ sym (λ i. written (steps i).0 ++ report_from (steps i).1 (drop piece.next bytes))

    rest_left : left_by map (fields (drop next bytes)) ≡ left_by step.map (fields (drop piece.next bytes))
    rest_left =
        ap (λ (b : List ℕ). left_by map (fields b)) first
        ∙ ap (left_by map) (fields_first (get_or bytes next 0) (drop (suc next) bytes))
        ∙ (λ i. left_by (carried map (is_first i).0).1 (fields (is_first i).1))
        ∙ sym (λ i. left_by (steps i).1 (fields (drop piece.next bytes)))

    pub line_fits : end + length line ≤ length report
    line_fits = has_room line rest line_first

    pub turns : (last : ℕ) (after : List ℕ) → last ≡ end + length line → after ≡ put_at report end line → Running bytes before step.map piece.next last after
    turns last after ends put =
        let longer_by = puts line rest line_first after put in record {
          done = done ++ line;
          ends = longer line last ends;
          held = longer_by.0;
          left = longer_by.1;
          map_left = sym rest_left ∙ running.map_left;
          inside = reads.inside;
          sound = rw (ap (λ o. o.1) steps) (carried_sound map (field_says piece.field) running.sound);
          limit = running.limit;
          room = running.room;
        }

  -- ---- the end

  module _ (over-now : length bytes ≤ next) (count : Result ℕ Refusal) (counts : UsedSays map count) where
    counted : answer_says count ≡ value (used_call 10 (slot_of map)).answer
    unfolding says used_call judged
    counted = counts ∙ sound_answers tree_view map (used_call 10 (slot_of map)) running.sound

    pub not_refused : IsOk count
    not_refused = is_ok count refl
      where
        is_ok : (r : Result ℕ Refusal) → count ≡ r → IsOk r
        is_ok (Ok n) is = refl
        is_ok (Err why) is = absurd (value≢refused _ _ (sym counted ∙ ap answer_says is))

    module _ (n : ℕ) (is : count ≡ Ok n) where
      abbrev final : List ℕ
      final = written (used n)

      last_first : report_from map (drop next bytes) ≡ final ++ []
      last_first =
          ap (report_from map) (drop_of_length-le bytes {i = next} over-now) ∙ report_end map
          ∙ ap (λ (k : ℕ). written (used k)) (value_injective (sym counted ∙ ap answer_says is)) ∙ sym (append-nil final)

      pub last_fits : end + length final ≤ length report
      last_fits = has_room final [] last_first

      pub finishes : (last : ℕ) (after : List ℕ) → last ≡ end + length final → after ≡ put_at report end final → (value last, after, map) ≡ ran_map bytes before
      finishes last after ends put =
          let longer_by = puts final [] last_first after put in
          let all : done ++ final ≡ report_of bytes = sym (longer_by.1 ∙ append-nil (done ++ final)) in
          (λ i. (value (longer final last ends i), longer_by.0 i, stands i))
          ∙ (λ i. (value (length (all i)), over (all i) before, left_of bytes))
          ∙ sym (map_accepted bytes before running.limit running.room)
        where
          -- no byte is left, so the map that stands is what the record leaves
          stands : map ≡ left_of bytes
          stands = sym (ap (λ (b : List ℕ). left_by map (fields b)) (drop_of_length-le bytes {i = next} over-now) ∙ ap (left_by map) fields_none) ∙ running.map_left
