-- The lines always fit: those of a tree have at most 19,499 bytes, within the 20,480 of the text. Rests on `Lines` and on the demands of `gaps`.
use Rattle.std.specs.Prelude.{◌≡◌, refl, Bool, true, false, not, List, [], ◌∷◌, ◌++◌, ℕ, suc, ◌+◌, ◌*◌, ◌≤◌, length}
use Rattle.std.proofs.Common.{inl, inr, mul-suc, arith, length-append}
use Rattle.answers.specs.Said.{Said, value, refused}
use Rattle.answers.specs.declared.Run.{Run}
use Rattle.bits.specs.Range.{count_most}
use Rattle.texts.specs.Decimal.{decimal, decimal_short}
use Rattle.texts.specs.Texts.{joined, joined_more}
use Rattle.slots.specs.Sets.{Slots}
use Rattle.slots.specs.Calls.{says}
use Rattle.slots.specs.Runs.{end_of, Listed}
use Rattle.slots.specs.Gaps.{runs_of, longest_call, listed_exactly}
use Rattle.slots.proofs.Gaps.{longest_promise}
use Rattle.gaps.specs.Demands.{most_runs}
use Rattle.gap_report.specs.Lines.{free_word, used_word, longest_word, run_line, run_lines, longest_line, slots_line, free_slots, lines_of}

-- a number of at most four digits
short : (n : ℕ) → n ≤ 1024 → length (decimal n) ≤ 4
unfolding decimal
short n small = decimal_short 3 (suc n) n (omega arith)

-- a run of a tree has ten bytes behind its word
line_short : (word : List ℕ) (r : Run) → end_of r ≤ 1024 → length (joined (run_line word r)) ≤ length word + 10
unfolding joined
line_short word r ends =
    let first = short r.start (omega arith) in
    let second = short r.length (omega arith) in
    simp length-append (omega (arith, first, second))

lines_short : (word : List ℕ) (rs : List Run) → ((r : Run) → Listed r rs → end_of r ≤ 1024) → length (joined (run_lines word rs)) ≤ (length word + 10) * length rs
unfolding joined
lines_short word [] each = omega arith
lines_short word (r ∷ rs) each =
    let one = line_short word r (each r (inl refl)) in
    let rest = lines_short word rs (λ q is. each q (inr is)) in
    let both = joined_more (run_line word r) (run_lines word rs) in
    let more = mul-suc (length word + 10) (length rs) in
    omega (arith, one, rest, both, more)

-- the runs of a tree end in it
runs_inside : (v : Bool) (S : Slots) (r : Run) → Listed r (runs_of 10 v S) → end_of r ≤ 1024
runs_inside v S r is = omega (arith, ((listed_exactly 10 v S r).0 is).is_run.ends)

longest_short : (S : Slots) → length (joined (longest_line (says (longest_call 10 S)))) ≤ 27
unfolding joined
longest_short S = by (says (longest_call 10 S)) (λ r said. omega (arith, ((longest_promise 10 S r).0 said).whole.is_run.ends))
  where
    by : (said : Said Run) → ((r : Run) → said ≡ value r → end_of r ≤ 1024) → length (joined (longest_line said)) ≤ 27
    by (value r) inside = line_short longest_word r (inside r refl)
    by (refused k) inside = omega arith

slots_short : (n : ℕ) → n ≤ 1024 → length (joined (slots_line n)) ≤ 16
unfolding joined
slots_short n small = let digits = short n small in simp length-append (omega (arith, digits))

-- each report has at most 512 lines of 19 bytes, and two lines more have 27 and 16
pub lines_fit : (S : Slots) → length (joined (lines_of 10 S)) ≤ 19499
unfolding lines_of
lines_fit S =
    let free = run_lines free_word (runs_of 10 false S) in
    let held = run_lines used_word (runs_of 10 true S) in
    let longest = longest_line (says (longest_call 10 S)) in
    let last = slots_line (free_slots 10 S) in
    let frees = lines_short free_word (runs_of 10 false S) (runs_inside false S) in
    let helds = lines_short used_word (runs_of 10 true S) (runs_inside true S) in
    omega (
      arith,
      joined_more free (held ++ (longest ++ last)),
      joined_more held (longest ++ last),
      joined_more longest last,
      frees,
      helds,
      most_runs false S,
      most_runs true S,
      longest_short S,
      slots_short (free_slots 10 S) (count_most (λ i. not (S i)) 0 1024),
    )
