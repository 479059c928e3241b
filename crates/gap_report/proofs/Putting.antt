-- What the loop over the list knows at each turn, and that the lines of a list are those of the runs. Assumes nothing.
use Rattle.std.specs.Prelude.{Result, Ok, Err}
use mathlib.Core.Path.{◌≡◌, refl, sym, ap, ap₂, ◌∙◌}
use mathlib.Core.Bool.{Bool, true}
use mathlib.Core.List.{List, [], ◌∷◌, ◌++◌}
use Prim.Native.Nat.{ℕ, ◌+◌, ◌*◌, ◌/◌, ◌≤◌, ◌<◌}
use native.Mathlib.Omega.{arith}
use lib.ListN.{length, get_or, take, drop}
use Rattle.std.specs.Result.{IsOk}
use Rattle.std.specs.Simd.{first_chunks}
use Rattle.std.proofs.Math.Seq.{take-append_seam}
use Rattle.std.proofs.lemmas.List.{drop_all, at_drop_more}
use Rattle.answers.specs.Said.{value, value≢refused, value_injective}
use Rattle.answers.specs.Answers.{run, answer_says}
use Rattle.answers.specs.declared.Refusal.{Refusal}
use Rattle.answers.specs.declared.Run.{Run}
use Rattle.bits.specs.Buffers.{put_at}
use Rattle.texts.specs.Texts.{put_all, put_all_more}
use Rattle.slots.specs.Gaps.{runs_of, flat, flat_long}
use Rattle.tree.specs.declared.Tree.{Tree}
use Rattle.tree.specs.Layout.{slot_of, tree_view}
use Rattle.gaps.specs.Says.{RunsSays}
use Rattle.gaps.specs.Demands.{most_runs}
use Rattle.gaps.proofs.Outcomes.{list_whole}
use Rattle.gap_report.specs.Lines.{run_line, run_lines}
use Rattle.gap_report.specs.Inner.{lines_in}

-- ---- a turn: the lines that are left make of what is held what all of them make of what was held first

pub record Putting (word : List ℕ) (pairs : List (List ℕ)) (first held : ℕ × List ℕ) (j : ℕ) : Type 0 where
  pub so_far : put_all held (lines_in word (drop j pairs)) ≡ put_all first (lines_in word pairs)

module _ (word : List ℕ) (pairs : List (List ℕ)) (first : ℕ × List ℕ) where
  pub putting_first : Putting word pairs first first 0
  putting_first = record { so_far = refl }

  module _ (held : ℕ × List ℕ) (j : ℕ) (known : Putting word pairs first held j) where
    pub putting_on : j < length pairs → (s n : ℕ) → s ≡ get_or (get_or pairs j []) 0 0 → n ≡ get_or (get_or pairs j []) 1 0
        → (next : ℕ × List ℕ) → next ≡ put_all held (run_line word (run s n)) → Putting word pairs first next (j + 1)
    unfolding lines_in
    putting_on l s n starts lengths next put = record {
      so_far = ap (λ (h : ℕ × List ℕ). put_all h (lines_in word (drop (j + 1) pairs))) (put ∙ ap (λ (r : Run). put_all held (run_line word r)) (ap₂ run starts lengths))
          ∙ sym (put_all_more (run_line word (run (get_or (get_or pairs j []) 0 0) (get_or (get_or pairs j []) 1 0))) (lines_in word (drop (j + 1) pairs)) held)
          ∙ sym (at_drop_more (λ ps. put_all held (lines_in word ps)) pairs j [] l)
          ∙ known.so_far;
    }

    pub putting_last : length pairs ≤ j → held ≡ put_all first (lines_in word pairs)
    unfolding lines_in put_all
    putting_last past = sym (ap (λ (ps : List (List ℕ)). put_all held (lines_in word ps)) (drop_all j pairs past)) ∙ known.so_far

-- ---- the lines of a list that is these runs

pub lines_are : (word : List ℕ) (rs : List Run) → lines_in word (first_chunks 2 (length rs) (flat rs)) ≡ run_lines word rs
unfolding lines_in
lines_are word [] = refl
lines_are word (r ∷ rs) = ap (λ (rest : List (List ℕ)). run_line word r ++ rest) (lines_are word rs)

-- ---- what a list of a sound tree has, where the buffer is long enough

module _ (t : Tree) (v : Bool) (before : List ℕ) (r : Result ℕ Refusal) (after : List ℕ) (outcome : RunsSays t v before r after) (sound : tree_view.is_sound t ≡ true)
    (long : 1024 ≤ length before) where
  abbrev runs : List Run
  runs = runs_of 10 v (slot_of t)

  accepted : answer_says r ≡ value (length runs)
  accepted = ap (λ out. out.0) (outcome ∙ list_whole v t before sound long)

  pub not_refused : IsOk r
  not_refused = is_ok r refl
    where
      is_ok : (found : Result ℕ Refusal) → r ≡ found → IsOk found
      is_ok (Ok n) is = refl
      is_ok (Err why) is = absurd (value≢refused _ _ (sym accepted ∙ ap answer_says is))

  module _ (n : ℕ) (is : r ≡ Ok n) where
    counted : n ≡ length runs
    counted = value_injective (sym (ap answer_says is) ∙ accepted)

    pub list_few : n ≤ 512
    list_few = omega (arith, counted, most_runs v (slot_of t))

    -- its numbers are those of the runs
    part_is : (part : List ℕ) → part ≡ take (2 * n) after → part ≡ flat runs
    unfolding put_at
    part_is part is-part =
        let twice : 2 * n ≡ length (flat runs) = omega (arith, counted, flat_long runs) in
        is-part ∙ ap₂ take twice (ap (λ out. out.1) (outcome ∙ list_whole v t before sound long)) ∙ take-append_seam (flat runs) (drop (0 + length (flat runs)) before)

    pub list_lines : (word part : List ℕ) → part ≡ take (2 * n) after → (pairs : List (List ℕ)) → pairs ≡ first_chunks 2 (length part / 2) part
        → lines_in word pairs ≡ run_lines word runs
    list_lines word part is-part pairs are =
        let same = part_is part is-part in
        let many : length part / 2 ≡ length runs = omega (arith, ap length same, flat_long runs) in
        ap (lines_in word) (are ∙ ap₂ (first_chunks 2) many same) ∙ lines_are word runs
