-- What the call comes to: 1 on a tree that is not sound, and else all lines, one part after the other. Assumes nothing.
use mathlib.Core.Path.{◌≡◌, sym, ap, ◌∙◌}
use mathlib.Core.Bool.{true, false}
use mathlib.Core.List.{List, ◌++◌}
use Prim.Native.Nat.{ℕ, ◌-◌}
use native.Mathlib.Nat.{zero-add}
use native.Mathlib.Omega.{arith}
use lib.ListN.{length}
use Rattle.answers.specs.Said.{Said, value, refused, judged, leaving}
use Rattle.answers.specs.declared.Run.{Run}
use Rattle.bits.specs.Buffers.{put_at}
use Rattle.bits.specs.Range.{count, count_not}
use Rattle.texts.specs.Texts.{put_all, joined, put_all_fits, put_all_more}
use Rattle.slots.specs.Calls.{says}
use Rattle.slots.specs.Gaps.{runs_of, longest_call}
use Rattle.slots.specs.View.{answered, found_sound, found_unsound}
use Rattle.tree.specs.declared.Tree.{Tree}
use Rattle.tree.specs.Layout.{slot_of, tree_view}
use Rattle.gap_report.specs.Lines.{free_word, used_word, run_lines, longest_line, slots_line, free_slots, lines_of, show_call}
use Rattle.gap_report.specs.Says.{shown}
use Rattle.gap_report.specs.Limits.{lines_fit}

module _ (t : Tree) (before : List ℕ) where
  pub shown_unsound : tree_view.is_sound t ≡ false → shown t before ≡ (refused 1, before)
  unfolding shown leaving
  shown_unsound e = rw (found_unsound tree_view t (show_call 10 (slot_of t) before) e)

  abbrev text : List ℕ
  text = joined (lines_of 10 (slot_of t))

  module _ (sound : tree_view.is_sound t ≡ true) where
    shown_sound : shown t before ≡ (value (length text), put_at before 0 text)
    unfolding shown leaving show_call says judged
    shown_sound = rw (found_sound tree_view t (show_call 10 (slot_of t) before) sound)

    -- the parts, from what is held before each of them
    pub shown_put : length before ≡ 20480 → (used : ℕ) → used ≡ count (slot_of t) 0 1024
        → (free helds longest last : ℕ × List ℕ)
        → free ≡ put_all (0, before) (run_lines free_word (runs_of 10 false (slot_of t)))
        → helds ≡ put_all free (run_lines used_word (runs_of 10 true (slot_of t)))
        → longest ≡ put_all helds (longest_line (answered tree_view t (longest_call 10 (slot_of t))))
        → last ≡ put_all longest (slots_line (1024 - used))
        → (value last.0, last.1) ≡ shown t before
    unfolding lines_of
    shown_put long used counted free helds longest last puts-free puts-held puts-longest puts-last =
        (λ i. (value (whole i).0, (whole i).1)) ∙ sym shown_sound
      where
        frees : List (List ℕ)
        frees = run_lines free_word (runs_of 10 false (slot_of t))

        useds : List (List ℕ)
        useds = run_lines used_word (runs_of 10 true (slot_of t))

        longests : List (List ℕ)
        longests = longest_line (says (longest_call 10 (slot_of t)))

        lasts : List (List ℕ)
        lasts = slots_line (free_slots 10 (slot_of t))

        left : 1024 - used ≡ free_slots 10 (slot_of t)
        left = omega (arith, counted, count_not (slot_of t) 0 1024)

        all : last ≡ put_all (0, before) (frees ++ (useds ++ (longests ++ lasts)))
        all =
            puts-last ∙ ap (λ (n : ℕ). put_all longest (slots_line n)) left
            ∙ ap (λ (held : ℕ × List ℕ). put_all held lasts) (puts-longest ∙ ap (λ (said : Said Run). put_all helds (longest_line said)) (found_sound tree_view t (longest_call 10 (slot_of t)) sound))
            ∙ sym (put_all_more longests lasts helds)
            ∙ ap (λ (held : ℕ × List ℕ). put_all held (longests ++ lasts)) puts-held
            ∙ sym (put_all_more useds (longests ++ lasts) free)
            ∙ ap (λ (held : ℕ × List ℕ). put_all held (useds ++ (longests ++ lasts))) puts-free
            ∙ sym (put_all_more frees (useds ++ (longests ++ lasts)) (0, before))

        whole : last ≡ (length text, put_at before 0 text)
        whole =
            let none = zero-add (length text) in
            all ∙ put_all_fits (lines_of 10 (slot_of t)) 0 before (omega (arith, lines_fit (slot_of t), long, none)) ∙ (λ i. (none i, put_at before 0 text))
