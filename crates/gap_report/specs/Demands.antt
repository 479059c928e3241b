-- That what is written is what is asked of it, of any outcome that the contract allows: refused exactly where the tree is not sound, then with every byte kept;
-- else the lines, and the bytes after them kept. Rests on `Says` and on `Limits`.
use Rattle.std.specs.Prelude.{◌≡◌, ℕ, ◌+◌, ◌≤◌, drop, Result}
use Rattle.std.proofs.Common.{sym, ◌∙◌, arith}
use Rattle.std.proofs.Math.Path.{ap}
use mathlib.Core.List.{List, [], ◌∷◌}
use Rattle.std.proofs.Math.ListN.{length, length-append}
use Rattle.answers.specs.Said.{value, refused, leaving_says, leaving_refused, leaving_value}
use Rattle.answers.specs.Faults.{◌if◌, FaultsDecide}
use Rattle.answers.specs.Answers.{answer_says}
use Rattle.answers.proofs.Answers.{answer_says_injective}
use Rattle.answers.specs.declared.Refusal.{Refusal}
use Rattle.bits.specs.Buffers.{put_at}
use Rattle.texts.specs.Texts.{joined}
use Rattle.slots.specs.View.{answered, answered_decided}
use Rattle.tree.specs.declared.Tree.{Tree}
use Rattle.tree.specs.Layout.{slot_of, tree_view, Sound}
use Rattle.gap_report.specs.Lines.{lines_of, show_call}
use Rattle.gap_report.specs.Limits.{lines_fit}
use Rattle.gap_report.specs.Says.{shown, WriteSays}

module _ (t : Tree) (before : List ℕ) (r : Result ℕ Refusal) (after : List ℕ) (says : WriteSays t before r after) where
  abbrev text : List ℕ
  text = joined (lines_of 10 (slot_of t))

  said : answer_says r ≡ answered tree_view t (show_call 10 (slot_of t) before)
  unfolding shown
  said = ap (λ out. out.0) says ∙ leaving_says _ before (answered tree_view t (show_call 10 (slot_of t) before))

  -- refused by 1 exactly where the tree is not sound, and else the length of the lines is said
  pub write_decided : FaultsDecide (answer_says r) (length text) ((1 if (Sound t → ⊥)) ∷ [])
  unfolding show_call
  write_decided = rw said (answered_decided tree_view t (show_call 10 (slot_of t) before) [] (record { rising = tt; finds = tt }))

  -- a refusal leaves every byte as it was
  pub write_keeps : (k : ℕ) → answer_says r ≡ refused k → after ≡ before
  unfolding shown
  write_keeps k e = ap (λ out. out.1) says ∙ leaving_refused _ before (answered tree_view t (show_call 10 (slot_of t) before)) k (sym (ap (λ out. out.0) says) ∙ e)

  module _ (n : ℕ) (accepted : answer_says r ≡ value n) where
    -- else the lines stand at the front, and the bytes after them stay
    pub write_shows : after ≡ put_at before 0 text
    unfolding shown show_call
    write_shows = ap (λ out. out.1) says ∙ leaving_value _ before (answered tree_view t (show_call 10 (slot_of t) before)) n (sym (ap (λ out. out.0) says) ∙ accepted)

    -- within it
    pub write_inside : n ≤ length after
    unfolding put_at
    write_inside = omega (arith, ((write_decided.accepts n).0 accepted).1, ap length write_shows, length-append text (drop (0 + length text) before))

    -- and have at most 19,499 bytes
    pub write_fits : n ≤ 19499
    write_fits = omega (arith, ((write_decided.accepts n).0 accepted).1, lines_fit (slot_of t))

-- any two outcomes that the contract allows coincide
pub write_one_answer : (t : Tree) (before : List ℕ) (r q : Result ℕ Refusal) (after other : List ℕ) → WriteSays t before r after → WriteSays t before q other
    → (r ≡ q) × (after ≡ other)
write_one_answer t before r q after other p o =
    let same = p ∙ sym o in
    (answer_says_injective r q (ap (λ out. out.0) same), ap (λ out. out.1) same)
