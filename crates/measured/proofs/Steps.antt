-- The listings of a tree's runs, one after the other: a turn more is a step more. Assumes nothing.
use mathlib.Core.Path.{◌≡◌, refl, sym, ap, ◌∙◌}
use mathlib.Core.Bool.{Bool}
use mathlib.Core.List.{List}
use Prim.Native.Nat.{ℕ, zero, suc, ◌+◌}
use native.Mathlib.Omega.{arith}
use Rattle.answers.specs.Said.{Said}
use Rattle.answers.specs.declared.Run.{Run}
use Rattle.slots.specs.Gaps.{longest_call}
use Rattle.slots.specs.View.{answered}
use Rattle.tree.specs.declared.Tree.{Tree}
use Rattle.tree.specs.Layout.{slot_of, tree_view}
use Rattle.gaps.specs.Says.{listed}
use Rattle.measured.specs.Gaps.{repeated, count_of, listing, numbers_of, longest_in}

module _ {A : Type 0} (step : A → A) where
  last_step : (times : ℕ) (a : A) → repeated step (suc times) a ≡ step (repeated step times a)
  last_step zero a = refl
  last_step (suc times) a = last_step times (step a)

  pub step_made : (times : ℕ) (first a b : A) → a ≡ repeated step times first → b ≡ step a → b ≡ repeated step (times + 1) first
  step_made times first a b was is =
      let more : times + 1 ≡ suc times = omega arith in
      rw more (is ∙ ap step was ∙ sym (last_step times first))

-- ---- what a call answers is a step

pub listing_made : (v : Bool) (t held : Tree) (said : Said ℕ) (last n : ℕ) (before after : List ℕ) → t ≡ held → (said, after) ≡ listed v t before → n ≡ count_of said
    → ◌≡◌ {A = ℕ × List ℕ} (n, after) (listing v held (last, before))
listing_made v t held said last n before after is says counted =
    (λ i. (counted i, after)) ∙ ap (λ (out : Said ℕ × List ℕ). (count_of out.0, out.1)) (says ∙ ap (λ (m : Tree). listed v m before) is)

pub longest_made : (t held : Tree) (said : Said Run) (numbers : List ℕ) → t ≡ held → said ≡ answered tree_view t (longest_call 10 (slot_of t)) → numbers ≡ numbers_of said
    → numbers ≡ longest_in held
longest_made t held said numbers is says are = are ∙ ap numbers_of says ∙ ap longest_in is
