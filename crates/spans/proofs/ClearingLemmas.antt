-- What stood in specs/Clearing and rests on theorems there: moved, its statements unchanged. Rests on `Clearing`.
use Rattle.std.specs.Prelude.{◌≡◌, refl, List, ◌++◌, ℕ, ◌-◌, ◌≤◌, length, take, replicate}
use Rattle.std.proofs.Common.{◌∙◌, inl, inr, le_trans, arith, length-append, length-take-le}
use Rattle.std.proofs.Math.Path.{ap}
use Rattle.std.proofs.Math.ListN.{get_or, drop, length-drop, length-replicate, get_or-replicate, get_or-append}
use Rattle.std.proofs.Math.Seq.{get_or-take, get_or-drop, get_or-append-add}
use Rattle.answers.specs.Said.{value, leaving_value}
use Rattle.bits.specs.Range.{le_of_not_lt}
use Rattle.spans.specs.Clearing.{zeroed, cleared, OnlyZeroed, clear_faults}

module _ (bytes : List ℕ) (s e : ℕ) where
  module _ (order : s ≤ e) (fits : e ≤ length bytes) where
    front_long : length (take s bytes) ≡ s
    front_long = length-take-le s bytes (omega arith)

    zeros_long : length {A = ℕ} (replicate (e - s) 0) ≡ e - s
    zeros_long = length-replicate (e - s) 0

    past_front : (i : ℕ) → s ≤ i → get_or (zeroed bytes s e) i 0 ≡ get_or (replicate (e - s) 0 ++ drop e bytes) (i - s) 0
    unfolding zeroed
    past_front i l =
        ap (λ (n : ℕ). get_or (zeroed bytes s e) n 0) (omega (arith, front_long)) ∙ get_or-append-add (take s bytes) _ (i - s) 0

    only_zeroed : OnlyZeroed bytes (zeroed bytes s e) s e
    unfolding zeroed
    only_zeroed = record {
      as_long = simp (length-append, length-replicate, length-drop, front_long) (omega arith);
      zeros = λ i l h.
          past_front i l ∙ get_or-append (replicate (e - s) 0) _ 0 (i - s) (omega (arith, zeros_long))
          ∙ get_or-replicate (e - s) (i - s) 0 0 (omega arith);
      kept_before = λ i h. get_or-append (take s bytes) _ 0 i (omega (arith, front_long)) ∙ get_or-take s bytes i 0 h;
      kept_from = λ i l.
          past_front i (le_trans order l)
          ∙ ap (λ (n : ℕ). get_or (replicate (e - s) 0 ++ drop e bytes) n 0) (omega (arith, zeros_long))
          ∙ get_or-append-add (replicate (e - s) 0) (drop e bytes) (i - e) 0
          ∙ get_or-drop e bytes (i - e) 0 ∙ ap (λ (n : ℕ). get_or bytes n 0) (omega arith);
    }

  -- an accepted call zeroes the part, and nothing else
  pub clear_accepted : (cleared bytes s e).0 ≡ value tt → OnlyZeroed bytes (cleared bytes s e).1 s e
  unfolding cleared
  clear_accepted said =
      let no_fault = (((clear_faults bytes s e).accepts tt).0 said).0 in
      rw (leaving_value (λ _. zeroed bytes s e) bytes _ tt said)
      (only_zeroed (le_of_not_lt (λ l. no_fault 10 (inr (inl (refl, l))))) (le_of_not_lt (λ l. no_fault 4 (inl (refl, l)))))
