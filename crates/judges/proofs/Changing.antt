-- What claim and free have to show at each way out: one argument, over the value that the slots get. Assumes nothing.
use Rattle.std.specs.Prelude.{Result, Ok, Err}
use mathlib.Core.Path.{◌≡◌, refl, sym, ap, ◌∙◌}
use mathlib.Core.Bool.{Bool, true, false, not}
use mathlib.Core.List.{[], ◌∷◌, ◌++◌}
use Prim.Native.Nat.{ℕ}
use Rattle.answers.proofs.Judging.{refused_first, passed_on}
use Rattle.answers.specs.Said.{value, refused, ◌when◌, judged, judged_found, judged_passed}
use Rattle.answers.specs.Refusals.{number_of}
use Rattle.answers.specs.Answers.{answer_says}
use Rattle.answers.specs.declared.Reply.{Reply}
use Rattle.answers.specs.declared.Reply.TheVariants.{Done as ok}
use Rattle.answers.specs.declared.Refusal.{Refusal}
use Rattle.slots.specs.Sets.{Slots}
use Rattle.slots.specs.Calls.{says, range_checks, claim_call, free_call}
use Rattle.judges.specs.Judged.{change_call, ready_for, unready_for}

module _ (k : ℕ) (S : Slots) (s n : ℕ) (v : Bool) where
  -- the range's checks, and then the slots'
  says_both : says (change_call v k S s n) ≡ judged (range_checks k s n ++ ((unready_for v when not (ready_for v S s n)) ∷ [])) ok
  unfolding says claim_call free_call
  says_both = elim v as (λ (b : Bool). says (change_call b k S s n) ≡ judged (range_checks k s n ++ ((unready_for b when not (ready_for b S s n)) ∷ [])) ok)
      [ true ↦ refl | false ↦ refl ]

  module _ (range : Result Reply Refusal) (told : answer_says range ≡ judged (range_checks k s n) ok) where
    pub range_refuses : (why : Refusal) → range ≡ Err why → says (change_call v k S s n) ≡ refused (number_of why)
    range_refuses why e = says_both ∙ refused_first (range_checks k s n) ok range told _ ok why e

    -- where the range is not refused, the slots decide
    module _ (reply : Reply) (kept : range ≡ Ok reply) (flag : Bool) (shown : flag ≡ ready_for v S s n) where
      decides : says (change_call v k S s n) ≡ judged ((unready_for v when not flag) ∷ []) ok
      decides = says_both ∙ passed_on (range_checks k s n) ok range told _ ok reply kept ∙ ap (λ (b : Bool). judged ((unready_for v when not b) ∷ []) ok) (sym shown)

      pub slots_refuse : flag ≡ false → says (change_call v k S s n) ≡ refused (unready_for v)
      slots_refuse e = decides ∙ judged_found (unready_for v) _ ok (ap not e)

      pub slots_pass : flag ≡ true → says (change_call v k S s n) ≡ value ok
      slots_pass e = decides ∙ judged_passed (unready_for v) _ ok (ap not e)
