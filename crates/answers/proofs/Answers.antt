-- Two results that say the same are the same, where no two refusals share a number. Rests on `Answers`.
use Rattle.std.specs.Prelude.{◌≡◌, ℕ, Result, Ok, Err}
use Rattle.std.proofs.Common.{sym, ap}
use Rattle.answers.specs.Said.{value≢refused, value_injective, refused_injective, on_value}
use Rattle.answers.specs.Refusals.{number_of}
use Rattle.answers.specs.declared.Refusal.{Refusal}
use Rattle.answers.specs.Answers.{answer_says_by, answer_says}
use Rattle.answers.specs.declared.Reply.TheVariants.{At as at}
use Rattle.answers.proofs.Refusals.{number_injective}

pub answer_says_by_injective : {A E : Type 0} (number : E → ℕ) → ((x y : E) → number x ≡ number y → x ≡ y) → (r s : Result A E) → answer_says_by number r ≡ answer_says_by number s → r ≡ s
answer_says_by_injective number apart (Ok a) (Ok b) e = ap Ok (value_injective e)
answer_says_by_injective number apart (Ok a) (Err y) e = absurd (value≢refused a (number y) e)
answer_says_by_injective number apart (Err x) (Ok b) e = absurd (value≢refused b (number x) (sym e))
answer_says_by_injective number apart (Err x) (Err y) e = ap Err (apart x y (refused_injective e))

pub answer_says_injective : {A : Type 0} (r s : Result A Refusal) → answer_says r ≡ answer_says s → r ≡ s
answer_says_injective = answer_says_by_injective number_of number_injective

-- and so are two that say where a take starts
pub granted_says_injective : (r s : Result ℕ Refusal) → on_value at (answer_says r) ≡ on_value at (answer_says s) → r ≡ s
unfolding on_value
granted_says_injective (Ok m) (Ok n) e = cc
granted_says_injective (Ok m) (Err y) e = absurd (value≢refused (at m) (number_of y) e)
granted_says_injective (Err x) (Ok n) e = absurd (value≢refused (at n) (number_of x) (sym e))
granted_says_injective (Err x) (Err y) e = ap Err (number_injective x y (refused_injective e))
