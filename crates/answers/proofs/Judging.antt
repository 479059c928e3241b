-- What is known where some checks have been judged by a call of their own: a refusal is the refusal of the whole, and where there is none the checks
-- that follow decide. Assumes nothing.
use Rattle.std.specs.Prelude.{◌≡◌, true, false, List, ◌++◌, is_err, Result, Ok, Err}
use Rattle.std.proofs.Common.{refl, sym, ap, ◌∙◌, true≢false}
use Rattle.answers.specs.Said.{refused, Check, judged, judged_first, judged_then}
use Rattle.answers.specs.Refusals.{number_of}
use Rattle.answers.specs.Answers.{answer_says, left_by}
use Rattle.answers.specs.declared.Refusal.{Refusal}

-- what is left where a result is a refusal, and where it is none
module _ {A E M : Type 0} (before after : M) where
  pub left_refused : (answer : Result A E) → true ≡ is_err answer → left_by answer before after ≡ before
  left_refused (Ok a) e = absurd (true≢false e)
  left_refused (Err why) e = refl

  pub left_accepted : (answer : Result A E) → false ≡ is_err answer → left_by answer before after ≡ after
  left_accepted (Ok a) e = refl
  left_accepted (Err why) e = absurd (true≢false (sym e))

module _ {A : Type 0} (cs : List Check) (a : A) (answer : Result A Refusal) (told : answer_says answer ≡ judged cs a) where
  pub refused_first : {B : Type 0} (ds : List Check) (x : B) (why : Refusal) → answer ≡ Err why → judged (cs ++ ds) x ≡ refused (number_of why)
  refused_first ds x why e = judged_first cs ds a x (number_of why) (sym told ∙ ap answer_says e)

  pub passed_on : {B : Type 0} (ds : List Check) (x : B) (b : A) → answer ≡ Ok b → judged (cs ++ ds) x ≡ judged ds x
  passed_on ds x b e = judged_then cs ds a b x (sym told ∙ ap answer_says e)
