-- The contract of each call on a map of any size: the meaning of `slots` through the map's view. What the view has of a value is `held`; of the maps of
-- the project it is the value itself. Rests on `Demands` of `slots`.
use Rattle.std.specs.Prelude.{◌≡◌, Bool, ℕ, Result}
use Rattle.answers.specs.Answers.{answer_says}
use Rattle.answers.specs.declared.Refusal.{Refusal}
use Rattle.answers.specs.declared.Changed.{Changed}
use Rattle.slots.specs.Calls.{capacity}
use Rattle.slots.specs.Kinds.{plain}
use Rattle.slots.specs.View.{View}
use Rattle.slots.specs.Demands as AnyView

module _ {M : Type 0} (L : View plain) (held : M → L.Map) where
  abbrev pub TakeSays : M → ℕ → ℕ → Changed Refusal M → Type 0
  TakeSays m n a r = AnyView.TakeSays L (Changed Refusal M) (λ x. answer_says x.answer) (λ x. held x.map) (held m) n a r

  abbrev pub ClaimSays : M → ℕ → ℕ → Changed Refusal M → Type 0
  ClaimSays m start n r = AnyView.ClaimSays L (Changed Refusal M) (λ x. answer_says x.answer) (λ x. held x.map) (held m) start n r

  abbrev pub FreeSays : M → ℕ → ℕ → Changed Refusal M → Type 0
  FreeSays m start n r = AnyView.FreeSays L (Changed Refusal M) (λ x. answer_says x.answer) (λ x. held x.map) (held m) start n r

  abbrev pub SetSays : M → ℕ → ℕ → Bool → Changed Refusal M → Type 0
  SetSays m start n used r = AnyView.SetSays L (Changed Refusal M) (λ x. answer_says x.answer) (λ x. held x.map) (held m) start n used r

  abbrev pub NextFreeSays : M → ℕ → Result ℕ Refusal → Type 0
  NextFreeSays m start r = AnyView.NextFreeSays L (Changed Refusal M) (λ x. answer_says x.answer) (λ x. held x.map) (held m) start (answer_says r)

  abbrev pub GetSays : M → ℕ → Result Bool Refusal → Type 0
  GetSays m slot r = AnyView.GetSays L (Changed Refusal M) (λ x. answer_says x.answer) (λ x. held x.map) (held m) slot (answer_says r)

  abbrev pub EmptySays : M → Result Bool Refusal → Type 0
  EmptySays m r = AnyView.EmptySays L (Changed Refusal M) (λ x. answer_says x.answer) (λ x. held x.map) (held m) (answer_says r)

  abbrev pub UsedSays : M → Result ℕ Refusal → Type 0
  UsedSays m r = AnyView.UsedSays L (Changed Refusal M) (λ x. answer_says x.answer) (λ x. held x.map) (held m) (answer_says r)

abbrev pub CapacitySays : View plain → ℕ → Type 0
CapacitySays L r = r ≡ capacity L.k
