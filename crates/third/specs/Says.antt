-- The contract of each call on the third level. Those that the demands speak of are theirs, through this map's view: answer and map are what the
-- meaning of `slots` has. Rests on `Layout`.
use Rattle.std.specs.Prelude.{◌≡◌, Bool, List, ℕ, Result}
use Rattle.answers.specs.Said.{Said}
use Rattle.answers.specs.Answers.{answer_says}
use Rattle.answers.specs.declared.Reply.{Reply}
use Rattle.answers.specs.declared.Refusal.{Refusal}
use Rattle.answers.specs.declared.Changed.{Changed}
use Rattle.slots.specs.Sets.{none, all}
use Rattle.slots.specs.Calls.{capacity}
use Rattle.slots.specs.Demands as AnyView
use Rattle.third.specs.declared.Third.{Third}
use Rattle.third.specs.Layout.{third_of, holding, of_slots, third_view}

abbrev pub NewEmptySays : Third → Type 0
NewEmptySays r = r ≡ of_slots none

abbrev pub NewFullSays : Third → Type 0
NewFullSays r = r ≡ of_slots all

abbrev pub HoldingSays : List ℕ → Third → Type 0
HoldingSays words r = r ≡ holding words

-- the same map but for some fields; what every map lets be read
abbrev pub WithSummariesSays : Third → List ℕ → ℕ → Third → Type 0
WithSummariesSays t summaries summary r = r ≡ third_of t.words summaries t.fulls t.counts summary

abbrev pub WithFullsSays : Third → List ℕ → Third → Type 0
WithFullsSays t fulls r = r ≡ third_of t.words t.summaries fulls t.counts t.summary

abbrev pub WithCountsSays : Third → List ℕ → Third → Type 0
WithCountsSays t counts r = r ≡ third_of t.words t.summaries t.fulls counts t.summary

abbrev pub WordsSays : Third → List ℕ → Type 0
WordsSays t r = r ≡ t.words

abbrev pub SummariesSays : Third → List ℕ → Type 0
SummariesSays t r = r ≡ t.summaries

abbrev pub FullsSays : Third → List ℕ → Type 0
FullsSays t r = r ≡ t.fulls

abbrev pub CountsSays : Third → List ℕ → Type 0
CountsSays t r = r ≡ t.counts

abbrev pub SummarySays : Third → ℕ → Type 0
SummarySays t r = r ≡ t.summary

-- what an outcome says
abbrev pub answer_of : Changed Refusal Third → Said Reply
answer_of r = answer_says r.answer

abbrev pub TakeSays : Third → ℕ → ℕ → Changed Refusal Third → Type 0
TakeSays t n a r = AnyView.TakeSays third_view (Changed Refusal Third) answer_of (λ x. x.map) t n a r

abbrev pub ClaimSays : Third → ℕ → ℕ → Changed Refusal Third → Type 0
ClaimSays t start n r = AnyView.ClaimSays third_view (Changed Refusal Third) answer_of (λ x. x.map) t start n r

abbrev pub FreeSays : Third → ℕ → ℕ → Changed Refusal Third → Type 0
FreeSays t start n r = AnyView.FreeSays third_view (Changed Refusal Third) answer_of (λ x. x.map) t start n r

abbrev pub SetSays : Third → ℕ → ℕ → Bool → Changed Refusal Third → Type 0
SetSays t start n used r = AnyView.SetSays third_view (Changed Refusal Third) answer_of (λ x. x.map) t start n used r

abbrev pub NextFreeSays : Third → ℕ → Result ℕ Refusal → Type 0
NextFreeSays t start r = AnyView.NextFreeSays third_view (Changed Refusal Third) answer_of (λ x. x.map) t start (answer_says r)

abbrev pub GetSays : Third → ℕ → Result Bool Refusal → Type 0
GetSays t slot r = AnyView.GetSays third_view (Changed Refusal Third) answer_of (λ x. x.map) t slot (answer_says r)

abbrev pub EmptySays : Third → Result Bool Refusal → Type 0
EmptySays t r = AnyView.EmptySays third_view (Changed Refusal Third) answer_of (λ x. x.map) t (answer_says r)

abbrev pub UsedSays : Third → Result ℕ Refusal → Type 0
UsedSays t r = AnyView.UsedSays third_view (Changed Refusal Third) answer_of (λ x. x.map) t (answer_says r)

abbrev pub CapacitySays : ℕ → Type 0
CapacitySays r = r ≡ capacity 14
