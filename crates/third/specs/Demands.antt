-- What the owner demands of the third level: one value of `Demands`, which has the sentences, over this map's view and with 2 ^ 14 slots; what is the
-- map's own beside it; and that each contract leaves one outcome.
use Rattle.std.specs.Prelude.{◌≡◌, Bool, List, ℕ, Result}
use Rattle.std.proofs.Common.{sym, ap, ◌∙◌}
use Rattle.answers.proofs.Answers.{answer_says_injective}
use Rattle.answers.specs.declared.Refusal.{Refusal}
use Rattle.answers.specs.declared.Changed.{Changed}
use Rattle.slots.specs.Sets.{none, all}
use Rattle.slots.specs.Calls.{take_call, claim_call, free_call, set_call}
use Rattle.slots.specs.View.{same_state, places_decide}
use Rattle.slots.proofs.Demands.{Demands, demanded}
use Rattle.views.specs.Painting.{slot_in}
use Rattle.views.specs.Words.{AreWords}
use Rattle.third.specs.declared.Third.{Third}
use Rattle.third.specs.Layout.{slot_of, of_slots, Sound, IsThird, third_view, holding_sound}
use Rattle.third.specs.Says.{answer_of, NewEmptySays, NewFullSays, HoldingSays, WithSummariesSays, WithFullsSays, WithCountsSays, WordsSays, SummariesSays, FullsSays, CountsSays, SummarySays, TakeSays, ClaimSays, FreeSays, SetSays, NextFreeSays, GetSays, EmptySays, UsedSays, CapacitySays}

-- ---- the demands. An outcome is a `Changed`

pub third_demands : Demands third_view (Changed Refusal Third) answer_of (λ r. r.map)
third_demands = demanded third_view (Changed Refusal Third) answer_of (λ r. r.map)
    (λ r q says leaves. λ i. record { answer = answer_says_injective r.answer q.answer says i; map = leaves i })

-- ---- sound maps

pub empty_is_sound : (r : Third) → NewEmptySays r → Sound r
empty_is_sound r e = rw e (third_view.made_sound none tt)

pub full_is_sound : (r : Third) → NewFullSays r → Sound r
full_is_sound r e = rw e (third_view.made_sound all tt)

-- a map made of 256 words is sound, and holds their slots
pub holding_is_sound : (words : List ℕ) → AreWords 8 words → (r : Third) → HoldingSays words r → Sound r
holding_is_sound words held r e = rw e (holding_sound words held)

pub holding_holds : (words : List ℕ) (r : Third) → HoldingSays words r → (i : ℕ) → slot_of r i ≡ slot_in words i
holding_holds words r e i = ap (λ (t : Third). slot_of t i) e

-- a sound map is the map made of its slots: the same slots are the same words and the same fields
pub made_of_its_slots : (t : Third) → Sound t → IsThird t → of_slots (slot_of t) ≡ t
made_of_its_slots t = third_view.same t

-- on a sound map the words alone decide: two with the same words are the same map
pub words_decide : (t u : Third) → Sound t → IsThird t → Sound u → IsThird u → t.words ≡ u.words → t ≡ u
words_decide t u st it su iu same = same_state third_view t u st it su iu (λ i l. ap (λ (words : List ℕ). slot_in words i) same)

-- so any two outcomes coincide that a contract allows on them, which leaves one outcome
pub words_decide_outcomes : {R : Type 0} (Says : Third → R → Type 0) → ((t : Third) (r q : R) → Says t r → Says t q → r ≡ q)
    → (t u : Third) → Sound t → IsThird t → Sound u → IsThird u → t.words ≡ u.words → (r q : R) → Says t r → Says u q → r ≡ q
words_decide_outcomes Says one_answer t u st it su iu same =
    places_decide third_view Says one_answer t u st it su iu (λ i l. ap (λ (words : List ℕ). slot_in words i) same)

-- ---- one answer: any two outcomes that a contract allows coincide

pub new_empty_one_answer : (r q : Third) → NewEmptySays r → NewEmptySays q → r ≡ q
new_empty_one_answer r q p o = p ∙ sym o

pub new_full_one_answer : (r q : Third) → NewFullSays r → NewFullSays q → r ≡ q
new_full_one_answer r q p o = p ∙ sym o

pub holding_one_answer : (words : List ℕ) (r q : Third) → HoldingSays words r → HoldingSays words q → r ≡ q
holding_one_answer words r q p o = p ∙ sym o

pub with_summaries_one_answer : (t : Third) (summaries : List ℕ) (summary : ℕ) (r q : Third) → WithSummariesSays t summaries summary r
    → WithSummariesSays t summaries summary q → r ≡ q
with_summaries_one_answer t summaries summary r q p o = p ∙ sym o

pub with_fulls_one_answer : (t : Third) (fulls : List ℕ) (r q : Third) → WithFullsSays t fulls r → WithFullsSays t fulls q → r ≡ q
with_fulls_one_answer t fulls r q p o = p ∙ sym o

pub with_counts_one_answer : (t : Third) (counts : List ℕ) (r q : Third) → WithCountsSays t counts r → WithCountsSays t counts q → r ≡ q
with_counts_one_answer t counts r q p o = p ∙ sym o

pub words_one_answer : (t : Third) (r q : List ℕ) → WordsSays t r → WordsSays t q → r ≡ q
words_one_answer t r q p o = p ∙ sym o

pub summaries_one_answer : (t : Third) (r q : List ℕ) → SummariesSays t r → SummariesSays t q → r ≡ q
summaries_one_answer t r q p o = p ∙ sym o

pub fulls_one_answer : (t : Third) (r q : List ℕ) → FullsSays t r → FullsSays t q → r ≡ q
fulls_one_answer t r q p o = p ∙ sym o

pub counts_one_answer : (t : Third) (r q : List ℕ) → CountsSays t r → CountsSays t q → r ≡ q
counts_one_answer t r q p o = p ∙ sym o

pub summary_one_answer : (t : Third) (r q : ℕ) → SummarySays t r → SummarySays t q → r ≡ q
summary_one_answer t r q p o = p ∙ sym o

pub take_one_answer : (t : Third) (n a : ℕ) (r q : Changed Refusal Third) → TakeSays t n a r → TakeSays t n a q → r ≡ q
take_one_answer t n a = (third_demands.of_any t).one_answer (take_call 14 (slot_of t) n a)

pub claim_one_answer : (t : Third) (start n : ℕ) (r q : Changed Refusal Third) → ClaimSays t start n r → ClaimSays t start n q → r ≡ q
claim_one_answer t start n = (third_demands.of_any t).one_answer (claim_call 14 (slot_of t) start n)

pub free_one_answer : (t : Third) (start n : ℕ) (r q : Changed Refusal Third) → FreeSays t start n r → FreeSays t start n q → r ≡ q
free_one_answer t start n = (third_demands.of_any t).one_answer (free_call 14 (slot_of t) start n)

pub set_one_answer : (t : Third) (start n : ℕ) (used : Bool) (r q : Changed Refusal Third) → SetSays t start n used r → SetSays t start n used q → r ≡ q
set_one_answer t start n used = (third_demands.of_any t).one_answer (set_call 14 (slot_of t) start n used)

pub next_free_one_answer : (t : Third) (start : ℕ) (r q : Result ℕ Refusal) → NextFreeSays t start r → NextFreeSays t start q → r ≡ q
next_free_one_answer t start r q p o = answer_says_injective r q (p ∙ sym o)

pub get_one_answer : (t : Third) (slot : ℕ) (r q : Result Bool Refusal) → GetSays t slot r → GetSays t slot q → r ≡ q
get_one_answer t slot r q p o = answer_says_injective r q (p ∙ sym o)

pub empty_one_answer : (t : Third) (r q : Result Bool Refusal) → EmptySays t r → EmptySays t q → r ≡ q
empty_one_answer t r q p o = answer_says_injective r q (p ∙ sym o)

pub used_one_answer : (t : Third) (r q : Result ℕ Refusal) → UsedSays t r → UsedSays t q → r ≡ q
used_one_answer t r q p o = answer_says_injective r q (p ∙ sym o)

pub capacity_one_answer : (r q : ℕ) → CapacitySays r → CapacitySays q → r ≡ q
capacity_one_answer r q p o = p ∙ sym o
