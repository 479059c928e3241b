-- What the owner demands of the word map: one value of `Demands`, which has the sentences; and that each contract leaves one outcome. Every word map is
-- sound.
use Rattle.std.specs.Prelude.{◌≡◌, Bool, [], ◌∷◌, ℕ, Result}
use Rattle.std.proofs.Common.{sym, ◌∙◌}
use Rattle.answers.specs.Said.{Said, value, value_injective}
use Rattle.answers.specs.Answers.{answer_says}
use Rattle.answers.specs.declared.Reply.{Reply}
use Rattle.answers.proofs.Answers.{answer_says_injective}
use Rattle.answers.specs.declared.Refusal.{Refusal}
use Rattle.slots.specs.Calls.{take_call, claim_call, free_call, set_call}
use Rattle.slots.specs.Plain.{Asked, call_of}
use Rattle.slots.specs.Demands as Slots
use Rattle.slots.proofs.Demands.{Demands, demanded, Ran}
use Rattle.word.specs.declared.Word.{Word}
use Rattle.answers.specs.declared.Changed.{Changed}
use Rattle.word.specs.Layout.{slot_of, word_view}
use Rattle.word.specs.Says.{Leaves, NewEmptySays, NewFullSays, HoldingSays, BitsSays, TakeSays, ClaimSays, FreeSays, SetSays, NextFreeSays, GetSays, EmptySays, UsedSays, CapacitySays}

-- what an outcome says
abbrev pub answer_of : Changed Refusal Word → Said Reply
answer_of r = answer_says r.answer

pub word_demands : Demands word_view (Changed Refusal Word) answer_of (λ r. r.map)
word_demands = demanded word_view (Changed Refusal Word) answer_of (λ r. r.map)
    (λ r q says leaves. λ i. record { answer = answer_says_injective r.answer q.answer says i; map = leaves i })

-- check 1 has nothing to find
pub always_sound : (w : Word) → word_view.Sound w
always_sound w = tt

-- each contract of the word is the one that the demands speak of
pub take_meant : (w : Word) (n a : ℕ) (r : Changed Refusal Word) → TakeSays w n a r → Slots.TakeSays word_view (Changed Refusal Word) answer_of (λ x. x.map) w n a r
take_meant w n a r outcome = outcome

pub claim_meant : (w : Word) (s n : ℕ) (r : Changed Refusal Word) → ClaimSays w s n r → Slots.ClaimSays word_view (Changed Refusal Word) answer_of (λ x. x.map) w s n r
claim_meant w s n r outcome = outcome

pub free_meant : (w : Word) (s n : ℕ) (r : Changed Refusal Word) → FreeSays w s n r → Slots.FreeSays word_view (Changed Refusal Word) answer_of (λ x. x.map) w s n r
free_meant w s n r outcome = outcome

pub set_meant : (w : Word) (s n : ℕ) (v : Bool) (r : Changed Refusal Word) → SetSays w s n v r → Slots.SetSays word_view (Changed Refusal Word) answer_of (λ x. x.map) w s n v r
set_meant w s n v r outcome = outcome

pub next_free_meant : (w : Word) (s : ℕ) (r : Result ℕ Refusal) → NextFreeSays w s r → Slots.NextFreeSays word_view (Changed Refusal Word) answer_of (λ x. x.map) w s (answer_says r)
next_free_meant w s r outcome = outcome

pub get_meant : (w : Word) (i : ℕ) (r : Result Bool Refusal) → GetSays w i r → Slots.GetSays word_view (Changed Refusal Word) answer_of (λ x. x.map) w i (answer_says r)
get_meant w i r outcome = outcome

pub empty_meant : (w : Word) (r : Bool) → EmptySays w r → Slots.EmptySays word_view (Changed Refusal Word) answer_of (λ x. x.map) w (value r)
empty_meant w r outcome = outcome

pub used_meant : (w : Word) (r : ℕ) → UsedSays w r → Slots.UsedSays word_view (Changed Refusal Word) answer_of (λ x. x.map) w (value r)
used_meant w r outcome = outcome

-- a call by its contract is an outcome of a series
pub a_call_runs : (m : Word) (c : Asked) (r : Changed Refusal Word) → Leaves m (call_of 6 (slot_of m) c) r → Ran word_view (Changed Refusal Word) answer_of (λ x. x.map) m (c ∷ []) (r ∷ [])
a_call_runs m c r outcome = (outcome, tt)

-- ---- one answer: any two outcomes that a contract allows coincide

pub new_empty_one_answer : (r q : Word) → NewEmptySays r → NewEmptySays q → r ≡ q
new_empty_one_answer r q p o = p ∙ sym o

pub holding_one_answer : (bits : ℕ) (r q : Word) → HoldingSays bits r → HoldingSays bits q → r ≡ q
holding_one_answer bits r q p o = p ∙ sym o

pub bits_one_answer : (w : Word) (r q : ℕ) → BitsSays w r → BitsSays w q → r ≡ q
bits_one_answer w r q p o = p ∙ sym o

pub new_full_one_answer : (r q : Word) → NewFullSays r → NewFullSays q → r ≡ q
new_full_one_answer r q p o = p ∙ sym o

pub take_one_answer : (w : Word) (n a : ℕ) (r q : Changed Refusal Word) → TakeSays w n a r → TakeSays w n a q → r ≡ q
take_one_answer w n a = (word_demands.of_any w).one_answer (take_call 6 (slot_of w) n a)

pub claim_one_answer : (w : Word) (start n : ℕ) (r q : Changed Refusal Word) → ClaimSays w start n r → ClaimSays w start n q → r ≡ q
claim_one_answer w start n = (word_demands.of_any w).one_answer (claim_call 6 (slot_of w) start n)

pub free_one_answer : (w : Word) (start n : ℕ) (r q : Changed Refusal Word) → FreeSays w start n r → FreeSays w start n q → r ≡ q
free_one_answer w start n = (word_demands.of_any w).one_answer (free_call 6 (slot_of w) start n)

pub set_one_answer : (w : Word) (start n : ℕ) (used : Bool) (r q : Changed Refusal Word) → SetSays w start n used r → SetSays w start n used q → r ≡ q
set_one_answer w start n used = (word_demands.of_any w).one_answer (set_call 6 (slot_of w) start n used)

pub next_free_one_answer : (w : Word) (start : ℕ) (r q : Result ℕ Refusal) → NextFreeSays w start r → NextFreeSays w start q → r ≡ q
next_free_one_answer w start r q p o = answer_says_injective r q (p ∙ sym o)

pub get_one_answer : (w : Word) (slot : ℕ) (r q : Result Bool Refusal) → GetSays w slot r → GetSays w slot q → r ≡ q
get_one_answer w slot r q p o = answer_says_injective r q (p ∙ sym o)

pub empty_one_answer : (w : Word) (r q : Bool) → EmptySays w r → EmptySays w q → r ≡ q
empty_one_answer w r q p o = value_injective (p ∙ sym o)

pub used_one_answer : (w : Word) (r q : ℕ) → UsedSays w r → UsedSays w q → r ≡ q
used_one_answer w r q p o = value_injective (p ∙ sym o)

pub capacity_one_answer : (r q : ℕ) → CapacitySays r → CapacitySays q → r ≡ q
capacity_one_answer r q p o = p ∙ sym o
