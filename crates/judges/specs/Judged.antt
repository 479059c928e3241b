-- What each judge answers: what is said of its call on the set that the words hold, at the capacity of the size. Where it goes by marks of full words, the
-- set is that of the words with each marked one filled (`filled`); of next free, the slot that is asked for counts as it is (`seen_from`). Rests on `Sizes`.
use Rattle.std.specs.Prelude.{◌≡◌, Bool, true, false, List, ℕ, Result}
use Rattle.std.proofs.Common.{sym, ◌∙◌}
use Rattle.answers.specs.Said.{judged, on_value}
use Rattle.answers.specs.Answers.{answer_says}
use Rattle.answers.specs.declared.Reply.{Reply}
use Rattle.answers.specs.declared.Reply.TheVariants.{At as at, Done as ok}
use Rattle.answers.proofs.Answers.{answer_says_injective, granted_says_injective}
use Rattle.answers.specs.declared.Refusal.{Refusal}
use Rattle.slots.specs.Sets.{Slots, all_free, all_used}
use Rattle.slots.specs.Lowest.{lowest, free_from}
use Rattle.slots.specs.Calls.{Call, says, range_checks, take_call, claim_call, free_call, next_free_call, get_call}
use Rattle.slots.specs.Tries.{slot_or_none}
use Rattle.views.specs.Painting.{slot_in}
use Rattle.views.specs.Full.{filled, seen_from}
use Rattle.judges.specs.declared.Size.{Size}
use Rattle.judges.specs.Sizes.{exponent_of}

-- the call that gives slots the value: claim makes them used, free makes them free
abbrev pub change_call : Bool → ℕ → Slots → ℕ → ℕ → Call Slots Reply
change_call true k S start n = claim_call k S start n
change_call false k S start n = free_call k S start n

-- the slots have the value that the change takes from them, and the number by which it is refused where they have not
abbrev pub ready_for : Bool → Slots → ℕ → ℕ → Bool
ready_for true S start n = all_free S start n
ready_for false S start n = all_used S start n

abbrev pub unready_for : Bool → ℕ
unready_for true = 6
unready_for false = 5

-- ---- the contracts

abbrev pub RangeSays : Size → ℕ → ℕ → Result Reply Refusal → Type 0
RangeSays size start n r = answer_says r ≡ judged (range_checks (exponent_of size) start n) ok

abbrev pub ChangeSays : List ℕ → Size → ℕ → ℕ → Bool → Result Reply Refusal → Type 0
ChangeSays words size start n used r = answer_says r ≡ says (change_call used (exponent_of size) (slot_in words) start n)

abbrev pub TakeSays : List ℕ → List ℕ → Size → ℕ → ℕ → Result ℕ Refusal → Type 0
TakeSays words fulls size n a r = on_value at (answer_says r) ≡ says (take_call (exponent_of size) (slot_in (filled words fulls)) n a)

abbrev pub NextFreeSays : List ℕ → List ℕ → Size → ℕ → Result ℕ Refusal → Type 0
NextFreeSays words fulls size start r = answer_says r ≡ says (next_free_call (exponent_of size) (seen_from words fulls start) start)

abbrev pub GetSays : List ℕ → Size → ℕ → Result Bool Refusal → Type 0
GetSays words size slot r = answer_says r ≡ says (get_call (exponent_of size) (slot_in words) slot)

-- the search: a slot below the capacity, or no room
abbrev pub NextFreeInSays : List ℕ → List ℕ → Size → ℕ → Result ℕ Refusal → Type 0
NextFreeInSays words fulls size start r = answer_says r ≡ slot_or_none (exponent_of size) (free_from (exponent_of size) (seen_from words fulls start) start)

abbrev pub LowestStartSays : List ℕ → List ℕ → Size → ℕ → ℕ → Result ℕ Refusal → Type 0
LowestStartSays words fulls size n a r = answer_says r ≡ slot_or_none (exponent_of size) (lowest (exponent_of size) (slot_in (filled words fulls)) n a)

-- ---- any two answers that a contract allows coincide

pub range_one_answer : (size : Size) (start n : ℕ) (r q : Result Reply Refusal) → RangeSays size start n r → RangeSays size start n q → r ≡ q
range_one_answer size start n r q p o = answer_says_injective r q (p ∙ sym o)

pub change_one_answer : (words : List ℕ) (size : Size) (start n : ℕ) (used : Bool) (r q : Result Reply Refusal) → ChangeSays words size start n used r
    → ChangeSays words size start n used q → r ≡ q
change_one_answer words size start n used r q p o = answer_says_injective r q (p ∙ sym o)

pub take_one_answer : (words fulls : List ℕ) (size : Size) (n a : ℕ) (r q : Result ℕ Refusal) → TakeSays words fulls size n a r → TakeSays words fulls size n a q → r ≡ q
take_one_answer words fulls size n a r q p o = granted_says_injective r q (p ∙ sym o)

pub next_free_one_answer : (words fulls : List ℕ) (size : Size) (start : ℕ) (r q : Result ℕ Refusal) → NextFreeSays words fulls size start r
    → NextFreeSays words fulls size start q → r ≡ q
next_free_one_answer words fulls size start r q p o = answer_says_injective r q (p ∙ sym o)

pub get_one_answer : (words : List ℕ) (size : Size) (slot : ℕ) (r q : Result Bool Refusal) → GetSays words size slot r → GetSays words size slot q → r ≡ q
get_one_answer words size slot r q p o = answer_says_injective r q (p ∙ sym o)
