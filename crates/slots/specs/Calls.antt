-- What each call means on a set of slots in a map of 2 ^ k: its checks in the order of document 01's numbers, what it answers where none of them
-- finds a fault, and the set that it then leaves. A layout adds its own check, number 1, in front. Rests on `Lowest` and on `answers`.
use Rattle.std.specs.Prelude.{Bool, true, false, not, ◌||◌, List, [], ◌∷◌, ◌++◌, ℕ, ◌-◌, ◌^◌, leb, ltb, eqb}
use Rattle.answers.specs.Said.{Said, Check, ◌when◌, judged, leaving}
use Rattle.answers.specs.declared.Reply.{Reply}
use Rattle.answers.specs.declared.Reply.TheVariants.{At as at, Done as ok}
use Rattle.bits.specs.Range.{count}
use Rattle.slots.specs.Sets.{Slots, all_free, all_used, painted}
use Rattle.slots.specs.Lowest.{lowest, free_from}

-- a call on a state of the type X
pub record Call (X A : Type 0) : Type 0 where
  pub checks : List Check
  pub answer : A
  pub after : X

-- what is said of it: the first fault's number, or the answer
unfoldable pub says : {X A : Type 0} → Call X A → Said A
says c = judged c.checks c.answer

-- the state that it leaves: on a refusal the very state
unfoldable pub leaves : {X A : Type 0} → X → Call X A → X
leaves x c = (leaving (says c) (λ _. c.after) x).1

-- the n slots from s on do not end within the capacity; no sum is made that could wrap
abbrev pub past : ℕ → ℕ → ℕ → Bool
past k s n = ltb (2 ^ k) s || ltb (2 ^ k - s) n

-- what claim, free and set check of their range
abbrev pub range_checks : ℕ → ℕ → ℕ → List Check
range_checks k s n = (2 when eqb n 0) ∷ (4 when past k s n) ∷ []

-- ---- the calls that change the map

-- take n slots at the lowest free start that is a multiple of 2 ^ a. The search waits until the checks before 7 have passed
unfoldable pub take_call : ℕ → Slots → ℕ → ℕ → Call Slots Reply
take_call k S n a =
    let start = lowest k S n a in
    let full = leb (2 ^ k) start in
    let answer = at start in
    record {
      checks = (2 when eqb n 0) ∷ (3 when leb k a) ∷ (4 when ltb (2 ^ k) n) ∷ (7 when full) ∷ [];
      answer = answer;
      after = λ i. painted S start n true i;
    }

-- claim the n slots from s on, all of them free
unfoldable pub claim_call : ℕ → Slots → ℕ → ℕ → Call Slots Reply
claim_call k S s n =
    let used = not (all_free S s n) in
    record {
      checks = range_checks k s n ++ ((6 when used) ∷ []);
      answer = ok;
      after = painted S s n true;
    }

-- free the n slots from s on, all of them used
unfoldable pub free_call : ℕ → Slots → ℕ → ℕ → Call Slots Reply
free_call k S s n =
    let free = not (all_used S s n) in
    record {
      checks = range_checks k s n ++ ((5 when free) ∷ []);
      answer = ok;
      after = painted S s n false;
    }

-- give the n slots from s on the value v, whatever they held
unfoldable pub set_call : ℕ → Slots → ℕ → ℕ → Bool → Call Slots Reply
set_call k S s n v = record {
  checks = range_checks k s n;
  answer = ok;
  after = painted S s n v;
}

-- ---- the calls that only ask

-- the least free slot from s on
unfoldable pub next_free_call : ℕ → Slots → ℕ → Call Slots ℕ
next_free_call k S s =
    let slot = free_from k S s in
    let full = leb (2 ^ k) slot in
    record { checks = (4 when leb (2 ^ k) s) ∷ (7 when full) ∷ []; answer = slot; after = S }

-- whether slot i is used
unfoldable pub get_call : ℕ → Slots → ℕ → Call Slots Bool
get_call k S i = record { checks = (4 when leb (2 ^ k) i) ∷ []; answer = S i; after = S }

-- whether no slot is used
unfoldable pub empty_call : ℕ → Slots → Call Slots Bool
empty_call k S = record { checks = []; answer = all_free S 0 (2 ^ k); after = S }

-- how many slots are used
unfoldable pub used_call : ℕ → Slots → Call Slots ℕ
used_call k S = record { checks = []; answer = count S 0 (2 ^ k); after = S }

unfoldable pub capacity : ℕ → ℕ
capacity k = 2 ^ k
