-- One turn of the search that take makes, over the capacity: the next free slot from the try on, what is known of it, and the try that follows.
-- The search of `judges` cites these. Rests on `Search`.
use Rattle.std.specs.Prelude.{◌≡◌, Bool, true, false, [], ◌∷◌, ℕ, ◌+◌, ◌-◌, ◌*◌, ◌/◌, ◌%◌, ◌^◌, ◌≤◌, ◌<◌, leb, eqb}
use Rattle.std.proofs.Math.Path.{sym}
use Rattle.std.proofs.Common.{◌∙◌, zero-le, mod-eq_of_lt}
use native.Mathlib.Omega.{arith}
use Rattle.std.proofs.Math.Pow.{pow-lt}
use borrow.Author.Tests.{ne_eqb, le-ltb, lt-leb, le-leb}
use Rattle.answers.specs.Said.{Said, value, refused, ◌when◌, judged, on_value, judged_found, judged_passed, judged_next, judged_on_value}
use Rattle.answers.specs.declared.Reply.TheVariants.{At as at}
use Rattle.slots.specs.Sets.{Slots, all_free, AllFree, finds_all_free}
use Rattle.slots.specs.Lowest.{lowest, free_from}
use Rattle.slots.specs.Calls.{says, take_call, next_free_call}
use Rattle.slots.specs.Promises.{NextFree, NoneFree, next_free_promise, next_free_none}
use Rattle.slots.specs.Search.{Searched, next_multiple, next_near, searched_none}

-- a slot below the capacity, or no room
unfoldable pub slot_or_none : ℕ → ℕ → Said ℕ
slot_or_none k slot = judged ((7 when leb (2 ^ k) slot) ∷ []) slot

-- the try after the one at `start`, from which `free` is the next free slot
unfoldable pub next_try : ℕ → ℕ → ℕ → ℕ
next_try start free a = next_multiple a (elim (eqb free start) [ true ↦ start | false ↦ free - 1 ])

-- ---- a slot, or none, is said

module _ (k slot : ℕ) where
  pub says_room_none : 2 ^ k ≤ slot → refused 7 ≡ slot_or_none k slot
  unfolding slot_or_none
  says_room_none l = sym (judged_found 7 _ _ (le-leb (2 ^ k) slot l))

  pub says_room_found : slot < 2 ^ k → value slot ≡ slot_or_none k slot
  unfolding slot_or_none
  says_room_found l = sym (judged_passed 7 _ slot (lt-leb (2 ^ k) slot l))

-- with numbers that pass, take says what the search says
pub take_searched : (k : ℕ) (S : Slots) (n a : ℕ) → 0 < n → a < k → n ≤ 2 ^ k → on_value at (slot_or_none k (lowest k S n a)) ≡ says (take_call k S n a)
unfolding slot_or_none says take_call
take_searched k S n a pos small few =
    judged_on_value at ((7 when leb (2 ^ k) (lowest k S n a)) ∷ []) (lowest k S n a)
    ∙ sym (judged_next 2 _ _ _ (ne_eqb n 0 (λ e. omega arith)) ∙ judged_next 3 _ _ _ (lt-leb k a small) ∙ judged_next 4 _ _ _ (le-ltb (2 ^ k) n few))

-- ---- the next free slot from the try on

module _ (k : ℕ) (S : Slots) (start : ℕ) (inside : start < 2 ^ k) where
  -- what the search for it says is what the set says
  pub next_says : slot_or_none k (free_from k S start) ≡ says (next_free_call k S start)
  unfolding slot_or_none says next_free_call judged
  next_says = rw (lt-leb (2 ^ k) start inside)

  pub next_found : (free : ℕ) → value free ≡ slot_or_none k (free_from k S start) → NextFree k S start free
  next_found free told = (next_free_promise k S start free).0 (sym next_says ∙ sym told)

  pub next_none : (r : ℕ) → refused r ≡ slot_or_none k (free_from k S start) → NoneFree k S start
  next_none r told = next_free_none k S start r inside (sym next_says ∙ sym told)

-- ---- what is known at each try, and the try that follows

-- no start below the try fits, and the try is not far past the end
-- the search goes on from a slot of the map, and each slot before it is used
pub record Ahead (k : ℕ) (S : Slots) (start free : ℕ) : Type 0 where
  pub from : start ≤ free
  pub inside : free < 2 ^ k
  pub first : (i : ℕ) → start ≤ i → i < free → S i ≡ true

pub record Trying (k : ℕ) (S : Slots) (n a start : ℕ) : Type 0 where
  pub known : Searched k S n a start
  pub near : start ≤ 2 ^ k + 2 ^ a

module _ (k : ℕ) (S : Slots) (n a : ℕ) (pos : 0 < n) where
  pub trying_first : Trying k S n a 0
  trying_first = record { known = searched_none k S n a pos; near = zero-le }

-- ---- the run at a try, as a flag shows it

module _ (S : Slots) (start n : ℕ) (flag : Bool) (shown : flag ≡ all_free S start n) where
  pub run_free : flag ≡ true → AllFree S start n
  run_free e = (finds_all_free S start n).0 (rw (sym shown ∙ e) tt)

  pub run_not_free : flag ≡ false → AllFree S start n → ⊥
  run_not_free e free = rw (sym shown ∙ e) at ((finds_all_free S start n).1 free)

-- 2 ^ a for an exponent that passes is below the capacity
pub small_power : (k a : ℕ) → a < k → 2 ^ a < 2 ^ k
small_power k a h = pow-lt h

-- ---- the next multiple as the machine makes it, by shifts of w digits

pub next_by_shifts : (w a p : ℕ) → p + 2 ^ a < 2 ^ w → (p / 2 ^ a + 1) * 2 ^ a % 2 ^ w ≡ next_multiple a p
unfolding next_multiple
next_by_shifts w a p fits = mod-eq_of_lt (omega (arith, next_near a p))
