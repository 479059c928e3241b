-- Take, claim and free on sets of slots, as a family, each with its bridge. Rests on `Promises` and on `Family`.
use Rattle.std.specs.Prelude.{◌≡◌, refl, Bool, true, false, ℕ}
use Rattle.answers.specs.declared.Reply.{Reply}
use Rattle.answers.specs.declared.Reply.TheVariants.{At as at, Done as ok}
use Rattle.slots.specs.Sets.{Slots}
use Rattle.slots.specs.Calls.{Call, take_call, claim_call, free_call}
use Rattle.slots.specs.Records.{Entry}

-- any list of take, claim and free calls with any numbers may stand in a series. Loose set is not among them
pub data Asked : Type 0 where
  -- n slots at a multiple of 2 ^ a
  take : (n a : ℕ) → Asked
  -- the n slots from s on
  claim : (s n : ℕ) → Asked
  free : (s n : ℕ) → Asked

abbrev pub call_of : ℕ → Slots → Asked → Call Slots Reply
call_of k S (take n a) = take_call k S n a
call_of k S (claim s n) = claim_call k S s n
call_of k S (free s n) = free_call k S s n

-- where the run that was taken starts
abbrev pub start_of : Reply → ℕ
start_of (at o) = o
start_of ok = 0

-- what an accepted call writes down: the run that was taken or claimed, or the range that was freed
abbrev pub entry_of : Asked → Reply → Entry
entry_of (take n a) reply = record { used = true; start = start_of reply; entries = n }
entry_of (claim s n) reply = record { used = true; start = s; entries = n }
entry_of (free s n) reply = record { used = false; start = s; entries = n }

-- an entry as a call: a take stands as a claim of its run
abbrev pub asked_for : Entry → Asked
asked_for e = elim e.used [ true ↦ claim e.start e.entries | false ↦ free e.start e.entries ]

-- an entry as a call, and what that writes down
pub entry_asked : (e : Entry) (reply : Reply) → entry_of (asked_for e) reply ≡ e
entry_asked e reply = by_sign e.used e.start e.entries
  where
    by_sign : (v : Bool) (s n : ℕ) → entry_of (asked_for (record { used = v; start = s; entries = n })) reply ≡ record { used = v; start = s; entries = n }
    by_sign true s n = refl
    by_sign false s n = refl
