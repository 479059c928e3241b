-- A family of calls on states of one kind: those that a series may hold. Each call needs one bridge, from an accepted call to the entry that it writes
-- down. Rests on `Records` and on `Calls`.
use Rattle.std.specs.Prelude.{◌≡◌, ℕ}
use Rattle.answers.specs.Said.{value}
use Rattle.answers.specs.declared.Reply.{Reply}
use Rattle.answers.specs.declared.Reply.TheVariants.{Done as ok}
use Rattle.slots.specs.Promises.{InRange}
use Rattle.slots.specs.Kinds.{Kind, State}
use Rattle.slots.specs.Calls.{Call, says}
use Rattle.slots.specs.Records.{Entry, undo, after, Turns}

-- the call c, accepted on X, is the entry e
pub record Bridge (K : Kind) (k : ℕ) (Asked : Type 0) (call_of : State K → Asked → Call (State K) Reply) (asked_for : Entry → Asked)
    (X : State K) (c : Asked) (e : Entry) : Type 0 where
  pub range : InRange k e.start e.entries
  -- every place that the entry names was the other way round, and exactly these are turned
  pub turns : Turns K X e
  pub leaves_as : (call_of X c).after ≡ after K X e
  pub keeps : K.Right (after K X e)
  -- the entry itself is accepted in its place: a take, as a claim of its run
  pub replays : says (call_of X (asked_for e)) ≡ value ok
  -- and undoing it is accepted on the state that it leaves
  pub undoes : says (call_of (after K X e) (asked_for (undo e))) ≡ value ok

pub record Family (K : Kind) (k : ℕ) : Type 1 where
  pub Asked : Type 0
  pub call_of : State K → Asked → Call (State K) Reply
  -- what an accepted call writes down, and an entry as a call
  pub entry_of : Asked → Reply → Entry
  pub asked_for : Entry → Asked
  pub entry_asked : (e : Entry) (reply : Reply) → entry_of (asked_for e) reply ≡ e
  pub bridge : (X : State K) → K.Right X → (c : Asked) (reply : Reply) → says (call_of X c) ≡ value reply
      → Bridge K k Asked call_of asked_for X c (entry_of c reply)
