-- Demand 3 of the map below jobs, by citing: what a series on jobs leaves below is what a series of takes and frees leaves there, and their record is that of
-- the grants and the recordings. Over any capacity, any map below and any types of outcomes. Rests on `JobDemands`.
use Rattle.std.specs.Prelude.{true, false, List, [], ◌∷◌}
use Rattle.answers.specs.Said.{Said, value, refused}
use Rattle.answers.specs.declared.Reply.{Reply}
use Rattle.slots.specs.Kinds.{plain}
use Rattle.slots.specs.View.{View}
use Rattle.slots.specs.Records.{Entry}
use Rattle.slots.specs.Plain as Plain
use Rattle.slots.specs.Plain.{take, free}
use Rattle.slots.specs.JobView.{Paired}
use Rattle.slots.specs.Turns.{Asked, start, reap, record_status, Event, granted, reaping, recording}

-- what reaches the map below: an accepted start is a take there, and an accepted recording a free
abbrev pub reaching : Asked → Said Reply → List Plain.Asked → List Plain.Asked
reaching (start n a) (value reply) cs = take n a ∷ cs
reaching (reap s n) (value reply) cs = cs
reaching (record_status s n) (value reply) cs = free s n ∷ cs
reaching c (refused r) cs = cs

-- the entries of the map's record: what is granted becomes used, and what is recorded becomes free
abbrev pub entries_of : List Event → List Entry
entries_of [] = []
entries_of (granted s n ∷ es) = record { used = true; start = s; entries = n } ∷ entries_of es
entries_of (reaping s n ∷ es) = entries_of es
entries_of (recording s n ∷ es) = record { used = false; start = s; entries = n } ∷ entries_of es

module _ (B R : View plain) (M : Type 0) (P : Paired B R M) (Out : Type 0) (said : Out → Said Reply) (left : Out → M)
    (OutB : Type 0) (saidB : OutB → Said Reply) (left_b : OutB → B.Map) where
  -- the calls that reached the map below
  abbrev pub below : List Asked → List Out → List Plain.Asked
  below [] rs = []
  below (c ∷ cs) [] = []
  below (c ∷ cs) (r ∷ rs) = reaching c (said r) (below cs rs)
