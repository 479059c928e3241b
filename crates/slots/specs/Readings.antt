-- Readings of document 01 that are easily got wrong, as rows that antt computes; those that hold for any map are over any map. Rests on `Calls` and on `Gaps`.
use Rattle.std.specs.Prelude.{◌≡◌, refl, Bool, true, false, List, [], ◌∷◌, ℕ, ◌-◌, ◌%◌, ◌^◌, ltb, eqb}
use Rattle.answers.specs.Said.{value, refused, judged}
use Rattle.answers.specs.Answers.{run}
use Rattle.answers.specs.declared.Reply.TheVariants.{At as at}
use Rattle.bits.specs.Range.{least, every}
use Rattle.slots.specs.Sets.{Slots, none, all, all_free, all_used}
use Rattle.slots.specs.Lowest.{fits_at, lowest}
use Rattle.slots.specs.Runs.{runs_in, joined, first_best}
use Rattle.slots.specs.Gaps.{runs_of, longest_of}
use Rattle.slots.specs.Calls.{says, take_call, claim_call, free_call, set_call}

-- each row's two sides are equal
abbrev pub Right : {A : Type 0} → List (A × A) → Type 0
Right [] = Unit {0}
Right (row ∷ rows) = (row.0 ≡ row.1) × Right rows

-- no entries: 2, whatever the map, the start, the exponent and the value are
pub no_entries : (k : ℕ) (S : Slots) (s a : ℕ) (v : Bool) → Right (
    (says (take_call k S 0 a), refused 2)
    ∷ (says (claim_call k S s 0), refused 2)
    ∷ (says (free_call k S s 0), refused 2)
    ∷ (says (set_call k S s 0 v), refused 2)
    ∷ [])
unfolding says judged take_call claim_call free_call set_call
no_entries k S s a v = (refl, (refl, (refl, (refl, tt))))

-- only slot i is used
pub only : ℕ → Slots
only i s = eqb s i

pub readings : Right (
    (says (claim_call 10 none 1024 1), refused 4)
    ∷ (says (claim_call 10 none (2 ^ 64 - 1) 2), refused 4)
    ∷ (says (free_call 10 none 1023 2), refused 4)
    ∷ (says (take_call 10 none 1025 10), refused 3)
    ∷ (says (take_call 10 none 1 (2 ^ 64 - 1)), refused 3)
    ∷ (says (take_call 10 none 1024 9), value (at 0))
    ∷ (says (take_call 10 (only 1023) 1024 0), refused 7)
    ∷ (says (take_call 10 (only 0) 1 9), value (at 512))
    ∷ (says (take_call 10 (only 0) 64 0), value (at 1))
    ∷ [])
unfolding says judged take_call claim_call free_call lowest fits_at least every all_free all_used only
readings = (refl, (refl, (refl, (refl, (refl, (refl, (refl, (refl, (refl, tt)))))))))

-- the runs of some maps: two that touch are one, a run ends where the map does, and of runs that are equally long the lowest is the longest
pub listings : Right (
    (runs_of 10 false none, run 0 1024 ∷ [])
    ∷ (runs_of 10 true none, [])
    ∷ (runs_of 10 false all, [])
    ∷ (runs_of 10 true all, run 0 1024 ∷ [])
    ∷ (runs_of 10 false (only 0), run 1 1023 ∷ [])
    ∷ (runs_of 10 false (only 63), run 0 63 ∷ run 64 960 ∷ [])
    ∷ (runs_of 10 true (only 1023), run 1023 1 ∷ [])
    ∷ (runs_of 3 true (λ i. ltb (i % 5) 3), run 0 3 ∷ run 5 3 ∷ [])
    ∷ (longest_of 3 true (λ i. ltb (i % 5) 3) ∷ [], run 0 3 ∷ [])
    ∷ (longest_of 3 false (only 3) ∷ [], run 4 4 ∷ [])
    ∷ [])
unfolding runs_of runs_in joined longest_of first_best only
listings = (refl, (refl, (refl, (refl, (refl, (refl, (refl, (refl, (refl, (refl, tt))))))))))
