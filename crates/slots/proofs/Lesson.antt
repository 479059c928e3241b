-- What stood in specs/Lesson and rests on theorems there: moved, its statements unchanged. Rests on `Lesson`.
use Rattle.std.specs.Prelude.{◌≡◌, refl, ◌↔◌, Bool, true, false, ℕ}
use Rattle.std.proofs.Common.{◌∙◌}
use mathlib.Core.List.Perm
use mathlib.Core.List.{List, [], ◌∷◌, Perm}
use Rattle.answers.specs.Said.{value, refused, judged, leaving}
use Rattle.answers.specs.declared.Reply.TheVariants.{At as at, Done as ok}
use Rattle.bits.specs.Range.{least, every, within}
use Rattle.bits.specs.Digits.{digit, number}
use Rattle.slots.specs.Sets.{all_free, all_used, painted, AllUsed}
use Rattle.slots.specs.Lowest.{fits_at, lowest}
use Rattle.slots.specs.Calls.{take_call, free_call}
use Rattle.slots.specs.Promises.{InRange}
use Rattle.slots.proofs.Promises.{free_promise}
use Rattle.slots.specs.Records.{Entry}
use Rattle.slots.specs.View.{View, answered, changed, changed_says, sound_answers}
use Rattle.slots.specs.Kinds.{plain}
use Rattle.slots.specs.Plain.{Asked, take, free}
use Rattle.slots.proofs.Plain.{plain_calls}
use Rattle.slots.specs.Jobs.{start_call, reap_call, record_call}
use Rattle.slots.specs.JobView.{reaped_used}
use Rattle.slots.specs.Turns.{start, reap, record_status}
use Rattle.slots.specs.Series.{made, answers_of, record_of, last_of, last_sound}
use Rattle.slots.specs.Lesson.{four, said_of}

-- only slot 0 is used at first
abbrev free_first : List Asked
free_first = free 0 1 ∷ take 1 0 ∷ []

abbrev take_first : List Asked
take_first = take 1 0 ∷ free 0 1 ∷ []

-- the same two calls in two orders, both accepted throughout: the take that is moved gets another run, so the entries are no longer the same, nor is the map
pub a_moved_take : Perm take_first free_first
    × (answers_of four (plain_calls 2) 1 free_first ≡ value ok ∷ value (at 0) ∷ []) × (last_of four (plain_calls 2) 1 free_first ≡ 1)
    × (answers_of four (plain_calls 2) 1 take_first ≡ value (at 1) ∷ value ok ∷ []) × (last_of four (plain_calls 2) 1 take_first ≡ 2)
unfolding changed answered leaving judged take_call free_call lowest fits_at least every within all_free all_used painted digit number
a_moved_take = (Perm.swap (free 0 1) (take 1 0) [], refl, refl, refl, refl)

abbrev entry : Bool → ℕ → Entry
entry v s = record { used = v; start = s; entries = 1 }

pub its_records : (record_of four (plain_calls 2) 1 free_first ≡ entry false 0 ∷ entry true 0 ∷ []) × (record_of four (plain_calls 2) 1 take_first ≡ entry true 1 ∷ entry false 0 ∷ [])
unfolding changed answered leaving judged take_call free_call lowest fits_at least every within all_free all_used painted digit number
its_records = (refl, refl)

-- a second free is refused while the slot is free, and the map is not changed; once another has taken the slot again it is accepted: slot numbers alone
-- cannot tell it
pub a_second_free : (answers_of four (plain_calls 2) 0 (take 1 0 ∷ free 0 1 ∷ free 0 1 ∷ []) ≡ value (at 0) ∷ value ok ∷ refused 5 ∷ [])
    × (last_of four (plain_calls 2) 0 (take 1 0 ∷ free 0 1 ∷ free 0 1 ∷ []) ≡ 0)
    × (answers_of four (plain_calls 2) 0 (take 1 0 ∷ free 0 1 ∷ take 1 0 ∷ free 0 1 ∷ []) ≡ value (at 0) ∷ value ok ∷ value (at 0) ∷ value ok ∷ [])
unfolding changed answered leaving judged take_call free_call lowest fits_at least every within all_free all_used painted digit number
a_second_free = (refl, refl, refl)

-- and in general, over any layout: after any series of calls, whoever made them, a free of a range is accepted exactly when all its slots are used
pub a_later_free : (L : View plain) (m : L.Map) → L.Sound m → (cs : List Asked) (s n : ℕ) → InRange L.k s n
    → ((made L (plain_calls L.k) (last_of L (plain_calls L.k) m cs) (free s n)).0 ≡ value ok) ↔ AllUsed (L.state_of (last_of L (plain_calls L.k) m cs)) s n
a_later_free L m sound cs s n range =
    let last : L.Map = last_of L (plain_calls L.k) m cs in
    let accepts = free_promise L.k (L.state_of last) s n in
    rw (changed_says L last (free_call L.k (L.state_of last) s n) ∙ sound_answers L last _ (last_sound L (plain_calls L.k) (λ X c reply said. tt) m sound cs))
    (λ said. (accepts.0 said).1, λ used. accepts.1 (range, used))

-- a free of no entries is refused, whatever the map
pub a_free_of_none : (m : ℕ) → answers_of four (plain_calls 2) m (free 0 0 ∷ []) ≡ refused 2 ∷ []
unfolding changed answered leaving judged free_call
a_free_of_none m = refl

-- freed when its job is reaped, slot 0 is granted again at once. Reaped, it is not: the next group gets slot 1, and slot 0 only after the recording
pub reaped_is_not_free : (answers_of four (plain_calls 2) 0 (take 1 0 ∷ free 0 1 ∷ take 1 0 ∷ []) ≡ value (at 0) ∷ value ok ∷ value (at 0) ∷ [])
    × (said_of (0, 0) (start 1 0 ∷ reap 0 1 ∷ start 1 0 ∷ record_status 0 1 ∷ start 1 0 ∷ []) ≡ value (at 0) ∷ value ok ∷ value (at 1) ∷ value ok ∷ value (at 0) ∷ [])
unfolding changed answered leaving judged take_call free_call start_call reap_call record_call lowest fits_at least every within all_free all_used painted reaped_used digit number
reaped_is_not_free = (refl, refl)
