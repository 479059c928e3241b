-- The count of used slots kept beside words in a row, in sixteen bits. Rests on `Words`.
use Rattle.std.specs.Prelude.{◌≡◌, Bool, true, false, not, List, ℕ, ◌+◌, ◌-◌, ◌%◌, ◌^◌, ◌≤◌, ◌<◌}
use Rattle.std.proofs.Common.{arith}
use Rattle.bits.specs.Range.{count, count_most}
use Rattle.slots.specs.Sets.{Slots, Named, painted, painted_count, painted_already}
use Rattle.views.specs.Painting.{slots_in, slot_in, slots_most}

-- how many slots of the words are used
abbrev pub count_of : List ℕ → ℕ
count_of words = count (slot_in words) 0 (slots_in words)

pub count_fits : (words : List ℕ) → count_of words < 2 ^ 16
count_fits words = omega (arith, count_most (slot_in words) 0 (slots_in words), slots_most words)

-- ---- it moves with a run

-- the stored count once n slots more are used, or n fewer; the sum is cut off at sixteen bits
unfoldable pub moved_count : ℕ → ℕ → Bool → ℕ
moved_count stored n true = (stored + n % 2 ^ 16) % 2 ^ 16
moved_count stored n false = (stored + (2 ^ 16 - n % 2 ^ 16)) % 2 ^ 16

-- a run that had the other value, within fewer slots than sixteen bits can count: the moved count is that of the painted set
pub moved_right : (S : Slots) (s n c : ℕ) (v : Bool) → s + n ≤ c → c < 2 ^ 16 → ((i : ℕ) → Named s n i → S i ≡ not v) → moved_count (count S 0 c) n v ≡ count (painted S s n v) 0 c
unfolding moved_count
moved_right S s n c true ends fits free =
    let more = painted_count S s n c ends in
    let was = painted_already S s n c false free in
    let most = count_most (painted S s n true) 0 c in
    omega arith
moved_right S s n c false ends fits used =
    let more = painted_count S s n c ends in
    let was = painted_already S s n c true used in
    let most = count_most S 0 c in
    omega arith
