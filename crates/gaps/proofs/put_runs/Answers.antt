-- `gaps::put_runs` meets its contract: from run to run, two numbers each (`Listing`). Assumes nothing.
use Rattle.std.proofs.Common.{◌+◌, ◌*◌, ◌≤◌, ◌<◌, length, length-set, ap, arith}
use Rattle.answers.specs.declared.Run.{Run}
use Rattle.slots.specs.Runs.{end_of, next_run, next_later, next_ends}
use Rattle.slots.specs.Gaps.{having}
use Rattle.views.specs.Painting.{slot_in}
use Rattle.gaps.proofs.Turns.{listing_first, listing_room, listing_long, listing_on, listing_none}
use Rattle.gaps.proofs.put_runs.Goals as goal
use Rattle.gaps.proofs.put_runs.Goals.{In-Some}

pub loop-next-init : goal.loop-next-init
loop-next-init c = listing_first (slot_in c.args.words.now) c.args.used c.args.list.now c.requires

pub next_run-requires : goal.next_run-requires
next_run-requires c = c.loop-next.invariant.inside

-- ---- there is a run, and there is room for it

ends_at : (c : In-Some) → end_of c.in-Some.next ≤ 1024
ends_at c =
    omega (arith, ap end_of c.in-Some.ensures.0, next_ends (having c.args.used (slot_in c.args.words.now)) 1024 c.loop-next.from c.loop-next.invariant.inside)

some_at : (c : In-Some) → 0 < (next_run (having c.args.used (slot_in c.args.words.now)) 1024 c.loop-next.from).length
some_at c = rw c.in-Some.ensures.0 at c.in-Some.ensures.1

room_at : (c : In-Some) → 2 * c.loop-next.count + 2 ≤ 1024
room_at c =
    listing_room (slot_in c.args.words.now) c.args.used c.args.list.now c.requires c.loop-next.list c.loop-next.count c.loop-next.from c.loop-next.invariant (some_at c)

long_at : (c : In-Some) → 1024 ≤ length c.loop-next.list
long_at c =
    omega (arith, listing_long (slot_in c.args.words.now) c.args.used c.args.list.now c.requires c.loop-next.list c.loop-next.count c.loop-next.from c.loop-next.invariant, c.requires)

pub overflow_cast-list : goal.overflow_cast-list
overflow_cast-list c = record { fits = omega (arith, ends_at (goal.at.overflow_cast-list c).In-Some) }

pub overflow_mul-list : goal.overflow_mul-list
overflow_mul-list c = record { fits = omega (arith, room_at (goal.at.overflow_mul-list c).In-Some) }

pub offset_bounds-list-count : goal.offset_bounds-list-count
offset_bounds-list-count c = record { fits = omega (arith, room_at (goal.at.offset_bounds-list-count c).In-Some) }

pub bounds-list-count : goal.bounds-list-count
bounds-list-count c =
    let found = (goal.at.bounds-list-count c).In-Some in
    omega (arith, room_at found, long_at found)

pub overflow_cast-list-in-Some : goal.overflow_cast-list-in-Some
overflow_cast-list-in-Some c = record { fits = omega (arith, ends_at (goal.at.overflow_cast-list-in-Some c).In-Some) }

pub overflow_mul-list-in-Some : goal.overflow_mul-list-in-Some
overflow_mul-list-in-Some c = record { fits = omega (arith, room_at (goal.at.overflow_mul-list-in-Some c).In-Some) }

pub overflow_add-list : goal.overflow_add-list
overflow_add-list c = record { fits = omega (arith, room_at (goal.at.overflow_add-list c).In-Some) }

pub offset_bounds-list-count-in-Some : goal.offset_bounds-list-count-in-Some
offset_bounds-list-count-in-Some c = record { fits = omega (arith, room_at (goal.at.offset_bounds-list-count-in-Some c).In-Some) }

pub bounds-list-count-in-Some : goal.bounds-list-count-in-Some
bounds-list-count-in-Some c =
    let found = (goal.at.bounds-list-count-in-Some c).In-Some in
    simp length-set (omega (arith, room_at found, long_at found))

pub overflow_add-count : goal.overflow_add-count
overflow_add-count c = record { fits = omega (arith, room_at (goal.at.overflow_add-count c).In-Some) }

pub overflow_add-from : goal.overflow_add-from
overflow_add-from c = record { fits = omega (arith, ends_at (goal.at.overflow_add-from c).In-Some) }

pub loop-next-smaller : goal.loop-next-smaller
loop-next-smaller c =
    let later = next_later (having c.args.used (slot_in c.args.words.now)) 1024 c.loop-next.from c.loop-next.invariant.inside in
    omega (arith, ap (λ (r : Run). r.start) c.in-Some.ensures.0, c.in-Some.ensures.1, ends_at (goal.at.loop-next-smaller c).In-Some, later)

pub loop-next-preserved : goal.loop-next-preserved
loop-next-preserved c =
    let is = c.in-Some.ensures.0 in
    listing_on (slot_in c.args.words.now) c.args.used c.args.list.now c.requires c.loop-next.list c.loop-next.count c.loop-next.from c.loop-next.invariant
    (some_at (goal.at.loop-next-preserved c).In-Some) _ _ (ap (λ (r : Run). r.start) is) (ap (λ (r : Run). r.length) is) _ (ap end_of is)

pub returns : goal.returns
returns c =
    listing_none (slot_in c.args.words.now) c.args.used c.args.list.now c.requires c.loop-next.list c.loop-next.count c.loop-next.from c.loop-next.invariant c.in_default.ensures
