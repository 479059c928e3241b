-- `judges::lowest_start` meets its contract, at any size. The loop's invariant: no start below the try fits, and the try is a multiple of 2 ^ a.
use Rattle.std.specs.Prelude.{◌≡◌, ◌+◌, ◌^◌, ◌≤◌, ◌<◌}
use Rattle.std.proofs.Common.{sym, ap, ◌∙◌, arith}
use Rattle.answers.specs.Answers.{answer_says}
use Rattle.views.specs.Painting.{slot_in}
use Rattle.views.specs.Full.{filled, seen_from}
use Rattle.views.proofs.Full.{seen_used}
use Rattle.slots.specs.Sets.{Slots, AllFree}
use Rattle.slots.specs.Search.{searched_past, searched_full, searched_found}
use Rattle.slots.specs.Tries.{Ahead, trying_first, next_found, next_none, run_free, run_not_free}
use Rattle.slots.proofs.Tries.{says_none, says_found, try_later, try_on}
use Rattle.judges.specs.Sizes.{exponent_of, exponent_most, capacity_most}
use Rattle.judges.proofs.lowest_start.Goals as goal
use Rattle.judges.proofs.lowest_start.Goals.{Joined-free-start, then-free-start+else-fits, else-free-start}

pub overflow_sub-last : goal.overflow_sub-last
overflow_sub-last c = rw c.capacity.ensures c.requires.1

pub loop-start-init : goal.loop-start-init
loop-start-init c = trying_first (exponent_of c.args.size) (slot_in (filled c.args.words.now c.args.fulls.now)) c.args.n c.args.a c.requires.0

-- no slot from the try on is free
pub returns-in_default : goal.returns-in_default
returns-in_default c =
    let k = exponent_of c.args.size in
    let words = c.args.words.now in
    let fulls = c.args.fulls.now in
    let start = c.loop-start.start in
    let inside : start < 2 ^ k = omega (arith, c.loop-start-test.true, c.capacity.ensures, c.requires.0, c.requires.1) in
    says_none k (slot_in (filled words fulls)) c.args.n c.args.a c.requires.0
    (searched_full k (slot_in (filled words fulls)) c.args.n c.args.a c.requires.0 start c.loop-start.invariant.known
    (λ i l b. seen_used words fulls start i (next_none k (seen_from words fulls start) start inside _ c.in_default.ensures i l b)))

-- the run at the try is free
pub returns-then-fits : goal.returns-then-fits
returns-then-fits c =
    let k = exponent_of c.args.size in
    let set = slot_in (filled c.args.words.now c.args.fulls.now) in
    says_found k set c.args.n c.args.a c.requires.0 c.loop-start.start
    (searched_found k set c.args.n c.args.a c.requires.0 c.loop-start.start c.loop-start.invariant.known
    (omega (arith, c.loop-start-test.true, c.capacity.ensures, c.requires.1))
    (run_free set c.loop-start.start c.args.n _ c.fits.ensures c.if-fits.true))

-- ---- where the ways meet: the next free slot, and that the run at the try is not free

set_at : Joined-free-start → Slots
set_at c = slot_in (filled c.args.words.now c.args.fulls.now)

ends_at : (c : Joined-free-start) → c.loop-start.start + c.args.n ≤ 2 ^ exponent_of c.args.size
ends_at c = omega (arith, c.loop-start-test.true, c.capacity.ensures, c.requires.1)

next_at : (c : Joined-free-start) → Ahead (exponent_of c.args.size) (set_at c) c.loop-start.start c.in-Ok.free
unfolding set_at
next_at c =
    let words = c.args.words.now in
    let fulls = c.args.fulls.now in
    let start = c.loop-start.start in
    let next = next_found (exponent_of c.args.size) (seen_from words fulls start) start (omega (arith, ends_at c, c.requires.0)) c.in-Ok.free
    (ap answer_says (sym c.in-Ok.is) ∙ c.next_free_in.ensures) in
    record { from = next.from; inside = next.inside; first = λ i l b. seen_used words fulls start i (next.first i l b) }

not_free_at : (c : Joined-free-start) → c.in-Ok.free ≡ c.loop-start.start → AllFree (set_at c) c.loop-start.start c.args.n → ⊥
unfolding set_at
not_free_at c =
    elim c.if-free-start.branch [
      | then-free-start+else-fits w ↦ λ _. run_not_free (set_at c) c.loop-start.start c.args.n _ w.fits.ensures w.if-fits.false
      | else-free-start w ↦ λ same. absurd (w.if-free-start.false same)
    ]

pub next_try-start-requires : goal.next_try-start-requires
next_try-start-requires c =
    let next = next_at c in
    (next.from, omega (arith, next.inside, capacity_most c.args.size), omega (arith, c.requires.2, exponent_most c.args.size))

pub loop-start-preserved : goal.loop-start-preserved
unfolding set_at
loop-start-preserved c =
    let met = (goal.at.loop-start-preserved c).Joined-free-start in
    rw c.next_try-start.ensures
    (try_on (exponent_of c.args.size) (set_at met) c.args.n c.args.a c.requires.0 c.loop-start.start (ends_at met) c.in-Ok.free (next_at met) c.loop-start.invariant (not_free_at met))

pub loop-start-smaller : goal.loop-start-smaller
unfolding set_at
loop-start-smaller c =
    let met = (goal.at.loop-start-smaller c).Joined-free-start in
    let later = try_later (exponent_of c.args.size) (set_at met) c.args.n c.args.a c.requires.0 c.loop-start.start (ends_at met) c.in-Ok.free (next_at met) in
    rw c.next_try-start.ensures (omega (arith, later, c.loop-start.invariant.near))

-- the tries are past the end
pub returns : goal.returns
returns c =
    let k = exponent_of c.args.size in
    let set = slot_in (filled c.args.words.now c.args.fulls.now) in
    says_none k set c.args.n c.args.a c.requires.0
    (searched_past k set c.args.n c.args.a c.requires.0 c.loop-start.start c.loop-start.invariant.known
    (omega (arith, c.loop-start-test.false, c.capacity.ensures, c.requires.1)))
