-- The search that take makes, over the capacity: what is known at each try, why the next try passes over no start that fits, and when it may
-- stop. The loops of the word and of the tree cite these. Rests on `Lowest` and on `Promises`.
use Rattle.std.specs.Prelude.{refl, ℕ, ◌+◌, ◌*◌, ◌/◌, ◌^◌, ◌≤◌, ◌<◌}
use Rattle.std.proofs.Common.{sym, ◌∙◌, true≢false, le_trans, zero-mul, one-mul, add-mul, mul-le-mul_right, lt_of_mul-lt-mul_right, div-mul-le_self, arith, pow_pos}
use Rattle.std.proofs.Math.Nat.{lt-div-mul-add}
use Rattle.bits.specs.Range.{le_of_not_lt}
use Rattle.rounding.specs.Multiples.{Multiple}
use Rattle.slots.specs.Sets.{Slots, AllFree}
use Rattle.slots.specs.Lowest.{Fits, LowestFit, NoStart}
use Rattle.slots.specs.Promises.{NoneFree}

-- the multiple of 2 ^ a that follows the place p
unfoldable pub next_multiple : ℕ → ℕ → ℕ
next_multiple a p = (p / 2 ^ a + 1) * 2 ^ a

-- it is above p, by at most 2 ^ a, and every multiple below it is at most p
pub next_above : (a p : ℕ) → p < next_multiple a p
unfolding next_multiple
next_above a p = rw (add-mul, one-mul) (lt-div-mul-add (pow_pos a))

pub next_near : (a p : ℕ) → next_multiple a p ≤ p + 2 ^ a
unfolding next_multiple
next_near a p = rw (add-mul, one-mul) (omega (arith, div-mul-le_self p (2 ^ a)))

next_passes : (a p o : ℕ) → Multiple (2 ^ a) o → o < next_multiple a p → o ≤ p
unfolding next_multiple
next_passes a p o m h =
    let fewer : m.0 < p / 2 ^ a + 1 = lt_of_mul-lt-mul_right (2 ^ a) (rw m.1 at h) in
    rw m.1 (le_trans (mul-le-mul_right (2 ^ a) (omega arith)) (div-mul-le_self p (2 ^ a)))

-- at a try: the start is a multiple, and no start below it fits
pub record Searched (k : ℕ) (S : Slots) (n a start : ℕ) : Type 0 where
  pub aligned : Multiple (2 ^ a) start
  pub none_below : (o : ℕ) → o < start → Fits k S n a o → ⊥

module _ (k : ℕ) (S : Slots) (n a : ℕ) (pos : 0 < n) where
  -- the first try is 0
  pub searched_none : Searched k S n a 0
  searched_none = record { aligned = (0, sym (zero-mul (2 ^ a))); none_below = λ o h f. omega arith }

  module _ (start : ℕ) (known : Searched k S n a start) where
    -- a start that fits is not below the try, and its first slot is free
    not_below : (o : ℕ) → Fits k S n a o → start ≤ o
    not_below o f = le_of_not_lt (λ l. known.none_below o l f)

    -- past the end: there is none
    pub searched_past : 2 ^ k < start + n → NoStart k S n a
    searched_past h o f = omega (arith, not_below o f, f.ends)

    -- no slot from the try on is free: there is none
    pub searched_full : NoneFree k S start → NoStart k S n a
    searched_full full o f =
        true≢false (sym (full o (not_below o f) (omega (arith, f.ends))) ∙ f.free o (omega arith, omega arith))

    -- the run at the try is free: this is the lowest
    pub searched_found : start + n ≤ 2 ^ k → AllFree S start n → LowestFit k S n a start
    searched_found ends free = record {
      fits = record { aligned = known.aligned; ends = ends; free = free };
      lowest_start = not_below;
    }

    -- no start from the try up to place p fits: the next try is the multiple that follows p
    pub searched_on : (p : ℕ) → start ≤ p → ((o : ℕ) → start ≤ o → o ≤ p → Fits k S n a o → ⊥) → Searched k S n a (next_multiple a p)
    unfolding next_multiple
    searched_on p from none = record {
      aligned = (_, refl);
      none_below = λ o h f. none o (not_below o f) (next_passes a p o f.aligned h) f;
    }
