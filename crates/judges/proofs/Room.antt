-- The search over the greatest map says the same of a smaller one, once slots past its end count as none.
use mathlib.Core.Path.{◌≡◌, sym, ap, ◌∙◌}
use mathlib.Core.Bool.{Bool, not}
use Prim.Native.Nat.{ℕ, ◌-◌, ◌^◌, ◌≤◌, ◌<◌, min}
use native.Mathlib.Nat.{min-eq_left, le_of_lt, le_trans}
use native.Mathlib.Omega.{arith}
use lib.Dec.{ltb}
use borrow.Author.Tests.{ltb-true, ltb-false}
use Rattle.answers.specs.Said.{value, refused}
use Rattle.bits.specs.Range.{either, least, least_is, least_none, least_from, least_passes, least_first}
use Rattle.slots.specs.Sets.{Slots}
use Rattle.slots.specs.Lowest.{free_from}
use Rattle.slots.specs.Tries.{slot_or_none, says_room_none, says_room_found}

module _ (k : ℕ) (S : Slots) (s : ℕ) (most : 2 ^ k ≤ 16384) where
  abbrev test : ℕ → Bool
  test i = not (S i)

  abbrev far : ℕ
  far = free_from 14 S s

  -- from a slot of the smaller map
  module _ (inside : s < 2 ^ k) where
    far_is : far ≡ least test s (16384 - s)
    unfolding free_from
    far_is = ap (λ (b : ℕ). least test b (16384 - s)) (min-eq_left (omega arith))

    near_is : free_from k S s ≡ least test s (2 ^ k - s)
    unfolding free_from
    near_is = ap (λ (b : ℕ). least test b (2 ^ k - s)) (min-eq_left (le_of_lt inside))

    found : far < 2 ^ k → free_from k S s ≡ far
    found l =
        let low : least test s (16384 - s) < 2 ^ k = rw (sym far_is) l in
        near_is ∙ least_is test s (2 ^ k - s) (least test s (16384 - s)) (least_from test s (16384 - s)) (omega arith)
        (least_passes test s (16384 - s) (omega arith)) (λ i f b. least_first test s (16384 - s) i f b) ∙ sym far_is

    none : 2 ^ k ≤ far → free_from k S s ≡ 2 ^ k
    none l =
        let high : 2 ^ k ≤ least test s (16384 - s) = rw (sym far_is) l in
        near_is ∙ least_none test s (2 ^ k - s) (λ i f b. least_first test s (16384 - s) i f (omega arith)) ∙ omega arith

  far_past : 2 ^ k ≤ s → 2 ^ k ≤ far
  unfolding free_from
  far_past l = let from = least_from test (min s 16384) (16384 - s) in le_trans (omega arith) from

  near_past : 2 ^ k ≤ s → 2 ^ k ≤ free_from k S s
  unfolding free_from
  near_past l = let from = least_from test (min s (2 ^ k)) (2 ^ k - s) in le_trans (omega arith) from

  pub room_none : 2 ^ k ≤ far → refused 7 ≡ slot_or_none k (free_from k S s)
  room_none l =
      either (ltb s (2 ^ k)) (λ t. says_room_none k _ (rw (none (ltb-true s (2 ^ k) t) l) (omega arith)))
      (λ t. says_room_none k _ (near_past (ltb-false s (2 ^ k) t)))

  pub room_found : far < 2 ^ k → value far ≡ slot_or_none k (free_from k S s)
  room_found l =
      either (ltb s (2 ^ k)) (λ t. rw (found (ltb-true s (2 ^ k) t) l) (says_room_found k far l))
      (λ t. absurd (omega (arith, far_past (ltb-false s (2 ^ k) t))))
