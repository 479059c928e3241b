-- What is said on each way that a program takes through its checks, over the capacity: the judges' proofs cite these. Rests on `Calls`.
use mathlib.Core.Path.{◌≡◌, refl}
use mathlib.Core.Bool.{false}
use Prim.Native.Nat.{ℕ, ◌-◌, ◌^◌, ◌≤◌, ◌<◌}
use native.Mathlib.Omega.{arith}
use lib.Dec.{eqb}
use borrow.Author.Tests.{eq-eqb, ne_eqb, lt-ltb, le-ltb, lt-leb, le-leb}
use Rattle.answers.specs.Said.{value, refused, judged}
use Rattle.slots.specs.Sets.{Slots, all_free}
use Rattle.slots.specs.Calls.{says, range_checks, take_call, next_free_call, get_call, empty_call}

-- ---- the checks of a range

module _ {A : Type 0} (k s n : ℕ) (x : A) where
  pub range_empty : n ≡ 0 → judged (range_checks k s n) x ≡ refused 2
  unfolding judged
  range_empty e = rw (eq-eqb n 0 e)

  pub range_starts_past : 0 < n → 2 ^ k < s → judged (range_checks k s n) x ≡ refused 4
  unfolding judged
  range_starts_past pos l = rw (ne_eqb n 0 (λ e. omega arith), lt-ltb (2 ^ k) s l)

  pub range_ends_past : 0 < n → s ≤ 2 ^ k → 2 ^ k - s < n → judged (range_checks k s n) x ≡ refused 4
  unfolding judged
  range_ends_past pos l h = rw (ne_eqb n 0 (λ e. omega arith), le-ltb (2 ^ k) s l, lt-ltb (2 ^ k - s) n h)

  pub range_inside : 0 < n → s ≤ 2 ^ k → n ≤ 2 ^ k - s → judged (range_checks k s n) x ≡ value x
  unfolding judged
  range_inside pos l h = rw (ne_eqb n 0 (λ e. omega arith), le-ltb (2 ^ k) s l, le-ltb (2 ^ k - s) n h)

-- ---- the checks of take

module _ (k : ℕ) (S : Slots) (n a : ℕ) where
  pub take_empty : n ≡ 0 → says (take_call k S n a) ≡ refused 2
  unfolding says take_call judged
  take_empty e = rw (eq-eqb n 0 e)

  module _ (pos : 0 < n) where
    some : eqb n 0 ≡ false
    some = ne_eqb n 0 (λ e. omega arith)

    pub take_too_aligned : k ≤ a → says (take_call k S n a) ≡ refused 3
    unfolding says take_call judged
    take_too_aligned l = rw (some, le-leb k a l)

    module _ (small : a < k) where
      pub take_too_many : 2 ^ k < n → says (take_call k S n a) ≡ refused 4
      unfolding says take_call judged
      take_too_many l = rw (some, lt-leb k a small, lt-ltb (2 ^ k) n l)

-- ---- the checks of the calls that only ask

module _ (k : ℕ) (S : Slots) (i : ℕ) where
  pub next_free_past : 2 ^ k ≤ i → says (next_free_call k S i) ≡ refused 4
  unfolding says next_free_call judged
  next_free_past l = rw (le-leb (2 ^ k) i l)

  pub get_past : 2 ^ k ≤ i → says (get_call k S i) ≡ refused 4
  unfolding says get_call judged
  get_past l = rw (le-leb (2 ^ k) i l)

  pub get_inside : i < 2 ^ k → says (get_call k S i) ≡ value (S i)
  unfolding says get_call judged
  get_inside l = rw (lt-leb (2 ^ k) i l)

pub empty_says : (k : ℕ) (S : Slots) → says (empty_call k S) ≡ value (all_free S 0 (2 ^ k))
unfolding says empty_call judged
empty_says k S = refl
