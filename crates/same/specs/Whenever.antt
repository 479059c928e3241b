-- What holds whenever a step gives a value; where it stops, nothing is owed. A rule for each form of the machine. Rests on `Machine`.
use Rattle.std.specs.Prelude.{◌≡◌, refl, Bool, true, false, ℕ, zero, suc, ◌+◌, ◌-◌, ◌*◌, ◌%◌, ◌^◌, ◌≤◌, ◌<◌, leb, ltb}
use Rattle.std.proofs.Common.{sym, one-mul, mod-eq_of_lt, le_refl, add-zero, add-suc, suc-add, arith, leb-true, ltb-true}
use Rattle.std.proofs.Math.Option.{Option, none, some}
use Rattle.std.proofs.Math.Pow.{pow-lt}
use Rattle.source.specs.Machine.{Run, gives, stops, ◌>>=◌, ◌+?◌, ◌-?◌, ◌*?◌, shifted, Turn, next, break, return, Loop, left, returned, for_turns, while}

abbrev pub Whenever : {A : Type 0} → Run A → (A → Type 0) → Type 0
Whenever (gives a) P = P a
Whenever stops P = Unit {0}

pub then : {A B : Type 0} (x : Run A) (f : A → Run B) (P : B → Type 0) → Whenever x (λ a. Whenever (f a) P) → Whenever (x >>= f) P
then (gives a) f P h = h
then stops f P h = tt

pub so : {A : Type 0} (x : Run A) (P Q : A → Type 0) → Whenever x P → ((a : A) → P a → Q a) → Whenever x Q
so (gives a) P Q h onward = onward a h
so stops P Q h onward = tt

-- what holds of any value
pub anyhow : {A : Type 0} (x : Run A) (P : A → Type 0) → ((a : A) → P a) → Whenever x P
anyhow (gives a) P h = h a
anyhow stops P h = tt

pub both : {A : Type 0} (x : Run A) (P Q : A → Type 0) → Whenever x P → Whenever x Q → Whenever x (λ a. P a × Q a)
both (gives a) P Q p q = (p, q)
both stops P Q p q = tt

-- ---- a test

pub tested : {A : Type 0} (b : Bool) (x y : Run A) (P : A → Type 0) → (b ≡ true → Whenever x P) → (b ≡ false → Whenever y P)
    → Whenever (elim b [ true ↦ x | false ↦ y ]) P
tested true x y P passed failed = passed refl
tested false x y P passed failed = failed refl

-- some or none, of which F is known
pub optioned : {A X : Type 0} (o : Option X) (x : X → Run A) (y : Run A) (P : A → Type 0) (F : Option X → Type 0) → F o
    → ((a : X) → F (some a) → Whenever (x a) P) → (F none → Whenever y P) → Whenever (elim o [ some a ↦ x a | none ↦ y ]) P
optioned (some a) x y P F h there absent = there a h
optioned none x y P F h there absent = absent h

-- ---- arithmetic, and what follows it

module _ {B : Type 0} (f : ℕ → Run B) (P : B → Type 0) where
  pub sum_then : (a b : ℕ) → (a + b < 2 ^ 64 → Whenever (f (a + b)) P) → Whenever ((a +? b) >>= f) P
  sum_then a b h = then (a +? b) f P (tested (ltb (a + b) (2 ^ 64)) _ _ _ (λ e. h (ltb-true (a + b) (2 ^ 64) e)) (λ e. tt))

  pub difference_then : (a b : ℕ) → (b ≤ a → Whenever (f (a - b)) P) → Whenever ((a -? b) >>= f) P
  difference_then a b h = then (a -? b) f P (tested (leb b a) _ _ _ (λ e. h (leb-true b a e)) (λ e. tt))

  pub product_then : (a b : ℕ) → (a * b < 2 ^ 64 → Whenever (f (a * b)) P) → Whenever ((a *? b) >>= f) P
  product_then a b h = then (a *? b) f P (tested (ltb (a * b) (2 ^ 64)) _ _ _ (λ e. h (ltb-true (a * b) (2 ^ 64) e)) (λ e. tt))

  pub shift_then : (w a s : ℕ) → (s < w → Whenever (f (a * 2 ^ s % 2 ^ w)) P) → Whenever (shifted w a s >>= f) P
  shift_then w a s h = then (shifted w a s) f P (tested (ltb s w) _ _ _ (λ e. h (ltb-true s w e)) (λ e. tt))

  -- a single 1 is moved up
  pub one_then : (w s : ℕ) → (s < w → Whenever (f (2 ^ s)) P) → Whenever (shifted w 1 s >>= f) P
  one_then w s h = shift_then w 1 s (λ l. rw (one-mul (2 ^ s), mod-eq_of_lt (pow-lt l)) (h l))

-- ---- loops

module _ {S R : Type 0} where
  -- after a turn: what is owed where it goes on, breaks off or returns
  abbrev pub Kept : (S → Type 0) → (Loop S R → Type 0) → Turn S R → Type 0
  Kept Inv Q (next s) = Inv s
  Kept Inv Q (break s) = Q (left s)
  Kept Inv Q (return r) = Q (returned r)

  module _ (body : ℕ → S → Run (Turn S R)) (Inv : ℕ → S → Type 0) (Q : Loop S R → Type 0) where
    on : (n i : ℕ) → ((s : S) → Inv (suc i) s → Whenever (for_turns n (suc i) body s) Q) → (t : Turn S R) → Kept (Inv (suc i)) Q t
        → Whenever (elim t [ next s' ↦ for_turns n (suc i) body s' | break s' ↦ gives (left s') | return r ↦ gives (returned r) ]) Q
    on n i rest (next s') kept = rest s' kept
    on n i rest (break s') kept = kept
    on n i rest (return r) kept = kept

    pub for_rule : (n i : ℕ) → ((j : ℕ) → i ≤ j → j < i + n → (s : S) → Inv j s → Whenever (body j s) (Kept (Inv (suc j)) Q))
        → ((s : S) → Inv (i + n) s → Q (left s)) → (s : S) → Inv i s → Whenever (for_turns n i body s) Q
    for_rule zero i turn end s inv = end s (rw (add-zero i) inv)
    for_rule (suc n) i turn end s inv =
        then (body i s) _ Q (so (body i s) _ _ (turn i (le_refl i) (omega arith) s inv)
        (on n i (for_rule n (suc i) (λ j l h. turn j (omega arith) (omega arith)) (λ s' h. end s' (rw (add-suc i n, sym (suc-add i n)) h)))))

  module _ (test : S → Run Bool) (body : S → Run (Turn S R)) (Inv : S → Type 0) (Q : Loop S R → Type 0)
      (turn : (s : S) → Inv s → Whenever (test s) (λ go. (go ≡ false → Q (left s)) × (go ≡ true → Whenever (body s) (Kept Inv Q)))) where
    onward : (turns : ℕ) → ((s : S) → Inv s → Whenever (while turns test body s) Q) → (t : Turn S R) → Kept Inv Q t
        → Whenever (elim t [ next s' ↦ while turns test body s' | break s' ↦ gives (left s') | return r ↦ gives (returned r) ]) Q
    onward turns rest (next s') kept = rest s' kept
    onward turns rest (break s') kept = kept
    onward turns rest (return r) kept = kept

    pub while_rule : (turns : ℕ) (s : S) → Inv s → Whenever (while turns test body s) Q
    while_rule zero s inv = tt
    while_rule (suc turns) s inv =
        then (test s) _ Q (so (test s) _ _ (turn s inv) (λ go h.
        tested go _ _ Q (λ e. then (body s) _ Q (so (body s) _ _ (h.1 e) (onward turns (while_rule turns)))) (λ e. h.0 e)))
