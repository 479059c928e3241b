-- Where a step gives an answer at all: a rule for each form of the machine. Rests on `Whenever`.
use Rattle.std.specs.Prelude.{◌≡◌, refl, Bool, true, false, List, [], ◌∷◌, ℕ, zero, suc, ◌+◌, ◌-◌, ◌*◌, ◌%◌, ◌^◌, ◌≤◌, ◌<◌, leb, ltb, length}
use Rattle.std.proofs.lemmas.Bool.{false≢true}
use Rattle.std.proofs.Math.Option.{Option, none, some}
use Rattle.std.proofs.Common.{one-mul, mod-eq_of_lt, le_refl, arith, le-leb, lt-ltb}
use Rattle.std.proofs.Math.Pow.{pow-lt}
use Rattle.source.specs.Machine.{Run, gives, stops, ◌>>=◌, ◌+?◌, ◌-?◌, ◌*?◌, shifted, ◌at?◌, Turn, next, break, return, Loop, left, returned, for_turns, while}
use Rattle.same.specs.Whenever.{Whenever, so, Kept}

abbrev pub Answers : {A : Type 0} → Run A → Type 0
Answers (gives a) = Unit {0}
Answers stops = ⊥

pub answers_then : {A B : Type 0} (x : Run A) (f : A → Run B) → Answers x → Whenever x (λ a. Answers (f a)) → Answers (x >>= f)
answers_then (gives a) f h onward = onward
answers_then stops f h onward = absurd h

-- both at once: there is an answer, and what holds of it
pub surely : {A : Type 0} (x : Run A) (P : A → Type 0) → Answers x → Whenever x P → (a : A) × (x ≡ gives a) × P a
surely (gives a) P h p = (a, refl, p)
surely stops P h p = absurd h

pub answers_tested : {A : Type 0} (b : Bool) (x y : Run A) → (b ≡ true → Answers x) → (b ≡ false → Answers y) → Answers {A = A} (elim b [ true ↦ x | false ↦ y ])
answers_tested true x y passed failed = passed refl
answers_tested false x y passed failed = failed refl

pub answers_optioned : {A X : Type 0} (o : Option X) (x : X → Run A) (y : Run A) (F : Option X → Type 0) → F o
    → ((a : X) → F (some a) → Answers (x a)) → (F none → Answers y) → Answers {A = A} (elim o [ some a ↦ x a | none ↦ y ])
answers_optioned (some a) x y F h there absent = there a h
answers_optioned none x y F h there absent = absent h

chosen : {A : Type 0} (b : Bool) (a : A) (P : Run A → Type 0) → b ≡ true → P (gives a) → P (elim b [ true ↦ gives a | false ↦ stops ])
chosen true a P e h = h
chosen false a P e h = absurd (false≢true e)

module _ {B : Type 0} (f : ℕ → Run B) where
  pub sum_answers : (a b : ℕ) → a + b < 2 ^ 64 → Answers (f (a + b)) → Answers ((a +? b) >>= f)
  sum_answers a b l h = chosen (ltb (a + b) (2 ^ 64)) (a + b) (λ x. Answers (x >>= f)) (lt-ltb (a + b) (2 ^ 64) l) h

  pub difference_answers : (a b : ℕ) → b ≤ a → Answers (f (a - b)) → Answers ((a -? b) >>= f)
  difference_answers a b l h = chosen (leb b a) (a - b) (λ x. Answers (x >>= f)) (le-leb b a l) h

  pub product_answers : (a b : ℕ) → a * b < 2 ^ 64 → Answers (f (a * b)) → Answers ((a *? b) >>= f)
  product_answers a b l h = chosen (ltb (a * b) (2 ^ 64)) (a * b) (λ x. Answers (x >>= f)) (lt-ltb (a * b) (2 ^ 64) l) h

  pub one_answers : (w s : ℕ) → s < w → Answers (f (2 ^ s)) → Answers (shifted w 1 s >>= f)
  one_answers w s l h = chosen (ltb s w) (1 * 2 ^ s % 2 ^ w) (λ x. Answers (x >>= f)) (lt-ltb s w l) (rw (one-mul (2 ^ s), mod-eq_of_lt (pow-lt l)) h)

pub element_answers : {A : Type 0} (xs : List A) (i : ℕ) → i < length xs → Answers (xs at? i)
element_answers [] i l = absurd (omega arith)
element_answers (x ∷ xs) zero l = tt
element_answers (x ∷ xs) (suc i) l = element_answers xs i (omega arith)

module _ {S R : Type 0} where
  module _ (body : ℕ → S → Run (Turn S R)) (Inv : ℕ → S → Type 0) (Q : Loop S R → Type 0) where
    on : (n i : ℕ) → ((s : S) → Inv (suc i) s → Answers (for_turns n (suc i) body s)) → (t : Turn S R) → Kept (Inv (suc i)) Q t
        → Answers {A = Loop S R} (elim t [ next s' ↦ for_turns n (suc i) body s' | break s' ↦ gives (left s') | return r ↦ gives (returned r) ])
    on n i rest (next s') kept = rest s' kept
    on n i rest (break s') kept = tt
    on n i rest (return r) kept = tt

    pub for_answers : (n i : ℕ) → ((j : ℕ) → i ≤ j → j < i + n → (s : S) → Inv j s → Answers (body j s) × Whenever (body j s) (Kept (Inv (suc j)) Q))
        → (s : S) → Inv i s → Answers (for_turns n i body s)
    for_answers zero i turn s inv = tt
    for_answers (suc n) i turn s inv =
        let here = turn i (le_refl i) (omega arith) s inv in
        answers_then (body i s) _ here.0 (so (body i s) _ _ here.1 (on n i (for_answers n (suc i) (λ j l h. turn j (omega arith) (omega arith)))))

-- a loop over a number that rises at each turn, and is not entered above the bound
module _ {R : Type 0} (test : ℕ → Run Bool) (body : ℕ → Run (Turn ℕ R)) (Inv : ℕ → Type 0) (Q : Loop ℕ R → Type 0) (bound : ℕ)
    (turn : (s : ℕ) → Inv s → Answers (test s)
    × Whenever (test s) (λ go. go ≡ true → (s ≤ bound) × Answers (body s) × Whenever (body s) (Kept (λ s'. Inv s' × (s < s')) Q))) where
  onward : (turns s : ℕ) → ((s' : ℕ) → Inv s' → s < s' → Answers (while turns test body s')) → (t : Turn ℕ R) → Kept (λ s'. Inv s' × (s < s')) Q t
      → Answers {A = Loop ℕ R} (elim t [ next s' ↦ while turns test body s' | break s' ↦ gives (left s') | return r ↦ gives (returned r) ])
  onward turns s rest (next s') kept = rest s' kept.0 kept.1
  onward turns s rest (break s') kept = tt
  onward turns s rest (return r) kept = tt

  pub while_answers : (turns s : ℕ) → Inv s → 0 < turns → bound + 1 < turns + s → Answers (while turns test body s)
  while_answers zero s inv more enough = absurd (omega arith)
  while_answers (suc turns) s inv more enough =
      let here = turn s inv in
      answers_then (test s) _ here.0 (so (test s) _ _ here.1 (λ go h.
      answers_tested go _ _ (λ e.
      let inside = h e in
      answers_then (body s) _ inside.1 (so (body s) _ _ inside.2 (onward turns s (λ s' kept later.
      while_answers turns s' kept (omega (arith, inside.0)) (omega arith))))) (λ e. tt)))
