-- Refusals as the paper's table has them: for each call a list of faults, each with its number. The law that every call's definition is held to:
-- the answer is refusal k exactly when k is the least number whose fault holds, and the call is accepted exactly when none does. Rests on `Said`.
use Rattle.std.specs.Prelude.{◌≡◌, refl, ◌↔◌, ◌⊎◌, Bool, true, false, not, ◌&&◌, ◌||◌, List, [], ◌∷◌, ℕ, ◌<◌, ◌≤◌, T, leb, ltb, eqb}
use Rattle.std.proofs.Common.{sym, ap, ◌∙◌, inl, inr, ⊎_elim, le_of_eq, le_of_lt, lt_trans, not-le_of_lt, leb→le, le→leb, ltb→lt, lt→ltb, eqb→eq, T_not}
use Rattle.std.proofs.Math.Dec.{eqb_refl, not_T}
use Rattle.answers.specs.Said.{Said, value, refused, Check, ◌when◌, judged, value≢refused, value_injective, refused_injective}

infix 10 ◌if◌
-- ---- faults

-- a refusal's number, and the fault that it names
pub data Fault : Type 1 where
  ◌if◌ : ℕ → Type 0 → Fault

-- k is the number of a fault that holds
abbrev pub Given : ℕ → List Fault → Type 0
Given k [] = ⊥
Given k ((m if P) ∷ fs) = ((k ≡ m) × P) ⊎ Given k fs

-- k is the least number whose fault holds
abbrev pub Least : ℕ → List Fault → Type 0
Least k fs = Given k fs × ((j : ℕ) → Given j fs → k ≤ j)

-- k is the number of the first fault of the list that holds
abbrev pub First : ℕ → List Fault → Type 0
First k [] = ⊥
First k ((m if P) ∷ fs) = ((k ≡ m) × P) ⊎ ((P → ⊥) × First k fs)

-- no fault holds
abbrev pub NoFault : List Fault → Type 0
NoFault fs = (k : ℕ) → Given k fs → ⊥

-- each number is above the one before it, and the first is above k
abbrev pub Rising : ℕ → List Fault → Type 0
Rising k [] = Unit {0}
Rising k ((m if P) ∷ fs) = (k < m) × Rising m fs

-- each check finds the fault beside it, where the checks before it have found none
abbrev pub Finds : List Check → List Fault → Type 0
Finds [] [] = Unit {0}
Finds [] (f ∷ fs) = ⊥
Finds (c ∷ cs) [] = ⊥
Finds ((k when b) ∷ cs) ((m if P) ∷ fs) = (k ≡ m) × (T b ↔ P) × (T (not b) → Finds cs fs)

-- ---- what `judged` says, from the faults alone

-- the refusal given is that of the first fault that holds
pub judged_refuses : {A : Type 0} (cs : List Check) (fs : List Fault) (a : A) (k : ℕ) → Finds cs fs → (judged cs a ≡ refused k) ↔ First k fs
unfolding judged
judged_refuses [] [] a k h = (value≢refused a k, λ g. absurd g)
judged_refuses [] (f ∷ fs) a k h = absurd h
judged_refuses (c ∷ cs) [] a k h = absurd h
judged_refuses ((j when true) ∷ cs) ((m if P) ∷ fs) a k h = (
  λ e. inl (sym (refused_injective e) ∙ h.0, h.1.0 tt),
  ⊎_elim (λ g. ap refused (h.0 ∙ sym g.0)) (λ g. absurd (g.0 (h.1.0 tt))),
)
judged_refuses ((j when false) ∷ cs) ((m if P) ∷ fs) a k h =
    let rest = judged_refuses cs fs a k (h.2 tt) in
    (λ e. inr (h.1.1, rest.0 e), ⊎_elim (λ g. absurd (h.1.1 g.1)) (λ g. rest.1 g.1))

-- a value is said exactly when no fault holds, and it is the value that was to be said
pub judged_accepts : {A : Type 0} (cs : List Check) (fs : List Fault) (a b : A) → Finds cs fs → (judged cs a ≡ value b) ↔ (NoFault fs × (a ≡ b))
unfolding judged
judged_accepts [] [] a b h = (λ e. (λ k g. g, value_injective e), λ g. ap value g.1)
judged_accepts [] (f ∷ fs) a b h = absurd h
judged_accepts (c ∷ cs) [] a b h = absurd h
judged_accepts ((j when true) ∷ cs) ((m if P) ∷ fs) a b h =
    (λ e. absurd (value≢refused b j (sym e)), λ g. absurd (g.0 m (inl (refl, h.1.0 tt))))
judged_accepts ((j when false) ∷ cs) ((m if P) ∷ fs) a b h =
    let rest = judged_accepts cs fs a b (h.2 tt) in (
      λ e. (λ k. ⊎_elim (λ g. h.1.1 g.1) ((rest.0 e).0 k), (rest.0 e).1),
      λ g. rest.1 (λ k f. g.0 k (inr f), g.1),
    )

-- ---- where the numbers rise, the first fault that holds is the one with the least number

given_above : (k j : ℕ) (fs : List Fault) → Rising k fs → Given j fs → k < j
given_above k j [] r g = absurd g
given_above k j ((m if P) ∷ fs) r g =
    ⊎_elim (λ h. rw h.0 r.0) (λ h. lt_trans r.0 (given_above m j fs r.1 h)) g

pub first_is_least : (k j : ℕ) (fs : List Fault) → Rising j fs → First k fs ↔ Least k fs
first_is_least k j [] r = (λ f. absurd f, λ g. absurd g.0)
first_is_least k j ((m if P) ∷ fs) r =
    let rest = first_is_least k m fs r.1 in (
      ⊎_elim (λ f. (inl f, λ i. ⊎_elim (λ g. le_of_eq (f.0 ∙ sym g.0)) (λ g. le_of_lt (rw f.0 (given_above m i fs r.1 g)))))
          (λ f. (inr (rest.0 f.1).0, λ i. ⊎_elim (λ g. absurd (f.0 g.1)) ((rest.0 f.1).1 i))),
      λ l. ⊎_elim (λ g. inl g)
          (λ g. inr (λ p. not-le_of_lt (given_above m k fs r.1 g) (l.1 m (inl (refl, p))), rest.1 (g, λ i f. l.1 i (inr f)))) l.0,
    )

-- ---- tests that compute, and the orders that they find

pub finds_lt : (m n : ℕ) → T (ltb m n) ↔ (m < n)
finds_lt m n = (ltb→lt m n, lt→ltb m n)

pub finds_le : (m n : ℕ) → T (leb m n) ↔ (m ≤ n)
finds_le m n = (leb→le m n, le→leb m n)

pub finds_eq : (m n : ℕ) → T (eqb m n) ↔ (m ≡ n)
finds_eq m n = (eqb→eq m n, λ e. rw e (eqb_refl n))

pub finds_both : (a b : Bool) {P Q : Type 0} → T a ↔ P → T b ↔ Q → T (a && b) ↔ (P × Q)
finds_both true b p q = (λ t. (p.0 tt, q.0 t), λ h. q.1 h.1)
finds_both false b p q = (λ t. absurd t, λ h. p.1 h.0)

pub finds_either : (a b : Bool) {P Q : Type 0} → T a ↔ P → T b ↔ Q → T (a || b) ↔ (P ⊎ Q)
finds_either true b p q = (λ t. inl (p.0 tt), λ h. tt)
finds_either false b p q = (λ t. inr (q.0 t), ⊎_elim (λ h. absurd (p.1 h)) q.1)

-- a test turned round finds that it is not so
pub finds_not : (b : Bool) {P : Type 0} → T b ↔ P → T (not b) ↔ (P → ⊥)
finds_not b found = (λ t p. T_not b t (found.1 p), λ none. not_T b (λ t. none (found.0 t)))

-- ---- the law that every call's definition is held to

-- the answer is refusal k exactly when k is the least number whose fault holds, and a value is said exactly when none does: then it is `a`
pub record FaultsDecide {A : Type 0} (said : Said A) (a : A) (fs : List Fault) : Type 0 where
  pub refuses : (k : ℕ) → (said ≡ refused k) ↔ Least k fs
  pub accepts : (b : A) → (said ≡ value b) ↔ (NoFault fs × (a ≡ b))
