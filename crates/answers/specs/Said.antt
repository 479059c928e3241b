-- What a call says in document 01's terms, a value or a refusal's number; how it comes to say it, by checks in the order in which the paper has
-- its refusals given; and what it leaves of a thing that it may change. Rests on nothing of ours.
use Rattle.std.specs.Prelude.{◌≡◌, Bool, true, false, List, [], ◌∷◌, ◌++◌, ℕ}
use Rattle.std.proofs.Math.Path.{refl, ap}
use Rattle.std.proofs.Common.{sym, subst}

infix 10 ◌when◌
-- ---- what is said

pub data Said (A : Type 0) : Type 0 where
  value : A → Said A
  refused : ℕ → Said A

-- a refusal's number, and the test that finds its fault
pub data Check : Type 0 where
  ◌when◌ : ℕ → Bool → Check

-- the first check that finds its fault refuses by its number; where none does, the value is said
unfoldable pub judged : {A : Type 0} → List Check → A → Said A
judged [] a = value a
judged ((k when true) ∷ cs) a = refused k
judged ((k when false) ∷ cs) a = judged cs a

-- what is said of a value, once it is turned into another; a refusal stays
unfoldable pub on_value : {A B : Type 0} → (A → B) → Said A → Said B
on_value f (value a) = value (f a)
on_value f (refused k) = refused k

-- what is said, and what is left of a thing that the call may change: on a refusal the very thing
unfoldable pub leaving : {A M : Type 0} → Said A → (A → M) → M → Said A × M
leaving (value a) after before = (value a, after a)
leaving (refused k) after before = (refused k, before)

-- ---- a value is no refusal, and each is known by what it says

pub value≢refused : {A : Type 0} (a : A) (k : ℕ) → value a ≡ refused k → ⊥
value≢refused {A} a k e = subst is_value e tt
  where
    is_value : Said A → Type 0
    is_value (value x) = Unit {0}
    is_value (refused j) = ⊥

pub refused_injective : {A : Type 0} {j k : ℕ} → ◌≡◌ {A = Said A} (refused j) (refused k) → j ≡ k
refused_injective e = cc

pub value_injective : {A : Type 0} {a b : A} → value a ≡ value b → a ≡ b
value_injective e = cc

-- ---- a single check

pub judged_found : {A : Type 0} (k : ℕ) (b : Bool) (a : A) → b ≡ true → judged ((k when b) ∷ []) a ≡ refused k
unfolding judged
judged_found k b a e = rw e

pub judged_passed : {A : Type 0} (k : ℕ) (b : Bool) (a : A) → b ≡ false → judged ((k when b) ∷ []) a ≡ value a
unfolding judged
judged_passed k b a e = rw e

-- a check that finds nothing leaves it to the next
pub judged_next : {A : Type 0} (k : ℕ) (b : Bool) (cs : List Check) (a : A) → b ≡ false → judged ((k when b) ∷ cs) a ≡ judged cs a
unfolding judged
judged_next k b cs a e = rw e

-- where a value is said, the first check has found nothing
pub judged_checked : {A : Type 0} (k : ℕ) (b : Bool) (cs : List Check) (a x : A) → judged ((k when b) ∷ cs) a ≡ value x → (b ≡ false) × (judged cs a ≡ value x)
unfolding judged
judged_checked k true cs a x e = absurd (value≢refused x k (sym e))
judged_checked k false cs a x e = (refl, e)

-- ---- checks in two parts: the second part counts where the first finds nothing

pub judged_first : {A B : Type 0} (cs ds : List Check) (a : A) (b : B) (k : ℕ) → judged cs a ≡ refused k → judged (cs ++ ds) b ≡ refused k
unfolding judged
judged_first [] ds a b k e = absurd (value≢refused a k e)
judged_first ((j when true) ∷ cs) ds a b k e = ap refused (refused_injective e)
judged_first ((j when false) ∷ cs) ds a b k e = judged_first cs ds a b k e

pub judged_then : {A B : Type 0} (cs ds : List Check) (a x : A) (b : B) → judged cs a ≡ value x → judged (cs ++ ds) b ≡ judged ds b
unfolding judged
judged_then [] ds a x b e = refl
judged_then ((j when true) ∷ cs) ds a x b e = absurd (value≢refused x j (sym e))
judged_then ((j when false) ∷ cs) ds a x b e = judged_then cs ds a x b e

-- ---- the checks do not look at the value

pub judged_on_value : {A B : Type 0} (f : A → B) (cs : List Check) (a : A) → on_value f (judged cs a) ≡ judged cs (f a)
unfolding judged on_value
judged_on_value f [] a = refl
judged_on_value f ((k when true) ∷ cs) a = refl
judged_on_value f ((k when false) ∷ cs) a = judged_on_value f cs a

-- ---- what `leaving` leaves

module _ {A M : Type 0} (after : A → M) (before : M) where
  pub leaving_says : (said : Said A) → (leaving said after before).0 ≡ said
  unfolding leaving
  leaving_says (value a) = refl
  leaving_says (refused k) = refl

  -- a refused call leaves the very thing that it was handed
  pub leaving_refused : (said : Said A) (k : ℕ) → (leaving said after before).0 ≡ refused k → (leaving said after before).1 ≡ before
  unfolding leaving
  leaving_refused (value a) k e = absurd (value≢refused a k e)
  leaving_refused (refused j) k e = refl

  -- what holds of the thing before and after holds of what is left
  pub leaving_keeps : (P : M → Type 0) → P before → ((a : A) → P (after a)) → (said : Said A) → P (leaving said after before).1
  unfolding leaving
  leaving_keeps P before-holds after_holds (value a) = after_holds a
  leaving_keeps P before-holds after_holds (refused k) = before-holds

  pub leaving_value : (said : Said A) (a : A) → (leaving said after before).0 ≡ value a → (leaving said after before).1 ≡ after a
  unfolding leaving
  leaving_value (value b) a e = ap after (value_injective e)
  leaving_value (refused k) a e = absurd (value≢refused a k (sym e))

-- a call that changes nothing leaves what there was, whatever is said
pub leaving_kept : {A M : Type 0} (said : Said A) (m : M) → leaving said (λ _. m) m ≡ (said, m)
unfolding leaving
leaving_kept (value a) m = refl
leaving_kept (refused k) m = refl
