-- What each call promises on a set, in document 01's words: its faults with their numbers, and what an accepted call answers. Rests on `Calls`.
use Rattle.std.specs.Prelude.{◌≡◌, ◌↔◌, ◌⊎◌, Bool, true, false, not, List, [], ◌∷◌, ℕ, ◌+◌, ◌-◌, ◌^◌, ◌≤◌, ◌<◌, leb, ltb}
use Rattle.std.proofs.Math.Path.{refl, ap}
use Rattle.std.proofs.Common.{sym, ◌∙◌, inl, inr, ⊎_elim, true≢false, zero-le, pos_of_ne-zero, lt_of_not-le, le_antisymm, arith, leb→le, le→leb}
use Rattle.std.proofs.Math.Dec.{T, nleb→lt}
use Rattle.std.proofs.lemmas.Bool.{not-true, not-false}
use Rattle.answers.specs.Said.{Said, value, refused, judged, leaving_says, leaving_refused, leaving_value, value_injective}
use Rattle.answers.specs.Faults.{Fault, ◌if◌, Rising, Finds, FaultsDecide, finds_lt, finds_le, finds_either}
use Rattle.answers.proofs.Faults.{faults_decide}
use Rattle.answers.specs.declared.Reply.{Reply}
use Rattle.answers.specs.declared.Reply.TheVariants.{Done as ok}
use Rattle.bits.specs.Range.{least, count, same_test, least_from, least_passes, least_first, le_of_not_lt}
use Rattle.slots.specs.Sets.{Slots, all_free, finds_all_free, painted, SomeUsed, SomeFree}
use Rattle.slots.specs.Lowest.{free_from, free_from_inside, NoStart}
use Rattle.slots.specs.Calls.{Call, says, leaves, past, claim_call, free_call, set_call, next_free_call, get_call, empty_call, used_call}

-- ---- the faults of document 01's table

-- the range goes past the end
abbrev pub Past : ℕ → ℕ → ℕ → Type 0
Past k s n = (2 ^ k < s) ⊎ (2 ^ k - s < n)

-- no slot from s on is free
abbrev pub NoneFree : ℕ → Slots → ℕ → Type 0
NoneFree k S s = (i : ℕ) → s ≤ i → i < 2 ^ k → S i ≡ true

abbrev pub take_faults : ℕ → Slots → ℕ → ℕ → List Fault
take_faults k S n a = (2 if (n ≡ 0)) ∷ (3 if (k ≤ a)) ∷ (4 if (2 ^ k < n)) ∷ (7 if NoStart k S n a) ∷ []

abbrev pub claim_faults : ℕ → Slots → ℕ → ℕ → List Fault
claim_faults k S s n = (2 if (n ≡ 0)) ∷ (4 if Past k s n) ∷ (6 if SomeUsed S s n) ∷ []

abbrev pub free_faults : ℕ → Slots → ℕ → ℕ → List Fault
free_faults k S s n = (2 if (n ≡ 0)) ∷ (4 if Past k s n) ∷ (5 if SomeFree S s n) ∷ []

abbrev pub set_faults : ℕ → ℕ → ℕ → List Fault
set_faults k s n = (2 if (n ≡ 0)) ∷ (4 if Past k s n) ∷ []

abbrev pub next_free_faults : ℕ → Slots → ℕ → List Fault
next_free_faults k S s = (4 if (2 ^ k ≤ s)) ∷ (7 if NoneFree k S s) ∷ []

abbrev pub get_faults : ℕ → ℕ → List Fault
get_faults k i = (4 if (2 ^ k ≤ i)) ∷ []

-- ---- each call's checks find its faults, and their numbers rise above 1, which a layout puts in front

pub record RefusedBy {X A : Type 0} (c : Call X A) (fs : List Fault) : Type 0 where
  pub rising : Rising 1 fs
  pub finds : Finds c.checks fs

pub finds_past : (k s n : ℕ) → T (past k s n) ↔ Past k s n
finds_past k s n = finds_either (ltb (2 ^ k) s) (ltb (2 ^ k - s) n) (finds_lt (2 ^ k) s) (finds_lt (2 ^ k - s) n)

finds_none_free : (k : ℕ) (S : Slots) (s : ℕ) → s < 2 ^ k → T (leb (2 ^ k) (free_from k S s)) ↔ NoneFree k S s
finds_none_free k S s h =
    let slot = least (λ i. not (S i)) s (2 ^ k - s) in
    rw (free_from_inside k S s h) (
      λ t i l b. not-false (S i) (least_first (λ i. not (S i)) s (2 ^ k - s) i l (omega (arith, leb→le (2 ^ k) slot t))),
      λ none. le→leb (2 ^ k) slot (le_of_not_lt (λ lt.
          true≢false (sym (none slot (least_from (λ i. not (S i)) s (2 ^ k - s)) lt) ∙ not-true (S slot) (least_passes (λ i. not (S i)) s (2 ^ k - s) (omega arith))))),
    )

pub next_free_refused : (k : ℕ) (S : Slots) (s : ℕ) → RefusedBy (next_free_call k S s) (next_free_faults k S s)
unfolding next_free_call
next_free_refused k S s = record { rising = omega arith; finds = (refl, finds_le (2 ^ k) s, λ t. (refl, finds_none_free k S s (nleb→lt (2 ^ k) s t), λ _. tt)) }

pub get_refused : (k : ℕ) (S : Slots) (i : ℕ) → RefusedBy (get_call k S i) (get_faults k i)
unfolding get_call
get_refused k S i = record { rising = omega arith; finds = (refl, finds_le (2 ^ k) i, λ _. tt) }

pub empty_refused : (k : ℕ) (S : Slots) → RefusedBy (empty_call k S) []
unfolding empty_call
empty_refused k S = record { rising = tt; finds = tt }

pub used_refused : (k : ℕ) (S : Slots) → RefusedBy (used_call k S) []
unfolding used_call
used_refused k S = record { rising = tt; finds = tt }

-- the answer is refusal r exactly when r is the least number whose fault holds, and the call is accepted exactly when none does
pub says_decided : {X A : Type 0} (c : Call X A) (fs : List Fault) → RefusedBy c fs → FaultsDecide (says c) c.answer fs
unfolding says
says_decided c fs h = faults_decide c.checks fs c.answer (rising_lower fs h.rising) h.finds
  where
    rising_lower : (fs : List Fault) → Rising 1 fs → Rising 0 fs
    rising_lower [] r = tt
    rising_lower ((m if P) ∷ fs) r = (omega (arith, r.0), r.1)

-- ---- what an accepted call answers

-- a range of n slots from s on that has a slot and ends within the capacity
abbrev pub InRange : ℕ → ℕ → ℕ → Type 0
InRange k s n = (0 < n) × (s + n ≤ 2 ^ k)

pub in_range : (k s n : ℕ) → (n ≡ 0 → ⊥) → (Past k s n → ⊥) → InRange k s n
in_range k s n some inside =
    (pos_of_ne-zero some, omega (arith, le_of_not_lt (λ l. inside (inl l)), le_of_not_lt (λ l. inside (inr l))))

pub not_past : (k s n : ℕ) → InRange k s n → Past k s n → ⊥
not_past k s n r (inl l) = omega (arith, r.0, r.1)
not_past k s n r (inr l) = omega (arith, r.0, r.1)

-- a call over a range that one more fault P can refuse
pub ranged : (k s n r : ℕ) (P : Type 0) (said : Said Reply) → FaultsDecide said ok ((2 if (n ≡ 0)) ∷ (4 if Past k s n) ∷ (r if P) ∷ [])
    → (said ≡ value ok) ↔ (InRange k s n × (P → ⊥))
ranged k s n r P said decided = (
  λ e.
      let none = ((decided.accepts ok).0 e).0 in
      (in_range k s n (λ z. none 2 (inl (refl, z))) (λ p. none 4 (inr (inl (refl, p)))), λ p. none r (inr (inr (inl (refl, p))))),
  λ g.
      (decided.accepts ok).1 (
        λ j. ⊎_elim (λ f. omega (arith, f.1, g.0.0)) (⊎_elim (λ f. not_past k s n g.0 f.1) (⊎_elim (λ f. g.1 f.1) (λ f. f))),
        refl,
      ),
)

module _ (k : ℕ) (S : Slots) (s n : ℕ) where
  -- and exactly the named slots change
  pub claim_after : (claim_call k S s n).after ≡ painted S s n true
  unfolding claim_call
  claim_after = refl

  pub free_after : (free_call k S s n).after ≡ painted S s n false
  unfolding free_call
  free_after = refl

  pub set_after : (v : Bool) → (set_call k S s n v).after ≡ painted S s n v
  unfolding set_call
  set_after v = refl

-- a call that is refused leaves the set as it was
pub refused_leaves : {X A : Type 0} (S : X) (c : Call X A) (r : ℕ) → says c ≡ refused r → leaves S c ≡ S
unfolding leaves
refused_leaves S c r said = leaving_refused (λ _. c.after) S (says c) r (leaving_says (λ _. c.after) S (says c) ∙ said)

pub accepted_leaves : {X A : Type 0} (S : X) (c : Call X A) (a : A) → says c ≡ value a → leaves S c ≡ c.after
unfolding leaves
accepted_leaves S c a said = leaving_value (λ _. c.after) S (says c) a (leaving_says (λ _. c.after) S (says c) ∙ said)

-- next free: the least free slot from s on
pub record NextFree (k : ℕ) (S : Slots) (s r : ℕ) : Type 0 where
  pub from : s ≤ r
  pub inside : r < 2 ^ k
  pub free : S r ≡ false
  pub first : (i : ℕ) → s ≤ i → i < r → S i ≡ true

next_free_unique : (k : ℕ) (S : Slots) (s q r : ℕ) → NextFree k S s q → NextFree k S s r → q ≡ r
next_free_unique k S s q r f g = le_antisymm (not_later q r f g) (not_later r q g f)
  where
    not_later : (q r : ℕ) → NextFree k S s q → NextFree k S s r → q ≤ r
    not_later q r f g = le_of_not_lt (λ lt. true≢false (sym (f.first r g.from lt) ∙ g.free))

module _ (k : ℕ) (S : Slots) where
  least_free : (s : ℕ) → s < 2 ^ k → (NoneFree k S s → ⊥) → NextFree k S s (free_from k S s)
  least_free s inside some =
      let test : ℕ → Bool = λ i. not (S i) in
      let found : free_from k S s < 2 ^ k = lt_of_not-le (λ l. some ((finds_none_free k S s inside).0 (le→leb _ _ l))) in
      rw (free_from_inside k S s inside) (record {
        from = least_from test s (2 ^ k - s);
        inside = rw (free_from_inside k S s inside) at found;
        free = not-true (S (least test s (2 ^ k - s))) (least_passes test s (2 ^ k - s) (omega (arith, rw (free_from_inside k S s inside) at found)));
        first = λ i l h. not-false (S i) (least_first test s (2 ^ k - s) i l h);
      })

  pub next_free_decided : (s : ℕ) → FaultsDecide (says (next_free_call k S s)) (free_from k S s) (next_free_faults k S s)
  unfolding next_free_call
  next_free_decided s = says_decided (next_free_call k S s) (next_free_faults k S s) (next_free_refused k S s)

  pub next_free_promise : (s r : ℕ) → (says (next_free_call k S s) ≡ value r) ↔ NextFree k S s r
  next_free_promise s r = (
    λ e.
        let accepted = ((next_free_decided s).accepts r).0 e in
        let inside : s < 2 ^ k = lt_of_not-le (λ l. accepted.0 4 (inl (refl, l))) in
        rw accepted.1 at (least_free s inside (λ none. accepted.0 7 (inr (inl (refl, none))))),
    λ g.
        let inside : s < 2 ^ k = omega (arith, g.from, g.inside) in
        let taken : NoneFree k S s → ⊥ = λ none. true≢false (sym (none r g.from g.inside) ∙ g.free) in
        ((next_free_decided s).accepts r).1 (
          λ j. ⊎_elim (λ f. omega (arith, f.1)) (⊎_elim (λ f. taken f.1) (λ f. f)),
          next_free_unique k S s (free_from k S s) r (least_free s inside taken) g,
        ),
  )

  -- where the start is inside and it is refused, none is free
  pub next_free_none : (s r : ℕ) → s < 2 ^ k → says (next_free_call k S s) ≡ refused r → NoneFree k S s
  next_free_none s r inside said =
      ⊎_elim (λ f. absurd (omega (arith, f.1))) (⊎_elim (λ f. f.1) (λ f. absurd f)) (((next_free_decided s).refuses r).0 said).0

  -- get: whether the slot is used
  pub get_decided : (i : ℕ) → FaultsDecide (says (get_call k S i)) (S i) (get_faults k i)
  unfolding get_call
  get_decided i = says_decided (get_call k S i) (get_faults k i) (get_refused k S i)

  pub get_promise : (i : ℕ) (b : Bool) → (says (get_call k S i) ≡ value b) ↔ ((i < 2 ^ k) × (S i ≡ b))
  get_promise i b = (
    λ e. let accepted = ((get_decided i).accepts b).0 e in (lt_of_not-le (λ l. accepted.0 4 (inl (refl, l))), accepted.1),
    λ g. ((get_decided i).accepts b).1 (λ j. ⊎_elim (λ f. omega (arith, f.1, g.0)) (λ f. f), g.1),
  )

  -- empty: whether none is used
  pub empty_promise : (b : Bool) → (says (empty_call k S) ≡ value b) ↔ (T b ↔ ((i : ℕ) → i < 2 ^ k → S i ≡ false))
  unfolding says judged empty_call
  empty_promise b =
      let found = finds_all_free S 0 (2 ^ k) in
      let free : T (all_free S 0 (2 ^ k)) ↔ ((i : ℕ) → i < 2 ^ k → S i ≡ false) =
      (λ t i h. found.0 t i (zero-le, omega arith), λ none. found.1 (λ i h. none i (omega (arith, h.1)))) in (
        λ e. rw (value_injective e) at free,
        λ g. ap value (same_test (all_free S 0 (2 ^ k)) b (λ t. g.1 (free.0 t)) (λ t. free.1 (g.0 t))),
      )

  -- used: how many are
  pub used_promise : says (used_call k S) ≡ value (count S 0 (2 ^ k))
  unfolding says judged used_call
  used_promise = refl
