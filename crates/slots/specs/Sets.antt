-- Sets of slot numbers, runs of them, and painting a run. Rests on the questions about ranges of `bits`.
use Rattle.std.specs.Prelude.{◌≡◌, ◌↔◌, Bool, true, false, ℕ, ◌+◌, ◌-◌, ◌*◌, ◌≤◌, ◌<◌, T}
use Rattle.std.proofs.Common.{sym, ap₂, ◌∙◌, zero-add, arith}
use Rattle.std.proofs.Math.Path.{ap}
use Rattle.std.proofs.Math.Bool.{not}
use borrow.Author.Tests.{not-true, not-false}
use Rattle.bits.specs.Range.{bit, either, within, every, count, finds_every, finds_failing, within_named, within_found, within_other, count_agree, count_split, count_same}

-- whether each slot is used
abbrev pub Slots : Type 0
Slots = ℕ → Bool

-- the empty set and the full one
abbrev pub none : Slots
none s = false

abbrev pub all : Slots
all s = true

-- each of the n slots from s on is free
unfoldable pub all_free : Slots → ℕ → ℕ → Bool
all_free S s n = every (λ i. not (S i)) s n

-- each of the n slots from s on is used
unfoldable pub all_used : Slots → ℕ → ℕ → Bool
all_used S s n = every S s n

-- the set in which each of the n slots from s on has the value v, and every other slot is as in S
unfoldable pub painted : Slots → ℕ → ℕ → Bool → Slots
painted S s n v i = elim (within s n i) [ true ↦ v | false ↦ S i ]

-- ---- what they mean

-- i is one of the n slots from s on
abbrev pub Named : ℕ → ℕ → ℕ → Type 0
Named s n i = (s ≤ i) × (i < s + n)

abbrev pub AllFree : Slots → ℕ → ℕ → Type 0
AllFree S s n = (i : ℕ) → Named s n i → S i ≡ false

abbrev pub AllUsed : Slots → ℕ → ℕ → Type 0
AllUsed S s n = (i : ℕ) → Named s n i → S i ≡ true

abbrev pub SomeUsed : Slots → ℕ → ℕ → Type 0
SomeUsed S s n = (i : ℕ) × Named s n i × (S i ≡ true)

abbrev pub SomeFree : Slots → ℕ → ℕ → Type 0
SomeFree S s n = (i : ℕ) × Named s n i × (S i ≡ false)

module _ (S : Slots) (s n : ℕ) where
  pub finds_all_free : T (all_free S s n) ↔ AllFree S s n
  unfolding all_free
  finds_all_free =
      let found = finds_every (λ i. not (S i)) s n in
      (λ t i h. not-true (S i) (found.0 t i h.0 h.1), λ free. found.1 (λ i l h. ap not (free i (l, h))))

  pub finds_some_used : T (not (all_free S s n)) ↔ SomeUsed S s n
  unfolding all_free
  finds_some_used =
      let found = finds_failing (λ i. not (S i)) s n in (
        λ t. let bad = found.0 t in (bad.0, (bad.1, bad.2), not-false (S bad.0) bad.3),
        λ bad. found.1 (bad.0, bad.1.0, bad.1.1, ap not bad.2),
      )

  pub finds_all_used : T (all_used S s n) ↔ AllUsed S s n
  unfolding all_used
  finds_all_used =
      let found = finds_every S s n in
      (λ t i h. found.0 t i h.0 h.1, λ used. found.1 (λ i l h. used i (l, h)))

  pub finds_some_free : T (not (all_used S s n)) ↔ SomeFree S s n
  unfolding all_used
  finds_some_free =
      let found = finds_failing S s n in (
        λ t. let bad = found.0 t in (bad.0, (bad.1, bad.2), bad.3),
        λ bad. found.1 (bad.0, bad.1.0, bad.1.1, bad.2),
      )

  -- exactly the named slots change
  pub painted_named : (v : Bool) (i : ℕ) → Named s n i → painted S s n v i ≡ v
  unfolding painted
  painted_named v i h = rw (within_named s n i h, painted)

  pub painted_other : (v : Bool) (i : ℕ) → (Named s n i → ⊥) → painted S s n v i ≡ S i
  unfolding painted
  painted_other v i h = rw (within_other s n i h, painted)

-- ---- how many slots are used

-- the first s slots, the n that are painted, and the r after them
painted_parts : (S : Slots) (s n r : ℕ) (v : Bool) → count (painted S s n v) 0 (s + (n + r)) ≡ count S 0 s + (bit v * n + count S (s + n) r)
painted_parts S s n r v =
    count_split P 0 s (n + r)
    ∙ ap₂ ◌+◌ (count_agree P S 0 s (λ i l b. painted_other S s n v i (λ named. omega (arith, named.0, b))))
    (ap (λ (from : ℕ). count P from (n + r)) (zero-add s)
    ∙ count_split P s n r
    ∙ ap₂ ◌+◌ (count_same P v s n (λ i l b. painted_named S s n v i (l, b)))
    (count_agree P S (s + n) r (λ i l b. painted_other S s n v i (λ named. omega (arith, named.1, l)))))
  where
    P : Slots
    P = painted S s n v

-- of a run within the first c slots: with it used there are n more than with it free
pub painted_count : (S : Slots) (s n c : ℕ) → s + n ≤ c → count (painted S s n true) 0 c ≡ count (painted S s n false) 0 c + n
painted_count S s n c ends = used_by true ∙ sum ∙ sym (ap (λ (m : ℕ). m + n) (used_by false))
  where
    used_by : (v : Bool) → count (painted S s n v) 0 c ≡ count S 0 s + (bit v * n + count S (s + n) (c - (s + n)))
    used_by v = ap (count (painted S s n v) 0) (omega arith) ∙ painted_parts S s n (c - (s + n)) v

    sum : count S 0 s + (1 * n + count S (s + n) (c - (s + n))) ≡ count S 0 s + (0 * n + count S (s + n) (c - (s + n))) + n
    sum = omega arith

-- a run that has the value already is painted with it for nothing
pub painted_already : (S : Slots) (s n c : ℕ) (v : Bool) → ((i : ℕ) → Named s n i → S i ≡ v) → count (painted S s n v) 0 c ≡ count S 0 c
unfolding painted
painted_already S s n c v has = count_agree (painted S s n v) S 0 c (λ i l b.
    either (within s n i) (λ t. painted_named S s n v i (within_found s n i t) ∙ sym (has i (within_found s n i t)))
    (λ t. ap (λ (w : Bool). elim w [ true ↦ v | false ↦ S i ]) t))
