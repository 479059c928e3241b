-- What stood in specs/Promises and rests on theorems there: moved, its statements unchanged. Rests on `Promises`.
use Rattle.std.specs.Prelude.{◌≡◌, ◌↔◌, Bool, true, not, ℕ, ◌^◌, ◌≤◌, ◌<◌, eqb}
use Rattle.std.proofs.Math.Path.{refl, ap}
use Rattle.std.proofs.Common.{sym, ◌∙◌, inl, inr, ⊎_elim, true≢false, pos_of_ne-zero, lt_of_not-le, le_of_eq, arith, le→leb, T_not}
use Rattle.std.proofs.Math.Dec.{T}
use Rattle.answers.specs.Said.{value, refused}
use Rattle.answers.specs.Faults.{FaultsDecide, finds_lt, finds_le, finds_eq}
use Rattle.answers.specs.declared.Reply.{Reply}
use Rattle.answers.specs.declared.Reply.TheVariants.{At as at, Done as ok}
use Rattle.bits.specs.Range.{either, le_of_not_lt}
use Rattle.slots.specs.Sets.{Slots, painted, AllFree, AllUsed, SomeUsed, SomeFree, finds_some_used, finds_some_free}
use Rattle.slots.specs.Lowest.{lowest, LowestFit, NoStart, lowest_unique}
use Rattle.slots.proofs.Lowest.{finds_no_start, lowest_fits}
use Rattle.slots.specs.Calls.{says, take_call, claim_call, free_call, set_call}
use Rattle.slots.specs.Promises.{take_faults, claim_faults, free_faults, set_faults, RefusedBy, finds_past, says_decided, InRange, in_range, not_past, ranged}

has_entries : (n : ℕ) → T (not (eqb n 0)) → 0 < n
has_entries n t = pos_of_ne-zero (λ e. T_not (eqb n 0) t ((finds_eq n 0).1 e))

pub take_refused : (k : ℕ) (S : Slots) (n a : ℕ) → RefusedBy (take_call k S n a) (take_faults k S n a)
unfolding take_call
take_refused k S n a = record {
  rising = omega arith;
  finds = (refl, finds_eq n 0, λ some. (refl, finds_le k a, λ _. (refl, finds_lt (2 ^ k) n, λ _. (refl, finds_no_start k S n a (has_entries n some), λ _. tt))));
}

pub claim_refused : (k : ℕ) (S : Slots) (s n : ℕ) → RefusedBy (claim_call k S s n) (claim_faults k S s n)
unfolding claim_call
claim_refused k S s n = record {
  rising = omega arith;
  finds = (refl, finds_eq n 0, λ _. (refl, finds_past k s n, λ _. (refl, finds_some_used S s n, λ _. tt)));
}

pub free_refused : (k : ℕ) (S : Slots) (s n : ℕ) → RefusedBy (free_call k S s n) (free_faults k S s n)
unfolding free_call
free_refused k S s n = record {
  rising = omega arith;
  finds = (refl, finds_eq n 0, λ _. (refl, finds_past k s n, λ _. (refl, finds_some_free S s n, λ _. tt)));
}

pub set_refused : (k : ℕ) (S : Slots) (s n : ℕ) (v : Bool) → RefusedBy (set_call k S s n v) (set_faults k s n)
unfolding set_call
set_refused k S s n v = record { rising = omega arith; finds = (refl, finds_eq n 0, λ _. (refl, finds_past k s n, λ _. tt)) }

-- ---- what an accepted call answers

at_injective : {m n : ℕ} → at m ≡ at n → m ≡ n
at_injective e = cc

module _ (k : ℕ) (S : Slots) (n a : ℕ) where
  pub take_decided : FaultsDecide (says (take_call k S n a)) (at (lowest k S n a)) (take_faults k S n a)
  unfolding take_call
  take_decided = says_decided (take_call k S n a) (take_faults k S n a) (take_refused k S n a)

  found : 0 < n → (NoStart k S n a → ⊥) → lowest k S n a < 2 ^ k
  found pos some = lt_of_not-le (λ l. some ((finds_no_start k S n a pos).0 (le→leb _ _ l)))

  -- take: the start is a multiple of 2 ^ a, its run ends within the capacity and was free, and no smaller start is so
  pub take_promise : (o : ℕ) → (says (take_call k S n a) ≡ value (at o)) ↔ ((0 < n) × (a < k) × (n ≤ 2 ^ k) × LowestFit k S n a o)
  take_promise o = (
    λ said.
        let accepted = (take_decided.accepts (at o)).0 said in
        let no_fault = accepted.0 in
        let same : lowest k S n a ≡ o = at_injective accepted.1 in
        let pos : 0 < n = pos_of_ne-zero (λ e. no_fault 2 (inl (refl, e))) in (
          pos,
          lt_of_not-le (λ l. no_fault 3 (inr (inl (refl, l)))),
          le_of_not_lt (λ l. no_fault 4 (inr (inr (inl (refl, l))))),
          rw same at (lowest_fits k S n a (found pos (λ none. no_fault 7 (inr (inr (inr (inl (refl, none)))))))),
        ),
    λ g.
        let there = found g.0 (λ none. none o g.3.fits) in
        (take_decided.accepts (at o)).1 (
          λ j. ⊎_elim (λ f. omega (arith, f.1, g.0)) (⊎_elim (λ f. omega (arith, f.1, g.1)) (⊎_elim (λ f. omega (arith, f.1, g.2)) (⊎_elim (λ f. f.1 o g.3.fits) (λ f. f)))),
          ap at (lowest_unique k S n a (lowest k S n a) o (lowest_fits k S n a there) g.3),
        ),
  )

  -- with numbers that pass it is refused for room exactly when no start fits
  pub take_no_room : 0 < n → a < k → n ≤ 2 ^ k → (says (take_call k S n a) ≡ refused 7) ↔ NoStart k S n a
  take_no_room pos small few = (
    λ said.
        ⊎_elim (λ f. absurd (omega (arith, f.1))) (⊎_elim (λ f. absurd (omega (arith, f.1))) (⊎_elim (λ f. absurd (omega (arith, f.1))) (⊎_elim (λ f. f.1) (λ f. absurd f))))
        ((take_decided.refuses 7).0 said).0,
    λ none.
        (take_decided.refuses 7).1 (
          inr (inr (inr (inl (refl, none)))),
          λ j. ⊎_elim (λ f. absurd (omega (arith, f.1))) (⊎_elim (λ f. absurd (omega (arith, f.1))) (⊎_elim (λ f. absurd (omega (arith, f.1))) (⊎_elim (λ f. le_of_eq (sym f.0)) (λ f. absurd f)))),
        ),
  )

  -- and exactly its run is added
  pub take_after : (o : ℕ) → says (take_call k S n a) ≡ value (at o) → (take_call k S n a).after ≡ painted S o n true
  unfolding take_call
  take_after o said = ap (λ (start : ℕ). painted S start n true) (at_injective ((take_decided.accepts (at o)).0 said).1)

module _ (k : ℕ) (S : Slots) (s n : ℕ) where
  pub claim_decided : FaultsDecide (says (claim_call k S s n)) ok (claim_faults k S s n)
  unfolding claim_call
  claim_decided = says_decided (claim_call k S s n) (claim_faults k S s n) (claim_refused k S s n)

  pub free_decided : FaultsDecide (says (free_call k S s n)) ok (free_faults k S s n)
  unfolding free_call
  free_decided = says_decided (free_call k S s n) (free_faults k S s n) (free_refused k S s n)

  pub set_decided : (v : Bool) → FaultsDecide (says (set_call k S s n v)) ok (set_faults k s n)
  unfolding set_call
  set_decided v = says_decided (set_call k S s n v) (set_faults k s n) (set_refused k S s n v)

  -- claim is accepted exactly when the range is one and each named slot is free; free, when each is used; set, when the range is one
  pub claim_promise : (says (claim_call k S s n) ≡ value ok) ↔ (InRange k s n × AllFree S s n)
  claim_promise =
      let decided = ranged k s n 6 (SomeUsed S s n) (says (claim_call k S s n)) claim_decided in (
        λ e. let g = decided.0 e in (g.0, λ i h. either (S i) (λ used. absurd (g.1 (i, h, used))) (λ free. free)),
        λ g. decided.1 (g.0, λ bad. true≢false (sym bad.2 ∙ g.1 bad.0 bad.1)),
      )

  pub free_promise : (says (free_call k S s n) ≡ value ok) ↔ (InRange k s n × AllUsed S s n)
  free_promise =
      let decided = ranged k s n 5 (SomeFree S s n) (says (free_call k S s n)) free_decided in (
        λ e. let g = decided.0 e in (g.0, λ i h. either (S i) (λ used. used) (λ free. absurd (g.1 (i, h, free)))),
        λ g. decided.1 (g.0, λ bad. true≢false (sym (g.1 bad.0 bad.1) ∙ bad.2)),
      )

  -- so one that is accepted, whatever it replies, has passed these checks
  pub claim_passed : (reply : Reply) → says (claim_call k S s n) ≡ value reply → InRange k s n × AllFree S s n
  claim_passed reply told = claim_promise.0 (told ∙ ap value (sym ((claim_decided.accepts reply).0 told).1))

  pub free_passed : (reply : Reply) → says (free_call k S s n) ≡ value reply → InRange k s n × AllUsed S s n
  free_passed reply told = free_promise.0 (told ∙ ap value (sym ((free_decided.accepts reply).0 told).1))

  pub set_promise : (v : Bool) → (says (set_call k S s n v) ≡ value ok) ↔ InRange k s n
  set_promise v = (
    λ e. let none = (((set_decided v).accepts ok).0 e).0 in in_range k s n (λ z. none 2 (inl (refl, z))) (λ p. none 4 (inr (inl (refl, p)))),
    λ g. ((set_decided v).accepts ok).1 (λ j. ⊎_elim (λ f. omega (arith, f.1, g.0)) (⊎_elim (λ f. not_past k s n g f.1) (λ f. f)), refl),
  )
