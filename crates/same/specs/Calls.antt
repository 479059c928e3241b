-- Every other call over any layout: whenever the commit's code gives an answer, ours says the same, or a listed fault holds; and where none holds
-- and the numbers pass, it does give an answer. Rests on `Search`.
use Rattle.std.specs.Prelude.{◌≡◌, refl, ◌⊎◌, Bool, true, ℕ, ◌+◌, ◌-◌, ◌^◌, ◌≤◌, ◌<◌, leb, ltb, eqb}
use Rattle.std.proofs.Math.Path.{sym, ap}
use Rattle.std.proofs.Common.{◌∙◌, inl, inr, ⊎_elim, pos_of_ne-zero, le_of_eq, arith, leb-true, leb-false, ltb-true, ltb-false, eqb-true}
use Rattle.std.proofs.Math.Bool.{false}
use Rattle.std.proofs.Math.Option.{Option, none, some}
use Rattle.std.proofs.lemmas.Bool.{eqb-false}
use Rattle.answers.specs.Said.{Said, value, refused, judged}
use Rattle.answers.specs.declared.Reply.{Reply}
use Rattle.answers.specs.declared.Reply.TheVariants.{Done as ok}
use Rattle.bits.specs.Range.{either}
use Rattle.slots.specs.Sets.{Slots, all_used, AllUsed, SomeFree, finds_all_used, finds_some_free}
use Rattle.slots.specs.Calls.{says, past, set_call, free_call, next_free_call, get_call, empty_call, used_call}
use Rattle.slots.specs.Promises.{Past, set_after, free_after, next_free_promise, next_free_decided, get_promise, used_promise}
use Rattle.slots.proofs.Promises.{set_promise, free_promise}
use Rattle.slots.specs.Kinds.{plain}
use Rattle.slots.specs.View.{View, answered, changed, sound_answers, sound_accepted, sound_refused}
use Rattle.source.specs.Machine.{gives}
use Rattle.source.specs.BitmapAllocator.{BitmapAllocator, free}
use Rattle.same.specs.Whenever.{Whenever, so, anyhow}
use Rattle.same.specs.Answering.{surely}
use Rattle.same.specs.Acts.{Found}
use Rattle.same.specs.Same.{SameChange, SameSlot, Departs}
use Rattle.same.specs.Search.{Follows, Replies}

-- ---- the listed departures of the calls that change the map, with their numbers in docs/DIFFERENCES.md

abbrev pub TakeDeparts : {M : Type 0} → ℕ → M → Said Reply × M → Type 0
TakeDeparts n map ours = Departs 2 (n ≡ 0) map ours

abbrev pub SetDeparts : {M : Type 0} → (k s n : ℕ) → M → Said Reply × M → Type 0
SetDeparts k s n map ours = Departs 2 (n ≡ 0) map ours ⊎ Departs 4 (Past k s n) map ours

abbrev pub FreeDeparts : {M : Type 0} → ℕ → Slots → (s n : ℕ) → M → Said Reply × M → Type 0
FreeDeparts k S s n map ours = SetDeparts k s n map ours ⊎ Departs 5 (SomeFree S s n) map ours

-- ---- a range has no entries, goes past the end, or lies inside

by_range : {P : Type 0} (k s n : ℕ) → (n ≡ 0 → P) → (eqb n 0 ≡ false → past k s n ≡ true → Past k s n → P)
    → (eqb n 0 ≡ false → past k s n ≡ false → 0 < n → s + n ≤ 2 ^ k → P) → P
by_range k s n no_entries goes-past inside =
    either (eqb n 0) (λ e. no_entries (eqb-true n 0 e)) (λ some.
    either (ltb (2 ^ k) s) (λ e. goes-past some (rw e) (inl (ltb-true (2 ^ k) s e))) (λ from.
    either (ltb (2 ^ k - s) n) (λ e. goes-past some (rw (from, e)) (inr (ltb-true (2 ^ k - s) n e))) (λ ends.
    inside some (rw (from, ends)) (pos_of_ne-zero (eqb-false n 0 some)) (omega (arith, ltb-false (2 ^ k) s from, ltb-false (2 ^ k - s) n ends)))))

module _ (k : ℕ) (S : Slots) (s n : ℕ) where
  set_none : n ≡ 0 → (v : Bool) → says (set_call k S s n v) ≡ refused 2
  unfolding says set_call judged
  set_none e v = rw e

  set_past : eqb n 0 ≡ false → past k s n ≡ true → (v : Bool) → says (set_call k S s n v) ≡ refused 4
  unfolding says set_call judged
  set_past entries e v = rw (entries, e)

  free_none : n ≡ 0 → says (free_call k S s n) ≡ refused 2
  unfolding says free_call judged
  free_none e = rw e

  free_past : eqb n 0 ≡ false → past k s n ≡ true → says (free_call k S s n) ≡ refused 4
  unfolding says free_call judged
  free_past entries e = rw (entries, e)

  free_free : eqb n 0 ≡ false → past k s n ≡ false → all_used S s n ≡ false → says (free_call k S s n) ≡ refused 5
  unfolding says free_call judged
  free_free entries e f = rw (entries, e, f)

module _ (L : View plain) {Self : Type 0} (B : BitmapAllocator Self) (ours : Self → L.Map) (m : Self) (law : Follows L B ours m) (sound : L.Sound (ours m)) where
  abbrev S : Slots
  S = L.state_of (ours m)

  -- ---- whenever there is an answer

  set_inside : (s n : ℕ) (v : Bool) → 0 < n → s + n ≤ 2 ^ L.k → Whenever (B.set_to m s n v) (λ after. SameChange (ours after) (changed L (ours m) (set_call L.k S s n v)))
  set_inside s n v pos ends = so (B.set_to m s n v) _ _ (law.paints s n v pos ends) (λ after painted-so.
      sound_accepted L (ours m) (set_call L.k S s n v) ok sound ((set_promise L.k S s n v).1 (pos, ends))
      ∙ ap (λ (map : L.Map). (value ok, map)) (ap L.of_state (set_after L.k S s n v) ∙ sym painted-so))

  pub set_same : (s n : ℕ) (v : Bool)
      → Whenever (B.set_to m s n v) (λ after.
      SetDeparts L.k s n (ours m) (changed L (ours m) (set_call L.k S s n v)) ⊎ SameChange (ours after) (changed L (ours m) (set_call L.k S s n v)))
  set_same s n v =
      by_range L.k s n
      (λ e. anyhow (B.set_to m s n v) _ (λ _. inl (inl (e, sound_refused L (ours m) _ 2 sound (set_none L.k S s n e v)))))
      (λ some e far. anyhow (B.set_to m s n v) _ (λ _. inl (inr (far, sound_refused L (ours m) _ 4 sound (set_past L.k S s n some e v)))))
      (λ _ _ pos ends. so (B.set_to m s n v) _ _ (set_inside s n v pos ends) (λ after same. inr same))

  free_inside : (s n : ℕ) → 0 < n → s + n ≤ 2 ^ L.k → AllUsed S s n → Whenever (free B m s n) (λ after. SameChange (ours after) (changed L (ours m) (free_call L.k S s n)))
  unfolding free
  free_inside s n pos ends used = so (B.set_to m s n false) _ _ (law.paints s n false pos ends) (λ after painted-so.
      sound_accepted L (ours m) (free_call L.k S s n) ok sound ((free_promise L.k S s n).1 ((pos, ends), used))
      ∙ ap (λ (map : L.Map). (value ok, map)) (ap L.of_state (free_after L.k S s n) ∙ sym painted-so))

  pub free_same : (s n : ℕ)
      → Whenever (free B m s n) (λ after.
      FreeDeparts L.k S s n (ours m) (changed L (ours m) (free_call L.k S s n)) ⊎ SameChange (ours after) (changed L (ours m) (free_call L.k S s n)))
  free_same s n =
      by_range L.k s n
      (λ e. anyhow (free B m s n) _ (λ _. inl (inl (inl (e, sound_refused L (ours m) _ 2 sound (free_none L.k S s n e))))))
      (λ some e far. anyhow (free B m s n) _ (λ _. inl (inl (inr (far, sound_refused L (ours m) _ 4 sound (free_past L.k S s n some e))))))
      (λ some e pos ends.
      either (all_used S s n)
      (λ used. so (free B m s n) _ _ (free_inside s n pos ends ((finds_all_used S s n).0 (rw used tt))) (λ after same. inr same))
      (λ not-all. anyhow (free B m s n) _ (λ _. inl (inr (
        (finds_some_free S s n).0 (rw not-all tt),
        sound_refused L (ours m) _ 5 sound (free_free L.k S s n some e not-all),
      )))))

  pub next_free_same : (s : ℕ) → Whenever (B.next_free m s) (λ found. SameSlot found (answered L (ours m) (next_free_call L.k S s)))
  next_free_same s = so (B.next_free m s) _ _ (law.finds s) by
    where
      by : (found : Option ℕ) → Found L.k S s found → SameSlot found (answered L (ours m) (next_free_call L.k S s))
      by (some i) there = sound_answers L (ours m) (next_free_call L.k S s) sound ∙ (next_free_promise L.k S s i).1 there
      by none full =
          either (leb (2 ^ L.k) s)
          (λ past_end. (
            4,
            inr (inl refl),
            sound_answers L (ours m) (next_free_call L.k S s) sound
                ∙ ((next_free_decided L.k S s).refuses 4).1 (inl (refl, leb-true (2 ^ L.k) s past_end), λ j. ⊎_elim (λ f. le_of_eq (sym f.0)) (⊎_elim (λ f. omega (arith, f.0)) (λ f. absurd f))),
          ))
          (λ inside. (
            7,
            inr (inr refl),
            sound_answers L (ours m) (next_free_call L.k S s) sound
                ∙ ((next_free_decided L.k S s).refuses 7).1 (
                  inr (inl (refl, full)),
                  λ j. ⊎_elim (λ f. absurd (omega (arith, f.1, leb-false (2 ^ L.k) s inside))) (⊎_elim (λ f. le_of_eq (sym f.0)) (λ f. absurd f)),
                ),
          ))

  pub get_same : (i : ℕ) → Whenever (B.get m i) (λ b. answered L (ours m) (get_call L.k S i) ≡ value b)
  get_same i = so (B.get m i) _ _ (law.reads i) (λ b told.
      sound_answers L (ours m) (get_call L.k S i) sound ∙ (get_promise L.k S i b).1 (told.0, sym told.1))

  pub used_same : Whenever (B.used m) (λ c. answered L (ours m) (used_call L.k S) ≡ value c)
  used_same = so (B.used m) _ _ law.counts (λ c e. sound_answers L (ours m) (used_call L.k S) sound ∙ used_promise L.k S ∙ ap value (sym e))

  pub empty_same : answered L (ours m) (empty_call L.k S) ≡ value (B.empty m)
  unfolding says judged empty_call
  empty_same = sound_answers L (ours m) (empty_call L.k S) sound ∙ ap value (sym law.vacant)

  -- ---- and there is one, where no departure holds and the numbers pass

  module _ (Some-of : Replies L B m) where
    pub set_is : (s n : ℕ) (v : Bool) → 0 < n → s + n ≤ 2 ^ L.k
        → (after : Self) × (B.set_to m s n v ≡ gives after) × SameChange (ours after) (changed L (ours m) (set_call L.k S s n v))
    set_is s n v pos ends = surely (B.set_to m s n v) _ (Some-of.paints_some s n v pos ends) (set_inside s n v pos ends)

    pub free_is : (s n : ℕ) → 0 < n → s + n ≤ 2 ^ L.k → AllUsed S s n
        → (after : Self) × (free B m s n ≡ gives after) × SameChange (ours after) (changed L (ours m) (free_call L.k S s n))
    unfolding free
    free_is s n pos ends used = surely (free B m s n) _ (Some-of.paints_some s n false pos ends) (free_inside s n pos ends used)

    pub get_is : (i : ℕ) → i < 2 ^ L.k → (b : Bool) × (B.get m i ≡ gives b) × (answered L (ours m) (get_call L.k S i) ≡ value b)
    get_is i inside = surely (B.get m i) _ (Some-of.reads_some i inside) (get_same i)

    pub used_is : (c : ℕ) × (B.used m ≡ gives c) × (answered L (ours m) (used_call L.k S) ≡ value c)
    used_is = surely (B.used m) _ Some-of.counts_some used_same
