-- Whether each reaped slot is used, asked word by word. Assumes nothing.
use mathlib.Core.Path.{◌≡◌, sym, ◌∙◌}
use mathlib.Core.Logic.{◌↔◌}
use mathlib.Core.Bool.{Bool, true, false, not, ◌||◌}
use mathlib.Core.List.{List}
use Prim.Native.Nat.{ℕ, ◌+◌, ◌*◌, ◌/◌, ◌%◌, ◌<◌, zero-le}
use native.Mathlib.Omega.{arith}
use lib.ListN.{length, get_or}
use lib.Dec.{T}
use Rattle.std.proofs.lemmas.Slice.Zip.{length-zip, get_or-zip}
use Rattle.std.specs.Bool.{MatchBool}
use Rattle.std.specs.List.{AllWithin, HoldsAt, zip}
use Rattle.bits.specs.Digits.{digit}
use Rattle.bits.specs.Range.{either, same_test, finds_every}
use Rattle.places.specs.Places.{used_in}
use Rattle.slots.specs.JobView.{reaped_used, finds_reaped_used}
use Rattle.views.specs.Painting.{slot_in, slots_all, slot_in_word}

-- the test of a pair of words tells this
abbrev pub Tells : Bool → ℕ × ℕ → Type 0
Tells answer pair = answer ≡ used_in pair.0 pair.1

module _ (words reaped : List ℕ) (many : length words ≡ 16) (also : length reaped ≡ 16) where
  module _ (i : ℕ) (inside : i < 16) where
    -- word i of each, place by place
    in_words : (q : ℕ) → q < 64 → slot_in words (i * 64 + q) ≡ digit (get_or words i 0) q
    in_words q l = slot_in_word words i q (rw (slots_all words 16 many (omega arith)) (omega arith)) l

    in_reaped : (q : ℕ) → q < 64 → slot_in reaped (i * 64 + q) ≡ digit (get_or reaped i 0) q
    in_reaped q l = slot_in_word reaped i q (rw (slots_all reaped 16 also (omega arith)) (omega arith)) l

    -- the word's own test asks this of its places
    finds_word : T (used_in (get_or words i 0) (get_or reaped i 0)) ↔ ((q : ℕ) → q < 64 → slot_in reaped (i * 64 + q) ≡ true → slot_in words (i * 64 + q) ≡ true)
    unfolding used_in
    finds_word =
        let found = finds_every (λ q. not (digit (get_or reaped i 0) q) || digit (get_or words i 0) q) 0 64 in (
          λ t q l is. in_words q l ∙ rw (sym (in_reaped q l) ∙ is) at (found.0 t q zero-le (omega arith)),
          λ all. found.1 (λ q _ l.
              either (digit (get_or reaped i 0) q)
              (λ is. rw (is, sym (in_words q (omega arith)) ∙ all q (omega arith) (in_reaped q (omega arith) ∙ is))) (λ is. rw is)),
        )

    pair_is : get_or (zip words reaped) i (0, 0) ≡ (get_or words i 0, get_or reaped i 0)
    pair_is = get_or-zip words reaped i (0, 0) (omega arith) (omega arith)

  pairs : length (zip words reaped) ≡ 16
  pairs = length-zip words reaped ∙ rw (many, also)

  -- the pairs of words, asked up to the first that fails
  pub asked_in_turn : (r : Bool)
      → MatchBool r (AllWithin (Tells true) (zip words reaped) 0 (length (zip words reaped)))
      ((k : ℕ) × (k < length (zip words reaped)) × HoldsAt (Tells false) (zip words reaped) k)
      → r ≡ reaped_used (slot_in words) (slot_in reaped) 1024
  asked_in_turn true each = same_test true _ (λ _.
      (finds_reaped_used (slot_in words) (slot_in reaped) 1024).1 (λ p l is.
      let same : p ≡ p / 64 * 64 + p % 64 = omega arith in
      let here : true ≡ used_in (get_or words (p / 64) 0) (get_or reaped (p / 64) 0) =
      rw (pair_is (p / 64) (omega arith)) at (each (p / 64) (0, 0) zero-le (omega (arith, pairs))) in
      rw (← same) at ((finds_word (p / 64) (omega arith)).0 (rw (← here) tt) (p % 64) (omega arith) (rw same at is)))) (λ _. tt)
  asked_in_turn false some = same_test false _ (λ t. absurd t) (λ t.
      let inside : some.0 < 16 = omega (arith, some.1, pairs) in
      let here : false ≡ used_in (get_or words some.0 0) (get_or reaped some.0 0) = rw (pair_is some.0 inside) at (some.2 (0, 0)) in
      rw (← here) at ((finds_word some.0 inside).1 (λ q l.
      (finds_reaped_used (slot_in words) (slot_in reaped) 1024).0 t (some.0 * 64 + q) (omega arith))))
