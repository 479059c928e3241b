-- What stood in specs/Full and rests on theorems there: moved, its statements unchanged. Rests on `Full`.
use Rattle.std.specs.Prelude.{◌≡◌, ◌↔◌, Bool, true, false, List, get_or, ltb, eqb}
use Rattle.std.proofs.Common.{sym, ◌∙◌, true≢false, arith, pow-add, ltb-true, ltb-false}
use Rattle.std.proofs.Math.Path.{ap}
use Prim.Native.Nat.{ℕ, ◌*◌, ◌/◌, ◌^◌, ◌≤◌, ◌<◌}
use Rattle.bits.specs.Range.{either}
use Rattle.slots.specs.Sets.{Slots, Named, AllUsed}
use Rattle.views.specs.Keeping.{Kept}
use Rattle.views.specs.Painting.{slots_in, slot_in, slot_past}
use Rattle.views.specs.Words.{words_of, made_words, word_held}
use Rattle.views.proofs.Words.{words_view, holds_words}
use Rattle.views.proofs.Marks.{marks_kept}
use Rattle.views.specs.Full.{all_ones, AllOnes, finds_all_ones, word_full, marked, filled, filled_open, filled_marked, seen_from}

abbrev pub full_kept : (j : ℕ) (most : 2 ^ j ≤ 256) → Kept (words_view j most)
full_kept = marks_kept all_ones AllOnes finds_all_ones

-- so a bit of the mark of a set's words tells whether the set has all of the word's slots
pub part_full : (j : ℕ) → 2 ^ j ≤ 256 → (S : Slots) (i : ℕ) → i < 2 ^ j → AllOnes (get_or (words_of j S) i 0) ↔ AllUsed S (i * 64) 64
part_full j most S i l =
    let held = made_words j S in
    let full = word_full (words_of j S) i (word_held j most (words_of j S) held i l) (held.each_fits i l) in (
      λ e s named. sym (same s named) ∙ full.0 e s named,
      λ used. full.1 (λ s named. same s named ∙ used s named),
    )
  where
    same : (s : ℕ) → Named (i * 64) 64 s → slot_in (words_of j S) s ≡ S s
    same s named = holds_words j most S s (omega (arith, named, pow-add 2 j 6))

-- ---- which slots they hold

module _ (words fulls : List ℕ) where
  -- so no used slot is lost
  pub filled_used : (p : ℕ) → p < slots_in words → slot_in words p ≡ true → slot_in (filled words fulls) p ≡ true
  filled_used p l used = either (marked fulls (p / 64)) (filled_marked words fulls p l) (λ t. filled_open words fulls p t ∙ used)

  -- what is used there is used in the filled words
  pub seen_used : (from p : ℕ) → seen_from words fulls from p ≡ true → slot_in (filled words fulls) p ≡ true
  seen_used from p used =
      either (eqb p from)
      (λ t. let here = sym (ap (λ (b : Bool). elim b [ true ↦ slot_in words p | false ↦ slot_in (filled words fulls) p ]) t) ∙ used in
      either (ltb p (slots_in words)) (λ l. filled_used p (ltb-true p (slots_in words) l) here)
      (λ l. absurd (true≢false (sym here ∙ slot_past words p (ltb-false p (slots_in words) l)))))
      (λ t. sym (ap (λ (b : Bool). elim b [ true ↦ slot_in words p | false ↦ slot_in (filled words fulls) p ]) t) ∙ used)
