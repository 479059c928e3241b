-- Words in a row as a set of slots, and a run painted in them, for every list of words. Rests on the digits of `bits` and on `slots`.
use Rattle.std.specs.Prelude.{◌≡◌, Bool, false, ◌&&◌, List, set, eqb}
use Rattle.std.proofs.Math.Path.{refl, sym, ap}
use Rattle.std.proofs.Common.{ap₂, ◌∙◌, mod-eq_of_lt, add-zero, zero-add, suc-add, ltb→lt, lt→ltb, pow_pos}
use Rattle.std.proofs.Math.Bool.{true, true≢false}
use Prim.Native.Nat.{ℕ, zero, suc, ◌+◌, ◌*◌, ◌/◌, ◌%◌, ◌^◌, ◌≤◌, ◌<◌, min}
use Rattle.std.proofs.Math.Nat.{mul-add-div_right, mul-add-mod_self_right, div-eq_of_lt, lt_of_not-le}
use native.Mathlib.Omega.{arith}
use Rattle.std.proofs.Math.ListN.{length, get_or, length-set, get_or-eq_default}
use Rattle.std.proofs.Math.Seq.{get_or-set_other, get_or-set_same}
use Rattle.std.proofs.Math.Dec.{leb, ltb}
use borrow.Author.Tests.{lt-ltb, le-ltb, lt-leb, le-leb, eqb-true, eqb-false, leb-true, ltb-true, ltb-false}
use Rattle.bits.specs.Range.{and_false, either, same_test, within}
use Rattle.bits.specs.Digits.{digit, number, number_lt}
use Rattle.bits.proofs.Digits.{digit_number}
use Rattle.slots.specs.Sets.{Slots, painted}
use Rattle.places.specs.Places.{painted_in, painted_place}

-- ---- the slots

-- how many slots the words hold; of more than 256 words the rest is not looked at
unfoldable pub slots_in : List ℕ → ℕ
slots_in words = min (length words) 256 * 64

-- slot s is place s % 64 of word s / 64; past the words no slot is used
unfoldable pub slot_in : List ℕ → Slots
slot_in words s = ltb s (slots_in words) && digit (get_or words (s / 64) 0) (s % 64)

-- a word that holds slots is one of the words, and there are 256 at most
pub word_there : (words : List ℕ) (i : ℕ) → i * 64 < slots_in words → (i < length words) × (i < 256) × ((i + 1) * 64 ≤ slots_in words)
unfolding slots_in
word_there words i h = (omega arith, omega arith, omega arith)

pub slots_most : (words : List ℕ) → slots_in words ≤ 16384
unfolding slots_in
slots_most words = omega arith

-- 256 words at most hold 64 slots each
pub slots_all : (words : List ℕ) (w : ℕ) → length words ≡ w → w ≤ 256 → slots_in words ≡ w * 64
unfolding slots_in
slots_all words w many most = omega arith

pub slot_there : (words : List ℕ) (p : ℕ) → p < slots_in words → slot_in words p ≡ digit (get_or words (p / 64) 0) (p % 64)
unfolding slot_in
slot_there words p l = rw (lt-ltb p (slots_in words) l)

pub slot_past : (words : List ℕ) (p : ℕ) → slots_in words ≤ p → slot_in words p ≡ false
unfolding slot_in
slot_past words p l = rw (le-ltb p (slots_in words) l)

pub slot_in_word : (words : List ℕ) (i s : ℕ) → i * 64 < slots_in words → s < 64 → slot_in words (i * 64 + s) ≡ digit (get_or words i 0) s
slot_in_word words i s h l =
    slot_there words (i * 64 + s) (omega (arith, (word_there words i h).2))
    ∙ ap₂ (λ (p q : ℕ). digit (get_or words p 0) q)
    (mul-add-div_right (omega arith) i s ∙ ap (λ (r : ℕ). i + r) (div-eq_of_lt l) ∙ add-zero i)
    (mul-add-mod_self_right i 64 s ∙ mod-eq_of_lt l)

-- ---- painting

-- where the n slots from s on end, among so many
unfoldable pub end_in : ℕ → ℕ → ℕ → ℕ
end_in slots s n = min (s + n) slots

-- ones at the places of word i that lie in the run from s up to e
unfoldable pub part_mask : ℕ → ℕ → ℕ → ℕ
part_mask s e i = number (λ p. leb s (i * 64 + p) && ltb (i * 64 + p) e) 64

-- the run reaches word i
abbrev pub reaches : ℕ → ℕ → ℕ → Bool
reaches s e i = leb (s / 64) i && ltb (i * 64) e

-- the words with the run's places in the first i of them painted; a word that the run does not reach is as it was
unfoldable pub painted_first : List ℕ → ℕ → ℕ → Bool → ℕ → List ℕ
painted_first words s e v zero = words
painted_first words s e v (suc i) =
    elim (reaches s e i) [
      | true ↦ set (painted_first words s e v i) i (painted_in (get_or words i 0) (part_mask s e i) v)
      | false ↦ painted_first words s e v i
    ]

unfoldable pub painted_words : List ℕ → ℕ → ℕ → Bool → List ℕ
painted_words words s n v = painted_first words s (end_in (slots_in words) s n) v 256

-- ---- word by word

module _ (words : List ℕ) (s e : ℕ) (v : Bool) where
  abbrev onward : ℕ → Bool → List ℕ
  onward i reached =
      elim reached [ true ↦ set (painted_first words s e v i) i (painted_in (get_or words i 0) (part_mask s e i) v) | false ↦ painted_first words s e v i ]

  passes_by : (i : ℕ) → reaches s e i ≡ false → painted_first words s e v (suc i) ≡ painted_first words s e v i
  unfolding painted_first
  passes_by i h = ap (onward i) h

  -- before the run's first word nothing is painted
  pub paint_none : (i : ℕ) → i ≤ s / 64 → painted_first words s e v i ≡ words
  unfolding painted_first
  paint_none zero h = refl
  paint_none (suc i) h = passes_by i (rw (lt-leb (s / 64) i (omega arith))) ∙ paint_none i (omega arith)

  -- a word of the run
  pub paint_on : (i : ℕ) → s / 64 ≤ i → i * 64 < e
      → set (painted_first words s e v i) i (painted_in (get_or words i 0) (part_mask s e i) v) ≡ painted_first words s e v (i + 1)
  unfolding painted_first
  paint_on i l h =
      let next : i + 1 ≡ suc i = omega arith in
      let reached : reaches s e i ≡ true = rw (le-leb (s / 64) i l, lt-ltb (i * 64) e h) in
      sym (ap (painted_first words s e v) next ∙ ap (onward i) reached)

  -- past the run's end nothing is painted
  pub paint_rest : (i d : ℕ) → e ≤ i * 64 → painted_first words s e v i ≡ painted_first words s e v (d + i)
  paint_rest i zero h = ap (painted_first words s e v) (sym (zero-add i))
  paint_rest i (suc d) h =
      paint_rest i d h
      ∙ sym (ap (painted_first words s e v) (suc-add d i) ∙ passes_by (d + i) (rw (le-ltb ((d + i) * 64) e (omega arith)) (and_false (leb (s / 64) (d + i)))))

  -- a word that is still ahead is as it was
  pub paint_ahead : (i j : ℕ) → i ≤ j → get_or (painted_first words s e v i) j 0 ≡ get_or words j 0
  unfolding painted_first
  paint_ahead zero j h = refl
  paint_ahead (suc i) j h =
      either (reaches s e i)
      (λ t. ap (λ (b : Bool). get_or (onward i b) j 0) t ∙ get_or-set_other (painted_first words s e v i) i j _ 0 (λ same. omega arith) ∙ paint_ahead i j (omega arith))
      (λ t. ap (λ (b : Bool). get_or (onward i b) j 0) t ∙ paint_ahead i j (omega arith))

  pub painted_length : (i : ℕ) → length (painted_first words s e v i) ≡ length words
  unfolding painted_first
  painted_length zero = refl
  painted_length (suc i) =
      either (reaches s e i)
      (λ t. ap (λ (b : Bool). length (onward i b)) t ∙ length-set (painted_first words s e v i) i _ ∙ painted_length i)
      (λ t. ap (λ (b : Bool). length (onward i b)) t ∙ painted_length i)

  -- a word that the run reaches, and one that it does not
  just_painted : (k : ℕ) → k < length words → reaches s e k ≡ true
      → get_or (painted_first words s e v (suc k)) k 0 ≡ painted_in (get_or words k 0) (part_mask s e k) v
  unfolding painted_first
  just_painted k h t = ap (λ (b : Bool). get_or (onward k b) k 0) t ∙ get_or-set_same (painted_first words s e v k) k _ 0 (rw (painted_length k) h)

  pub painted_word_lem : (k i : ℕ) → i < k → i < length words → reaches s e i ≡ true
      → get_or (painted_first words s e v k) i 0 ≡ painted_in (get_or words i 0) (part_mask s e i) v
  unfolding painted_first
  painted_word_lem zero i l h t = absurd (omega arith)
  painted_word_lem (suc k) i l h t =
      either (eqb i k) (λ same. let at_top = eqb-true i k same in rw at_top (just_painted k (rw (sym at_top) h) (rw (sym at_top) t)))
      (λ differs. let other = eqb-false i k differs in
      either (reaches s e k)
      (λ r. ap (λ (b : Bool). get_or (onward k b) i 0) r ∙ get_or-set_other (painted_first words s e v k) k i _ 0 other ∙ painted_word_lem k i (below other) h t)
      (λ r. ap (λ (b : Bool). get_or (onward k b) i 0) r ∙ painted_word_lem k i (below other) h t))
    where
      below : (i ≡ k → ⊥) → i < k
      below other = lt_of_not-le (λ g. other (omega arith))

  pub kept_word : (k i : ℕ) → reaches s e i ≡ false → get_or (painted_first words s e v k) i 0 ≡ get_or words i 0
  unfolding painted_first
  kept_word zero i t = refl
  kept_word (suc k) i t =
      either (reaches s e k)
      (λ r. ap (λ (b : Bool). get_or (onward k b) i 0) r
      ∙ get_or-set_other (painted_first words s e v k) k i _ 0 (λ same. true≢false (sym r ∙ rw (sym same) t)) ∙ kept_word k i t)
      (λ r. ap (λ (b : Bool). get_or (onward k b) i 0) r ∙ kept_word k i t)

  in_part : (p : ℕ) → digit (part_mask s e (p / 64)) (p % 64) ≡ leb s p && ltb p e
  unfolding part_mask
  in_part p = digit_number _ 64 (p % 64) (omega arith) ∙ ap (λ (q : ℕ). leb s q && ltb q e) back
    where
      back : p / 64 * 64 + p % 64 ≡ p
      back = omega arith

  digit_painted : (x m q : ℕ) → q < 64 → digit (painted_in x m v) q ≡ elim (digit m q) [ true ↦ v | false ↦ digit x q ]
  unfolding painted_in painted_place
  digit_painted x m q l = digit_number (painted_place x m v) 64 q l

  unreached : (p : ℕ) → reaches s e (p / 64) ≡ false → leb s p && ltb p e ≡ false
  unreached p t =
      either (leb s p)
      (λ a. either (ltb p e)
      (λ b. absurd (true≢false (sym (rw (le-leb (s / 64) (p / 64) (down (leb-true s p a)), lt-ltb (p / 64 * 64) e (omega (arith, ltb-true p e b)))) ∙ t)))
      (λ b. rw b (and_false (leb s p))))
      (λ a. rw a)
    where
      down : s ≤ p → s / 64 ≤ p / 64
      down h = omega arith

  painted_as_long : (i : ℕ) → slots_in (painted_first words s e v i) ≡ slots_in words
  unfolding slots_in
  painted_as_long i = ap (λ (l : ℕ). min l 256 * 64) (painted_length i)

  -- a slot of the run has the value, and every other is as it was
  pub painted_slot : (p : ℕ) → p < slots_in words → slot_in (painted_first words s e v 256) p ≡ elim (leb s p && ltb p e) [ true ↦ v | false ↦ slot_in words p ]
  painted_slot p l =
      let there = word_there words (p / 64) (omega arith) in
      slot_there (painted_first words s e v 256) p (rw (painted_as_long 256) l)
      ∙ either (reaches s e (p / 64))
      (λ t. ap (λ (x : ℕ). digit x (p % 64)) (painted_word_lem 256 (p / 64) there.1 there.0 t)
      ∙ digit_painted (get_or words (p / 64) 0) (part_mask s e (p / 64)) (p % 64) (omega arith)
      ∙ ap₂ (λ (b x : Bool). elim b [ true ↦ v | false ↦ x ]) (in_part p) (sym (slot_there words p l)))
      (λ t. ap (λ (x : ℕ). digit x (p % 64)) (kept_word 256 (p / 64) t)
      ∙ sym (slot_there words p l)
      ∙ ap (λ (b : Bool). elim b [ true ↦ v | false ↦ slot_in words p ]) (sym (unreached p t)))

  small : (x m : ℕ) → painted_in x m v < 2 ^ 64
  unfolding painted_in
  small x m = number_lt (painted_place x m v) 64

  -- and words they stay
  pub painted_fit : ((i : ℕ) → get_or words i 0 < 2 ^ 64) → (k i : ℕ) → get_or (painted_first words s e v k) i 0 < 2 ^ 64
  painted_fit fit k i =
      either (reaches s e i)
      (λ t. either (ltb i k)
      (λ a. either (ltb i (length words)) (λ b. rw (painted_word_lem k i (ltb-true i k a) (ltb-true i (length words) b) t) (small (get_or words i 0) (part_mask s e i)))
      (λ b. rw (get_or-eq_default (painted_first words s e v k) 0 {n = i} (rw (painted_length k) (ltb-false i (length words) b))) (pow_pos 64)))
      (λ a. rw (paint_ahead k i (ltb-false i k a)) (fit i)))
      (λ t. rw (kept_word k i t) (fit i))

before_end : (slots s n p : ℕ) → p < slots → ltb p (end_in slots s n) ≡ ltb p (s + n)
unfolding end_in
before_end slots s n p l =
    same_test (ltb p (min (s + n) slots)) (ltb p (s + n)) (λ t. lt→ltb p (s + n) (omega (arith, ltb→lt p (min (s + n) slots) t)))
    (λ t. lt→ltb p (min (s + n) slots) (omega (arith, ltb→lt p (s + n) t)))

-- so the words hold the painted set
pub painted_slots : (words : List ℕ) (s n : ℕ) (v : Bool) (p : ℕ) → p < slots_in words
    → slot_in (painted_words words s n v) p ≡ painted (slot_in words) s n v p
unfolding painted_words painted within
painted_slots words s n v p l =
    painted_slot words s (end_in (slots_in words) s n) v p l
    ∙ ap (λ (b : Bool). elim (leb s p && b) [ true ↦ v | false ↦ slot_in words p ]) (before_end (slots_in words) s n p l)

-- and are as many as they were
pub painted_long : (words : List ℕ) (s n : ℕ) (v : Bool) → length (painted_words words s n v) ≡ length words
unfolding painted_words
painted_long words s n v = painted_length words s (end_in (slots_in words) s n) v 256
