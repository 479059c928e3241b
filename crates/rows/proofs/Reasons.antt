-- What the loops over the words come to: the reasons behind `rows`. Assumes nothing.
use mathlib.Core.Path.{◌≡◌, refl, sym, ap, ap₂, subst, fun_ext, ◌∙◌}
use mathlib.Core.Logic.{◌↔◌}
use mathlib.Core.Bool.{Bool, true, false, not, ◌&&◌, ◌||◌, true≢false, false≢true}
use mathlib.Core.List.{List}
use Prim.Native.Nat.{ℕ, suc, ◌+◌, ◌-◌, ◌*◌, ◌/◌, ◌%◌, ◌^◌, ◌≤◌, ◌<◌, zero-le, min}
use native.Mathlib.Nat.{lt_of_le_of_lt, mod-eq_of_lt, zero-add, lt_of_not-le, min-eq_left, min-eq_right, le_refl, le_trans, le_of_lt, pos_of_ne-zero, one-mul}
use native.Mathlib.Omega.{arith}
use mir.Val.{bool_byte}
use lib.ListN.{length, get_or, set, take, length-take, get_or-eq_default}
use lib.Bits.{bit_or, bit_and, or_lt, and_le_l}
use lib.Dec.{T, leb, ltb, eqb, leb→le, le→leb, ltb→lt, lt→ltb}
use lib.Pow.{pow_pos, pow-lt, shl_exact}
use borrow.Author.Tests.{lt-ltb, le-ltb, lt-leb, le-leb, eq-eqb, ne_eqb, ltb-true, ltb-false, eqb-true, eqb-false, leb-true, leb-false, not-true, not-false}
use Rattle.bits.specs.Range.{bit, and_true, and_false, or_false, either, same_test, within, within_named, within_found, finds_every, least, least_is, least_none, least_from, least_to, least_passes, least_first, count, count_agree, count_most, count_split, count_moved}
use Rattle.bits.specs.Digits.{digit, number, number_agree, number_lt, zero_digit, up_digit, power_digit}
use Rattle.bits.proofs.Digits.{digit_number, number_is, and_digit, or_digit, bit_digit, complement_digit, read_digit}
use Rattle.slots.specs.Sets.{Slots, Named, all_free, finds_all_free, finds_all_used}
use Rattle.slots.specs.Lowest.{free_from}
use Rattle.slots.specs.Gaps.{having, has_value, has_other}
use Rattle.places.specs.Places.{run_mask, free_in, used_in, painted_in}
use Rattle.rows.specs.declared.Mark.{Mark}
use Rattle.rows.specs.declared.Mark.TheVariants.{Used, Full}
use Rattle.rows.specs.Rows.{mark_test, with_bit, open_from, mask_has, run_has}
use Rattle.views.specs.Marks.{passes_at, part_words}
use Rattle.views.specs.Full.{marked, filled, filled_slots, filled_open, filled_marked, seen_from}
use Rattle.views.proofs.Full.{filled_used}
use Rattle.views.specs.Painting.{slots_in, slot_in, slots_most, word_there, slot_there, slot_past, slot_in_word, end_in, part_mask, reaches, painted_first, paint_on, paint_ahead, paint_rest}

-- ---- a number whose places are set one after the other

-- the first i places as f has them, and no other
abbrev pub first_places : (ℕ → Bool) → ℕ → ℕ → ℕ
first_places f w i = number (λ p. ltb p i && f p) w

pub no_places : (f : ℕ → Bool) (w : ℕ) → 0 ≡ first_places f w 0
no_places f w = number_is w 0 _ (pow_pos w) (λ p l. zero_digit p ∙ ap (λ (b : Bool). b && f p) (sym (le-ltb p 0 zero-le)))

-- a word of a part is one of the words, and there are sixteen at most
pub part_there : (words : List ℕ) (i : ℕ) → i < part_words words → (i < length words) × (i < 16)
unfolding part_words
part_there words i l = (omega arith, omega arith)

-- so many words are lent where a part's words are walked
pub part_lent : (words : List ℕ) → length (take (part_words words) words) ≡ part_words words
unfolding part_words
part_lent words = simp length-take (omega arith)

pub part_most : (words : List ℕ) → part_words words ≤ 16
unfolding part_words
part_most words = omega arith

-- 0 is not marked, neither as used nor as full
pub zero_fails : (mark : Mark) → mark_test mark 0 ≡ false
zero_fails Used = refl
zero_fails Full = refl

-- a word past the part's last is 0, so where 0 does not pass the places of the part's words are all
pub part_places : (test : ℕ → Bool) → test 0 ≡ false → (words : List ℕ) → first_places (passes_at test words) 16 (part_words words) ≡ number (passes_at test words) 16
unfolding part_words
part_places test fails words = number_agree _ (passes_at test words) 16 (λ p l.
    either (ltb p (part_words words)) (λ t. ap (λ (b : Bool). b && passes_at test words p) t)
    (λ t. let past = ltb-false p (part_words words) t in
    ap (λ (b : Bool). b && passes_at test words p) t
    ∙ sym (ap test (get_or-eq_default words 0 {n = p} (omega arith)) ∙ fails)))

joined : (f : ℕ → Bool) (i p : ℕ) → ltb p i && f p || leb i p && (eqb (p - i) 0 && f i) ≡ ltb p (i + 1) && f p
joined f i p =
    either (ltb p i) (λ e. let l = ltb-true p i e in rw (e, lt-leb i p l, lt-ltb p (i + 1) (omega arith)) (or_false (f p)))
    (λ e. let l = ltb-false p i e in
    either (eqb p i)
    (λ s. let same = eqb-true p i s in rw (e, le-leb i p l, eq-eqb (p - i) 0 (omega arith), lt-ltb p (i + 1) (omega arith)) (ap f (sym same)))
    (λ s. let other = eqb-false p i s in rw (e, le-leb i p l, ne_eqb (p - i) 0 (λ h. other (omega arith)), le-ltb p (i + 1) (above p i l other))))
  where
    above : (p i : ℕ) → i ≤ p → (p ≡ i → ⊥) → i + 1 ≤ p
    above p i l other = let past : i < p = lt_of_not-le (λ h. other (omega arith)) in omega arith

placed : (b : Bool) (w i : ℕ) → i < w → bit b * 2 ^ i < 2 ^ w
placed true w i l = omega (arith, pow-lt l)
placed false w i l = omega (arith, pow_pos w)

-- a 1 or a 0, moved up by the machine
pub shifted_bit : (b : Bool) (w i : ℕ) → i < w → bool_byte b * 2 ^ i % 2 ^ w ≡ bit b * 2 ^ i
shifted_bit true w i l = mod-eq_of_lt (placed true w i l)
shifted_bit false w i l = mod-eq_of_lt (placed false w i l)

pub next_place : (f : ℕ → Bool) (w i : ℕ) → i < w → bit_or (first_places f w i) (bit (f i) * 2 ^ i) ≡ first_places f w (i + 1)
next_place f w i l = number_is w _ _ (or_lt w _ _ (number_lt _ w) (placed (f i) w i l)) (λ p m.
    or_digit (first_places f w i) (bit (f i) * 2 ^ i) p
    ∙ ap₂ (λ (b c : Bool). b || c) (digit_number _ w p m) (up_digit (bit (f i)) i p ∙ ap (λ (b : Bool). leb i p && b) (bit_digit (f i) (p - i)))
    ∙ joined f i p)

-- ---- marks brought up to date place by place

-- a place cleared and then set as v has it
cleared_set : (marks i : ℕ) (v : Bool) → marks < 2 ^ 16 → i < 16
    → bit_or (bit_and marks ((2 ^ 16 - 1) - 2 ^ i)) (bit v * 2 ^ i) ≡ with_bit marks v i
unfolding with_bit
cleared_set marks i v held l = number_is 16 _ _ (or_lt 16 _ _ (lt_of_le_of_lt (and_le_l marks _) held) (placed v 16 i l)) (λ p m.
    or_digit (bit_and marks ((2 ^ 16 - 1) - 2 ^ i)) (bit v * 2 ^ i) p
    ∙ ap₂ (λ (b c : Bool). b || c)
    (and_digit marks _ p ∙ ap (λ (b : Bool). digit marks p && b) (complement_digit 16 (2 ^ i) p (pow-lt l) m ∙ ap not (power_digit i p)))
    (up_digit (bit v) i p ∙ ap (λ (b : Bool). leb i p && b) (bit_digit v (p - i)))
    ∙ chosen p)
  where
    chosen : (p : ℕ) → digit marks p && not (eqb p i) || leb i p && (eqb (p - i) 0 && v) ≡ elim (eqb p i) [ true ↦ v | false ↦ digit marks p ]
    chosen p =
        either (eqb p i)
        (λ e. let same = eqb-true p i e in rw (e, and_false (digit marks p), le-leb i p (omega arith), eq-eqb (p - i) 0 (omega arith)))
        (λ e. let other = eqb-false p i e in
        either (leb i p)
        (λ t. rw (e, t, ne_eqb (p - i) 0 (λ h. other (omega (arith, leb-true i p t, h))), and_true (digit marks p)) (or_false (digit marks p)))
        (λ t. rw (e, t, and_true (digit marks p)) (or_false (digit marks p))))

-- the same as the machine does it, which moves a 1 up
pub replaced : (marks i : ℕ) (v : Bool) → marks < 2 ^ 16 → i < 16 → with_bit marks v i ≡ bit_or (bit_and marks ((2 ^ 16 - 1) - 1 * 2 ^ i % 2 ^ 16)) (bit v * 2 ^ i)
replaced marks i v held l =
    sym (ap (λ (one : ℕ). bit_or (bit_and marks ((2 ^ 16 - 1) - one)) (bit v * 2 ^ i)) (shl_exact 1 i 16 (omega arith) (omega arith) ∙ one-mul (2 ^ i))
    ∙ cleared_set marks i v held l)

-- the reached bits of the words below i are up to date
abbrev pub touched_first : (ℕ → Bool) → List ℕ → ℕ → ℕ → ℕ → ℕ → ℕ
touched_first test words marks s e i = number (λ p. elim (reaches s e p && ltb p i) [ true ↦ passes_at test words p | false ↦ digit marks p ]) 16

module _ (test : ℕ → Bool) (words : List ℕ) (marks s e : ℕ) where
  abbrev place_as : ℕ → Bool → Bool
  place_as p done = elim done [ true ↦ passes_at test words p | false ↦ digit marks p ]

  abbrev picked : ℕ → ℕ → Bool → Bool
  picked i p here = elim here [ true ↦ passes_at test words i | false ↦ digit (touched_first test words marks s e i) p ]

  pub touch_none : marks < 2 ^ 16 → (i : ℕ) → i ≤ s / 64 → marks ≡ touched_first test words marks s e i
  touch_none held i l = number_is 16 marks _ held (λ p m. sym (ap (place_as p) (unreached p)))
    where
      unreached : (p : ℕ) → reaches s e p && ltb p i ≡ false
      unreached p =
          either (ltb p i) (λ t. rw (lt-leb (s / 64) p (omega (arith, ltb-true p i t)))) (λ t. rw (t, and_false (reaches s e p)))

  pub touch_on : (i : ℕ) → s / 64 ≤ i → i * 64 < e → with_bit (touched_first test words marks s e i) (passes_at test words i) i ≡ touched_first test words marks s e (i + 1)
  unfolding with_bit
  touch_on i l h = number_agree _ _ 16 (λ p m. either (eqb p i) (λ t. at_place p t) (λ t. elsewhere p m t))
    where
      below : (p : ℕ) → (p ≡ i → ⊥) → p < i + 1 → p < i
      below p other b = lt_of_not-le (λ g. other (omega arith))

      at_place : (p : ℕ) → eqb p i ≡ true → picked i p (eqb p i) ≡ place_as p (reaches s e p && ltb p (i + 1))
      at_place p t =
          let same = eqb-true p i t in
          let now : reaches s e p && ltb p (i + 1) ≡ true = rw (le-leb (s / 64) p (omega arith), lt-ltb (p * 64) e (omega arith), lt-ltb p (i + 1) (omega arith)) in
          ap (picked i p) t ∙ ap (passes_at test words) (sym same) ∙ sym (ap (place_as p) now)

      elsewhere : (p : ℕ) → p < 16 → eqb p i ≡ false → picked i p (eqb p i) ≡ place_as p (reaches s e p && ltb p (i + 1))
      elsewhere p m t =
          let other = eqb-false p i t in
          ap (picked i p) t ∙ digit_number (λ q. place_as q (reaches s e q && ltb q i)) 16 p m
          ∙ ap (λ (b : Bool). place_as p (reaches s e p && b))
          (same_test (ltb p i) (ltb p (i + 1)) (λ a. lt→ltb p (i + 1) (omega (arith, ltb→lt p i a))) (λ a. lt→ltb p i (below p other (ltb→lt p (i + 1) a))))

  pub touch_all : (i : ℕ) → e ≤ i * 64 → touched_first test words marks s e i ≡ number (λ p. elim (reaches s e p) [ true ↦ passes_at test words p | false ↦ digit marks p ]) 16
  touch_all i h = number_agree _ _ 16 (λ p m. ap (place_as p) (whole p))
    where
      whole : (p : ℕ) → reaches s e p && ltb p i ≡ reaches s e p
      whole p =
          either (ltb p i) (λ t. rw (t, and_true (reaches s e p)))
          (λ t. rw (t, and_false (reaches s e p), le-ltb (p * 64) e (omega (arith, ltb-false p i t))) (sym (and_false (leb (s / 64) p))))

-- ---- slots counted word by word

-- so many words are lent where the words that hold slots are walked
pub words_lent : (words : List ℕ) → length (take (slots_in words / 64) words) ≡ slots_in words / 64
unfolding slots_in
words_lent words = simp length-take (omega arith)

pub word_most : (word r : ℕ) → r ≡ count (digit word) 0 64 → r ≤ 64
word_most word r e = rw e (count_most (digit word) 0 64)

pub count_next : (words : List ℕ) (i : ℕ) → i * 64 < slots_in words
    → count (slot_in words) 0 (i * 64) + count (digit (get_or words i 0)) 0 64 ≡ count (slot_in words) 0 ((i + 1) * 64)
count_next words i h =
    ap (λ (n : ℕ). count (slot_in words) 0 (i * 64) + n)
    (sym (ap (λ (s : ℕ). count (slot_in words) s 64) (zero-add (i * 64))
    ∙ count_moved (slot_in words) (i * 64) 64
    ∙ count_agree _ (digit (get_or words i 0)) 0 64 (λ s _ l. slot_in_word words i s h (omega arith))))
    ∙ sym (count_split (slot_in words) 0 (i * 64) 64)
    ∙ ap (count (slot_in words) 0) (omega arith)

-- ---- the first free slot, word by word

-- slot p of the whole, seen in word i
seen : (words : List ℕ) (i p : ℕ) → i * 64 < slots_in words → i * 64 ≤ p → p < (i + 1) * 64 → slot_in words p ≡ digit (get_or words i 0) (p - i * 64)
seen words i p h l b = ap (slot_in words) (omega arith) ∙ slot_in_word words i (p - i * 64) h (omega arith)

-- a word asked for its first place that has not the value v: as it is where v is true, and else as its complement x
module _ (v : Bool) (words : List ℕ) (start x place : ℕ) (inside : start < slots_in words)
    (asked : (p : ℕ) → p < 64 → digit x p ≡ having v (digit (get_or words (start / 64) 0)) p) (told : place ≡ free_from 6 (digit x) (start % 64)) where
  here : start / 64 * 64 < slots_in words
  here = omega arith

  place_is : place ≡ least (λ i. not (digit x i)) (start % 64) (64 - start % 64)
  unfolding free_from
  place_is = told ∙ ap (λ (s : ℕ). least (λ i. not (digit x i)) s (64 - start % 64)) (min-eq_left (omega arith))

  -- each slot of the word from the start on has the value, up to the place
  value_before : (p : ℕ) → start ≤ p → p < (start / 64 + 1) * 64 → p < start / 64 * 64 + place → slot_in words p ≡ v
  value_before p l b m =
      let q = p - start / 64 * 64 in
      seen words (start / 64) p here (omega arith) b
      ∙ has_value v (digit (get_or words (start / 64) 0)) q (sym (asked q (omega arith))
      ∙ not-false _ (least_first (λ i. not (digit x i)) (start % 64) (64 - start % 64) q (omega arith) (rw (sym place_is) (omega arith))))

  pub word_full : 64 ≤ place → (p : ℕ) → start ≤ p → p < (start / 64 + 1) * 64 → slot_in words p ≡ v
  word_full h p l b = value_before p l b (omega arith)

  pub word_has : place < 64 → (p : ℕ) → start ≤ p → p < start / 64 * 64 + place → slot_in words p ≡ v
  word_has h p l m = value_before p l (omega arith) m

  pub word_from : start ≤ start / 64 * 64 + place
  word_from = omega (arith, place_is, least_from (λ i. not (digit x i)) (start % 64) (64 - start % 64))

  pub word_stops : place < 64 → slot_in words (start / 64 * 64 + place) ≡ not v
  word_stops h =
      slot_in_word words (start / 64) place here h
      ∙ has_other v (digit (get_or words (start / 64) 0)) place (sym (asked place h)
      ∙ not-true _ (rw place_is (least_passes (λ i. not (digit x i)) (start % 64) (64 - start % 64) (rw (sym place_is) (omega arith)))))

-- from the end of the greatest row on the answer is that end
pub far_from : (S : Slots) (from : ℕ) → 16384 ≤ from → 16384 ≡ free_from 14 S from
unfolding free_from
far_from S from far =
    sym (least_none (λ i. not (S i)) (min from 16384) (16384 - from) (λ p f h. absurd (omega arith)) ∙ omega arith)

-- each slot from `from` to the start is used
pub record Passed (words : List ℕ) (from start : ℕ) : Type 0 where
  pub later : from ≤ start
  pub near : start ≤ 16384
  pub used : (p : ℕ) → from ≤ p → p < start → slot_in words p ≡ true

pub passed_none : (words : List ℕ) (from : ℕ) → from < 16384 → Passed words from from
passed_none words from near = record { later = le_refl from; near = le_of_lt near; used = λ p l b. absurd (omega arith) }

module _ (words : List ℕ) (from start : ℕ) (passed : Passed words from start) where
  pub passed_on : (next : ℕ) → start ≤ next → next ≤ 16384 → ((p : ℕ) → start ≤ p → p < next → slot_in words p ≡ true) → Passed words from next
  passed_on next l near more = record {
    later = le_trans passed.later l;
    near = near;
    used = λ p f b. either (ltb p start) (λ e. passed.used p f (ltb-true p start e)) (λ e. more p (ltb-false p start e) b);
  }

  pub passed_found : (r : ℕ) → start ≤ r → r < 16384 → slot_in words r ≡ false → ((p : ℕ) → start ≤ p → p < r → slot_in words p ≡ true) → r ≡ free_from 14 (slot_in words) from
  unfolding free_from
  passed_found r l b free more =
      let all = passed_on r l (le_of_lt b) more in
      let low = le_trans passed.later l in
      let near : from ≤ 16384 = omega arith in
      sym (rw (min-eq_left near)
      (least_is (λ i. not (slot_in words i)) from (16384 - from) r low (omega arith) (ap not free) (λ p f h. ap not (all.used p f h))))

  -- past the words every slot is free
  pub passed_all : slots_in words ≤ start → start ≡ free_from 14 (slot_in words) from
  unfolding free_from
  passed_all past =
      either (ltb start 16384)
      (λ t. passed_found start (le_refl start) (ltb-true start 16384 t) (slot_past words start past) (λ p l b. absurd (omega arith)))
      (λ t. let last = ltb-false start 16384 t in
      let low = passed.later in
      let near = passed.near in
      sym (least_none (λ i. not (slot_in words i)) (min from 16384) (16384 - from) (λ p f h. ap not (passed.used p (omega arith) (omega arith))) ∙ omega arith))

-- ---- the first used slot

-- each slot from `from` to the start is free, as far as the search goes
pub record PassedFree (words : List ℕ) (from end start : ℕ) : Type 0 where
  pub later : from ≤ start
  pub free : (p : ℕ) → from ≤ p → p < start → p < end → slot_in words p ≡ false

pub free_none : (words : List ℕ) (from end : ℕ) → PassedFree words from end from
free_none words from end = record { later = le_refl from; free = λ p l b _. absurd (omega arith) }

module _ (words : List ℕ) (from end start : ℕ) (passed : PassedFree words from end start) where
  pub free_on : (next : ℕ) → start ≤ next → ((p : ℕ) → start ≤ p → p < next → slot_in words p ≡ false) → PassedFree words from end next
  free_on next l more = record {
    later = le_trans passed.later l;
    free = λ p f b e. either (ltb p start) (λ t. passed.free p f (ltb-true p start t) e) (λ t. more p (ltb-false p start t) b);
  }

  -- a used slot is found, before the end or not
  pub used_found : (r : ℕ) → start ≤ r → r < end → slot_in words r ≡ true → ((p : ℕ) → start ≤ p → p < r → slot_in words p ≡ false) → r ≡ least (slot_in words) from (end - from)
  used_found r l b used more =
      let all = free_on r l more in
      let low = passed.later in
      sym (least_is (slot_in words) from (end - from) r (le_trans low l) (omega arith) used (λ p f h. all.free p f h (omega arith)))

  pub used_late : (r : ℕ) → from ≤ end → end ≤ r → ((p : ℕ) → start ≤ p → p < r → slot_in words p ≡ false) → end ≡ least (slot_in words) from (end - from)
  used_late r low l more =
      sym (least_none (slot_in words) from (end - from) (λ p f b.
      either (ltb p start) (λ t. passed.free p f (ltb-true p start t) (omega arith)) (λ t. more p (ltb-false p start t) (omega arith))) ∙ omega arith)

-- word i, which is not marked, asked from the start on: its complement's first free place is its first used one
module _ (words fulls : List ℕ) (from end start i place : ℕ) (passed : PassedFree (filled words fulls) from end start) (inside : start < slots_in words) (at : i ≡ start / 64)
    (held : get_or words i 0 < 2 ^ 64) (unmarked : marked fulls i ≡ false) (told : place ≡ free_from 6 (digit ((2 ^ 64 - 1) - get_or words i 0)) (start % 64)) where
  abbrev complement : ℕ
  complement = (2 ^ 64 - 1) - get_or words (start / 64) 0

  asked_as : (p : ℕ) → p < 64 → digit complement p ≡ having false (digit (get_or words (start / 64) 0)) p
  asked_as p l = complement_digit 64 (get_or words (start / 64) 0) p (subst (λ (j : ℕ). get_or words j 0 < 2 ^ 64) at held) l

  told_as : place ≡ free_from 6 (digit complement) (start % 64)
  told_as = told ∙ ap (λ (j : ℕ). free_from 6 (digit ((2 ^ 64 - 1) - get_or words j 0)) (start % 64)) at

  as_it_is : (p : ℕ) → p / 64 ≡ start / 64 → slot_in (filled words fulls) p ≡ slot_in words p
  as_it_is p same = filled_open words fulls p (ap (marked fulls) (same ∙ sym at) ∙ unmarked)

  pub used_next : 64 ≤ place → PassedFree (filled words fulls) from end ((i + 1) * 64)
  used_next none = free_on (filled words fulls) from end start passed ((i + 1) * 64) (omega arith)
      (λ p l b. as_it_is p (omega arith) ∙ word_full false words start complement place inside asked_as told_as none p l (omega arith))

  pub used_answer : place < 64 → from < end → min end (i * 64 + place) ≡ least (slot_in (filled words fulls)) from (end - from)
  used_answer here some =
      ap (λ (j : ℕ). min end (j * 64 + place)) at
      ∙ either (leb end found)
      (λ t. min-eq_left (leb-true end found t) ∙ used_late (filled words fulls) from end start passed found (le_of_lt some) (leb-true end found t) free_before)
      (λ t. min-eq_right (le_of_lt (leb-false end found t))
      ∙ used_found (filled words fulls) from end start passed found (word_from false words start complement place inside asked_as told_as) (leb-false end found t)
      (as_it_is found (omega arith) ∙ word_stops false words start complement place inside asked_as told_as here) free_before)
    where
      found : ℕ
      found = start / 64 * 64 + place

      free_before : (p : ℕ) → start ≤ p → p < found → slot_in (filled words fulls) p ≡ false
      free_before p l b = as_it_is p (omega arith) ∙ word_has false words start complement place inside asked_as told_as here p l b

-- ---- going by the marks of full words

-- past the marks no word is marked
pub unmarked_past : (fulls : List ℕ) (i : ℕ) → length fulls ≤ i / 16 → marked fulls i ≡ false
unfolding marked
unmarked_past fulls i past = ap (λ (m : ℕ). digit m (i % 16)) (get_or-eq_default fulls 0 {n = i / 16} past) ∙ zero_digit (i % 16)

-- a mark, as the machine reads it
pub read_mark : (fulls : List ℕ) (i : ℕ) → eqb (get_or fulls (i / 16) 0 / 2 ^ (i % 16) % 2) 1 ≡ marked fulls i
unfolding marked
read_mark fulls i = read_digit (get_or fulls (i / 16) 0) (i % 16)

-- the first free place of the mark that tells of word i
module _ (fulls : List ℕ) (i place : ℕ) (told : place ≡ free_from 6 (digit (get_or fulls (i / 16) 0)) (i % 16)) where
  abbrev unset : ℕ → Bool
  unset q = not (digit (get_or fulls (i / 16) 0) q)

  mark_place : place ≡ least unset (i % 16) (64 - i % 16)
  unfolding free_from
  mark_place = told ∙ ap (λ (s : ℕ). least unset s (64 - i % 16)) (min-eq_left (omega arith))

  in_mark : (q : ℕ) → q < 16 → marked fulls (i / 16 * 16 + q) ≡ digit (get_or fulls (i / 16) 0) q
  unfolding marked
  in_mark q l = ap₂ (λ (m p : ℕ). digit (get_or fulls m 0) p) whole rest
    where
      whole : (i / 16 * 16 + q) / 16 ≡ i / 16
      whole = omega arith

      rest : (i / 16 * 16 + q) % 16 ≡ q
      rest = omega arith

  pub marked_before : (j : ℕ) → i ≤ j → j < i / 16 * 16 + 16 → j < i / 16 * 16 + place → marked fulls j ≡ true
  marked_before j l b m =
      let at : j ≡ i / 16 * 16 + (j - i / 16 * 16) = omega arith in
      ap (marked fulls) at ∙ in_mark (j - i / 16 * 16) (omega arith)
      ∙ not-false _ (least_first unset (i % 16) (64 - i % 16) (j - i / 16 * 16) (omega arith) (rw (sym mark_place) (omega arith)))

  pub open_from_lem : i ≤ i / 16 * 16 + place
  open_from_lem = omega (arith, mark_place, least_from unset (i % 16) (64 - i % 16))

  pub open_at : place < 16 → marked fulls (i / 16 * 16 + place) ≡ false
  open_at l =
      in_mark place l ∙ not-true _ (rw mark_place (least_passes unset (i % 16) (64 - i % 16) (rw (sym mark_place) (omega arith))))

-- each word from `from` to i is marked
abbrev pub Marked : List ℕ → ℕ → ℕ → Type 0
Marked fulls from i = (j : ℕ) → from ≤ j → j < i → marked fulls j ≡ true

pub open_found : (fulls : List ℕ) (from r : ℕ) → from ≤ r → r < 256 → marked fulls r ≡ false → Marked fulls from r → r ≡ open_from fulls from
unfolding open_from
open_found fulls from r l b unmarked before = sym (least_is (λ j. not (marked fulls j)) from (256 - from) r l (omega arith) (ap not unmarked) (λ j f h. ap not (before j f h)))

pub open_none : (fulls : List ℕ) (from : ℕ) → from ≤ 256 → Marked fulls from 256 → 256 ≡ open_from fulls from
unfolding open_from
open_none fulls from l before = sym (least_none (λ j. not (marked fulls j)) from (256 - from) (λ j f h. ap not (before j f (omega arith))) ∙ omega arith)

-- each word between is marked
module _ (fulls : List ℕ) (from : ℕ) (near : from ≤ 256) where
  abbrev shut : ℕ → Bool
  shut j = not (marked fulls j)

  pub open_later : from ≤ open_from fulls from
  unfolding open_from
  open_later = least_from shut from (256 - from)

  pub open_most : open_from fulls from ≤ 256
  unfolding open_from
  open_most = omega (arith, least_to shut from (256 - from))

  pub open_passes : Marked fulls from (open_from fulls from)
  unfolding open_from
  open_passes j l b = not-false (marked fulls j) (least_first shut from (256 - from) j l b)

-- a used slot is one of the words'
pub used_inside : (words : List ℕ) (p : ℕ) → slot_in words p ≡ true → p < slots_in words
used_inside words p used =
    either (ltb p (slots_in words)) (ltb-true p (slots_in words)) (λ l. absurd (true≢false (sym used ∙ slot_past words p (ltb-false p (slots_in words) l))))

-- ---- a search that has passed no free slot; past the words it is at their end

abbrev pub Searching : List ℕ → List ℕ → ℕ → ℕ → Type 0
Searching words fulls from start = Passed (filled words fulls) from (min start (slots_in words))

module _ (words fulls : List ℕ) (from : ℕ) where
  -- from a word on whose slots it has come to, it goes on after the marked words
  pub searching_on : (j next : ℕ) → Passed (filled words fulls) from (j * 64) → j * 64 ≤ slots_in words → next ≡ open_from fulls j * 64 → Searching words fulls from next
  searching_on j next passed inside e =
      let near : j ≤ 256 = omega (arith, inside, slots_most words) in
      rw e (passed_on (filled words fulls) from (j * 64) passed (min (open_from fulls j * 64) (slots_in words)) (omega (arith, open_later fulls j near)) (omega (arith, slots_most words))
      (λ p l b. filled_marked words fulls p (omega arith) (open_passes fulls j near (p / 64) (omega arith) (omega arith))))

  -- where the slot that is asked first is used, marks count from there on
  pub seen_filled : slot_in words from ≡ true → seen_from words fulls from ≡ slot_in (filled words fulls)
  seen_filled used = fun_ext (λ p.
      either (eqb p from)
      (λ t. ap (pick p) t ∙ ap (slot_in words) (eqb-true p from t) ∙ used
      ∙ sym (ap (slot_in (filled words fulls)) (eqb-true p from t)
      ∙ filled_used words fulls from (used_inside words from used) used))
      (λ t. ap (pick p) t))
    where
      pick : ℕ → Bool → Bool
      pick p b = elim b [ true ↦ slot_in words p | false ↦ slot_in (filled words fulls) p ]

  -- and where it is free it is the answer
  pub seen_here : from < 16384 → slot_in words from ≡ false → from ≡ free_from 14 (seen_from words fulls from) from
  unfolding free_from
  seen_here near free =
      let within_reach : from ≤ 16384 = le_of_lt near in
      sym (rw (min-eq_left within_reach)
      (least_is (λ i. not (seen_from words fulls from i)) from (16384 - from) from (le_refl from) (omega arith)
      (ap (λ (b : Bool). not (elim b [ true ↦ slot_in words from | false ↦ slot_in (filled words fulls) from ])) (eq-eqb from from refl) ∙ ap not free)
      (λ p l b. absurd (omega arith))))

-- the next word is one of 256, or their end
pub next_near : (words : List ℕ) (s : ℕ) → s < slots_in words → s / 64 + 1 ≤ 256
next_near words s l = omega (arith, slots_most words)

-- the word of the start, asked for its first free place from there on
module _ (words fulls : List ℕ) (from start place : ℕ) (searching : Searching words fulls from start) (inside : start < slots_in words)
    (told : place ≡ free_from 6 (digit (get_or words (start / 64) 0)) (start % 64)) where
  abbrev seen_words : List ℕ
  seen_words = filled words fulls

  come_to : Passed seen_words from start
  come_to = subst (Passed seen_words from) (min-eq_left (le_of_lt inside)) searching

  whole_word : (start / 64 + 1) * 64 ≤ slots_in words
  whole_word = (word_there words (start / 64) (omega arith)).2

  same_word : (p : ℕ) → start ≤ p → p < (start / 64 + 1) * 64 → p / 64 ≡ start / 64
  same_word p l b = omega arith

  -- a free place of a word that is not marked is the answer
  pub found_free : place < 64 → marked fulls (start / 64) ≡ false → start / 64 * 64 + place ≡ free_from 14 (slot_in seen_words) from
  found_free here unmarked =
      let found : ℕ = start / 64 * 64 + place in
      let later = word_from true words start (get_or words (start / 64) 0) place inside (λ p l. refl) told in
      passed_found seen_words from start come_to found later (omega (arith, whole_word, slots_most words))
      (filled_open words fulls found (ap (marked fulls) (same_word found later (omega arith)) ∙ unmarked) ∙ word_stops true words start (get_or words (start / 64) 0) place inside (λ p l. refl) told here)
      (λ p l b. filled_used words fulls p (omega (arith, whole_word)) (word_has true words start (get_or words (start / 64) 0) place inside (λ p l. refl) told here p l b))

  -- where the word has none, or is marked, the search goes on at the next word that is not marked
  module _ (next : ℕ) (goes : next ≡ open_from fulls (start / 64 + 1) * 64) where
    goes_on : ((p : ℕ) → start ≤ p → p < (start / 64 + 1) * 64 → slot_in seen_words p ≡ true) → Searching words fulls from next
    goes_on none = searching_on words fulls from (start / 64 + 1) next
        (passed_on seen_words from start come_to ((start / 64 + 1) * 64) (omega arith) (omega (arith, whole_word, slots_most words)) none) whole_word goes

    pub next_after_marked : marked fulls (start / 64) ≡ true → Searching words fulls from next
    next_after_marked is = goes_on (λ p l b. filled_marked words fulls p (omega (arith, whole_word)) (ap (marked fulls) (same_word p l b) ∙ is))

    pub next_after_used : 64 ≤ place → Searching words fulls from next
    next_after_used none = goes_on (λ p l b. filled_used words fulls p (omega (arith, whole_word)) (word_full true words start (get_or words (start / 64) 0) place inside (λ q h. refl) told none p l b))

-- the word that holds a slot
pub word_of : (words : List ℕ) (s : ℕ) → s < slots_in words → s / 64 < length words
word_of words s l = (word_there words (s / 64) (omega arith)).0

-- a slot of the words, as the machine reads it
pub read_slot : (words : List ℕ) (s : ℕ) → s < slots_in words → eqb (get_or words (s / 64) 0 / 2 ^ (s % 64) % 2) 1 ≡ slot_in words s
read_slot words s l = read_digit (get_or words (s / 64) 0) (s % 64) ∙ sym (slot_there words s l)

-- ---- where a run ends among the words

pub before_end : (slots s n e : ℕ) → e ≡ end_in slots s n → (e ≤ slots) × (e ≤ s + n)
unfolding end_in
before_end slots s n e is = (omega (arith, is), omega (arith, is))

-- of a run that begins in the words it is not before the run's start
pub after_start : (words : List ℕ) (s n : ℕ) → s < slots_in words → end_in (slots_in words) s n ≡ s + (end_in (slots_in words) s n - s)
unfolding end_in
after_start words s n inside = omega arith

-- what is left of the run from there on lies past the words, and is free
pub free_past : (words : List ℕ) (s n e p : ℕ) → e ≡ end_in (slots_in words) s n → e ≤ p → p < s + n → slot_in words p ≡ false
unfolding end_in
free_past words s n e p is l b = slot_past words p (omega (arith, is))

-- ---- the part of a run that lies in one word

agree_leb : (a b c d : ℕ) → (a ≤ b → c ≤ d) → (c ≤ d → a ≤ b) → leb a b ≡ leb c d
agree_leb a b c d f g = same_test (leb a b) (leb c d) (λ t. le→leb c d (f (leb→le a b t))) (λ t. le→leb a b (g (leb→le c d t)))

module _ (s e i : ℕ) where
  part_of : (lo n : ℕ) → ((p : ℕ) → leb lo p ≡ leb s (i * 64 + p)) → ((p : ℕ) → p < 64 → ltb p (lo + n) ≡ ltb (i * 64 + p) e) → run_mask lo n ≡ part_mask s e i
  unfolding run_mask part_mask within
  part_of lo n below above = number_agree _ _ 64 (λ p l. ap₂ (λ (b c : Bool). b && c) (below p) (above p l))

  -- where the run began before the word, or with it
  part_up_to : s ≤ i * 64 → (n : ℕ) → ((p : ℕ) → p < 64 → ltb p (0 + n) ≡ ltb (i * 64 + p) e) → run_mask 0 n ≡ part_mask s e i
  part_up_to l n above = part_of 0 n (λ p. agree_leb 0 p s (i * 64 + p) (λ h. omega arith) (λ h. omega arith)) above

  pub part_to_end : s ≤ i * 64 → i * 64 < e → run_mask 0 (e - i * 64) ≡ part_mask s e i
  part_to_end l m = part_up_to l (e - i * 64) (λ p _. agree_leb (suc p) (0 + (e - i * 64)) (suc (i * 64 + p)) e (λ h. omega arith) (λ h. omega arith))

  pub part_whole : s ≤ i * 64 → (i + 1) * 64 ≤ e → run_mask 0 64 ≡ part_mask s e i
  part_whole l m = part_up_to l 64 (λ p b. agree_leb (suc p) (0 + 64) (suc (i * 64 + p)) e (λ h. omega arith) (λ h. omega arith))

  pub part_inside : i * 64 ≤ s → s ≤ e → run_mask (s - i * 64) (e - s) ≡ part_mask s e i
  part_inside l m =
      part_of (s - i * 64) (e - s) (λ p. agree_leb (s - i * 64) p s (i * 64 + p) (λ h. omega arith) (λ h. omega arith))
      (λ p _. agree_leb (suc p) (s - i * 64 + (e - s)) (suc (i * 64 + p)) e (λ h. omega arith) (λ h. omega arith))

  pub part_none : e ≤ s → 0 ≡ part_mask s e i
  unfolding part_mask
  part_none l = number_is 64 0 _ (pow_pos 64) (λ p _. zero_digit p ∙ sym (none p))
    where
      none : (p : ℕ) → leb s (i * 64 + p) && ltb (i * 64 + p) e ≡ false
      none p = either (ltb (i * 64 + p) e) (λ t. let b = ltb-true (i * 64 + p) e t in rw (lt-leb s (i * 64 + p) (omega arith)))
          (λ t. rw t (and_false (leb s (i * 64 + p))))

-- the word in which the run begins
pub part_first : (s n : ℕ) → run_mask (s % 64) n ≡ part_mask s (s + n) (s / 64)
part_first s n = ap₂ run_mask (omega arith) (omega arith) ∙ part_inside s (s + n) (s / 64) (omega arith) (omega arith)

-- the same where it is one of the words, so that nothing of it is cut off
pub first_part : (words : List ℕ) (s n : ℕ) → s < slots_in words → run_mask (s % 64) n ≡ part_mask s (end_in (slots_in words) s n) (s / 64)
unfolding end_in run_mask part_mask within
first_part words s n inside = number_agree _ _ 64 (λ p l. ap₂ (λ (b c : Bool). b && c)
    (agree_leb (s % 64) p s (s / 64 * 64 + p) (λ h. omega arith) (λ h. omega arith))
    (agree_leb (suc p) (s % 64 + n) (suc (s / 64 * 64 + p)) (min (s + n) (slots_in words)) (λ h. omega (arith, ends)) (λ h. omega arith)))
  where
    ends : (s / 64 + 1) * 64 ≤ slots_in words
    ends = (word_there words (s / 64) (omega arith)).2

-- ---- painting word by word

module _ (words : List ℕ) (s e : ℕ) (v : Bool) where
  -- one word of the loop that paints: what it read, masked and wrote
  pub paint_step : (now : List ℕ) (i end mask left : ℕ) → s / 64 ≤ i → i * 64 < end → now ≡ painted_first words s e v i → end ≡ e → mask ≡ part_mask s end i
      → left ≡ painted_in (get_or now i 0) mask v → set now i left ≡ painted_first words s e v (i + 1)
  paint_step now i end mask left l h so_far ends masked wrote =
      ap₂ (λ (ws : List ℕ) (x : ℕ). set ws i x) so_far
      (wrote ∙ ap₂ (λ (x m : ℕ). painted_in x m v) (ap (λ (ws : List ℕ). get_or ws i 0) so_far ∙ paint_ahead words s e v i i (le_refl i)) (masked ∙ ap (λ (n : ℕ). part_mask s n i) ends))
      ∙ paint_on words s e v i l (rw (sym ends) h)

  -- past the run's end nothing is left to paint, of whatever words there are
  pub paint_past : (i : ℕ) → e ≤ i * 64 → e ≤ 16384 → painted_first words s e v i ≡ painted_first words s e v 256
  paint_past i past most =
      either (ltb i 256)
      (λ t. let below = ltb-true i 256 t in paint_rest words s e v i (256 - i) past ∙ ap (painted_first words s e v) (omega arith))
      (λ t. let above = ltb-false i 256 t in sym (paint_rest words s e v 256 (i - 256) most ∙ ap (painted_first words s e v) (omega arith)))

pub ends_within : (words : List ℕ) (s n : ℕ) → end_in (slots_in words) s n ≤ 16384
unfolding end_in
ends_within words s n = omega (arith, slots_most words)

-- ---- a run asked word by word, for the value v: true where each slot is to be used, false where each is to be free

finds_mask : (v : Bool) (word mask : ℕ) → T (mask_has v word mask) ↔ ((p : ℕ) → p < 64 → digit mask p ≡ true → digit word p ≡ v)
unfolding used_in free_in
finds_mask true word mask =
    let found = finds_every (λ p. not (digit mask p) || digit word p) 0 64 in (
      λ t p l m. rw m at (found.0 t p zero-le (omega arith)),
      λ all. found.1 (λ p _ l. either (digit mask p) (λ m. rw (m, all p (omega arith) m)) (λ m. rw m)),
    )
finds_mask false word mask =
    let found = finds_every (λ p. not (digit mask p && digit word p)) 0 64 in (
      λ t p l m. not-true (digit word p) (rw m at (found.0 t p zero-le (omega arith))),
      λ all. found.1 (λ p _ l. either (digit mask p) (λ m. rw (m, all p (omega arith) m)) (λ m. rw m)),
    )

finds_run : (v : Bool) (S : Slots) (s n : ℕ) → T (run_has v S s n) ↔ ((p : ℕ) → Named s n p → S p ≡ v)
finds_run true S s n = finds_all_used S s n
finds_run false S s n = finds_all_free S s n

-- one slot of the run has the other value
pub run_has_not : (v : Bool) (S : Slots) (s n p : ℕ) → Named s n p → S p ≡ not v → false ≡ run_has v S s n
run_has_not v S s n p named other =
    same_test false (run_has v S s n) (λ t. absurd t) (λ t. differs v (sym ((finds_run v S s n).0 t p named) ∙ other))
  where
    differs : (b : Bool) → b ≡ not b → ⊥
    differs true e = true≢false e
    differs false e = false≢true e

-- each slot of the run that lies before word i has the value
abbrev pub HasTo : Bool → List ℕ → ℕ → ℕ → ℕ → Type 0
HasTo v words s n i = (p : ℕ) → Named s n p → p < i * 64 → slot_in words p ≡ v

module _ (v : Bool) (words : List ℕ) (s n : ℕ) where
  pub has_none : HasTo v words s n (s / 64)
  has_none p named b = absurd (omega (arith, named.0))

  pub has_all : (i : ℕ) → HasTo v words s n i → ((p : ℕ) → Named s n p → i * 64 ≤ p → slot_in words p ≡ v) → true ≡ run_has v (slot_in words) s n
  has_all i before rest =
      same_test true (run_has v (slot_in words) s n)
      (λ _. (finds_run v (slot_in words) s n).1 (λ p named.
      either (ltb p (i * 64)) (λ t. before p named (ltb-true p (i * 64) t)) (λ t. rest p named (ltb-false p (i * 64) t)))) (λ _. tt)

-- word i, asked by the mask of its part of the run
module _ (v : Bool) (words : List ℕ) (s n i : ℕ) (here : i * 64 < slots_in words) (flag : Bool) (mask : ℕ) (told : flag ≡ mask_has v (get_or words i 0) mask) (part : mask ≡ part_mask s (s + n) i) where
  in_mask : (p : ℕ) → p < 64 → digit mask p ≡ within s n (i * 64 + p)
  unfolding part_mask within
  in_mask p l = ap (λ (m : ℕ). digit m p) part ∙ digit_number _ 64 p l

  word_has_it : flag ≡ true → (p : ℕ) → Named s n p → i * 64 ≤ p → p < (i + 1) * 64 → slot_in words p ≡ v
  word_has_it yes_flag p named l b =
      seen words i p here l b
      ∙ (finds_mask v (get_or words i 0) mask).0 (rw (sym told ∙ yes_flag) tt) (p - i * 64) (omega arith)
      (in_mask (p - i * 64) (omega arith) ∙ within_named s n (i * 64 + (p - i * 64)) (omega (arith, named.0), omega (arith, named.1)))

  pub has_on : flag ≡ true → HasTo v words s n i → HasTo v words s n (i + 1)
  has_on yes_flag before p named b =
      either (ltb p (i * 64)) (λ t. before p named (ltb-true p (i * 64) t)) (λ t. word_has_it yes_flag p named (ltb-false p (i * 64) t) b)

  pub has_not : flag ≡ false → false ≡ run_has v (slot_in words) s n
  has_not no_flag =
      same_test false (run_has v (slot_in words) s n) (λ t. absurd t)
      (λ t. rw (sym told ∙ no_flag) at ((finds_mask v (get_or words i 0) mask).1 (λ p l m.
      sym (slot_in_word words i p here l) ∙ (finds_run v (slot_in words) s n).0 t (i * 64 + p) (within_found s n (i * 64 + p) (sym (in_mask p l) ∙ m)))))

  -- of the run's last word the answer is that of the whole run
  pub has_last : s + n ≤ (i + 1) * 64 → HasTo v words s n i → flag ≡ run_has v (slot_in words) s n
  has_last ends before =
      either flag
      (λ yes_flag. yes_flag ∙ has_all v words s n (i + 1) (has_on yes_flag before) (λ p named past. absurd (omega (arith, named.1))))
      (λ no_flag. no_flag ∙ has_not no_flag)

-- what of a run lies past the words is free, so it is enough to ask the part in them
pub free_cut : (words : List ℕ) (s n e : ℕ) → e ≡ end_in (slots_in words) s n → all_free (slot_in words) s (e - s) ≡ all_free (slot_in words) s n
free_cut words s n e is =
    same_test (all_free (slot_in words) s (e - s)) (all_free (slot_in words) s n)
    (λ t. (finds_all_free (slot_in words) s n).1 (λ p named.
    either (ltb p e) (λ b. (finds_all_free (slot_in words) s (e - s)).0 t p (named.0, omega (arith, named.0, ltb-true p e b)))
    (λ b. free_past words s n e p is (ltb-false p e b) named.1)))
    (λ t. (finds_all_free (slot_in words) s (e - s)).1 (λ p named. (finds_all_free (slot_in words) s n).0 t p (named.0, omega (arith, named.0, named.1, before_end _ _ _ _ is))))

-- ---- a run that is free and reaches no marked word

-- no word below word i that the run reaches is marked
abbrev pub UnmarkedTo : List ℕ → ℕ → ℕ → Type 0
UnmarkedTo fulls s i = (j : ℕ) → s / 64 ≤ j → j < i → marked fulls j ≡ false

module _ (words fulls : List ℕ) (s n : ℕ) where
  abbrev seen_slots : Slots
  seen_slots = slot_in (filled words fulls)

  -- a used slot is used in the filled words too
  pub fits_not : (flag : Bool) → flag ≡ all_free (slot_in words) s n → flag ≡ false → false ≡ all_free seen_slots s n
  fits_not flag told e =
      same_test false (all_free seen_slots s n) absurd
      (λ t. rw (sym told ∙ e) at ((finds_all_free (slot_in words) s n).1 (λ p named. free p ((finds_all_free seen_slots s n).0 t p named))))
    where
      free : (p : ℕ) → seen_slots p ≡ false → slot_in words p ≡ false
      free p none =
          either (ltb p (slots_in words))
          (λ t. either (slot_in words p) (λ used. absurd (true≢false (sym (filled_used words fulls p (ltb-true p (slots_in words) t) used) ∙ none))) (λ e. e))
          (λ t. slot_past words p (ltb-false p (slots_in words) t))

  -- a run of no slots fits anywhere
  pub fits_none : n ≡ 0 → true ≡ all_free seen_slots s n
  fits_none none = has_all false (filled words fulls) s n 0 (λ p named b. absurd (omega arith)) (λ p named b. absurd (omega (arith, none, named.0, named.1)))

  -- a word of the run that is marked holds one of its slots: the run's first, or its own first
  pub fits_marked : (i : ℕ) → s / 64 ≤ i → i * 64 < end_in (slots_in words) s n → (n ≡ 0 → ⊥) → marked fulls i ≡ true → false ≡ all_free seen_slots s n
  unfolding end_in
  fits_marked i l ends some is =
      either (leb s (i * 64))
      (λ t. let from = leb-true s (i * 64) t in held (i * 64) (from, omega arith) (omega arith) (omega arith))
      (λ t. let from = leb-false s (i * 64) t in held s (le_refl s, omega (arith, pos_of_ne-zero some)) (omega arith) (omega (arith, (word_there words i (omega arith)).2)))
    where
      held : (p : ℕ) → Named s n p → p / 64 ≡ i → p < slots_in words → false ≡ all_free seen_slots s n
      held p named at inside = run_has_not false seen_slots s n p named (filled_marked words fulls p inside (ap (marked fulls) at ∙ is))

  -- where none of its words is marked, the filled words are free there as the words are
  pub fits_all : (flag : Bool) → flag ≡ all_free (slot_in words) s n → flag ≡ true → (i : ℕ) → end_in (slots_in words) s n ≤ i * 64 → UnmarkedTo fulls s i
      → true ≡ all_free seen_slots s n
  unfolding end_in
  fits_all flag told e i ends unmarked = same_test true (all_free seen_slots s n) (λ _. (finds_all_free seen_slots s n).1 free) (λ _. tt)
    where
      free : (p : ℕ) → Named s n p → seen_slots p ≡ false
      free p named =
          either (ltb p (slots_in words))
          (λ t. let inside = ltb-true p (slots_in words) t in
          filled_open words fulls p (unmarked (p / 64) (omega (arith, named.0)) (omega (arith, named.1)))
          ∙ (finds_all_free (slot_in words) s n).0 (rw (sym told ∙ e) tt) p named)
          (λ t. slot_past (filled words fulls) p (rw (filled_slots words fulls) (ltb-false p (slots_in words) t)))
