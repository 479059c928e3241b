-- Where the commit's helpers give an answer, ours is the same, save for the listed departures: 8 for an alignment that is no power of two, 10 for an
-- interval out of order, 4 for a mask whose end is above 63; for every outcome that a contract allows. And where none holds and the numbers pass,
-- they do give an answer. Rests on `Util`, on `rounding`, `spans` and the masks of `bits`.
use Rattle.std.specs.Prelude.{◌≡◌, refl, ◌⊎◌, Bool, true, false, ◌&&◌, ◌||◌, List, ◌∷◌, ℕ, ◌+◌, ◌-◌, ◌*◌, ◌/◌, ◌%◌, ◌^◌, ◌≤◌, ◌<◌, min, max, leb, ltb, Result}
use Rattle.std.proofs.Common.{sym, ap₂, ◌∙◌, ⊎_elim, mod-lt, one-mul, mod-eq_of_lt, arith, leb→le, le→leb, ltb→lt, lt→ltb, pow_pos}
use Rattle.std.proofs.Math.Path.{ap}
use Rattle.std.proofs.Math.Logic.{inl, inr}
use Rattle.std.proofs.Math.Bool.{not}
use Rattle.std.specs.Int.Bits.{bit_and}
use Rattle.std.proofs.lemmas.Nat.Bits.{and_high}
use Rattle.std.proofs.lemmas.Nat.{and_mask}
use Rattle.std.proofs.Math.Dec.{eqb}
use Rattle.std.proofs.Math.Pow.{pow-lt, shr_mod}
use borrow.Author.Tests.{leb-true, leb-false, ltb-true, ltb-false, lt-leb, le-ltb, lt-ltb}
use Rattle.answers.specs.Said.{Said, value, refused, Check, ◌when◌, judged, judged_found, judged_passed, judged_next}
use Rattle.answers.specs.Answers.{answer_says}
use Rattle.answers.specs.declared.Refusal.{Refusal}
use Rattle.bits.specs.Range.{either, same_test}
use Rattle.bits.proofs.Digits.{number_is, shifted_digit, low_mask_digit}
use Rattle.bits.specs.Masks.{one_bit, places, mask_between, OneBitSays, MaskSays}
use Rattle.rounding.specs.Powers.{PowerOfTwo, is_power, power_found, power_exponent}
use Rattle.rounding.specs.Multiples.{down, up, up_near, aligned_up, aligned_down, aligned}
use Rattle.rounding.specs.Widths.{AlignUpSays, AlignDownSays, IsAlignedSays, align_up_says, align_down_says}
use Rattle.rounding.specs.Pages.{page_up, pages, page_offset, PageAlignUpSays, RoundToPagesSays, PageOffsetSays, pages_end}
use Rattle.rounding.proofs.PagesLemmas.{page_align_up_faults}
use Rattle.spans.specs.Overlap.{meet, overlaps, OverlapSays}
use Rattle.source.specs.Machine.{Run, gives, stops, ◌&◌}
use Rattle.source.specs.Util.{added, !, align_up, align_down, is_aligned, page_align_up, round_to_pages, page_offset_lem, overlap, BIT, BIT-MASK}
use Rattle.same.specs.Whenever.{Whenever, then, so, anyhow, tested, sum_then, difference_then, one_then}
use Rattle.same.specs.Answering.{Answers, surely, answers_then, answers_tested, sum_answers, difference_answers, one_answers}
use Rattle.same.specs.Same.{Refuses}

-- ---- rounding

-- the low x digits cleared
low_cleared : (w x p : ℕ) → x ≤ w → p < 2 ^ w → p & ! w (2 ^ x - 1) ≡ p / 2 ^ x * 2 ^ x
low_cleared w x p small fits =
    let whole : (w - x) + x ≡ w = omega arith in
    let high : ! w (2 ^ x - 1) ≡ 2 ^ ((w - x) + x) - 2 ^ x = ap (λ (u : ℕ). (2 ^ u - 1) - (2 ^ x - 1)) (sym whole) ∙ omega (arith, pow_pos x) in
    ap (bit_and p) high ∙ and_high p (w - x) x ∙ ap (λ (q : ℕ). q * 2 ^ x) (shr_mod (w - x) x (rw whole fits))

refused_first : {A : Type 0} (k : ℕ) (b : Bool) (cs : List Check) (a : A) → b ≡ true → judged ((k when b) ∷ cs) a ≡ refused k
unfolding judged
refused_first k b cs a e = rw e

-- where there is an answer and no departure, it is ours
undeparted : {A : Type 0} (number : ℕ) (fault : Type 0) (x : Run A) (said : Said A) → Answers x → Whenever x (λ a. Refuses number fault said ⊎ (said ≡ value a)) → (fault → ⊥)
    → (a : A) × (x ≡ gives a) × (said ≡ value a)
undeparted number fault x said answers same none = surely x _ answers (so x _ _ same (λ a. ⊎_elim (λ departs. absurd (none departs.0)) (λ e. e)))

-- an alignment is a power of two, or departs
abbrev pub NoPower : ℕ → Type 0
NoPower a = PowerOfTwo a → ⊥

module _ (w a : ℕ) (held : a < 2 ^ w) where
  powered : {P : Type 0} → (NoPower a → is_power w a ≡ false → P) → ((x : ℕ) → x < w → a ≡ 2 ^ x → is_power w a ≡ true → P) → P
  powered departs is =
      either (is_power w a)
      (λ e. let p = (power_found w a held).0 (rw e tt) in is p.0 (power_exponent w p.0 (rw p.1 at held)) p.1 e)
      (λ e. departs (λ p. rw e at ((power_found w a held).1 p)) e)

  some_power : PowerOfTwo a → 0 < a
  some_power (x, is) = rw is (pow_pos x)

  module _ (v : ℕ) (said : Said ℕ) where
    pub align_down_said : v < 2 ^ w → said ≡ aligned_down w v a → Whenever (align_down w v a) (λ r. Refuses 8 (NoPower a) said ⊎ (said ≡ value r))
    unfolding align_down aligned_down down
    align_down_said fits outcome = rw outcome (difference_then _ _ a 1 (λ _.
        powered (λ departs e. inl (departs, judged_found 8 (not (is_power w a)) (v / a * a) (ap not e)))
        (λ x small is e. inr (judged_passed 8 (not (is_power w a)) (v / a * a) (ap not e) ∙ ap value (rw is (sym (low_cleared w x v (omega arith) fits)))))))

    pub align_down_is : v < 2 ^ w → said ≡ aligned_down w v a → PowerOfTwo a → (r : ℕ) × (align_down w v a ≡ gives r) × (said ≡ value r)
    unfolding align_down
    align_down_is fits outcome power =
        undeparted 8 (NoPower a) (align_down w v a) said (difference_answers _ a 1 (some_power power) tt) (align_down_said fits outcome) (λ departs. departs power)

    pub align_up_said : said ≡ aligned_up w v a → Whenever (align_up w v a) (λ r. Refuses 8 (NoPower a) said ⊎ (said ≡ value r))
    unfolding align_up aligned_up up down
    align_up_said outcome = rw outcome (difference_then _ _ a 1 (λ _. then (added w v (a - 1)) _ _ (tested (ltb (v + (a - 1)) (2 ^ w)) _ _ _ (λ inside.
        let fits : v + (a - 1) < 2 ^ w = ltb-true (v + (a - 1)) (2 ^ w) inside in
        powered (λ departs e. inl (departs, refused_first 8 (not (is_power w a)) _ _ (ap not e))) (λ x small is e.
        inr (judged_next 8 (not (is_power w a)) _ _ (ap not e)
        ∙ judged_passed 9 _ _ (lt-leb (2 ^ w) ((v + (a - 1)) / a * a) (omega (arith, up_near a v)))
        ∙ ap value (rw is (sym (low_cleared w x (v + (2 ^ x - 1)) (omega arith) (rw is at fits))))))) (λ _. tt))))

    align_up_answers : 0 < a → v + (a - 1) < 2 ^ w → Answers (align_up w v a)
    unfolding align_up
    align_up_answers pos fits =
        difference_answers _ a 1 pos (answers_then (added w v (a - 1)) _
        (answers_tested (ltb (v + (a - 1)) (2 ^ w)) _ _ (λ _. tt) (λ past. absurd (omega (arith, ltb-false (v + (a - 1)) (2 ^ w) past))))
        (anyhow (added w v (a - 1)) _ (λ _. tt)))

    pub align_up_is : said ≡ aligned_up w v a → PowerOfTwo a → v + (a - 1) < 2 ^ w → (r : ℕ) × (align_up w v a ≡ gives r) × (said ≡ value r)
    align_up_is outcome power fits =
        undeparted 8 (NoPower a) (align_up w v a) said (align_up_answers (some_power power) fits) (align_up_said outcome) (λ departs. departs power)

  pub is_aligned_said : (v : ℕ) (said : Said Bool) → said ≡ aligned w v a → Whenever (is_aligned v a) (λ b. Refuses 8 (NoPower a) said ⊎ (said ≡ value b))
  unfolding is_aligned aligned
  is_aligned_said v said outcome = rw outcome (difference_then _ _ a 1 (λ _.
      powered (λ departs e. inl (departs, judged_found 8 (not (is_power w a)) (eqb (v % a) 0) (ap not e)))
      (λ x small is e.
      inr (judged_passed 8 (not (is_power w a)) (eqb (v % a) 0) (ap not e) ∙ ap value (rw is (ap (λ (n : ℕ). eqb n 0) (sym (and_mask v x))))))))

  pub is_aligned_is : (v : ℕ) (said : Said Bool) → said ≡ aligned w v a → PowerOfTwo a → (b : Bool) × (is_aligned v a ≡ gives b) × (said ≡ value b)
  unfolding is_aligned
  is_aligned_is v said outcome power =
      undeparted 8 (NoPower a) (is_aligned v a) said (difference_answers _ a 1 (some_power power) tt) (is_aligned_said v said outcome) (λ departs. departs power)

-- ---- by our contracts, at any width, 32 and 64 among them

module _ (w v a : ℕ) (held : a < 2 ^ w) where
  pub align_up_same : (r : Result ℕ Refusal) → AlignUpSays w (λ n. n) v a r → Whenever (align_up w v a) (λ x. Refuses 8 (NoPower a) (answer_says r) ⊎ (answer_says r ≡ value x))
  align_up_same r outcome = align_up_said w a held v (answer_says r) (align_up_says w v a r outcome)

  pub align_down_same : v < 2 ^ w → (r : Result ℕ Refusal) → AlignDownSays w (λ n. n) v a r → Whenever (align_down w v a) (λ x. Refuses 8 (NoPower a) (answer_says r) ⊎ (answer_says r ≡ value x))
  align_down_same fits r outcome = align_down_said w a held v (answer_says r) fits (align_down_says w v a r outcome)

  pub is_aligned_same : (r : Result Bool Refusal) → IsAlignedSays w (λ n. n) v a r → Whenever (is_aligned v a) (λ b. Refuses 8 (NoPower a) (answer_says r) ⊎ (answer_says r ≡ value b))
  is_aligned_same r outcome = is_aligned_said w a held v (answer_says r) outcome

-- ---- pages of 4,096

page_power : PowerOfTwo 4096
page_power = (12, refl)

page_up_same : (x : ℕ) → Whenever (page_align_up x) (λ end. page_up x ≡ value end)
unfolding page_align_up page_up
page_up_same x = so (align_up 64 x 4096) _ _ (align_up_said 64 4096 (omega arith) x (page_up x) refl)
    (λ end. ⊎_elim (λ departs. absurd (departs.0 page_power)) (λ said. said))

pub page_align_up_same : (x : ℕ) (r : Result ℕ Refusal) → PageAlignUpSays x r → Whenever (page_align_up x) (λ end. answer_says r ≡ value end)
page_align_up_same x r outcome = rw outcome (page_up_same x)

pub page_align_up_is : (x : ℕ) (r : Result ℕ Refusal) → PageAlignUpSays x r → x + 4095 < 2 ^ 64 → (end : ℕ) × (page_align_up x ≡ gives end) × (answer_says r ≡ value end)
unfolding page_align_up page_up
page_align_up_is x r outcome fits = align_up_is 64 4096 (omega arith) x (answer_says r) outcome page_power fits

-- where an end is given, it is as many pages up as we count
counted : (x end : ℕ) → page_up x ≡ value end → pages x ≡ end / 4096
counted x end said = omega (arith, (((page_align_up_faults x).accepts end).0 said).1, pages_end x)

pub round_to_pages_same : (x r : ℕ) → RoundToPagesSays x r → Whenever (round_to_pages x) (λ n. r ≡ n)
unfolding round_to_pages
round_to_pages_same x r outcome = rw outcome (then (page_align_up x) _ _ (so (page_align_up x) _ _ (page_up_same x) (counted x)))

pub round_to_pages_is : (x r : ℕ) → RoundToPagesSays x r → x + 4095 < 2 ^ 64 → round_to_pages x ≡ gives r
unfolding round_to_pages page_align_up
round_to_pages_is x r outcome fits =
    let end = align_up 64 x 4096 in
    let answers = answers_then end _ (align_up_answers 64 4096 (omega arith) x (page_up x) (omega arith) fits) (anyhow end _ (λ _. tt)) in
    let counts = surely (round_to_pages x) _ answers (round_to_pages_same x r outcome) in
    counts.1 ∙ ap gives (sym counts.2)

-- where the last page is begun the commit's sum overflows, so that there is nothing to depart from
pub round_to_pages_over : (x : ℕ) → 2 ^ 64 ≤ x + 4095 → round_to_pages x ≡ stops
unfolding round_to_pages page_align_up align_up
round_to_pages_over x past = rw (le-ltb (x + 4095) (2 ^ 64) past, added)

pub page_offset_same : (x : ℕ) (r : ℕ) → PageOffsetSays x r → page_offset_lem x ≡ gives r
unfolding page_offset_lem page_offset
page_offset_same x r outcome = ap gives (and_mask x 12 ∙ sym outcome)

-- ---- overlap

-- it always answers
pub overlap_same : (a b c d : ℕ) (r : Result Bool Refusal) → OverlapSays a b c d r → Refuses 10 ((b < a) ⊎ (d < c)) (answer_says r) ⊎ (answer_says r ≡ value (overlap a b c d))
unfolding overlap overlaps meet
overlap_same a b c d r outcome = rw outcome (
    either (ltb b a) (λ e. inl (inl (ltb-true b a e), judged_found 10 (ltb b a || ltb d c) _ (rw e))) (λ first.
    either (ltb d c) (λ e. inl (inr (ltb-true d c e), judged_found 10 (ltb b a || ltb d c) _ (rw (first, e)))) (λ second.
    inr (judged_passed 10 (ltb b a || ltb d c) _ (rw (first, second)) ∙ ap value (meets (ltb-false b a first) (ltb-false d c second))))))
  where
    meets : a ≤ b → c ≤ d → leb (max a c) (min b d) ≡ leb a d && leb c b
    meets l h =
        either (leb a d)
        (λ e. rw e (same_test (leb (max a c) (min b d)) (leb c b)
        (λ t. le→leb c b (omega (arith, leb→le (max a c) (min b d) t)))
        (λ t. le→leb (max a c) (min b d) (omega (arith, leb→le c b t, leb-true a d e)))))
        (λ e. rw e (lt-leb (max a c) (min b d) (omega (arith, leb-false a d e))))

-- ---- masks

pub bit_same : (x : ℕ) (r : Result ℕ Refusal) → OneBitSays x r → Whenever (BIT x) (λ bit. answer_says r ≡ value bit)
unfolding BIT one_bit
bit_same x r outcome = tested (ltb x 64) _ _ _
    (λ e. outcome ∙ (
    let l : x < 64 = ltb-true x 64 e in
    judged_passed 4 (ltb 63 x) (2 ^ x) (le-ltb 63 x (omega arith)) ∙ ap value (sym (ap (λ (n : ℕ). n % 2 ^ 64) (one-mul (2 ^ x)) ∙ mod-eq_of_lt (pow-lt l)))))
    (λ _. tt)

pub bit_is : (x : ℕ) (r : Result ℕ Refusal) → OneBitSays x r → x < 64 → (bit : ℕ) × (BIT x ≡ gives bit) × (answer_says r ≡ value bit)
unfolding BIT
bit_is x r outcome small = surely (BIT x) _ (answers_tested (ltb x 64) _ _ (λ _. tt) (λ past. absurd (omega (arith, ltb-false x 64 past)))) (bit_same x r outcome)

-- ones from s to e, and none above 63
pub mask_drops : (s e : ℕ) → Whenever (BIT-MASK e s) (λ mask. (s ≤ e) × (mask ≡ places s e))
unfolding BIT-MASK places
mask_drops s e =
    difference_then _ _ e s (λ order. sum_then _ _ (e - s) 1 (λ _. one_then _ _ 64 (e - s + 1) (λ _. difference_then _ _ (2 ^ (e - s + 1)) 1 (λ _.
    tested (ltb s 64) _ _ _
    (λ _. (
      order,
      number_is 64 _ (λ i. leb s i && leb i e) (mod-lt _ (pow_pos 64)) (λ i l.
          shifted_digit (2 ^ (e - s + 1) - 1) s 64 i
          ∙ ap₂ (λ (b c : Bool). b && (leb s i && c)) (lt-ltb i 64 l) (low_mask_digit (e - s + 1) (i - s))
          ∙ up_to order i),
    ))
    (λ _. tt)))))
  where
    up_to : s ≤ e → (i : ℕ) → leb s i && ltb (i - s) (e - s + 1) ≡ leb s i && leb i e
    up_to order i =
        either (leb s i)
        (λ from. rw from (same_test (ltb (i - s) (e - s + 1)) (leb i e)
        (λ t. le→leb i e (omega (arith, ltb→lt (i - s) (e - s + 1) t, leb-true s i from)))
        (λ t. lt→ltb (i - s) (e - s + 1) (omega (arith, leb→le i e t, leb-true s i from)))))
        (λ before. rw before)

pub mask_same : (s e : ℕ) (r : Result ℕ Refusal) → MaskSays s e r → Whenever (BIT-MASK e s) (λ mask. Refuses 4 (63 < e) (answer_says r) ⊎ (answer_says r ≡ value mask))
unfolding mask_between
mask_same s e r outcome = rw outcome (so (BIT-MASK e s) _ _ (mask_drops s e) (λ mask told.
    either (ltb 63 e) (λ past. inl (ltb-true 63 e past, refused_first 4 (ltb 63 e) _ _ past)) (λ inside.
    inr (judged_next 4 (ltb 63 e) _ _ inside ∙ judged_passed 10 (ltb e s) _ (le-ltb e s told.0) ∙ ap value (sym told.1)))))

-- all but the mask from 0 to 63, whose run of 64 ones is made by a shift that has no answer
pub mask_is : (s e : ℕ) (r : Result ℕ Refusal) → MaskSays s e r → s ≤ e → e ≤ 63 → e - s < 63 → (mask : ℕ) × (BIT-MASK e s ≡ gives mask) × (answer_says r ≡ value mask)
unfolding BIT-MASK
mask_is s e r outcome order inside short =
    undeparted 4 (63 < e) (BIT-MASK e s) (answer_says r)
    (difference_answers _ e s order (sum_answers _ (e - s) 1 (omega arith) (one_answers _ 64 (e - s + 1) (omega arith) (difference_answers _ (2 ^ (e - s + 1)) 1 (pow_pos (e - s + 1))
    (answers_tested (ltb s 64) _ _ (λ _. tt) (λ past. absurd (omega (arith, ltb-false s 64 past))))))))
    (mask_same s e r outcome) (λ past. omega (arith, past))
