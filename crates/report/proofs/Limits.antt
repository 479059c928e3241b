-- What stood in specs/Limits and rests on theorems there: moved, its statements unchanged. Rests on `Limits`.
use Rattle.std.specs.Prelude.{◌≡◌, refl, true, false, List, [], ◌∷◌, ℕ, zero, suc, ◌+◌, ◌-◌, ◌*◌, ◌^◌, ◌≤◌, ◌<◌, ltb, length, take, drop}
use Rattle.std.proofs.Common.{sym, ap, ◌∙◌, true≢false, zero-mul, arith, length-append, length-drop, ltb-true, ltb-false, eqb-true}
use Rattle.answers.specs.Said.{Said, value, refused, Check, ◌when◌, judged, value≢refused}
use Rattle.answers.specs.declared.Reply.{Reply}
use Rattle.answers.specs.declared.Reply.TheVariants.{At as at, Done as ok}
use Rattle.texts.specs.Decimal.{decimal_within, decimal, decimal_short}
use Rattle.bits.specs.Bytes.{from_bytes}
use Rattle.bits.specs.Range.{either, count, count_most, count_agree}
use Rattle.slots.specs.Sets.{none}
use Rattle.slots.specs.Calls.{take_call, claim_call, free_call, used_call}
use Rattle.slots.proofs.Promises.{take_promise}
use Rattle.slots.specs.View.{answered, changed_says, found_sound, found_unsound, sound_answers}
use Rattle.slots.specs.Plain.{Asked, take as askTake, claim as askClaim, free as askFree, call_of}
use Rattle.slots.specs.Series.{made}
use Rattle.tree.specs.declared.Tree.{Tree}
use Rattle.tree.specs.Layout.{tree_view, slot_of, tree_calls}
use Rattle.report.specs.Fields.{Kind, takes, claims, frees, skips, stops, may_hold, field_of, Field, call, skip, bad, cut, head_kind, head_length, after_head, first_field, header_cut, header_bad, body_cut, body_whole}
use Rattle.report.proofs.Fields.{first_shorter}
use Rattle.report.specs.Report.{said, used, written, carried, report_from, report_end, empty_tree, report_of}
use Rattle.report.proofs.Report.{report_first, report_reads}
use Rattle.report.specs.Limits.{Consumed, skips_and_two, skips_length}

whole_consumed : (kind : Kind) (n : ℕ) (after : List ℕ) → may_hold kind n ≡ true → n ≤ length after
    → Consumed (length after + 3) (field_of kind (take n after)) (drop n after)
whole_consumed takes n after good enough = let is = eqb-true n 3 good in rw (length-drop n after) (omega (arith, is, enough))
whole_consumed claims n after good enough = let is = eqb-true n 4 good in rw (length-drop n after) (omega (arith, is, enough))
whole_consumed frees n after good enough = let is = eqb-true n 4 good in rw (length-drop n after) (omega (arith, is, enough))
whole_consumed skips n after good enough = rw (length-drop n after) (omega (arith, enough))
whole_consumed stops n after good enough = absurd (true≢false (sym good))

length_after : (bytes : List ℕ) → 3 ≤ length bytes → length (after_head bytes) + 3 ≡ length bytes
length_after bytes there = rw (length-drop 3 bytes) (omega arith)

pub consumed : (bytes : List ℕ) → Consumed (length bytes) (first_field bytes).0 (first_field bytes).1
consumed bytes =
    either (ltb (length bytes) 3)
    (λ few. rw (header_cut bytes (ltb-true _ _ few)) refl)
    (λ whole. either (may_hold (head_kind bytes) (head_length bytes))
    (λ good. either (ltb (length (after_head bytes)) (head_length bytes))
    (λ few. rw (body_cut bytes (ltb-false _ _ whole) good (ltb-true _ _ few)) refl)
    (λ enough.
    let there : 3 ≤ length bytes = ltb-false _ _ whole in
    let all : length (after_head bytes) + 3 ≡ length bytes = length_after bytes there in
    rw (body_whole bytes there good (ltb-false _ _ enough), ← all) (whole_consumed (head_kind bytes) (head_length bytes) (after_head bytes) good (ltb-false _ _ enough))))
    (λ wrong. rw (header_bad bytes (ltb-false _ _ whole) wrong) refl))

-- ---- how long its line is

-- what a call can say: a start below some number, or a refusal of one digit
abbrev Small : ℕ → Said Reply → Type 0
Small most (value (at o)) = o < most
Small most (value ok) = Unit {0}
Small most (refused k) = k < 10

abbrev EachBelow : ℕ → List Check → Type 0
EachBelow most [] = Unit {0}
EachBelow most ((k when b) ∷ cs) = (k < most) × EachBelow most cs

judged_small : (most : ℕ) (cs : List Check) → EachBelow 10 cs → (reply : Reply) → (judged cs reply ≡ value reply → Small most (value reply)) → Small most (judged cs reply)
unfolding judged
judged_small most [] below reply small = small refl
judged_small most ((k when true) ∷ cs) below reply small = below.0
judged_small most ((k when false) ∷ cs) below reply small = judged_small most cs below.1 reply small

-- the starts that a tree can grant
abbrev StartsBelow : ℕ → Tree → Type 0
StartsBelow most t = (n a o : ℕ) → answered tree_view t (take_call 10 (slot_of t) n a) ≡ value (at o) → o < most

said_small : (most : ℕ) (t : Tree) → StartsBelow most t → (asked : Asked) → Small most (answered tree_view t (call_of 10 (slot_of t) asked))
unfolding answered take_call claim_call free_call
said_small most t starts (askTake n a) = judged_small most _ (omega arith, (omega arith, (omega arith, (omega arith, (omega arith, tt))))) _ (λ e. starts n a _ e)
said_small most t starts (askClaim s n) = judged_small most _ (omega arith, (omega arith, (omega arith, (omega arith, tt)))) ok (λ e. tt)
said_small most t starts (askFree s n) = judged_small most _ (omega arith, (omega arith, (omega arith, (omega arith, tt)))) ok (λ e. tt)

-- with starts of k digits more than one a call's line has k bytes more than 5
small_line : (k : ℕ) (answer : Said Reply) → Small (10 ^ suc k) answer → length (written (said answer)) ≤ 5 + k
unfolding decimal
small_line k (value (at o)) small = let digits = decimal_short k (suc o) o small in simp length-append (omega (arith, digits))
small_line k (value ok) small = omega arith
small_line k (refused r) small = let digits = decimal_short 0 (suc r) r small in simp length-append (omega (arith, digits))

call_line : (k : ℕ) (t : Tree) → StartsBelow (10 ^ suc k) t → (asked : Asked) → length (written (said (made tree_view tree_calls t asked).0)) ≤ 5 + k
call_line k t starts asked =
    rw (changed_says tree_view t (call_of 10 (slot_of t) asked)) (small_line k (answered tree_view t (call_of 10 (slot_of t) asked)) (said_small (10 ^ suc k) t starts asked))

-- any tree grants starts below 1,024, and holds at most so many slots
any_starts : (t : Tree) → StartsBelow (10 ^ 4) t
any_starts t n a o e =
    either (tree_view.is_sound t)
    (λ sound.
    let granted = (take_promise 10 (slot_of t) n a o).0 (sym (found_sound tree_view t (take_call 10 (slot_of t) n a) sound) ∙ e) in
    let some = granted.0 in
    let ends : o + n ≤ 1024 = granted.3.fits.ends in
    omega (arith, some, ends))
    (λ unsound. absurd (value≢refused (at o) 1 (sym e ∙ found_unsound tree_view t (take_call 10 (slot_of t) n a) unsound)))

any_count : (t : Tree) → length (written (used (used_call 10 (slot_of t)).answer)) ≤ 10
unfolding used_call decimal
any_count t =
    let most = count_most (slot_of t) 0 1024 in
    let digits = decimal_short 3 (suc (count (slot_of t) 0 1024)) (count (slot_of t) 0 1024) (omega (arith, most)) in
    simp length-append (omega (arith, digits))

-- the empty tree grants the start 0, and holds none
first_starts : StartsBelow (10 ^ 1) empty_tree
first_starts n a o e =
    let granted = (take_promise 10 (slot_of empty_tree) n a o).0 (sym (sound_answers tree_view empty_tree _ (tree_view.made_sound none tt)) ∙ e) in
    let inside : n ≤ 1024 = granted.2 in
    let from_zero : o ≤ 0 = granted.3.lowest_start 0 (record {
      aligned = (0, sym (zero-mul (2 ^ a)));
      ends = omega (arith, inside);
      free = λ i h. tree_view.holds none i (omega (arith, inside, h.1));
    }) in
    omega (arith, from_zero)

empty_count : (used_call 10 (slot_of empty_tree)).answer ≡ 0
unfolding used_call count
empty_count = count_agree (slot_of empty_tree) none 0 1024 (λ i from below. tree_view.holds none i (omega (arith, below)))

first_count : length (written (used (used_call 10 (slot_of empty_tree)).answer)) ≤ 7
unfolding decimal decimal_within
first_count = rw empty_count (omega arith)

-- ---- so the report is short

-- from a map, with c bytes more than 5 for every whole three
abbrev Within : ℕ → Tree → List ℕ → Type 0
Within c t bytes = (threes : ℕ) → length bytes < 3 * suc threes → length (report_from t bytes) ≤ 5 * threes + c

-- a stop and the count fit into c, and so does a call's line, after which any report has 14
record Short (c : ℕ) (t : Tree) : Type 0 where
  ends : length (written (used (used_call 10 (slot_of t)).answer)) + 4 ≤ c
  calls : (asked : Asked) → length (written (said (made tree_view tree_calls t asked).0)) + 4 ≤ c

module _ (c : ℕ) (t : Tree) (brief : Short c t) where
  none_within : Within c t []
  none_within threes few = let last = brief.ends in rw (report_end t) (omega (arith, last))

  field_within : (n threes : ℕ) (field : Field) (rest : List ℕ) → n < 3 * suc threes → Consumed n field rest → ((u : Tree) → Within 14 u rest) → Within c t rest
      → length (written (carried t field).0) + length (report_from (carried t field).1 rest) ≤ 5 * threes + c
  field_within n threes (call asked) rest few taken any same =
      let line = brief.calls asked in
      let more = any (made tree_view tree_calls t asked).1 (threes - 2) (omega (arith, few, taken)) in
      omega (arith, line, more, few, taken)
  field_within n threes skip rest few taken any same =
      let more = same (threes - 1) (omega (arith, few, taken)) in omega (arith, more, few, taken)
  field_within n threes bad rest few taken any same = rw (taken, report_end t) (let last = brief.ends in omega (arith, last))
  field_within n threes cut rest few taken any same = rw (taken, report_end t) (let last = brief.ends in omega (arith, last))

  first_within : (b : ℕ) (bytes : List ℕ) → ((u : Tree) → Within 14 u (first_field (b ∷ bytes)).1) → Within c t (first_field (b ∷ bytes)).1 → Within c t (b ∷ bytes)
  first_within b bytes any same threes few =
      let first = first_field (b ∷ bytes) in
      rw (report_first t b bytes, length-append) (field_within (length (b ∷ bytes)) threes first.0 first.1 few (consumed (b ∷ bytes)) any same)

any_short : (t : Tree) → Short 14 t
any_short t = record {
  ends = let last = any_count t in omega (arith, last);
  calls = λ asked. let line = call_line 3 t (any_starts t) asked in omega (arith, line);
}

empty_short : Short 11 empty_tree
empty_short = record {
  ends = let last = first_count in omega (arith, last);
  calls = λ asked. let line = call_line 0 empty_tree first_starts asked in omega (arith, line);
}

any_within : (most : ℕ) (bytes : List ℕ) → length bytes ≤ most → (t : Tree) → Within 14 t bytes
any_within zero [] fits t = none_within 14 t (any_short t)
any_within zero (b ∷ bytes) fits t = absurd (omega (arith, fits))
any_within (suc most) [] fits t = none_within 14 t (any_short t)
any_within (suc most) (b ∷ bytes) fits t =
    let less = first_shorter b bytes in
    let rest = any_within most (first_field (b ∷ bytes)).1 (omega (arith, less, fits)) in
    first_within 14 t (any_short t) b bytes rest (rest t)

empty_within : (most : ℕ) (bytes : List ℕ) → length bytes ≤ most → Within 11 empty_tree bytes
empty_within zero [] fits = none_within 11 empty_tree empty_short
empty_within zero (b ∷ bytes) fits = absurd (omega (arith, fits))
empty_within (suc most) [] fits = none_within 11 empty_tree empty_short
empty_within (suc most) (b ∷ bytes) fits =
    let less = first_shorter b bytes in
    let rest = (first_field (b ∷ bytes)).1 in
    first_within 11 empty_tree empty_short b bytes (any_within (length rest) rest (omega arith)) (empty_within most rest (omega (arith, less, fits)))

pub longest_report : (bytes : List ℕ) → length bytes ≤ 32768 → length (report_of bytes) ≤ 54621
longest_report bytes limit = empty_within (length bytes) bytes (omega arith) 10922 (omega (arith, limit))

pub report_fits : (bytes : List ℕ) → length bytes ≤ 32768 → length (report_of bytes) ≤ 54624
report_fits bytes limit = let most = longest_report bytes limit in omega (arith, most)

two_left : first_field (skips_and_two 0) ≡ (cut, [])
two_left = header_cut (skips_and_two 0) (omega arith)

a_skip : (n : ℕ) → first_field (skips_and_two (suc n)) ≡ (skip, skips_and_two n)
unfolding from_bytes
a_skip n = body_whole (skips_and_two (suc n)) (omega arith) refl (omega arith)

empty_report : length (report_from empty_tree []) ≡ 7
unfolding decimal decimal_within
empty_report = rw (report_end empty_tree, empty_count)

pub skips_report : (n : ℕ) → length (report_of (skips_and_two n)) ≡ 5 * n + 11
skips_report zero =
    let line = ap length (report_reads empty_tree 4 (0 ∷ []) cut [] two_left) in
    let rest = empty_report in
    omega (arith, line, rest)
skips_report (suc n) =
    let line = ap length (report_reads empty_tree 4 (0 ∷ 0 ∷ skips_and_two n) skip (skips_and_two n) (a_skip n)) in
    let rest = skips_report n in
    omega (arith, line, rest)

pub longest_there_is : (length (skips_and_two 10922) ≡ 32768) × (length (report_of (skips_and_two 10922)) ≡ 54621)
longest_there_is = (skips_length 10922, skips_report 10922)
