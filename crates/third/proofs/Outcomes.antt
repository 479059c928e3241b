-- What a call on the third level has to show at each way out, from what was said. Assumes nothing.
use mathlib.Core.Path.{◌≡◌, refl, sym, ap, ◌∙◌}
use mathlib.Core.Bool.{Bool, true, false}
use mathlib.Core.List.{List}
use Prim.Native.Nat.{ℕ, zero, suc, ◌+◌, ◌*◌, ◌≤◌, ◌<◌}
use lib.ListN.{length, get_or, take}
use Rattle.std.specs.Prelude.{◌↔◌, Ok}
use Rattle.std.proofs.Common.{sum, true≢false}
use Rattle.std.specs.List.{list_all, range_with_len}
use Rattle.std.proofs.lemmas.List.{take_all}
use Rattle.std.proofs.lemmas.List.Sums.{sum_by_more, AllPass-from_list_all, list_all-from_AllPass}
use Rattle.std.proofs.lemmas.List.FromFn.{length-range_with_len, get_or-range_with_len}
use native.Mathlib.Omega.{arith}
use lib.Dec.{eqb, eqb→eq, eqb_refl}
use Rattle.answers.specs.declared.Refusal.{Refusal}
use Rattle.answers.specs.declared.Refusal.TheVariants.{Unsound}
use Rattle.answers.specs.Said.{value, refused}
use Rattle.answers.specs.Refusals.{number_of}
use Rattle.answers.specs.declared.Reply.{Reply}
use Rattle.bits.specs.Range.{bit, count, count_same, same_test}
use Rattle.slots.specs.Sets.{Slots, all_free, painted}
use Rattle.slots.specs.Calls.{Call, says}
use Rattle.slots.specs.View.{answered, changed, found_sound, found_unsound, says_refused}
use Rattle.slots.proofs.Outcomes as AnyView
use Rattle.views.specs.Painting.{slot_in, painted_words}
use Rattle.views.specs.Words.{AreWords, words_of, made_words, slots_are, listed, listed_is, listed_agree, painted_are_words}
use Rattle.views.proofs.Words.{holds_words, painted_words_lem}
use Rattle.views.specs.Marks.{sixteen_fit, marks_of}
use Rattle.views.specs.Summary.{summary_of}
use Rattle.views.specs.Full.{full_of, filled}
use Rattle.views.specs.Count.{count_of}
use Rattle.views.specs.Trees.{all_fit, tree_words, tree_words_lem, each_of, renewed, renewed_all, sum_first}
use Rattle.views.proofs.Trees.{tree_slot, renewed_right, filled_by_marks, counts_sum}
use Rattle.views.specs.Summaries.{summaries_of, top_of, top_tells}
use Rattle.views.proofs.Summaries.{top_by_summaries}
use Rattle.tree.specs.declared.Stored.{Stored}
use Rattle.tree.specs.Layout as Tree
use Rattle.third.specs.declared.Third.{Third}
use Rattle.third.specs.Layout.{third_of, under, holding, slot_of, tree_at, of_slots, third_view, IsThird, is_third_means, are_words, sound_means, sound_by_fields}
use Rattle.third.specs.Inner.{SoundSays, painted_third, renewed_third}

-- ---- a refused call leaves the very map

-- check 1, in front of each call
pub check_refuses : {X A : Type 0} (t : Third) (call : Call X A) (why : Refusal) → (why ≡ Unsound) × SoundSays t false
    → refused (number_of why) ≡ answered third_view t call
check_refuses t call why found = ap (λ (w : Refusal). refused (number_of w)) found.0 ∙ sym (found_unsound third_view t call (sym found.1))

-- and behind it
pub check_passes : {X A : Type 0} (t : Third) (call : Call X A) → SoundSays t true → says call ≡ answered third_view t call
check_passes t call sound = sym (found_sound third_view t call (sym sound))

pub refuses : (t : Third) (call : Call Slots Reply) (why : Refusal) → refused (number_of why) ≡ answered third_view t call → (refused (number_of why), t) ≡ changed third_view t call
refuses t call why told = sym (says_refused third_view t call (number_of why) (sym told))

-- ---- sixteen fields

-- their sum, from the first on
sum_first_is : (fields : List ℕ) (i : ℕ) → i ≤ length fields → sum (take i fields) ≡ sum_first fields i
unfolding sum_first
sum_first_is fields zero l = refl
sum_first_is fields (suc i) l =
    let next : suc i ≡ i + 1 = omega arith in
    ap (λ (k : ℕ). sum (take k fields)) next ∙ sum_by_more (λ x. x) fields i 0 (omega arith)
    ∙ ap (λ (s : ℕ). s + get_or fields i 0) (sum_first_is fields i (omega arith))

pub sum_is : (fields : List ℕ) → length fields ≡ 16 → sum fields ≡ sum_first fields 16
sum_is fields many = ap sum (sym (take_all 16 fields (omega arith))) ∙ sum_first_is fields 16 (omega arith)

-- ---- the trees and the summary over them tell whether a map is sound

-- a test that each number below n passes
all_below : (p : ℕ → Bool) (n : ℕ) → (list_all p (range_with_len 0 n) ≡ true) ↔ ((i : ℕ) → i < n → p i ≡ true)
all_below p n = (
  λ all i l. ap p (sym (at i 0 l)) ∙ AllPass-from_list_all p (range_with_len 0 n) all i 0 (rw (length-range_with_len 0 n) l),
  λ each. list_all-from_AllPass p (range_with_len 0 n) (λ i d l. let below : i < n = rw (length-range_with_len 0 n) at l in ap p (at i d below) ∙ each i below),
)
  where
    at : (i d : ℕ) → i < n → get_or (range_with_len 0 n) i d ≡ i
    at i d l = get_or-range_with_len 0 n i d l ∙ omega arith

abbrev pub tree_sound : Third → ℕ → Bool
tree_sound t i = (Tree.tree_view).is_sound (tree_at t i)

-- each of the sixteen trees is sound
abbrev pub trees_sound : Third → Bool
trees_sound t = list_all (tree_sound t) (range_with_len 0 16)

module _ (t : Third) (held : IsThird t) where
  -- one tree that is not
  pub unsound_shown : trees_sound t ≡ false → false ≡ third_view.is_sound t
  unsound_shown fails =
      same_test false (third_view.is_sound t) absurd
      (λ sound. true≢false (sym ((all_below (tree_sound t) 16).1 (λ i l. same_test (tree_sound t i) true (λ _. tt) (λ _.
      ((Tree.tree_view).finds_sound (tree_at t i)).1 (((sound_means t).0 ((third_view.finds_sound t).0 sound)).0 i l)))) ∙ fails))

  -- where each tree is, each has stored what is its words'
  module _ (all : trees_sound t ≡ true) where
    stored_at : (i : ℕ) → i < 16 → (tree_at t i).stored ≡ Tree.theirs (tree_words t.words i)
    stored_at i l =
        let h = (is_third_means t).0 held in
        (Tree.sound_by_stored (tree_at t i) (h.3 i l) (h.5 i l)).0 (((Tree.tree_view).finds_sound (tree_at t i)).0 (rw ((all_below (tree_sound t) 16).0 all i l) tt))

    summaries_are : t.summaries ≡ summaries_of t.words
    unfolding each_of
    summaries_are = listed_is t.summaries (λ i. summary_of (tree_words t.words i)) 16 0 ((is_third_means t).0 held).2 (λ i l. ap (λ (s : Stored). s.summary) (stored_at i l))

    fulls_are : t.fulls ≡ each_of full_of t.words
    unfolding each_of
    fulls_are = listed_is t.fulls (λ i. full_of (tree_words t.words i)) 16 0 ((is_third_means t).0 held).4 (λ i l. ap (λ (s : Stored). s.full) (stored_at i l))

    counts_are : t.counts ≡ each_of count_of t.words
    unfolding each_of
    counts_are = listed_is t.counts (λ i. count_of (tree_words t.words i)) 16 0 ((is_third_means t).0 held).6 (λ i l. ap (λ (s : Stored). s.count) (stored_at i l))

    -- and the summary over them decides
    pub sound_shown : (over : ℕ) → over ≡ summary_of t.summaries → eqb t.summary over ≡ third_view.is_sound t
    sound_shown over e =
        let tells : over ≡ top_of t.words = e ∙ ap summary_of summaries_are ∙ top_by_summaries t.words (are_words t held) in
        same_test (eqb t.summary over) (third_view.is_sound t)
        (λ same. (third_view.finds_sound t).1 ((sound_by_fields t held).1 (summaries_are, fulls_are, counts_are, eqb→eq t.summary over same ∙ tells)))
        (λ sound. rw (((sound_by_fields t held).0 ((third_view.finds_sound t).0 sound)).3 ∙ sym tells) (eqb_refl over))

  -- ---- what the fields of a sound map tell

  module _ (sound : third_view.is_sound t ≡ true) where
    fields_are : (t.summaries ≡ summaries_of t.words) × (t.fulls ≡ each_of full_of t.words) × (t.counts ≡ each_of count_of t.words) × (t.summary ≡ top_of t.words)
    fields_are = (sound_by_fields t held).0 ((third_view.finds_sound t).0 (rw sound tt))

    -- the summary over the trees alone, whether it is empty
    pub empty_shown : eqb t.summary 0 ≡ all_free (slot_of t) 0 16384
    empty_shown = ap (λ (f : ℕ). eqb f 0) fields_are.3 ∙ top_tells t.words

    -- the counts alone, how many slots are used
    pub used_shown : sum_first t.counts 16 ≡ count (slot_of t) 0 16384
    used_shown = ap (λ (counts : List ℕ). sum_first counts 16) fields_are.2 ∙ counts_sum t.words (are_words t held)

    -- a search that goes by the marks of full words has the words as they are
    pub search_sees : filled t.words t.fulls ≡ t.words
    search_sees = ap (filled t.words) fields_are.1 ∙ filled_by_marks t.words (are_words t held)

    -- ---- a run painted in it is the map of the painted set

    painted_third_lem : (s n : ℕ) (v : Bool) → painted_third t s n v ≡ of_slots (painted (slot_of t) s n v)
    unfolding each_of marks_of top_of
    painted_third_lem s n v =
        (λ i. under left (anew summary_of t.summaries fields_are.0 i) (anew full_of t.fulls fields_are.1 i) (anew count_of t.counts fields_are.2 i))
        ∙ ap (third_of left (summaries_of left) (each_of full_of left) (each_of count_of left)) (top_by_summaries left (painted_are_words 8 all_fit t.words words s n v))
        ∙ ap holding (painted_words_lem 8 all_fit t.words words s n v)
      where
        words : AreWords 8 t.words
        words = are_words t held

        left : List ℕ
        left = painted_words t.words s n v

        anew : (made : List ℕ → ℕ) (fields : List ℕ) → fields ≡ each_of made t.words → renewed made left fields s n ≡ each_of made left
        anew made fields right = ap (λ (fs : List ℕ). renewed made left fs s n) right ∙ renewed_right made t.words words s n v

  -- an accepted call, carried out, is as its contract has it
  pub carries : (call : Call Slots Reply) (s n : ℕ) (v : Bool) → call.after ≡ painted (slot_of t) s n v
      → (reply : Reply) → value reply ≡ answered third_view t call → (left : Third) → left ≡ painted_third t s n v → (value reply, left) ≡ changed third_view t call
  carries call s n v after reply told = AnyView.carries third_view t call s n v after (painted_third t s n v) (λ sound reply said. painted_third_lem sound s n v) (Ok reply) told

-- ---- the map that is made

-- of words, by making each field anew
pub made_anew : (words summaries fulls counts : List ℕ) (summary : ℕ) → AreWords 8 words → (left : Third)
    → left ≡ renewed_third (third_of words summaries fulls counts summary) 0 16384 → (over : ℕ) → over ≡ summary_of left.summaries
    → third_of left.words left.summaries left.fulls left.counts over ≡ holding words
made_anew words summaries fulls counts summary held left e over f =
    ap (third_of left.words left.summaries left.fulls left.counts) f
    ∙ ap (λ (m : Third). under m.words m.summaries m.fulls m.counts) e
    ∙ (λ i. under words (renewed_all summary_of words summaries i) (renewed_all full_of words fulls i) (renewed_all count_of words counts i))
    ∙ ap (third_of words (summaries_of words) (each_of full_of words) (each_of count_of words)) (top_by_summaries words held)

-- of slots that are all alike each count is known
pub counts_made : (S : Slots) (b : Bool) → ((i : ℕ) → S i ≡ b) → each_of count_of (words_of 8 S) ≡ listed (λ i. bit b * 1024) 0 16
unfolding each_of
counts_made S b alike = listed_agree (λ i. count_of (tree_words (words_of 8 S) i)) (λ i. bit b * 1024) 16 0 (λ i l.
    ap (count (slot_in (tree_words (words_of 8 S) i)) 0) (slots_are 4 sixteen_fit (tree_words (words_of 8 S) i) (tree_words_lem (words_of 8 S) (made_words 8 S) i l))
    ∙ count_same (slot_in (tree_words (words_of 8 S) i)) b 0 1024 (λ s _ h.
    tree_slot (words_of 8 S) (made_words 8 S) i s l (omega (arith, h)) ∙ holds_words 8 all_fit S (i * 1024 + s) (omega (arith, h)) ∙ alike (i * 1024 + s)))
