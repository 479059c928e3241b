-- The commit's tree of sixteen trees, as our third level: the words of its trees in a row, under the summaries of its trees and its own. The
-- source keeps no marks of full words and no counts; ours are those of the words. Rests on `Trees`, and on the trees of `third`.
use Rattle.std.specs.Prelude.{◌≡◌, refl, not, ℕ, zero, suc, ◌+◌, ◌*◌, ◌/◌, ◌%◌, ◌^◌, ◌≤◌, ◌<◌, length, get_or, take, drop}
use Rattle.std.proofs.Math.Path.{sym, ap, subst}
use Rattle.std.proofs.Common.{ap₂, ◌∙◌, arith, length-append, take_at, ext_get_or}
use mathlib.Core.List.{List, [], ◌∷◌, ◌++◌, map, flat_map}
use Rattle.std.proofs.Math.ListN.{length-map, get_or-map}
use Rattle.std.proofs.Math.Seq.{drop-append-add}
use Rattle.bits.specs.Digits.{digit}
use Rattle.bits.proofs.Digits.{number_is, digit_number}
use Rattle.slots.specs.Sets.{Slots, all_free}
use Rattle.views.specs.Words.{listed, length_listed, listed_first, listed_is}
use Rattle.views.specs.Marks.{marks_of}
use Rattle.views.specs.Full.{full_of}
use Rattle.views.specs.Count.{count_of}
use Rattle.views.specs.Trees.{tree_words, tree_word, tree_words_lem, each_of, each_at}
use Rattle.views.specs.Summaries.{used_tree, top_of}
use Rattle.views.proofs.Summaries.{tree_free, top_kept}
use Rattle.tree.specs.declared.Tree.{Tree}
use Rattle.tree.specs.Layout as Tree
use Rattle.tree.specs.Layout.{stored_of, tree_of, IsTree, is_tree_means}
use Rattle.third.specs.declared.Third.{Third}
use Rattle.third.specs.Layout.{third_of, slot_of, tree_at, fulls_kept, counts_kept, Sound, IsThird, third_view, sound_means, sound_by_fields, is_third_means, are_words, tree_slots}
use Rattle.source.specs.BitmapAllocator.{Bitmap1024, new_empty_tree, Allocator1024, Bitmap16384, Allocator16384}
use Rattle.same.specs.Acts.{Acts}
use Rattle.same.specs.AnyTree as AnyTree
use Rattle.same.specs.Seen.{Seen, free_alike}
use Rattle.same.specs.Trees as Trees
use Rattle.same.specs.Trees.{acts_1024, seen_1024}

-- tree after tree
abbrev pub words_of : Bitmap16384 → List ℕ
words_of t = flat_map Trees.words_of t.child

abbrev pub ours : Bitmap16384 → Third
ours t = third_of (words_of t) (map (λ (x : Bitmap1024). x.bits) t.child) (each_of full_of (words_of t)) (each_of count_of (words_of t)) t.bits

-- tree i
abbrev pub child_at : Bitmap16384 → ℕ → Bitmap1024
child_at t i = get_or t.child i new_empty_tree

-- a value of the source's type: sixteen trees that are values of theirs, and a summary below 2 ^ 16. Of a list alone it is not known where a tree ends
pub record IsBitmap (t : Bitmap16384) : Type 0 where
  pub many : length t.child ≡ 16
  pub each : (i : ℕ) → i < 16 → IsTree (Trees.ours (child_at t i))
  pub fits : t.bits < 2 ^ 16

-- ---- the tree over trees

pub few : 10 ≤ 58
few = omega arith

abbrev pub holds : Bitmap16384 → Slots
holds = AnyTree.tree_holds Allocator1024 10 Trees.holds Trees.GoodTree acts_1024 few

abbrev pub GoodThird : Bitmap16384 → Type 0
GoodThird = AnyTree.GoodTree Allocator1024 10 Trees.holds Trees.GoodTree acts_1024 few

pub acts_16384 : Acts Allocator16384 14 holds GoodThird
acts_16384 = AnyTree.tree_acts Allocator1024 10 Trees.holds Trees.GoodTree acts_1024 few

abbrev slot_at : List Bitmap1024 → ℕ → Slots
slot_at = AnyTree.slot_at Allocator1024 10 Trees.holds Trees.GoodTree acts_1024 few

-- ---- its trees are ours

-- each has sixteen words
abbrev Sixteens : List Bitmap1024 → Type 0
Sixteens xs = (i : ℕ) → i < length xs → length (Trees.words_of (get_or xs i new_empty_tree)) ≡ 16

row_length : (xs : List Bitmap1024) → Sixteens xs → length (flat_map Trees.words_of xs) ≡ 16 * length xs
unfolding flat_map
row_length [] each = refl
row_length (x ∷ xs) each =
    length-append (Trees.words_of x) (flat_map Trees.words_of xs)
    ∙ ap₂ ◌+◌ (each 0 (omega arith)) (row_length xs (λ i l. each (suc i) (omega arith))) ∙ omega arith

row_part : (xs : List Bitmap1024) → Sixteens xs → (i : ℕ) → i < length xs → tree_words (flat_map Trees.words_of xs) i ≡ Trees.words_of (get_or xs i new_empty_tree)
unfolding flat_map tree_words
row_part [] each i l = absurd (omega arith)
row_part (x ∷ xs) each zero l = take_at (Trees.words_of x) (flat_map Trees.words_of xs) 16 (each 0 (omega arith))
row_part (x ∷ xs) each (suc i) l =
    let on : 16 * suc i ≡ length (Trees.words_of x) + 16 * i = omega (arith, each 0 (omega arith)) in
    ap (λ (n : ℕ). take 16 (drop n (Trees.words_of x ++ flat_map Trees.words_of xs))) on
    ∙ ap (take 16) (drop-append-add (Trees.words_of x) (flat_map Trees.words_of xs) (16 * i))
    ∙ row_part xs (λ j h. each (suc j) (omega arith)) i (omega arith)

-- word w is word w % 16 of tree w / 16
word_of_tree : (m : Third) (w : ℕ) → get_or m.words w 0 ≡ get_or (tree_at m (w / 16)).words (w % 16) 0
word_of_tree m w =
    let place : w ≡ 16 * (w / 16) + w % 16 = omega arith in
    ap (λ (v : ℕ). get_or m.words v 0) place ∙ sym (tree_word m.words (w / 16) (w % 16) (omega arith))

module _ (t : Bitmap16384) (typed : IsBitmap t) where
  sixteens : Sixteens t.child
  sixteens i l = (Tree.are_words _ (typed.each i (rw typed.many at l))).so_many

  pub tree_is : (i : ℕ) → i < 16 → tree_at (ours t) i ≡ Trees.ours (child_at t i)
  tree_is i l =
      (λ j. tree_of (tree_words (words_of t) i) (stored_of (get_or-map (λ (x : Bitmap1024). x.bits) t.child i new_empty_tree j)
      (each_at full_of (words_of t) i l j) (each_at count_of (words_of t) i l j)))
      ∙ ap (λ (words : List ℕ). Trees.under words (child_at t i).bits) (row_part t.child sixteens i (rw typed.many l))

  word_fits : (w : ℕ) → w < 256 → get_or (words_of t) w 0 < 2 ^ 64
  word_fits w l =
      rw (word_of_tree (ours t) w ∙ ap (λ (x : Tree). get_or x.words (w % 16) 0) (tree_is (w / 16) (omega arith)))
      ((Tree.are_words _ (typed.each (w / 16) (omega arith))).each_fits (w % 16) (omega arith))

  pub is_third : IsThird (ours t)
  unfolding each_of marks_of
  is_third =
      let fulls = fulls_kept.made_field (words_of t) in
      let counts = counts_kept.made_field (words_of t) in
      (is_third_means (ours t)).1 (
        row_length t.child sixteens ∙ ap (λ (n : ℕ). 16 * n) typed.many,
        word_fits,
        length-map t.child (λ (x : Bitmap1024). x.bits) ∙ typed.many,
        λ i l. rw (get_or-map (λ (x : Bitmap1024). x.bits) t.child i new_empty_tree) ((is_tree_means _).0 (typed.each i l)).2,
        fulls.so_many,
        fulls.each_fits,
        counts.so_many,
        counts.each_fits,
        typed.fits,
      )

  -- ---- its slots and its summary are ours

  child_slots : (i s : ℕ) → i < 16 → s < 1024 → slot_at t.child i s ≡ Tree.slot_of (tree_at (ours t) i) s
  child_slots i s l h =
      ap (λ (X : Slots). X s) (AnyTree.slot_at_lem Allocator1024 10 Trees.holds Trees.GoodTree acts_1024 few new_empty_tree t.child i (rw typed.many l))
      ∙ Trees.slots_alike (child_at t i) (Tree.are_words _ (typed.each i l)).so_many s h
      ∙ ap (λ (x : Tree). Tree.slot_of x s) (sym (tree_is i l))

  slots_alike : (s : ℕ) → s < 16384 → holds t s ≡ slot_of (ours t) s
  slots_alike s l =
      let place : s / 1024 * 1024 + s % 1024 ≡ s = omega arith in
      child_slots (s / 1024) (s % 1024) (omega arith) (omega arith)
      ∙ tree_slots (ours t) is_third (s / 1024) (s % 1024) (omega arith) (omega arith) ∙ ap (slot_of (ours t)) place

  bit_is : (i : ℕ) → i < 16 → used_tree (words_of t) i ≡ not (all_free (slot_at t.child i) 0 1024)
  bit_is i l = ap not (
      sym (tree_free (words_of t) (are_words (ours t) is_third) i l)
      ∙ sym (free_alike 10 (slot_at t.child i) (Tree.slot_of (tree_at (ours t) i)) (λ s h. child_slots i s l h)))

  -- every sound map of ours is one of these
  pub is_good : Sound (ours t) → GoodThird t
  unfolding top_of
  is_good sound = record {
    held = record {
      many = typed.many;
      each = AnyTree.all_good Allocator1024 10 Trees.holds Trees.GoodTree acts_1024 few new_empty_tree t.child (λ i l.
          let h : i < 16 = rw typed.many at l in
          Trees.is_good (child_at t i) (typed.each i h) (subst Tree.Sound (tree_is i h) (((sound_means (ours t)).0 sound).0 i h)));
    };
    fits = typed.fits;
    right = λ i l.
        ap (λ (b : ℕ). digit b i) ((sound_by_fields (ours t) is_third).0 sound).3 ∙ digit_number (used_tree (words_of t)) 16 i l ∙ bit_is i l;
  }

-- and each of these is a sound map
module _ (t : Bitmap16384) (good : GoodThird t) where
  child_good : (i : ℕ) → i < 16 → Trees.GoodTree (child_at t i)
  child_good i l = AnyTree.good_at Allocator1024 10 Trees.holds Trees.GoodTree acts_1024 few new_empty_tree t.child good.held.each i (rw good.held.many l)

  is_bitmap : IsBitmap t
  is_bitmap = record { many = good.held.many; each = λ i l. seen_1024.is_map (child_at t i) (child_good i l); fits = good.fits }

  sound : Sound (ours t)
  unfolding top_of
  sound =
      let top : t.bits ≡ top_of (words_of t) = number_is 16 t.bits (used_tree (words_of t)) good.fits (λ i l. good.right i l ∙ sym (bit_is t is_bitmap i l)) in
      (sound_means (ours t)).1 (
        λ i l. subst Tree.Sound (sym (tree_is t is_bitmap i l)) (seen_1024.is_sound_lem (child_at t i) (child_good i l)),
        rw top (top_kept.made_agrees (record { map = words_of t; kept = (ours t).summaries }) (is_third t is_bitmap).is_map.is_map.is_map),
      )

pub seen_16384 : Seen third_view holds GoodThird ours
seen_16384 = record { is_sound_lem = sound; is_map = λ t good. is_third t (is_bitmap t good); alike = λ t good. slots_alike t (is_bitmap t good) }

-- ---- every sound map of ours is one of these, and each of these one map

-- a map is known by its trees and the summary over them
known_by_trees : (m q : Third) → IsThird m → IsThird q → ((i : ℕ) → i < 16 → tree_at m i ≡ tree_at q i) → m.summary ≡ q.summary → m ≡ q
known_by_trees m q hm hq same top = λ i. third_of (words i) (summaries i) (fulls i) (counts i) (top i)
  where
    words : m.words ≡ q.words
    words = ext_get_or 0 m.words q.words ((are_words m hm).so_many ∙ sym (are_words q hq).so_many) (λ w l.
        let inside : w < 256 = rw (are_words m hm).so_many at l in
        word_of_tree m w ∙ ap (λ (x : Tree). get_or x.words (w % 16) 0) (same (w / 16) (omega arith)) ∙ sym (word_of_tree q w))

    -- sixteen fields that are alike one by one
    alike : (fs gs : List ℕ) → length fs ≡ 16 → length gs ≡ 16 → ((i : ℕ) → i < 16 → get_or fs i 0 ≡ get_or gs i 0) → fs ≡ gs
    alike fs gs f g each = ext_get_or 0 fs gs (f ∙ sym g) (λ i l. each i (rw f at l))

    summaries : m.summaries ≡ q.summaries
    summaries = alike m.summaries q.summaries ((is_third_means m).0 hm).2 ((is_third_means q).0 hq).2 (λ i l. ap (λ (x : Tree). x.stored.summary) (same i l))

    fulls : m.fulls ≡ q.fulls
    fulls = alike m.fulls q.fulls ((is_third_means m).0 hm).4 ((is_third_means q).0 hq).4 (λ i l. ap (λ (x : Tree). x.stored.full) (same i l))

    counts : m.counts ≡ q.counts
    counts = alike m.counts q.counts ((is_third_means m).0 hm).6 ((is_third_means q).0 hq).6 (λ i l. ap (λ (x : Tree). x.stored.count) (same i l))

abbrev pub theirs : Third → Bitmap16384
theirs m = record { bits = m.summary; child = listed (λ i. Trees.theirs (tree_at m i)) 0 16 }

module _ (m : Third) (held : IsThird m) where
  their_child : (i : ℕ) → i < 16 → child_at (theirs m) i ≡ Trees.theirs (tree_at m i)
  their_child i l = listed_first (λ j. Trees.theirs (tree_at m j)) 16 i new_empty_tree l

  pub theirs_is_bitmap : IsBitmap (theirs m)
  theirs_is_bitmap = record {
    many = length_listed (λ j. Trees.theirs (tree_at m j)) 0 16;
    each = λ i l. subst (λ (x : Bitmap1024). IsTree (Trees.ours x)) (sym (their_child i l))
        (Trees.theirs_is_tree (tree_at m i) (tree_words_lem m.words (are_words m held) i l) (((is_third_means m).0 held).3 i l));
    fits = ((is_third_means m).0 held).8;
  }

  tree_held : (i : ℕ) → i < 16 → IsTree (tree_at m i)
  tree_held i l =
      let h = (is_third_means m).0 held in
      let words = tree_words_lem m.words (are_words m held) i l in
      (is_tree_means (tree_at m i)).1 (words.so_many, words.each_fits, h.3 i l, h.5 i l, h.7 i l)

  pub ours_theirs : Sound m → ours (theirs m) ≡ m
  ours_theirs sound = known_by_trees (ours (theirs m)) m (is_third (theirs m) theirs_is_bitmap) held
      (λ i l. tree_is (theirs m) theirs_is_bitmap i l ∙ ap Trees.ours (their_child i l) ∙ Trees.ours_theirs (tree_at m i) (tree_held i l) (((sound_means m).0 sound).0 i l)) refl

pub theirs_ours : (t : Bitmap16384) → IsBitmap t → theirs (ours t) ≡ t
theirs_ours t typed = λ i. record { bits = t.bits; child = children i }
  where
    children : listed (λ j. Trees.theirs (tree_at (ours t) j)) 0 16 ≡ t.child
    children = sym (listed_is t.child (λ j. Trees.theirs (tree_at (ours t) j)) 16 new_empty_tree typed.many (λ j l.
        sym (Trees.theirs_ours (child_at t j)) ∙ ap Trees.theirs (sym (tree_is t typed j l))))
