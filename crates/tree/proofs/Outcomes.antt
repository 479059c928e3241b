-- What a call on a tree has to show at each way out, from what was said. Assumes nothing.
use Rattle.std.specs.Prelude.{◌↔◌, T, Ok, Err}
use mathlib.Core.Path.{◌≡◌, sym, ap, ◌∙◌}
use mathlib.Core.Bool.{Bool, true, false, not}
use mathlib.Core.List.{List, [], ◌∷◌}
use Prim.Native.Nat.{ℕ, ◌+◌, ◌*◌, ◌^◌, ◌≤◌, ◌<◌}
use native.Mathlib.Omega.{arith}
use lib.Dec.{eqb}
use lib.ListN.{length}
use Rattle.answers.specs.declared.Refusal.{Refusal}
use Rattle.answers.specs.declared.Refusal.TheVariants.{Unsound}
use Rattle.answers.specs.Said.{value, refused}
use Rattle.answers.specs.Refusals.{number_of}
use Rattle.answers.specs.Answers.{left_with}
use Rattle.answers.specs.declared.Reply.{Reply}
use Rattle.bits.specs.Range.{bit, count, count_agree, count_same, same_test}
use Rattle.slots.specs.Sets.{Slots, Named, all_free, painted}
use Rattle.slots.specs.Calls.{Call, says}
use Rattle.slots.specs.View.{answered, found_unsound, says_refused}
use Rattle.slots.proofs.Outcomes as AnyView
use Rattle.views.specs.Painting.{slot_in, painted_words, painted_slots}
use Rattle.views.specs.Words.{painted_are_words, slots_are}
use Rattle.views.proofs.Words.{painted_words_lem}
use Rattle.views.specs.Marks.{sixteen_fit, marks_of, touched_marks, touched_right}
use Rattle.views.specs.Summary.{not_zero, summary_of}
use Rattle.views.proofs.Summary.{summary_tells}
use Rattle.views.specs.Full.{all_ones, full_of, filled, filled_by_mark}
use Rattle.views.specs.Count.{count_of, moved_count, moved_right}
use Rattle.tree.specs.declared.Tree.{Tree}
use Rattle.tree.specs.declared.Stored.{Stored}
use Rattle.tree.specs.Layout.{stored_of, theirs, tree_of, holding, tree_view, slot_of, of_slots, IsTree, sound_by_stored, is_tree_means, are_words, count_means, of_slots_means}
use Rattle.tree.specs.Inner.{touched_tree, painted_over, painted_tree, set_tree}
use Rattle.tree.specs.Says.{Leaves}

-- ---- a tree is sound where what is stored is theirs

module _ (t : Tree) (summary_fits : t.stored.summary < 2 ^ 16) (full_fits : t.stored.full < 2 ^ 16) where
  right_stored : tree_view.is_sound t ≡ true → t.stored ≡ theirs t.words
  right_stored e = (sound_by_stored t summary_fits full_fits).0 ((tree_view.finds_sound t).0 (rw e tt))

  -- so what finds whether what is stored is theirs finds whether the tree is sound
  pub sound_shown : (same : Bool) → (T same ↔ (theirs t.words ≡ t.stored)) → same ≡ tree_view.is_sound t
  sound_shown same tells =
      same_test same (tree_view.is_sound t)
      (λ yes. (tree_view.finds_sound t).1 ((sound_by_stored t summary_fits full_fits).1 (sym (tells.0 yes))))
      (λ sound. tells.1 (sym ((sound_by_stored t summary_fits full_fits).0 ((tree_view.finds_sound t).0 sound))))

  -- of a sound tree, a search that goes by the mark of full words has the words as they are
  pub search_sees : length t.words ≡ 16 → tree_view.is_sound t ≡ true → filled t.words (t.stored.full ∷ []) ≡ t.words
  search_sees many sound = ap (λ (s : Stored). filled t.words (s.full ∷ [])) (right_stored sound) ∙ filled_by_mark t.words many

-- ---- what the fields of a sound tree tell

module _ (t : Tree) (held : IsTree t) (sound : tree_view.is_sound t ≡ true) where
  stored_is : t.stored ≡ theirs t.words
  stored_is = let h = (is_tree_means t).0 held in right_stored t h.2 h.3 sound

  -- the summary alone, whether it is empty
  pub empty_shown : eqb t.stored.summary 0 ≡ all_free (slot_of t) 0 1024
  empty_shown = ap (λ (s : Stored). eqb s.summary 0) stored_is ∙ summary_tells t.words (are_words t held)

  -- the count alone, how many slots are used
  pub used_shown : t.stored.count ≡ count (slot_of t) 0 1024
  used_shown = ap (λ (s : Stored). s.count) stored_is ∙ count_means t held

  -- ---- a run painted in it is the tree of the painted set

  module _ (s n : ℕ) (v : Bool) where
    abbrev left : List ℕ
    left = painted_words t.words s n v

    -- the two marks are brought up to date; the count has to be that of the painted words
    touched_right_lem : (counted : ℕ) → counted ≡ count_of left → touched_tree (painted_over t s n v) s n counted ≡ of_slots (painted (slot_of t) s n v)
    unfolding marks_of
    touched_right_lem counted e =
        (λ i. tree_of left (stored_of (summary i) (full i) (e i)))
        ∙ ap holding (painted_words_lem 4 sixteen_fit t.words (are_words t held) s n v)
      where
        summary : touched_marks not_zero left t.stored.summary s n ≡ summary_of left
        summary = touched_right not_zero t.words t.stored.summary s n v (ap (λ (x : Stored). x.summary) stored_is)

        full : touched_marks all_ones left t.stored.full s n ≡ full_of left
        full = touched_right all_ones t.words t.stored.full s n v (ap (λ (x : Stored). x.full) stored_is)

    pub set_tree_lem : set_tree t s n v ≡ of_slots (painted (slot_of t) s n v)
    set_tree_lem = touched_right_lem (count_of left) (λ i. count_of left)

    -- a run that had the other value moves the count by its length
    pub painted_tree_lem : s + n ≤ 1024 → ((i : ℕ) → Named s n i → slot_of t i ≡ not v) → painted_tree t s n v ≡ of_slots (painted (slot_of t) s n v)
    painted_tree_lem ends other =
        touched_right_lem (moved_count t.stored.count n v)
        (ap (λ (c : ℕ). moved_count c n v) used_shown ∙ moved_right (slot_of t) s n 1024 v ends (omega arith) other ∙ sym recounted)
      where
        recounted : count_of left ≡ count (painted (slot_of t) s n v) 0 1024
        recounted =
            ap (count (slot_in left) 0) (slots_are 4 sixteen_fit left (painted_are_words 4 sixteen_fit t.words (are_words t held) s n v))
            ∙ count_agree (slot_in left) (painted (slot_of t) s n v) 0 1024 (λ i l b.
            painted_slots t.words s n v i (rw (slots_are 4 sixteen_fit t.words (are_words t held)) (omega (arith, b))))

-- ---- a refused call leaves the very map, and an accepted one, carried out, is as its contract has it

-- check 1, in front of each call
pub check_refuses : {X A : Type 0} (t : Tree) (call : Call X A) (why : Refusal) → (why ≡ Unsound) × (tree_view.is_sound t ≡ false)
    → refused (number_of why) ≡ answered tree_view t call
check_refuses t call why found = ap (λ (w : Refusal). refused (number_of w)) found.0 ∙ sym (found_unsound tree_view t call found.1)

pub refuses : (t : Tree) (call : Call Slots Reply) (why : Refusal) → refused (number_of why) ≡ answered tree_view t call → Leaves t call (left_with (Err why) t)
refuses t call why told = sym (says_refused tree_view t call (number_of why) (sym told))

module _ (t : Tree) (held : IsTree t) (call : Call Slots Reply) (s n : ℕ) (v : Bool) (after : call.after ≡ painted (slot_of t) s n v)
    (reply : Reply) (told : value reply ≡ answered tree_view t call) (left : Tree) where
  -- of a call that turns a run: it is accepted where each slot of the run had the other value
  pub carries : ((reply : Reply) → says call ≡ value reply → (s + n ≤ 1024) × ((i : ℕ) → Named s n i → slot_of t i ≡ not v))
      → left ≡ painted_tree t s n v → Leaves t call (left_with (Ok reply) left)
  carries turns e =
      AnyView.carries tree_view t call s n v after (painted_tree t s n v) (λ sound reply said.
      let passed = turns reply said in painted_tree_lem t held sound s n v passed.0 passed.1) (Ok reply) told left e

  -- of set
  pub carries_set : left ≡ set_tree t s n v → Leaves t call (left_with (Ok reply) left)
  carries_set e = AnyView.carries tree_view t call s n v after (set_tree t s n v) (λ sound reply said. set_tree_lem t held sound s n v) (Ok reply) told left e

-- ---- the trees that hold no slot, and each

-- of slots that are all alike the count is known
pub count_made : (S : Slots) (b : Bool) → ((i : ℕ) → S i ≡ b) → (of_slots S).stored.count ≡ bit b * 1024
count_made S b alike = (of_slots_means S).1 ∙ count_same S b 0 1024 (λ i l h. alike i)
