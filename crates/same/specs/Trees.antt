-- The commit's tree of sixteen words, as our tree: the same words under the same summary. The source keeps no mark of full words and no count; ours are those of
-- the words. Rests on `AnyTree`, and on the summary of `views`.
use Rattle.std.specs.Prelude.{◌≡◌, refl, not, List, [], ◌∷◌, map, ℕ, zero, suc, ◌/◌, ◌%◌, ◌^◌, ◌≤◌, ◌<◌, length, get_or}
use Rattle.std.proofs.Math.Path.{sym, fun_ext}
use Rattle.std.proofs.Common.{ap, subst, ◌∙◌, map-id, arith}
use Rattle.std.proofs.lemmas.Simd.{map-map}
use Rattle.std.proofs.lemmas.List.{length-map}
use Rattle.std.proofs.Math.ListN.{get_or-map}
use Rattle.bits.specs.Digits.{digit, number_lt, zero_digit}
use Rattle.bits.proofs.Digits.{number_is, digit_number}
use Rattle.slots.specs.Sets.{Slots, all_free}
use Rattle.views.specs.Painting.{slots_all, slot_there}
use Rattle.views.specs.Words.{AreWords}
use Rattle.views.specs.Marks.{passes_at, marks_of}
use Rattle.views.specs.Summary.{used_word, summary_of}
use Rattle.views.specs.Full.{all_ones, full_of}
use Rattle.views.specs.Count.{count_of, count_fits}
use Rattle.tree.specs.declared.Tree.{Tree}
use Rattle.tree.specs.declared.Stored.{Stored}
use Rattle.tree.specs.Layout.{stored_of, tree_of, slot_of, Sound, IsTree, tree_view, sound_by_stored, is_tree_means, are_words}
use Rattle.source.specs.BitmapAllocator.{Bitmap64, new_empty64, Bitmap1024, Allocator64, Allocator1024}
use Rattle.same.specs.Whenever.{Whenever}
use Rattle.same.specs.Acts.{Found, Acts}
use Rattle.same.specs.Words as Words
use Rattle.same.specs.Words.{word, word_acts}
use Rattle.same.specs.AnyTree as AnyTree
use Rattle.same.specs.Seen.{Seen}

abbrev pub words_of : Bitmap1024 → List ℕ
words_of t = map (λ (x : Bitmap64). x.bits) t.child

-- these words under this summary, with the mark and the count that are theirs
abbrev pub under : List ℕ → ℕ → Tree
under words summary = tree_of words (stored_of summary (full_of words) (count_of words))

abbrev pub ours : Bitmap1024 → Tree
ours t = under (words_of t) t.bits

-- and back
abbrev pub theirs : Tree → Bitmap1024
theirs t = record { bits = t.stored.summary; child = map word t.words }

words_back : (t : Tree) → words_of (theirs t) ≡ t.words
words_back t = map-map (λ (x : Bitmap64). x.bits) word t.words ∙ map-id t.words

-- a value of our type where its words and its summary are
pub under_is_tree : (words : List ℕ) (summary : ℕ) → AreWords 4 words → summary < 2 ^ 16 → IsTree (under words summary)
unfolding marks_of
under_is_tree words summary held fits = (is_tree_means (under words summary)).1 (held.so_many, held.each_fits, fits, number_lt (passes_at all_ones words) 16, count_fits words)

pub theirs_is_tree : (t : Tree) → AreWords 4 t.words → t.stored.summary < 2 ^ 16 → IsTree (ours (theirs t))
theirs_is_tree t held fits = subst IsTree (ap (λ (words : List ℕ). under words t.stored.summary) (sym (words_back t))) (under_is_tree t.words t.stored.summary held fits)

-- every sound tree of ours is one of these
pub ours_theirs : (t : Tree) → IsTree t → Sound t → ours (theirs t) ≡ t
ours_theirs t held sound =
    let h = (is_tree_means t).0 held in
    let right = (sound_by_stored t h.2 h.3).0 sound in
    ap (λ (words : List ℕ). under words t.stored.summary) (words_back t)
    ∙ (λ i. tree_of t.words (stored_of t.stored.summary (sym right i).full (sym right i).count))

pub theirs_ours : (t : Bitmap1024) → theirs (ours t) ≡ t
theirs_ours t = λ i. record { bits = t.bits; child = (map-map word (λ (x : Bitmap64). x.bits) t.child ∙ map-id t.child) i }

-- ---- the tree over words

abbrev holds_word : Bitmap64 → Slots
holds_word w = digit w.bits

abbrev IsWord : Bitmap64 → Type 0
IsWord w = w.bits < 2 ^ 64

pub few : 6 ≤ 58
few = omega arith

abbrev pub holds : Bitmap1024 → Slots
holds = AnyTree.tree_holds Allocator64 6 holds_word IsWord word_acts few

abbrev pub Held : Bitmap1024 → Type 0
Held = AnyTree.Held Allocator64 6 holds_word IsWord word_acts few

abbrev pub GoodTree : Bitmap1024 → Type 0
GoodTree = AnyTree.GoodTree Allocator64 6 holds_word IsWord word_acts few

pub acts_1024 : Acts Allocator1024 10 holds GoodTree
acts_1024 = AnyTree.tree_acts Allocator64 6 holds_word IsWord word_acts few

abbrev slot_at : List Bitmap64 → ℕ → Slots
slot_at = AnyTree.slot_at Allocator64 6 holds_word IsWord word_acts few

-- ---- its slots and its summary are ours

slots_of : (xs : List Bitmap64) (j : ℕ) → slot_at xs j ≡ digit (get_or (map (λ (x : Bitmap64). x.bits) xs) j 0)
slots_of [] j = fun_ext (λ p. sym (zero_digit p))
slots_of (x ∷ xs) zero = refl
slots_of (x ∷ xs) (suc j) = slots_of xs j

-- word i of the tree
word_at : (t : Bitmap1024) (i : ℕ) → get_or (words_of t) i 0 ≡ (get_or t.child i new_empty64).bits
word_at t i = get_or-map (λ (x : Bitmap64). x.bits) t.child i new_empty64

pub slots_alike : (t : Bitmap1024) → length (words_of t) ≡ 16 → (i : ℕ) → i < 1024 → holds t i ≡ slot_of (ours t) i
slots_alike t many i l =
    ap (λ (X : Slots). X (i % 64)) (slots_of t.child (i / 64))
    ∙ sym (slot_there (words_of t) i (rw (slots_all (words_of t) 16 many (omega arith)) l))

-- a word that is not 0 holds a slot
bit_is : (t : Bitmap1024) (j : ℕ) → get_or (words_of t) j 0 < 2 ^ 64 → used_word (words_of t) j ≡ not (all_free (slot_at t.child j) 0 64)
bit_is t j fits =
    ap not (Words.empty_tells (get_or (words_of t) j 0) fits ∙ ap (λ (X : Slots). all_free X 0 64) (sym (slots_of t.child j)))

is_held : (t : Bitmap1024) → IsTree (ours t) → Held t
is_held t held =
    let long : length t.child ≡ 16 = sym (length-map t.child (λ (x : Bitmap64). x.bits)) ∙ (are_words (ours t) held).so_many in
    record {
      many = long;
      each = AnyTree.all_good Allocator64 6 holds_word IsWord word_acts few new_empty64 t.child (λ i l. rw (word_at t i) at ((are_words (ours t) held).each_fits i (rw long at l)));
    }

-- of any tree, whatever its summary
pub next_free_finds : (t : Bitmap1024) → IsTree (ours t) → (s : ℕ) → Whenever (Allocator1024.next_free t s) (Found 10 (holds t) s)
next_free_finds t held s = AnyTree.next_free_finds Allocator64 6 holds_word IsWord word_acts few t (is_held t held) s

-- a sound tree of ours is good, and each that is good is a sound tree
pub is_good : (t : Bitmap1024) → IsTree (ours t) → Sound (ours t) → GoodTree t
unfolding marks_of
is_good t held sound =
    let h = (is_tree_means (ours t)).0 held in
    record {
      held = is_held t held;
      fits = h.2;
      right = λ j l.
          ap (λ (s : Stored). digit s.summary j) ((sound_by_stored (ours t) h.2 h.3).0 sound) ∙ digit_number (used_word (words_of t)) 16 j l
          ∙ bit_is t j (h.1 j l);
    }

module _ (t : Bitmap1024) (good : GoodTree t) where
  many : length (words_of t) ≡ 16
  many = length-map t.child (λ (x : Bitmap64). x.bits) ∙ good.held.many

  fit : (i : ℕ) → i < 16 → get_or (words_of t) i 0 < 2 ^ 64
  fit i l = rw (word_at t i) (AnyTree.good_at Allocator64 6 holds_word IsWord word_acts few new_empty64 t.child good.held.each i (rw good.held.many l))

  is_tree : IsTree (ours t)
  is_tree = under_is_tree (words_of t) t.bits (record { so_many = many; each_fits = fit }) good.fits

  sound : Sound (ours t)
  unfolding marks_of
  sound =
      let h = (is_tree_means (ours t)).0 is_tree in
      let right : t.bits ≡ summary_of (words_of t) = number_is 16 t.bits (used_word (words_of t)) good.fits (λ j l. good.right j l ∙ sym (bit_is t j (fit j l))) in
      (sound_by_stored (ours t) h.2 h.3).1 (λ i. stored_of (right i) (full_of (words_of t)) (count_of (words_of t)))

pub seen_1024 : Seen tree_view holds GoodTree ours
seen_1024 = record { is_sound_lem = sound; is_map = is_tree; alike = λ t good. slots_alike t (many t good) }
