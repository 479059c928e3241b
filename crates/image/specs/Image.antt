-- The image of a tree map, as Request Five has it: the words as one house field and then the summary as another, 136 bytes, numbers low byte first. What a
-- tree stores beside its summary is no part of it and is worked out from the words. Rests on the tree's layout and on the bytes of `bits`.
use Rattle.std.specs.Prelude.{◌≡◌, refl, ◌↔◌, Bool, true, ◌&&◌, ℕ, suc, ◌+◌, ◌*◌, ◌≤◌, ◌<◌, T, eqb, length, get_or, take, drop}
use Rattle.std.proofs.Math.Path.{sym, ap}
use Rattle.std.proofs.Common.{◌∙◌, le_of_eq, arith, length-append, drop-drop, take_all, drop_at}
use mathlib.Core.List.{List, ◌∷◌, ◌++◌}
use Rattle.std.proofs.Math.Pow.{are_bytes}
use Rattle.bits.specs.Digits.{digit}
use Rattle.bits.specs.Bytes.{from_bytes, to_bytes, to_bytes_length, to_bytes_bytes, from_to, number_in, bytes_of, bytes_of_length, bytes_of_bytes, numbers_of, read_written, bytes_append}
use Rattle.views.specs.Marks.{marks_right}
use Rattle.views.specs.Full.{full_of, all_ones, AllOnes, finds_all_ones}
use Rattle.views.specs.Count.{count_of}
use Rattle.tree.specs.declared.Tree.{Tree}
use Rattle.tree.specs.Layout.{stored_of, tree_of, Sound, sound_means, sound_by_stored, IsTree, is_tree_means}

-- ---- writing

-- a house field: a tag of one byte, the length of its body in two, the body
abbrev pub field : ℕ → List ℕ → List ℕ
field tag body = tag ∷ (to_bytes 2 (length body) ++ body)

-- the words, and then the summary
unfoldable pub image_of : Tree → List ℕ
image_of t = field 32 (bytes_of 8 t.words) ++ field 33 (to_bytes 2 t.stored.summary)

-- ---- reading

-- whether the header of a field, with this tag and this length, stands at an offset
abbrev pub headed : List ℕ → ℕ → ℕ → ℕ → Bool
headed bytes i tag n = eqb (get_or bytes i 0) tag && eqb (number_in 2 bytes (i + 1)) n

-- whether the bytes are an image: their length, and the two headers where they belong
unfoldable pub is_image : List ℕ → Bool
is_image bytes = eqb (length bytes) 136 && (headed bytes 0 32 128 && headed bytes 131 33 2)

-- the words and the summary that they hold
abbrev pub words_in : List ℕ → List ℕ
words_in bytes = numbers_of 8 16 (drop 3 bytes)

abbrev pub summary_in : List ℕ → ℕ
summary_in bytes = number_in 2 bytes 134

-- the tree that they hold: with the summary as it stands there, and with the mark of full words and the count that are the words' own
unfoldable pub held_in : List ℕ → Tree
held_in bytes = tree_of (words_in bytes) (stored_of (summary_in bytes) (full_of (words_in bytes)) (count_of (words_in bytes)))

-- ---- what an image is

-- a field of 128 bytes with tag 32, then a field of two bytes with tag 33, and nothing more
pub record TwoFields (bytes : List ℕ) : Type 0 where
  pub words : List ℕ
  pub summary : List ℕ
  pub words_long : length words ≡ 128
  pub summary_long : length summary ≡ 2
  pub in_order : bytes ≡ field 32 words ++ field 33 summary

-- the header of a field stands at an offset
abbrev pub Headed : List ℕ → ℕ → ℕ → ℕ → Type 0
Headed bytes i tag n = (get_or bytes i 0 ≡ tag) × (number_in 2 bytes (i + 1) ≡ n)

-- what stands from an offset on, where a header was found there; its length is below 256
module _ (bytes : List ℕ) (i tag n : ℕ) (small : n < 256) (inside : i + 3 ≤ length bytes) (found : Headed bytes i tag n) where
  last : suc (suc i) ≡ i + 2
  last = omega arith

-- ---- an image is 136 bytes: two such headers, with the words and the summary behind them

abbrev fields : List ℕ → List ℕ → List ℕ
fields words summary = 32 ∷ (128 ∷ (0 ∷ (words ++ (33 ∷ (2 ∷ (0 ∷ summary))))))

module _ (words summary : List ℕ) (words_long : length words ≡ 128) (summary_long : length summary ≡ 2) where
  pub spelt : field 32 words ++ field 33 summary ≡ fields words summary
  unfolding to_bytes
  spelt = rw (words_long, summary_long)

  pub long : length (fields words summary) ≡ 136
  long = let all = length-append words (33 ∷ (2 ∷ (0 ∷ summary))) in omega (arith, all, words_long, summary_long)

  pub behind : drop 131 (fields words summary) ≡ 33 ∷ (2 ∷ (0 ∷ summary))
  behind = drop_at words _ 128 words_long

  pub last_two : take 2 (drop 134 (fields words summary)) ≡ summary
  last_two =
      ap (take 2) (sym (drop-drop 3 131 (fields words summary)) ∙ ap (drop 3) behind)
      ∙ take_all 2 summary (le_of_eq summary_long)

-- ---- a tree's image, and the tree that it holds

module _ (t : Tree) (many : length t.words ≡ 16) where
  pub words_long : length (bytes_of 8 t.words) ≡ 128
  words_long = bytes_of_length 8 t.words ∙ ap (λ (m : ℕ). m * 8) many

  pub image_spelt : image_of t ≡ fields (bytes_of 8 t.words) (to_bytes 2 t.stored.summary)
  unfolding image_of
  image_spelt = spelt (bytes_of 8 t.words) (to_bytes 2 t.stored.summary) words_long (to_bytes_length 2 t.stored.summary)

  pub image_length : length (image_of t) ≡ 136
  image_length = ap length image_spelt ∙ long (bytes_of 8 t.words) (to_bytes 2 t.stored.summary) words_long (to_bytes_length 2 t.stored.summary)

pub image_bytes : (t : Tree) → T (are_bytes (image_of t))
unfolding image_of
image_bytes t =
    bytes_append (field 32 (bytes_of 8 t.words)) (field 33 (to_bytes 2 t.stored.summary))
    (bytes_append (to_bytes 2 (length (bytes_of 8 t.words))) (bytes_of 8 t.words) (to_bytes_bytes 2 (length (bytes_of 8 t.words))) (bytes_of_bytes 8 t.words))
    (bytes_append (to_bytes 2 (length (to_bytes 2 t.stored.summary))) (to_bytes 2 t.stored.summary) (to_bytes_bytes 2 (length (to_bytes 2 t.stored.summary))) (to_bytes_bytes 2 t.stored.summary))

-- the image of a tree holds its words and its summary
module _ (t : Tree) (held : IsTree t) where
  many : length t.words ≡ 16
  many = ((is_tree_means t).0 held).0

  pub holds_words : words_in (image_of t) ≡ t.words
  holds_words =
      ap (λ (bytes : List ℕ). numbers_of 8 16 (drop 3 bytes)) (image_spelt t many)
      ∙ ap (λ (m : ℕ). numbers_of 8 m (bytes_of 8 t.words ++ (33 ∷ (2 ∷ (0 ∷ to_bytes 2 t.stored.summary))))) (sym many)
      ∙ read_written 8 t.words _ (λ i l. ((is_tree_means t).0 held).1 i (rw many at l))

  pub holds_summary : summary_in (image_of t) ≡ t.stored.summary
  holds_summary =
      ap (λ (bytes : List ℕ). number_in 2 bytes 134) (image_spelt t many)
      ∙ ap from_bytes (last_two (bytes_of 8 t.words) (to_bytes 2 t.stored.summary) (words_long t many) (to_bytes_length 2 t.stored.summary))
      ∙ from_to 2 t.stored.summary ((is_tree_means t).0 held).2

  -- reading what was written gives the map: a sound one's other fields are those that its words give
  pub reads_back : Sound t → held_in (image_of t) ≡ t
  unfolding held_in
  reads_back sound =
      let agrees = (sound_by_stored t ((is_tree_means t).0 held).2 ((is_tree_means t).0 held).3).0 sound in
      (λ i. tree_of (holds_words i) (stored_of (holds_summary i) (full_of (holds_words i)) (count_of (holds_words i))))
      ∙ ap (λ (s : _). tree_of t.words (stored_of t.stored.summary s.full s.count)) (sym agrees)

-- the summary is not at odds with the words: its bit i is 1 exactly if word i is not 0
abbrev pub SummaryAgrees : List ℕ → Type 0
SummaryAgrees bytes = (i : ℕ) → i < 16 → (digit (summary_in bytes) i ≡ true) ↔ (get_or (words_in bytes) i 0 ≡ 0 → ⊥)

-- and no more is asked of the tree
pub held_sound_means : (bytes : List ℕ) → Sound (held_in bytes) ↔ SummaryAgrees bytes
unfolding held_in
held_sound_means bytes = (
  λ sound. ((sound_means (held_in bytes)).0 sound).0,
  λ right. (sound_means (held_in bytes)).1 (right, marks_right all_ones AllOnes finds_all_ones (words_in bytes), refl),
)
