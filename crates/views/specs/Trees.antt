-- Sixteen trees side by side in 256 words, and a field for each tree that is made of the tree's words alone, such as its mark of full words and its count.
-- Rests on `Parts`, `Full` and `Count`.
use Rattle.std.specs.Prelude.{◌≡◌, Bool, true, false, ◌&&◌, List, ℕ, zero, suc, ◌+◌, ◌*◌, ◌/◌, ◌^◌, ◌≤◌, ◌<◌, leb, ltb, get_or, take, drop}
use Rattle.std.proofs.Common.{ap, ◌∙◌, zero-le, arith, length-drop, length-take-le, get_or-take, get_or-drop, le-leb, lt-ltb}
use Rattle.views.specs.Painting.{end_in}
use Rattle.views.specs.Words.{listed, listed_first, listed_agree, AreWords}

-- a row may have 256 words
pub all_fit : 2 ^ 8 ≤ 256
all_fit = omega arith

-- ---- the trees

-- the sixteen words of tree i
unfoldable pub tree_words : List ℕ → ℕ → List ℕ
tree_words words i = take 16 (drop (16 * i) words)

pub tree_word : (words : List ℕ) (i k : ℕ) → k < 16 → get_or (tree_words words i) k 0 ≡ get_or words (16 * i + k) 0
unfolding tree_words
tree_word words i k l = get_or-take 16 (drop (16 * i) words) k 0 l ∙ get_or-drop (16 * i) words k 0

pub tree_words_lem : (words : List ℕ) → AreWords 8 words → (i : ℕ) → i < 16 → AreWords 4 (tree_words words i)
unfolding tree_words
tree_words_lem words held i l = record {
  so_many = length-take-le 16 (drop (16 * i) words) (rw (length-drop (16 * i) words, held.so_many) (omega arith));
  each_fits = λ k h. rw (tree_word words i k h) (held.each_fits (16 * i + k) (omega arith));
}

-- ---- a field for each of them

-- field i is what is made of the words of tree i
unfoldable pub each_of : (List ℕ → ℕ) → List ℕ → List ℕ
each_of made words = listed (λ i. made (tree_words words i)) 0 16

pub each_at : (made : List ℕ → ℕ) (words : List ℕ) (i : ℕ) → i < 16 → get_or (each_of made words) i 0 ≡ made (tree_words words i)
unfolding each_of
each_at made words i l = listed_first (λ j. made (tree_words words j)) 16 i 0 l

-- ---- they stay right

-- the run reaches tree i
abbrev pub reaches_tree : ℕ → ℕ → ℕ → Bool
reaches_tree s e i = leb (s / 1024) i && ltb (i * 1024) e

-- the field of tree i, made anew where the tree is reached
abbrev pub renewed_at : (List ℕ → ℕ) → List ℕ → List ℕ → ℕ → Bool → ℕ
renewed_at made words fields i true = made (tree_words words i)
renewed_at made words fields i false = get_or fields i 0

-- the fields, with that of each tree which the n slots from s on reach made anew
unfoldable pub renewed : (List ℕ → ℕ) → List ℕ → List ℕ → ℕ → ℕ → List ℕ
renewed made words fields s n = listed (λ i. renewed_at made words fields i (reaches_tree s (end_in 16384 s n) i)) 0 16

-- a run over all slots reaches each tree, and whatever the fields were, they are right
pub renewed_all : (made : List ℕ → ℕ) (words fields : List ℕ) → renewed made words fields 0 16384 ≡ each_of made words
unfolding renewed each_of end_in
renewed_all made words fields = listed_agree _ (λ i. made (tree_words words i)) 16 0 (λ i l. ap (renewed_at made words fields i) (reached i l))
  where
    reached : (i : ℕ) → i < 16 → reaches_tree 0 (end_in 16384 0 16384) i ≡ true
    reached i l = rw (le-leb 0 i zero-le, lt-ltb (i * 1024) 16384 (omega arith))

-- ---- the marks of full words, and the counts

-- the sum of the first i fields
unfoldable pub sum_first : List ℕ → ℕ → ℕ
sum_first fields zero = 0
sum_first fields (suc i) = sum_first fields i + get_or fields i 0

pub sum_on : (fields : List ℕ) (i : ℕ) → sum_first fields i + get_or fields i 0 ≡ sum_first fields (i + 1)
unfolding sum_first
sum_on fields i = let next : suc i ≡ i + 1 = omega arith in ap (sum_first fields) next
