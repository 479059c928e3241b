-- The measured series: so many takes, or a free from each of some starts, as a series of demand 3 on the map that holds the words. Rests on the
-- series of `slots` and on the views of the maps.
use Rattle.std.specs.Prelude.{◌≡◌, List, [], ◌∷◌, map, ℕ, zero, suc, ◌^◌, get_or}
use Rattle.std.proofs.Common.{sym, ap, ◌∙◌}
use Rattle.bits.specs.Range.{count}
use Rattle.views.specs.Painting.{slot_in}
use Rattle.slots.specs.Kinds.{plain}
use Rattle.slots.specs.Plain.{Asked, take, free}
use Rattle.slots.proofs.Plain.{plain_calls}
use Rattle.slots.specs.Series.{made, last_of}
use Rattle.slots.specs.View.{View}
use Rattle.tree.specs.Layout.{holding, tree_view}
use Rattle.third.specs.Layout as Third
use Rattle.third.specs.Layout.{third_view}
use Rattle.word.specs.Layout.{word_of, word_view}

abbrev pub takes_of : ℕ → ℕ → ℕ → List Asked
takes_of n a zero = []
takes_of n a (suc times) = take n a ∷ takes_of n a times

abbrev pub frees_of : List ℕ → ℕ → List Asked
frees_of starts n = map (λ s. free s n) starts

-- the map that one call leaves
abbrev pub left_after : (L : View plain) → L.Map → Asked → L.Map
left_after L m c = (made L (plain_calls L.k) m c).1

-- ---- of any map, with its words

module _ (L : View plain) (words_of : L.Map → List ℕ) where
  -- what is left of a map: its words, and how many slots they hold
  abbrev pub Left : L.Map → ℕ → List ℕ → Type 0
  Left m r after = ◌≡◌ {A = ℕ × List ℕ} (r, after) (count (slot_in (words_of m)) 0 (2 ^ L.k), words_of m)

  -- what a series leaves
  abbrev pub After : L.Map → List Asked → ℕ → List ℕ → Type 0
  After m calls r after = Left (last_of L (plain_calls L.k) m calls) r after

  -- one outcome
  one_answer : (m : L.Map) (calls : List Asked) (r q : ℕ) (after other : List ℕ) → After m calls r after → After m calls q other → (r ≡ q) × (after ≡ other)
  one_answer m calls r q after other p o = (ap (λ x. x.0) (p ∙ sym o), ap (λ x. x.1) (p ∙ sym o))

-- ---- the tree

abbrev pub TakesSays : List ℕ → ℕ → ℕ → ℕ → ℕ → List ℕ → Type 0
TakesSays words n a times r after = After tree_view (λ t. t.words) (holding words) (takes_of n a times) r after

abbrev pub FreesSays : List ℕ → List ℕ → ℕ → ℕ → List ℕ → Type 0
FreesSays words starts n r after = After tree_view (λ t. t.words) (holding words) (frees_of starts n) r after

pub takes_one_answer : (words : List ℕ) (n a times r q : ℕ) (after other : List ℕ) → TakesSays words n a times r after → TakesSays words n a times q other
    → (r ≡ q) × (after ≡ other)
takes_one_answer words n a times = one_answer tree_view (λ t. t.words) (holding words) (takes_of n a times)

pub frees_one_answer : (words starts : List ℕ) (n r q : ℕ) (after other : List ℕ) → FreesSays words starts n r after → FreesSays words starts n q other
    → (r ≡ q) × (after ≡ other)
frees_one_answer words starts n = one_answer tree_view (λ t. t.words) (holding words) (frees_of starts n)

-- ---- the third level

abbrev pub ThirdTakesSays : List ℕ → ℕ → ℕ → ℕ → ℕ → List ℕ → Type 0
ThirdTakesSays words n a times r after = After third_view (λ t. t.words) (Third.holding words) (takes_of n a times) r after

abbrev pub ThirdFreesSays : List ℕ → List ℕ → ℕ → ℕ → List ℕ → Type 0
ThirdFreesSays words starts n r after = After third_view (λ t. t.words) (Third.holding words) (frees_of starts n) r after

pub third_takes_one_answer : (words : List ℕ) (n a times r q : ℕ) (after other : List ℕ) → ThirdTakesSays words n a times r after → ThirdTakesSays words n a times q other
    → (r ≡ q) × (after ≡ other)
third_takes_one_answer words n a times = one_answer third_view (λ t. t.words) (Third.holding words) (takes_of n a times)

pub third_frees_one_answer : (words starts : List ℕ) (n r q : ℕ) (after other : List ℕ) → ThirdFreesSays words starts n r after → ThirdFreesSays words starts n q other
    → (r ≡ q) × (after ≡ other)
third_frees_one_answer words starts n = one_answer third_view (λ t. t.words) (Third.holding words) (frees_of starts n)

-- ---- the word, which is lent as a row of one

abbrev pub WordTakesSays : List ℕ → ℕ → ℕ → ℕ → ℕ → List ℕ → Type 0
WordTakesSays words n a times r after = After word_view (λ w. w.bits ∷ []) (word_of (get_or words 0 0)) (takes_of n a times) r after

abbrev pub WordFreesSays : List ℕ → List ℕ → ℕ → ℕ → List ℕ → Type 0
WordFreesSays words starts n r after = After word_view (λ w. w.bits ∷ []) (word_of (get_or words 0 0)) (frees_of starts n) r after

pub word_takes_one_answer : (words : List ℕ) (n a times r q : ℕ) (after other : List ℕ) → WordTakesSays words n a times r after → WordTakesSays words n a times q other
    → (r ≡ q) × (after ≡ other)
word_takes_one_answer words n a times = one_answer word_view (λ w. w.bits ∷ []) (word_of (get_or words 0 0)) (takes_of n a times)

pub word_frees_one_answer : (words starts : List ℕ) (n r q : ℕ) (after other : List ℕ) → WordFreesSays words starts n r after → WordFreesSays words starts n q other
    → (r ≡ q) × (after ≡ other)
word_frees_one_answer words starts n = one_answer word_view (λ w. w.bits ∷ []) (word_of (get_or words 0 0)) (frees_of starts n)
