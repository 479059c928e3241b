-- Document 01's starred examples as one table, with each row's answer and its whole map, what it stores included, and one statement that every row holds,
-- by computing. Two rows of ours stand at its end. Rests on `tree`.
use Rattle.std.specs.Prelude.{◌≡◌, refl, Bool, true, false, List, [], ◌∷◌, ℕ, ◌-◌, ◌^◌, eqb}
use Rattle.answers.specs.Said.{Said, value, refused, judged, leaving}
use Rattle.answers.specs.declared.Reply.{Reply}
use Rattle.answers.specs.declared.Reply.TheVariants.{At as at, Done as ok}
use Rattle.bits.specs.Range.{least, every, within, count}
use Rattle.bits.specs.Digits.{digit, number}
use Rattle.slots.specs.Sets.{all_free, all_used, painted}
use Rattle.slots.specs.Lowest.{fits_at, lowest}
use Rattle.slots.specs.Calls.{take_call, claim_call, free_call, get_call}
use Rattle.slots.specs.View.{answered, changed}
use Rattle.views.specs.Words.{listed}
use Rattle.views.specs.Painting.{slots_in, slot_in}
use Rattle.tree.specs.declared.Tree.{Tree}
use Rattle.tree.specs.Layout.{stored_of, tree_of, tree_view, slot_of}
use Rattle.tree.specs.Says.{NewEmptySays, NewFullSays}

-- ---- trees, written out

-- the words that are not 0, each with its index
abbrev word_at : List (ℕ × ℕ) → ℕ → ℕ
word_at [] i = 0
word_at (word ∷ words) i = elim (eqb word.0 i) [ true ↦ word.1 | false ↦ word_at words i ]

-- with the summary, the mark of full words and the count
abbrev pub written : List (ℕ × ℕ) → ℕ → ℕ → ℕ → Tree
written words summary full count = tree_of (listed (word_at words) 0 16) (stored_of summary full count)

abbrev pub empty_tree : Tree
empty_tree = written [] 0 0 0

abbrev pub full_tree : Tree
full_tree = tree_of (listed (λ i. 2 ^ 64 - 1) 0 16) (stored_of 65535 65535 1024)

-- they are the trees that the contracts of `new_empty` and `new_full` name
pub is_the_empty_tree : (r : Tree) → NewEmptySays r → r ≡ empty_tree
unfolding number listed count slot_in slots_in digit
is_the_empty_tree r made = made

pub is_the_full_tree : (r : Tree) → NewFullSays r → r ≡ full_tree
unfolding number listed count slot_in slots_in digit
is_the_full_tree r made = made

-- only slot 0 is used, only slot 63, only slot 1,023
abbrev pub only0 : Tree
only0 = written ((0, 1) ∷ []) 1 0 1

abbrev pub only63 : Tree
only63 = written ((0, 2 ^ 63) ∷ []) 1 0 1

abbrev pub only1023 : Tree
only1023 = written ((15, 2 ^ 63) ∷ []) 32768 0 1

-- ---- rows

pub data Asked : Type 0 where
  take : ℕ → ℕ → Asked
  claim : ℕ → ℕ → Asked
  free : ℕ → ℕ → Asked
  get : ℕ → Asked

-- what is answered: of a change, and of a question
pub data Shown : Type 0 where
  replies : Said Reply → Shown
  tells : Said Bool → Shown

pub record Row : Type 0 where
  pub before : Tree
  pub asked : Asked
  pub answer : Shown
  pub after : Tree

-- the answer and the map, as the contracts have them
unfoldable pub outcome : Tree → Asked → Shown × Tree
outcome t (take n a) = let out = changed tree_view t (take_call 10 (slot_of t) n a) in (replies out.0, out.1)
outcome t (claim s n) = let out = changed tree_view t (claim_call 10 (slot_of t) s n) in (replies out.0, out.1)
outcome t (free s n) = let out = changed tree_view t (free_call 10 (slot_of t) s n) in (replies out.0, out.1)
outcome t (get i) = (tells (answered tree_view t (get_call 10 (slot_of t) i)), t)

abbrev pub EachHolds : List Row → Type 0
EachHolds [] = Unit {0}
EachHolds (row ∷ rows) = (outcome row.before row.asked ≡ (row.answer, row.after)) × EachHolds rows

abbrev row : Tree → Asked → Shown → Tree → Row
row before asked answer after = record { before = before; asked = asked; answer = answer; after = after }

abbrev pub starred : List Row
starred =
    row empty_tree (take 1024 9) (replies (value (at 0))) full_tree
    ∷ row only1023 (take 1024 0) (replies (refused 7)) only1023
    ∷ row empty_tree (take 1025 0) (replies (refused 4)) empty_tree
    ∷ row empty_tree (take 0 10) (replies (refused 2)) empty_tree
    ∷ row empty_tree (take 1 10) (replies (refused 3)) empty_tree
    ∷ row only0 (take 1 9) (replies (value (at 512))) (written ((0, 1) ∷ (8, 1) ∷ []) 257 0 2)
    ∷ row only0 (take 64 0) (replies (value (at 1))) (written ((0, 2 ^ 64 - 1) ∷ (1, 1) ∷ []) 3 1 65)
    ∷ row empty_tree (claim 0 64) (replies (value ok)) (written ((0, 2 ^ 64 - 1) ∷ []) 1 1 64)
    ∷ row only63 (free 63 2) (replies (refused 5)) only63
    ∷ row empty_tree (claim 1023 1) (replies (value ok)) only1023
    ∷ row empty_tree (claim 1023 2) (replies (refused 4)) empty_tree
    ∷ row empty_tree (claim 1024 1) (replies (refused 4)) empty_tree
    ∷ row empty_tree (claim (2 ^ 64 - 1) 2) (replies (refused 4)) empty_tree
    ∷ row (written [] 1 0 0) (get 0) (tells (refused 1)) (written [] 1 0 0)
    -- ours: a mark of full words at odds, and a count
    ∷ row (written [] 0 1 0) (get 0) (tells (refused 1)) (written [] 0 1 0)
    ∷ row (written [] 0 0 1) (get 0) (tells (refused 1)) (written [] 0 0 1)
    ∷ []

pub every_row_holds : EachHolds starred
unfolding outcome changed answered leaving judged take_call claim_call free_call get_call lowest fits_at least every within all_free all_used painted slot_in slots_in digit number listed count
every_row_holds = (refl, (refl, (refl, (refl, (refl, (refl, (refl, (refl, (refl, (refl, (refl, (refl, (refl, (refl, (refl, (refl, tt))))))))))))))))
