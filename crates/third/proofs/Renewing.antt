-- What the loop over the reached trees knows of each field: before tree i, those of the reached trees before it are made anew. Assumes nothing.
use mathlib.Core.Path.{◌≡◌, sym, ap, ap₂, ◌∙◌}
use mathlib.Core.Bool.{Bool, true, false, ◌&&◌}
use mathlib.Core.List.{List}
use Prim.Native.Nat.{ℕ, ◌+◌, ◌*◌, ◌/◌, ◌≤◌, ◌<◌}
use native.Mathlib.Omega.{arith}
use native.Mathlib.Nat.{lt_of_not-le}
use lib.Dec.{leb, ltb, eqb, ltb→lt, lt→ltb}
use lib.ListN.{length, get_or, set, length-set}
use lib.Seq.{get_or-set_other, get_or-set_same}
use borrow.Author.Tests.{le-leb, lt-leb, lt-ltb, ltb-true, eqb-true, eqb-false}
use Rattle.bits.specs.Range.{either, same_test, and_true, and_false}
use Rattle.views.specs.Painting.{end_in}
use Rattle.views.specs.Words.{listed, length_listed, listed_first, listed_is, listed_agree}
use Rattle.views.specs.Summary.{summary_of}
use Rattle.views.specs.Full.{full_of}
use Rattle.views.specs.Count.{count_of}
use Rattle.views.specs.Trees.{tree_words, reaches_tree, renewed_at, renewed}
use Rattle.tree.specs.declared.Stored.{Stored}
use Rattle.tree.specs.Layout.{theirs}
use Rattle.third.specs.declared.Third.{Third}
use Rattle.third.specs.Layout.{third_of}
use Rattle.third.specs.Inner.{renewed_third}

module _ (made : List ℕ → ℕ) (words fields : List ℕ) (s e : ℕ) where
  abbrev pub renewed_first : ℕ → List ℕ
  renewed_first i = listed (λ j. renewed_at made words fields j (reaches_tree s e j && ltb j i)) 0 16

  pub renewed_length : (i : ℕ) → length (renewed_first i) ≡ 16
  renewed_length i = length_listed (λ j. renewed_at made words fields j (reaches_tree s e j && ltb j i)) 0 16

  renewed_at_lem : (i j : ℕ) → j < 16 → get_or (renewed_first i) j 0 ≡ renewed_at made words fields j (reaches_tree s e j && ltb j i)
  renewed_at_lem i j l = listed_first (λ k. renewed_at made words fields k (reaches_tree s e k && ltb k i)) 16 j 0 l

  -- before the run's first tree nothing is made anew
  pub renew_none : length fields ≡ 16 → (i : ℕ) → i ≤ s / 1024 → fields ≡ renewed_first i
  renew_none many i h = listed_is fields (λ j. renewed_at made words fields j (reaches_tree s e j && ltb j i)) 16 0 many (λ j l. sym (ap (renewed_at made words fields j) (early j)))
    where
      early : (j : ℕ) → reaches_tree s e j && ltb j i ≡ false
      early j =
          either (ltb j i) (λ t. rw (lt-leb (s / 1024) j (omega (arith, ltb-true j i t))))
          (λ t. rw t (and_false (reaches_tree s e j)))

  -- a tree of the run
  pub renew_on : (i : ℕ) → i < 16 → s / 1024 ≤ i → i * 1024 < e → set (renewed_first i) i (made (tree_words words i)) ≡ renewed_first (i + 1)
  renew_on i l from to = listed_is _ (λ j. renewed_at made words fields j (reaches_tree s e j && ltb j (i + 1))) 16 0 (length-set (renewed_first i) i _ ∙ renewed_length i) (λ j h.
      either (eqb j i)
      (λ same. let here = eqb-true j i same in
      rw here (get_or-set_same (renewed_first i) i _ 0 (rw (renewed_length i) l) ∙ sym (ap (renewed_at made words fields i) reached)))
      (λ differs. let other = eqb-false j i differs in
      get_or-set_other (renewed_first i) i j _ 0 other ∙ renewed_at_lem i j h ∙ ap (λ (b : Bool). renewed_at made words fields j (reaches_tree s e j && b)) (alike j other)))
    where
      reached : reaches_tree s e i && ltb i (i + 1) ≡ true
      reached = rw (le-leb (s / 1024) i from, lt-ltb (i * 1024) e to, lt-ltb i (i + 1) (omega arith))

      alike : (j : ℕ) → (j ≡ i → ⊥) → ltb j i ≡ ltb j (i + 1)
      alike j other =
          same_test (ltb j i) (ltb j (i + 1)) (λ t. lt→ltb j (i + 1) (omega (arith, ltb→lt j i t)))
          (λ t. lt→ltb j i (lt_of_not-le (λ g. other (omega (arith, ltb→lt j (i + 1) t, g)))))

-- past the run's end all of them are
pub renew_all : (made : List ℕ → ℕ) (words fields : List ℕ) (s n i : ℕ) → end_in 16384 s n ≤ i * 1024
    → renewed_first made words fields s (end_in 16384 s n) i ≡ renewed made words fields s n
unfolding renewed
renew_all made words fields s n i past = listed_agree _ _ 16 0 (λ j l. ap (renewed_at made words fields j) (whole j))
  where
    e : ℕ
    e = end_in 16384 s n

    whole : (j : ℕ) → reaches_tree s e j && ltb j i ≡ reaches_tree s e j
    whole j =
        either (ltb (j * 1024) e)
        (λ t. rw (lt-ltb j i (omega (arith, ltb-true (j * 1024) e t))) (and_true (reaches_tree s e j)))
        (λ t. rw t (rw (and_false (leb (s / 1024) j))))

-- ---- the same of a whole map

-- what is stored of tree i is this
abbrev pub with_stored : Third → ℕ → Stored → Third
with_stored t i stored = third_of t.words (set t.summaries i stored.summary) (set t.fulls i stored.full) (set t.counts i stored.count) t.summary

module _ (t : Third) (s e : ℕ) where
  -- before tree i
  abbrev pub renewed_before : ℕ → Third
  renewed_before i =
      third_of t.words (renewed_first summary_of t.words t.summaries s e i) (renewed_first full_of t.words t.fulls s e i) (renewed_first count_of t.words t.counts s e i) t.summary

  pub before_none : length t.summaries ≡ 16 → length t.fulls ≡ 16 → length t.counts ≡ 16 → t ≡ renewed_before (s / 1024)
  before_none summaries fulls counts = λ k. third_of t.words (none summary_of t.summaries summaries k) (none full_of t.fulls fulls k) (none count_of t.counts counts k) t.summary
    where
      none : (made : List ℕ → ℕ) (fields : List ℕ) → length fields ≡ 16 → fields ≡ renewed_first made t.words fields s e (s / 1024)
      none made fields many = renew_none made t.words fields s e many (s / 1024) (omega arith)

  pub before_on : (i : ℕ) → i < 16 → s / 1024 ≤ i → i * 1024 < e → (m : Third) → m ≡ renewed_before i → (stored : Stored) → stored ≡ theirs (tree_words m.words i)
      → with_stored m i stored ≡ renewed_before (i + 1)
  before_on i l from to m is stored its_own =
      ap₂ (λ (m : Third) (stored : Stored). with_stored m i stored) is (its_own ∙ ap (λ (m : Third). theirs (tree_words m.words i)) is)
      ∙ (λ k. third_of t.words (on summary_of t.summaries k) (on full_of t.fulls k) (on count_of t.counts k) t.summary)
    where
      on : (made : List ℕ → ℕ) (fields : List ℕ) → set (renewed_first made t.words fields s e i) i (made (tree_words t.words i)) ≡ renewed_first made t.words fields s e (i + 1)
      on made fields = renew_on made t.words fields s e i l from to

pub before_all : (t : Third) (s n i : ℕ) → end_in 16384 s n ≤ i * 1024 → renewed_before t s (end_in 16384 s n) i ≡ renewed_third t s n
before_all t s n i past = λ k. third_of t.words (all summary_of t.summaries k) (all full_of t.fulls k) (all count_of t.counts k) t.summary
  where
    all : (made : List ℕ → ℕ) (fields : List ℕ) → renewed_first made t.words fields s (end_in 16384 s n) i ≡ renewed made t.words fields s n
    all made fields = renew_all made t.words fields s n i past
