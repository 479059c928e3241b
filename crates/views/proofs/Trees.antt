-- What stood in specs/Trees and rests on theorems there: moved, its statements unchanged. Rests on `Trees`.
use Rattle.std.specs.Prelude.{◌≡◌, refl, Bool, false, ◌&&◌, List, ℕ, zero, suc, ◌+◌, ◌*◌, ◌/◌, ◌%◌, ◌≤◌, ◌<◌, leb, ltb, length, get_or}
use Rattle.std.proofs.Common.{sym, ap, ap₂, ◌∙◌, zero-add, arith, ext_get_or, le-ltb, leb-false, ltb-false}
use Rattle.std.proofs.lemmas.Bool.{lt-leb}
use Rattle.bits.specs.Range.{either, and_false, count, count_agree, count_split, count_moved}
use Rattle.bits.specs.Digits.{digit}
use Rattle.bits.proofs.Digits.{digit_number}
use Rattle.views.specs.Keeping.{Kept}
use Rattle.views.specs.Painting.{slots_in, slot_in, slot_there, end_in, reaches, painted_words, kept_word}
use Rattle.views.specs.Words.{listed_agree, AreWords, slots_are, painted_are_words}
use Rattle.views.proofs.Words.{words_view}
use Rattle.views.specs.Marks.{sixteen_fit, passes_at, marks_of}
use Rattle.views.specs.Full.{all_ones, finds_all_ones, full_of, marked, filled, filled_right}
use Rattle.views.specs.Count.{count_of}
use Rattle.views.proofs.Parts.{row_kept}
use Rattle.views.specs.Trees.{all_fit, tree_words, tree_word, tree_words_lem, each_of, each_at, reaches_tree, renewed_at, renewed, sum_first}

-- slot s of tree i is slot i * 1,024 + s of them all
pub tree_slot : (words : List ℕ) → AreWords 8 words → (i s : ℕ) → i < 16 → s < 1024 → slot_in (tree_words words i) s ≡ slot_in words (i * 1024 + s)
tree_slot words held i s l h =
    slot_there (tree_words words i) s (rw (slots_are 4 sixteen_fit (tree_words words i) (tree_words_lem words held i l)) h)
    ∙ ap (λ (w : ℕ). digit w (s % 64)) (tree_word words i (s / 64) (omega arith))
    ∙ ap₂ (λ (p q : ℕ). digit (get_or words p 0) q) whole rest
    ∙ sym (slot_there words (i * 1024 + s) (rw (slots_are 8 all_fit words held) (omega arith)))
  where
    whole : 16 * i + s / 64 ≡ (i * 1024 + s) / 64
    whole = omega arith

    rest : s % 64 ≡ (i * 1024 + s) % 64
    rest = omega arith

-- ---- a field for each of them

-- the field of tree i is kept beside its words
abbrev pub each_kept : (F : Kept (words_view 4 sixteen_fit)) → F.Field → Kept (words_view 8 all_fit)
each_kept = row_kept (words_view 8 all_fit) 16 (words_view 4 sixteen_fit) tree_words (λ _ _ _ _. tt) tree_words_lem

-- a run that does not reach a tree reaches none of its words
unreached : (s e i k : ℕ) → k < 16 → reaches_tree s e i ≡ false → reaches s e (16 * i + k) ≡ false
unreached s e i k l t =
    either (leb (s / 1024) i)
    (λ a. let past : e ≤ i * 1024 = ltb-false (i * 1024) e (sym (ap (λ (b : Bool). b && ltb (i * 1024) e) a) ∙ t) in
    rw (le-ltb ((16 * i + k) * 64) e (omega arith)) (and_false (leb (s / 64) (16 * i + k))))
    (λ a. let before : i < s / 1024 = leb-false (s / 1024) i a in rw (lt-leb (s / 64) (16 * i + k) (omega arith)))

-- so the tree's words are as they were
kept_tree : (words : List ℕ) → AreWords 8 words → (s n : ℕ) (v : Bool) (i : ℕ) → i < 16 → reaches_tree s (end_in 16384 s n) i ≡ false
    → tree_words (painted_words words s n v) i ≡ tree_words words i
unfolding painted_words
kept_tree words held s n v i l t =
    ext_get_or 0 _ _ (long (painted_words words s n v) (painted_are_words 8 all_fit words held s n v) ∙ sym (long words held)) (λ k b.
    let h : k < 16 = rw (long (painted_words words s n v) (painted_are_words 8 all_fit words held s n v)) at b in
    tree_word (painted_words words s n v) i k h
    ∙ kept_word words s (end_in (slots_in words) s n) v 256 (16 * i + k)
    (ap (λ (slots : ℕ). reaches s (end_in slots s n) (16 * i + k)) (slots_are 8 all_fit words held) ∙ unreached s (end_in 16384 s n) i k h t)
    ∙ sym (tree_word words i k h))
  where
    long : (row : List ℕ) → AreWords 8 row → length (tree_words row i) ≡ 16
    long row are = (tree_words_lem row are i l).so_many

-- once a run is painted, making the fields of the reached trees anew makes them all right again
pub renewed_right : (made : List ℕ → ℕ) (words : List ℕ) → AreWords 8 words → (s n : ℕ) (v : Bool)
    → renewed made (painted_words words s n v) (each_of made words) s n ≡ each_of made (painted_words words s n v)
unfolding renewed each_of
renewed_right made words held s n v = listed_agree _ (λ i. made (tree_words left i)) 16 0 (λ i l.
    either (reaches_tree s (end_in 16384 s n) i) (λ t. ap (renewed_at made left (each_of made words) i) t)
    (λ t. ap (renewed_at made left (each_of made words) i) t ∙ each_at made words i l ∙ sym (ap made (kept_tree words held s n v i l t))))
  where
    left : List ℕ
    left = painted_words words s n v

-- ---- the marks of full words, and the counts

-- the marks of the trees mark the words that are all ones, and no others
pub filled_by_marks : (words : List ℕ) → AreWords 8 words → filled words (each_of full_of words) ≡ words
unfolding marked marks_of
filled_by_marks words held = filled_right words (each_of full_of words) (λ i l is.
    let below : i < 256 = rw held.so_many at l in
    let tree : i / 16 < 16 = omega arith in
    let place : i % 16 < 16 = omega arith in
    let back : 16 * (i / 16) + i % 16 ≡ i = omega arith in
    (finds_all_ones (get_or words i 0)).0
    (rw (ap (λ (w : ℕ). all_ones (get_or words w 0)) (sym back)
    ∙ ap all_ones (sym (tree_word words (i / 16) (i % 16) place))
    ∙ sym (digit_number (passes_at all_ones (tree_words words (i / 16))) 16 (i % 16) place)
    ∙ ap (λ (m : ℕ). digit m (i % 16)) (sym (each_at full_of words (i / 16) tree)) ∙ is) tt))

-- the counts of the first i trees are that of their slots
counts_first : (words : List ℕ) → AreWords 8 words → (i : ℕ) → i ≤ 16 → sum_first (each_of count_of words) i ≡ count (slot_in words) 0 (i * 1024)
unfolding sum_first count
counts_first words held zero l = refl
counts_first words held (suc i) l =
    let next : i * 1024 + 1024 ≡ suc i * 1024 = omega arith in
    ap₂ ◌+◌ (counts_first words held i (omega arith)) (each_at count_of words i (omega arith) ∙ tree_count)
    ∙ sym (count_split (slot_in words) 0 (i * 1024) 1024) ∙ ap (count (slot_in words) 0) next
  where
    tree_count : count_of (tree_words words i) ≡ count (slot_in words) (0 + i * 1024) 1024
    tree_count =
        ap (count (slot_in (tree_words words i)) 0) (slots_are 4 sixteen_fit (tree_words words i) (tree_words_lem words held i (omega arith)))
        ∙ count_agree (slot_in (tree_words words i)) (λ s. slot_in words (i * 1024 + s)) 0 1024 (λ s _ b. tree_slot words held i s (omega arith) (omega (arith, b)))
        ∙ sym (count_moved (slot_in words) (i * 1024) 1024) ∙ ap (λ (from : ℕ). count (slot_in words) from 1024) (sym (zero-add (i * 1024)))

-- so their sum is how many slots are used in all
pub counts_sum : (words : List ℕ) → AreWords 8 words → sum_first (each_of count_of words) 16 ≡ count (slot_in words) 0 16384
counts_sum words held = counts_first words held 16 (omega arith)
