-- What stood in specs/Image and rests on theorems there: moved, its statements unchanged. Rests on `Image`.
use Rattle.std.specs.Prelude.{◌≡◌, refl, ◌↔◌, ◌&&◌, ℕ, suc, ◌+◌, ◌*◌, ◌≤◌, ◌<◌, T, eqb, length, get_or, take, drop}
use Rattle.std.proofs.Math.Path.{sym, ap}
use Rattle.std.proofs.Common.{ap₂, subst, ◌∙◌, add-zero, arith, length-drop, take-append-drop, length-take-le, drop-cons, drop-drop, take_at, get_or-drop}
use mathlib.Core.List.{List, [], ◌∷◌, ◌++◌}
use Rattle.std.proofs.Math.Pow.{are_bytes}
use Rattle.answers.specs.Faults.{finds_eq, finds_both}
use Rattle.bits.specs.Digits.{number_lt as marks-lt}
use Rattle.bits.specs.Bytes.{from_bytes, to_bytes, to_bytes_length, to_from, number_in, number_lt, bytes_of, numbers_of_length, numbers_of_lt, written_read, bytes_take, bytes_drop}
use Rattle.views.specs.Marks.{marks_of}
use Rattle.views.specs.Count.{count_fits}
use Rattle.tree.specs.declared.Tree.{Tree}
use Rattle.tree.specs.Layout.{IsTree, is_tree_means}
use Rattle.image.specs.Image.{field, image_of, headed, is_image, words_in, summary_in, held_in, TwoFields, Headed, spelt, long, behind, last_two, words_long, image_spelt}

found_image : (bytes : List ℕ) → T (is_image bytes) ↔ ((length bytes ≡ 136) × (Headed bytes 0 32 128 × Headed bytes 131 33 2))
unfolding is_image
found_image bytes =
    finds_both (eqb (length bytes) 136) (headed bytes 0 32 128 && headed bytes 131 33 2) (finds_eq (length bytes) 136)
    (finds_both (headed bytes 0 32 128) (headed bytes 131 33 2) (header 0 32 128) (header 131 33 2))
  where
    header : (i tag n : ℕ) → T (headed bytes i tag n) ↔ Headed bytes i tag n
    header i tag n = finds_both (eqb (get_or bytes i 0) tag) (eqb (number_in 2 bytes (i + 1)) n) (finds_eq (get_or bytes i 0) tag) (finds_eq (number_in 2 bytes (i + 1)) n)

pub image_long : (bytes : List ℕ) → T (is_image bytes) → length bytes ≡ 136
image_long bytes found = ((found_image bytes).0 found).0

-- what stands from an offset on, where a header was found there; its length is below 256
module _ (bytes : List ℕ) (i tag n : ℕ) (small : n < 256) (inside : i + 3 ≤ length bytes) (found : Headed bytes i tag n) where
  next : suc i ≡ i + 1
  next = omega arith

  after : suc (suc (suc i)) ≡ i + 3
  after = omega arith

  abbrev low : ℕ
  low = get_or bytes (suc i) 0

  abbrev high : ℕ
  high = get_or bytes (suc (suc i)) 0

  first : drop (suc i) bytes ≡ low ∷ (high ∷ drop (i + 3) bytes)
  first =
      drop-cons bytes (suc i) 0 (omega (arith, inside))
      ∙ ap (λ (rest : List ℕ). low ∷ rest) (drop-cons bytes (suc (suc i)) 0 (omega (arith, inside)) ∙ ap (λ (m : ℕ). high ∷ drop m bytes) after)

  sum : high * 256 + low ≡ n
  unfolding from_bytes
  sum =
      let said = found.1 in
      let here : number_in 2 bytes (i + 1) ≡ from_bytes (low ∷ (high ∷ [])) = ap (λ (m : ℕ). number_in 2 bytes m) (sym next) ∙ ap (λ (rest : List ℕ). from_bytes (take 2 rest)) first in
      omega (arith, said, here)

  header_there : drop i bytes ≡ tag ∷ (n ∷ (0 ∷ drop (i + 3) bytes))
  header_there =
      let none : high ≡ 0 = omega (arith, sum, small) in
      let all : low ≡ n = omega (arith, sum, none) in
      drop-cons bytes i 0 (omega (arith, inside))
      ∙ ap₂ (λ (b : ℕ) (rest : List ℕ). b ∷ rest) found.0
      (first ∙ (λ j. all j ∷ (none j ∷ drop (i + 3) bytes)))

-- and it is found where it stands
header_found : (bytes rest : List ℕ) (i tag n : ℕ) → drop i bytes ≡ tag ∷ (n ∷ (0 ∷ rest)) → Headed bytes i tag n
unfolding from_bytes
header_found bytes rest i tag n stands = (tag_is, length_is)
  where
    here : (m : ℕ) → get_or bytes (i + m) 0 ≡ get_or (tag ∷ (n ∷ (0 ∷ rest))) m 0
    here m = sym (get_or-drop i bytes m 0) ∙ ap (λ (all : List ℕ). get_or all m 0) stands

    tag_is : get_or bytes i 0 ≡ tag
    tag_is = ap (λ (m : ℕ). get_or bytes m 0) (sym (add-zero i)) ∙ here 0

    length_is : number_in 2 bytes (i + 1) ≡ n
    length_is =
        ap (λ (all : List ℕ). from_bytes (take 2 all)) (sym (drop-drop 1 i bytes) ∙ ap (drop 1) stands)
        ∙ omega arith

-- ---- an image is 136 bytes: two such headers, with the words and the summary behind them

abbrev fields : List ℕ → List ℕ → List ℕ
fields words summary = 32 ∷ (128 ∷ (0 ∷ (words ++ (33 ∷ (2 ∷ (0 ∷ summary))))))

module _ (words summary : List ℕ) (words_long : length words ≡ 128) (summary_long : length summary ≡ 2) where
  found_both : T (is_image (fields words summary))
  found_both = (found_image (fields words summary)).1 (long words summary words_long summary_long, (header_found (fields words summary) _ 0 32 128 refl, header_found (fields words summary) summary 131 33 2 (behind words summary words_long summary_long)))

pub is_image_means : (bytes : List ℕ) → T (is_image bytes) ↔ TwoFields bytes
is_image_means bytes = (split, λ f. subst (λ (all : List ℕ). T (is_image all)) (sym (f.in_order ∙ spelt f.words f.summary f.words_long f.summary_long)) (found_both f.words f.summary f.words_long f.summary_long))
  where
    split : T (is_image bytes) → TwoFields bytes
    split found =
        let seen = (found_image bytes).0 found in
        let many = seen.0 in
        let words_long = length-take-le 128 (drop 3 bytes) (let left = length-drop 3 bytes in omega (arith, many, left)) in
        let summary_long : length (drop 134 bytes) ≡ 2 = (let left = length-drop 134 bytes in omega (arith, many, left)) in
        record {
          words = take 128 (drop 3 bytes);
          summary = drop 134 bytes;
          words_long = words_long;
          summary_long = summary_long;
          in_order =
              header_there bytes 0 32 128 (omega arith) (omega (arith, many)) seen.1.0
              ∙ ap (λ (rest : List ℕ). 32 ∷ (128 ∷ (0 ∷ rest)))
              (sym (take-append-drop 128 (drop 3 bytes))
              ∙ ap (λ (rest : List ℕ). take 128 (drop 3 bytes) ++ rest)
              (drop-drop 128 3 bytes ∙ header_there bytes 131 33 2 (omega arith) (omega (arith, many)) seen.1.1))
              ∙ sym (spelt (take 128 (drop 3 bytes)) (drop 134 bytes) words_long summary_long);
        }

-- ---- a tree's image, and the tree that it holds

module _ (t : Tree) (many : length t.words ≡ 16) where
  pub an_image : T (is_image (image_of t))
  an_image = rw (image_spelt t many) (found_both (bytes_of 8 t.words) (to_bytes 2 t.stored.summary) (words_long t many) (to_bytes_length 2 t.stored.summary))

module _ (bytes : List ℕ) (found : T (is_image bytes)) (are : T (are_bytes bytes)) where
  parts : TwoFields bytes
  parts = (is_image_means bytes).0 found

  as_spelt : bytes ≡ fields parts.words parts.summary
  as_spelt = parts.in_order ∙ spelt parts.words parts.summary parts.words_long parts.summary_long

  many_bytes : length bytes ≡ 136
  many_bytes = image_long bytes found

  room : 16 * 8 ≤ length (drop 3 bytes)
  room = let left = length-drop 3 bytes in omega (arith, left, many_bytes)

  same_words : bytes_of 8 (words_in bytes) ≡ parts.words
  same_words =
      written_read 8 16 (drop 3 bytes) room (bytes_drop 3 bytes are)
      ∙ ap (λ (all : List ℕ). take 128 (drop 3 all)) as_spelt
      ∙ take_at parts.words _ 128 parts.words_long

  the_summary : take 2 (drop 134 bytes) ≡ parts.summary
  the_summary =
      ap (λ (all : List ℕ). take 2 (drop 134 all)) as_spelt ∙ last_two parts.words parts.summary parts.words_long parts.summary_long

  same_summary : to_bytes 2 (summary_in bytes) ≡ parts.summary
  same_summary =
      ap (λ (s : List ℕ). to_bytes 2 (from_bytes s)) the_summary
      ∙ ap (λ (m : ℕ). to_bytes m (from_bytes parts.summary)) (sym parts.summary_long)
      ∙ to_from parts.summary (subst (λ (s : List ℕ). T (are_bytes s)) the_summary (bytes_take 2 (drop 134 bytes) (bytes_drop 134 bytes are)))

  -- writing what was read gives the bytes
  pub writes_back : image_of (held_in bytes) ≡ bytes
  unfolding image_of held_in
  writes_back = (λ i. field 32 (same_words i) ++ field 33 (same_summary i)) ∙ sym parts.in_order

  -- the tree that is read is a value of its type
  pub held_is_tree : IsTree (held_in bytes)
  unfolding held_in marks_of
  held_is_tree = (is_tree_means (held_in bytes)).1 (
    numbers_of_length 8 16 (drop 3 bytes),
    λ i l. numbers_of_lt 8 16 (drop 3 bytes) (bytes_drop 3 bytes are) i l room,
    number_lt 2 bytes 134 are (omega (arith, many_bytes)),
    marks-lt _ 16,
    count_fits (words_in bytes),
  )
