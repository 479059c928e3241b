-- The words of an image one by one, as they are read and as they are written. Assumes nothing.
use mathlib.Core.Path.{◌≡◌, sym, ap, ap₂, ◌∙◌}
use mathlib.Core.List.{List, [], ◌∷◌, ◌++◌, append-nil, append_assoc}
use Prim.Native.Nat.{ℕ, zero, suc, ◌+◌, ◌*◌, ◌≤◌, ◌<◌}
use native.Mathlib.Omega.{arith}
use lib.ListN.{length, get_or, take, drop, length-append, take-append-drop}
use lib.Seq.{length-take-le, take-suc, drop-drop}
use denote.Param.Members.{Called, Mut}
use Rattle.std.specs.Array.{IsFromFnResultFrom}
use Rattle.std.proofs.Common.{⊎_elim}
use Rattle.std.proofs.Math.Nat.{eq-or-lt_of_le}
use Rattle.std.proofs.lemmas.List.{ext_get_or}
use Rattle.bits.specs.Bytes.{to_bytes, to_bytes_length, number_in, bytes_of, bytes_of_length, bytes_of_parts, numbers_of_length, numbers_of_at}
use Rattle.bits.specs.Buffers.{put_at, put_put, put_all}
use Rattle.tree.specs.declared.Tree.{Tree}
use Rattle.image.specs.Image.{image_of, words_in}

-- ---- reading: each word is there

-- what calls in turn have made, where each makes this of its index, and leaves the closure so that the next does
module _ {F : Type 0} (g : Mut F (ℕ × Unit {0}) ℕ) (Holds : F → Type 0) (made : ℕ → ℕ) (ys : List ℕ)
    (turn : (p : F) (i y : ℕ) (q : F) → Holds p → Called g p (i, tt) y q → (y ≡ made i) × Holds q) where
  pub each_made : (n a : ℕ) (p : F) → Holds p → IsFromFnResultFrom g p ys a n → (i : ℕ) → a ≤ i → i < a + n → get_or ys i 0 ≡ made i
  each_made zero a p held run i from below = absurd (omega (arith, from, below))
  each_made (suc n) a p held run i from below =
      let now = turn p a run.1 run.0 held run.3 in
      ⊎_elim
      (λ e. ap (λ (k : ℕ). get_or ys k 0) (sym e) ∙ run.2.1 0 ∙ now.0 ∙ ap made e)
      (λ past. each_made n (a + 1) run.0 now.1 run.4 i (omega (arith, past)) (omega (arith, below)))
      (eq-or-lt_of_le from)

pub words_read : (bytes words : List ℕ) → length words ≡ 16 → ((i : ℕ) → i < 16 → get_or words i 0 ≡ number_in 8 bytes (3 + 8 * i)) → words ≡ words_in bytes
words_read bytes words many each = ext_get_or 0 words (words_in bytes) (many ∙ sym all) (λ i l. each i (omega (arith, l, many)) ∙ sym (here i (omega (arith, l, many))))
  where
    all : length (words_in bytes) ≡ 16
    all = numbers_of_length 8 16 (drop 3 bytes)

    place : (i : ℕ) → 3 + i * 8 ≡ 3 + 8 * i
    place i = omega arith

    here : (i : ℕ) → i < 16 → get_or (words_in bytes) i 0 ≡ number_in 8 bytes (3 + 8 * i)
    here i inside =
        numbers_of_at 8 16 (drop 3 bytes) i inside
        ∙ ap (λ (rest : List ℕ). number_in 8 rest 0) (drop-drop (i * 8) 3 bytes ∙ ap (λ (m : ℕ). drop m bytes) (place i))

-- ---- writing: the first i words are there

module _ (bytes words : List ℕ) (whole : length bytes ≡ 136) (many : length words ≡ 16) where
  abbrev pub written : ℕ → List ℕ
  written i = put_at bytes 3 (bytes_of 8 (take i words))

  first_long : (i : ℕ) → i ≤ 16 → length (bytes_of 8 (take i words)) ≡ i * 8
  first_long i inside = bytes_of_length 8 (take i words) ∙ ap (λ (m : ℕ). m * 8) (length-take-le i words (omega (arith, inside, many)))

  pub word_written : (i : ℕ) (after : List ℕ) → i < 16 → after ≡ put_at (written i) (3 + 8 * i) (to_bytes 8 (get_or words i 0)) → after ≡ written (i + 1)
  unfolding bytes_of
  word_written i after inside put =
      put
      ∙ ap (λ (m : ℕ). put_at (written i) m (to_bytes 8 (get_or words i 0))) place
      ∙ put_put bytes 3 (bytes_of 8 (take i words)) (to_bytes 8 (get_or words i 0)) (omega (arith, inside, first, whole))
      ∙ ap (put_at bytes 3) joined
    where
      first : length (bytes_of 8 (take i words)) ≡ i * 8
      first = first_long i (omega (arith, inside))

      place : 3 + 8 * i ≡ 3 + length (bytes_of 8 (take i words))
      place = omega (arith, first)

      next : suc i ≡ i + 1
      next = omega arith

      joined : bytes_of 8 (take i words) ++ to_bytes 8 (get_or words i 0) ≡ bytes_of 8 (take (i + 1) words)
      joined =
          ap (λ (word : List ℕ). bytes_of 8 (take i words) ++ word) (sym (append-nil (to_bytes 8 (get_or words i 0))))
          ∙ sym (bytes_of_parts 8 (take i words) (get_or words i 0 ∷ []))
          ∙ ap (bytes_of 8) (sym (take-suc words i 0 (omega (arith, inside, many))) ∙ ap (λ (m : ℕ). take m words) next)

  pub none_written : bytes ≡ written 0
  unfolding put_at bytes_of
  none_written = sym (take-append-drop 3 bytes)

-- ---- the fields one after the other are the image

-- what is put after a text that begins the buffer makes the text longer
put_more : (bytes text more : List ℕ) (m : ℕ) → length text ≡ m → m ≤ length bytes → put_at (put_at bytes 0 text) m more ≡ put_at bytes 0 (text ++ more)
put_more bytes text more m long fits =
    ap (λ (k : ℕ). put_at (put_at bytes 0 text) k more) (omega (arith, long)) ∙ put_put bytes 0 text more (omega (arith, long, fits))

module _ (bytes : List ℕ) (t : Tree) (whole : length bytes ≡ 136) (many : length t.words ≡ 16) where
  abbrev words : List ℕ
  words = bytes_of 8 t.words

  abbrev summary : List ℕ
  summary = to_bytes 2 t.stored.summary

  -- the first header, with the words behind it, and with the second header behind these
  abbrev one : List ℕ
  one = 32 ∷ to_bytes 2 128

  abbrev two : List ℕ
  two = one ++ words

  abbrev three : List ℕ
  three = two ++ (33 ∷ to_bytes 2 2)

  words_long : length words ≡ 128
  words_long = bytes_of_length 8 t.words ∙ ap (λ (m : ℕ). m * 8) many

  two_long : length two ≡ 131
  two_long = let front = to_bytes_length 2 128 in let all = length-append one words in omega (arith, front, all, words_long)

  three_long : length three ≡ 134
  three_long = let back = to_bytes_length 2 2 in let all = length-append two (33 ∷ to_bytes 2 2) in omega (arith, back, all, two_long)

  all_long : length (three ++ summary) ≡ 136
  all_long = let back = to_bytes_length 2 t.stored.summary in let all = length-append three summary in omega (arith, back, all, three_long)

  the_image : three ++ summary ≡ image_of t
  unfolding image_of
  the_image =
      append_assoc two (33 ∷ to_bytes 2 2) summary
      ∙ ap₂ (λ (m k : ℕ). (32 ∷ (to_bytes 2 m ++ words)) ++ (33 ∷ (to_bytes 2 k ++ summary))) (sym words_long) (sym (to_bytes_length 2 t.stored.summary))

  pub put_in_turn : (first second third last : List ℕ) → first ≡ put_at bytes 0 (32 ∷ to_bytes 2 128) → second ≡ put_at first 3 (bytes_of 8 t.words)
      → third ≡ put_at second 131 (33 ∷ to_bytes 2 2) → last ≡ put_at third 134 (to_bytes 2 t.stored.summary) → last ≡ image_of t
  put_in_turn first second third last p q r s =
      s
      ∙ ap (λ (held : List ℕ). put_at held 134 summary) (r ∙ ap (λ (held : List ℕ). put_at held 131 (33 ∷ to_bytes 2 2)) (q ∙ ap (λ (held : List ℕ). put_at held 3 words) p
      ∙ put_more bytes one words 3 (ap suc (to_bytes_length 2 128)) (omega (arith, whole)))
      ∙ put_more bytes two (33 ∷ to_bytes 2 2) 131 two_long (omega (arith, whole)))
      ∙ put_more bytes three summary 134 three_long (omega (arith, whole))
      ∙ put_all bytes (three ++ summary) (all_long ∙ sym whole)
      ∙ the_image
