-- Bytes that are put into a buffer from an offset on. Rests on `Bytes`.
use Rattle.std.specs.Prelude.{◌≡◌, length, set}
use Rattle.std.proofs.Common.{sym, ◌∙◌, add-zero, length-append, length-drop, drop_of_length-le, take-append-drop, take_at, drop_at, drop-drop}
use Rattle.std.proofs.Math.Path.{ap}
use mathlib.Core.List.{List, ◌∷◌, [], ◌++◌, append_assoc, append-nil}
use Prim.Native.Nat.{ℕ, suc, ◌+◌, ◌/◌, ◌%◌, ◌^◌, ◌≤◌, ◌<◌}
use native.Mathlib.Omega.{arith}
use Rattle.std.proofs.Math.ListN.{take, drop}
use Rattle.std.proofs.Math.Seq.{length-take-le, set_split}
use Rattle.bits.specs.Bytes.{to_bytes, to_bytes_length, to_low, to_parts}

-- the text in a buffer from an offset on
unfoldable pub put_at : List ℕ → ℕ → List ℕ → List ℕ
put_at buffer offset text = take offset buffer ++ (text ++ drop (offset + length text) buffer)

module _ (buffer : List ℕ) (offset : ℕ) where
  -- the buffer is as long as it was
  pub put_length : (text : List ℕ) → offset + length text ≤ length buffer → length (put_at buffer offset text) ≡ length buffer
  unfolding put_at
  put_length text fits =
      let front = length-take-le offset buffer (omega arith) in
      simp (length-append, front, length-drop) (omega arith)

  -- one text after another is the two of them
  pub put_put : (text more : List ℕ) → offset + length text ≤ length buffer
      → put_at (put_at buffer offset text) (offset + length text) more ≡ put_at buffer offset (text ++ more)
  unfolding put_at
  put_put text more fits = (λ i. front i ++ (more ++ back i)) ∙ joined
    where
      head : List ℕ
      head = take offset buffer ++ text

      all : List ℕ
      all = take offset buffer ++ (text ++ drop (offset + length text) buffer)

      split : all ≡ head ++ drop (offset + length text) buffer
      split = sym (append_assoc (take offset buffer) text (drop (offset + length text) buffer))

      long : length head ≡ offset + length text
      long = let short = length-take-le offset buffer (omega arith) in simp (length-append, short)

      front : take (offset + length text) all ≡ head
      front = ap (take (offset + length text)) split ∙ take_at head _ (offset + length text) long

      ends : offset + length text + length more ≡ offset + length (text ++ more)
      ends = let both = length-append text more in omega (arith, both)

      back : drop (offset + length text + length more) all ≡ drop (offset + length (text ++ more)) buffer
      back =
          ap (drop (offset + length text + length more)) split
          ∙ sym (drop-drop (length more) (offset + length text) (head ++ drop (offset + length text) buffer))
          ∙ ap (drop (length more)) (drop_at head _ (offset + length text) long)
          ∙ drop-drop (length more) (offset + length text) buffer
          ∙ ap (λ (n : ℕ). drop n buffer) ends

      joined : head ++ (more ++ drop (offset + length (text ++ more)) buffer)
          ≡ take offset buffer ++ ((text ++ more) ++ drop (offset + length (text ++ more)) buffer)
      joined =
          append_assoc (take offset buffer) text (more ++ drop (offset + length (text ++ more)) buffer)
          ∙ ap (λ (rest : List ℕ). take offset buffer ++ rest) (sym (append_assoc text more (drop (offset + length (text ++ more)) buffer)))

  -- one byte is put by a store
  pub put_one : (byte : ℕ) → offset < length buffer → set buffer offset byte ≡ put_at buffer offset (byte ∷ [])
  unfolding put_at
  put_one byte inside =
      let next : suc offset ≡ offset + 1 = omega arith in
      set_split buffer offset byte inside ∙ ap (λ (n : ℕ). take offset buffer ++ (byte ∷ drop n buffer)) next

module _ (buffer : List ℕ) (offset : ℕ) where
  -- and two by two
  pub put_two : (low high : ℕ) → offset + 2 ≤ length buffer → set (set buffer offset low) (offset + 1) high ≡ put_at buffer offset (low ∷ (high ∷ []))
  put_two low high inside =
      let kept = put_length buffer offset (low ∷ []) (omega (arith, inside)) in
      ap (λ (held : List ℕ). set held (offset + 1) high) (put_one buffer offset low (omega (arith, inside)))
      ∙ put_one (put_at buffer offset (low ∷ [])) (offset + 1) high (omega (arith, inside, kept))
      ∙ put_put buffer offset (low ∷ []) (high ∷ []) (omega (arith, inside))

  -- a number's low part and then its high part are the number
  pub put_parts : (j k n : ℕ) → offset + j ≤ length buffer → put_at (put_at buffer offset (to_bytes j (n % 256 ^ j))) (offset + j) (to_bytes k (n / 256 ^ j)) ≡ put_at buffer offset (to_bytes (j + k) n)
  put_parts j k n inside =
      let long = to_bytes_length j (n % 256 ^ j) in
      ap (λ (m : ℕ). put_at (put_at buffer offset (to_bytes j (n % 256 ^ j))) (offset + m) (to_bytes k (n / 256 ^ j))) (sym long)
      ∙ put_put buffer offset (to_bytes j (n % 256 ^ j)) (to_bytes k (n / 256 ^ j)) (omega (arith, inside, long))
      ∙ ap (put_at buffer offset) (ap (λ (low : List ℕ). low ++ to_bytes k (n / 256 ^ j)) (to_low j n) ∙ sym (to_parts j k n))

-- no text leaves the buffer as it is
pub put_none : (buffer : List ℕ) (offset : ℕ) → put_at buffer offset [] ≡ buffer
unfolding put_at
put_none buffer offset = ap (λ (n : ℕ). take offset buffer ++ drop n buffer) (add-zero offset) ∙ take-append-drop offset buffer

-- a text as long as the buffer is all that is left
pub put_all : (buffer text : List ℕ) → length text ≡ length buffer → put_at buffer 0 text ≡ text
unfolding put_at
put_all buffer text long = rw (drop_of_length-le buffer {i = 0 + length text} (omega (arith, long))) (append-nil text)
