-- Texts that are put into a buffer one after the other, from an offset on; what has no room is not put. Rests on `Decimal` and on the buffers of `bits`.
use Rattle.std.specs.Prelude.{◌≡◌, refl, true, false, List, [], ◌∷◌, ◌++◌, ℕ, ◌+◌, ◌≤◌, ◌<◌, ltb}
use Rattle.std.proofs.Common.{sym, ap, ◌∙◌, zero-add, arith, length-append, lt-ltb, le-ltb, ltb-true, ltb-false}
use Rattle.std.proofs.Math.ListN.{length}
use Rattle.bits.specs.Range.{either}
use Rattle.bits.specs.Buffers.{put_at, put_length, put_put, put_none}
use Rattle.texts.specs.Decimal.{decimal}

-- the end of a line
abbrev pub end : List ℕ
end = 10 ∷ []

-- the offset after the text, and the buffer with it; where it has no room, both as they are
unfoldable pub put_in : ℕ × List ℕ → List ℕ → ℕ × List ℕ
put_in held text = elim (ltb (length held.1) (held.0 + length text)) [ true ↦ held | false ↦ (held.0 + length text, put_at held.1 held.0 text) ]

-- some texts, one after the other
unfoldable pub put_all : ℕ × List ℕ → List (List ℕ) → ℕ × List ℕ
put_all held [] = held
put_all held (text ∷ texts) = put_all (put_in held text) texts

-- all of them as one
unfoldable pub joined : List (List ℕ) → List ℕ
joined [] = []
joined (text ∷ texts) = text ++ joined texts

-- ---- the contracts

abbrev pub PutSays : List ℕ → ℕ → List ℕ → ℕ → List ℕ → Type 0
PutSays before offset words r after = (r, after) ≡ put_in (offset, before) words

abbrev pub PutNumberSays : List ℕ → ℕ → ℕ → ℕ → List ℕ → Type 0
PutNumberSays before offset n r after = (r, after) ≡ put_in (offset, before) (decimal n)

-- any two outcomes that one allows coincide
pub put_one_answer : (before : List ℕ) (offset : ℕ) (words : List ℕ) (r q : ℕ) (after other : List ℕ) → PutSays before offset words r after → PutSays before offset words q other
    → (r ≡ q) × (after ≡ other)
put_one_answer before offset words r q after other p o = (ap (λ x. x.0) (p ∙ sym o), ap (λ x. x.1) (p ∙ sym o))

pub put_number_one_answer : (before : List ℕ) (offset n r q : ℕ) (after other : List ℕ) → PutNumberSays before offset n r after → PutNumberSays before offset n q other
    → (r ≡ q) × (after ≡ other)
put_number_one_answer before offset n r q after other p o = (ap (λ x. x.0) (p ∙ sym o), ap (λ x. x.1) (p ∙ sym o))

-- ---- what they mean

module _ (offset : ℕ) (buffer : List ℕ) where
  pub put_fits : (text : List ℕ) → offset + length text ≤ length buffer → put_in (offset, buffer) text ≡ (offset + length text, put_at buffer offset text)
  unfolding put_in
  put_fits text fits = rw (le-ltb (length buffer) (offset + length text) fits, put_in)

  pub put_no_room : (text : List ℕ) → length buffer < offset + length text → put_in (offset, buffer) text ≡ (offset, buffer)
  unfolding put_in
  put_no_room text little = rw (lt-ltb (length buffer) (offset + length text) little, put_in)

-- the buffer is as long as it was
put_in_long : (held : ℕ × List ℕ) (text : List ℕ) → length (put_in held text).1 ≡ length held.1
put_in_long held text =
    either (ltb (length held.1) (held.0 + length text))
    (λ little. ap (λ out. length out.1) (put_no_room held.0 held.1 text (ltb-true _ _ little)))
    (λ room. let fits = ltb-false _ _ room in ap (λ out. length out.1) (put_fits held.0 held.1 text fits) ∙ put_length held.1 held.0 text fits)

pub put_all_long : (texts : List (List ℕ)) (held : ℕ × List ℕ) → length (put_all held texts).1 ≡ length held.1
unfolding put_all
put_all_long [] held = refl
put_all_long (text ∷ texts) held = put_all_long texts (put_in held text) ∙ put_in_long held text

-- texts that have room stand one right after the other
pub put_all_fits : (texts : List (List ℕ)) (offset : ℕ) (buffer : List ℕ) → offset + length (joined texts) ≤ length buffer
    → put_all (offset, buffer) texts ≡ (offset + length (joined texts), put_at buffer offset (joined texts))
unfolding put_all joined
put_all_fits [] offset buffer fits = (λ i. (same i, sym (put_none buffer offset) i))
  where
    same : offset ≡ offset + 0
    same = omega arith
put_all_fits (text ∷ texts) offset buffer fits =
    let both = length-append text (joined texts) in
    let room : offset + length text ≤ length buffer = omega (arith, both, fits) in
    let kept = put_length buffer offset text room in
    let ends : offset + length text + length (joined texts) ≡ offset + length (text ++ joined texts) = omega (arith, both) in
    ap (λ held. put_all held texts) (put_fits offset buffer text room)
    ∙ put_all_fits texts (offset + length text) (put_at buffer offset text) (omega (arith, both, fits, kept))
    ∙ (λ i. (ends i, put_put buffer offset text (joined texts) room i))

-- some texts and then others are all of them
pub put_all_more : (texts others : List (List ℕ)) (held : ℕ × List ℕ) → put_all held (texts ++ others) ≡ put_all (put_all held texts) others
unfolding put_all
put_all_more [] others held = refl
put_all_more (text ∷ texts) others held = put_all_more texts others (put_in held text)

pub joined_more : (texts others : List (List ℕ)) → length (joined (texts ++ others)) ≡ length (joined texts) + length (joined others)
unfolding joined
joined_more [] others = sym (zero-add (length (joined others)))
joined_more (text ∷ texts) others =
    let rest = joined_more texts others in
    let here = length-append text (joined (texts ++ others)) in
    let there = length-append text (joined texts) in
    omega (arith, rest, here, there)
