-- Cutting a record into fields, as document 01 has it: a tag of one byte, a length of two, a body; numbers low byte first. What a field does is not
-- said here. Rests on the numbers from bytes of `bits` and on the series of `slots`.
use Rattle.std.specs.Prelude.{◌≡◌, refl, Bool, true, false, cond, ◌&&◌, List, [], ◌∷◌, ℕ, zero, suc, ◌+◌, ◌*◌, ◌≤◌, ◌<◌, leb, ltb, eqb, length, get_or, take, drop}
use Rattle.std.proofs.Common.{arith, drop_of_length-le, drop-cons}
use borrow.Author.Tests.{lt-ltb, le-ltb, le-leb, lt-leb, ne_eqb}
use Rattle.bits.specs.Bytes.{from_bytes, number_in}
use Rattle.slots.specs.Plain.{Asked, take as askTake, claim as askClaim, free as askFree}

-- ---- the header

-- what a tag asks for
pub data Kind : Type 0 where
  takes : Kind
  claims : Kind
  frees : Kind
  skips : Kind
  stops : Kind

-- tags are decided by range
abbrev pub kind_of : ℕ → Kind
kind_of tag =
    cond (eqb tag 1) takes
    (cond (eqb tag 2) claims
    (cond (eqb tag 3) frees
    (cond (leb 4 tag && leb tag 127) skips
    stops)))

pub tags_named : (kind_of 0 ≡ stops) × (kind_of 1 ≡ takes) × (kind_of 2 ≡ claims) × (kind_of 3 ≡ frees)
tags_named = (refl, refl, refl, refl)

pub tags_skipped : (tag : ℕ) → 4 ≤ tag → tag ≤ 127 → kind_of tag ≡ skips
tags_skipped tag from to =
    rw (ne_eqb tag 1 (λ e. omega arith), ne_eqb tag 2 (λ e. omega arith), ne_eqb tag 3 (λ e. omega arith), le-leb 4 tag from, le-leb tag 127 to)

pub tags_stopping : (tag : ℕ) → 127 < tag → kind_of tag ≡ stops
tags_stopping tag past =
    rw (ne_eqb tag 1 (λ e. omega arith), ne_eqb tag 2 (λ e. omega arith), ne_eqb tag 3 (λ e. omega arith), le-leb 4 tag (omega arith), lt-leb tag 127 past)

-- whether a body may be so long: one that is skipped has any length, and a stopping tag has none that is right
abbrev pub may_hold : Kind → ℕ → Bool
may_hold takes n = eqb n 3
may_hold claims n = eqb n 4
may_hold frees n = eqb n 4
may_hold skips n = true
may_hold stops n = false

-- ---- a field

pub data Field : Type 0 where
  -- a call with its numbers
  call : Asked → Field
  -- a field that is passed over
  skip : Field
  -- a header that stops the run; a header or a body that the record does not hold whole
  bad : Field
  cut : Field

-- the number in the two bytes from an offset on; bytes that are not there count nothing
abbrev pub number_at : List ℕ → ℕ → ℕ
number_at bytes i = number_in 2 bytes i

-- what a kind makes of its body's two numbers. A take's second one, the exponent, has one byte
abbrev pub field_of : Kind → List ℕ → Field
field_of takes body = call (askTake (number_at body 0) (number_at body 2))
field_of claims body = call (askClaim (number_at body 0) (number_at body 2))
field_of frees body = call (askFree (number_at body 0) (number_at body 2))
field_of skips body = skip
field_of stops body = bad

-- so, byte by byte
pub one_byte : (a : ℕ) → from_bytes (a ∷ []) ≡ a
unfolding from_bytes
one_byte a = omega arith

pub two_bytes : (a b : ℕ) → from_bytes (a ∷ b ∷ []) ≡ b * 256 + a
unfolding from_bytes
two_bytes a b = omega arith

pub number_none : (bytes : List ℕ) (i : ℕ) → length bytes ≤ i → number_at bytes i ≡ 0
unfolding from_bytes
number_none bytes i past = rw (drop_of_length-le bytes {i = i} past)

pub number_one : (bytes : List ℕ) (i : ℕ) → suc i ≡ length bytes → number_at bytes i ≡ get_or bytes i 0
number_one bytes i last = rw (drop-cons bytes i 0 (omega arith), drop_of_length-le bytes {i = suc i} (omega arith)) (one_byte (get_or bytes i 0))

module _ (a b c d : ℕ) where
  pub take_body : field_of takes (a ∷ b ∷ c ∷ []) ≡ call (askTake (b * 256 + a) c)
  take_body = rw (two_bytes a b, one_byte c)

  pub claim_body : field_of claims (a ∷ b ∷ c ∷ d ∷ []) ≡ call (askClaim (b * 256 + a) (d * 256 + c))
  claim_body = rw (two_bytes a b, two_bytes c d)

  pub free_body : field_of frees (a ∷ b ∷ c ∷ d ∷ []) ≡ call (askFree (b * 256 + a) (d * 256 + c))
  free_body = rw (two_bytes a b, two_bytes c d)

-- what a header says: its kind, and how long its body is; and the bytes after it
abbrev pub head_kind : List ℕ → Kind
head_kind bytes = kind_of (get_or bytes 0 0)

abbrev pub head_length : List ℕ → ℕ
head_length bytes = number_at bytes 1

abbrev pub after_head : List ℕ → List ℕ
after_head bytes = drop 3 bytes

-- how a field reads: is its header short, is its header good, is its body short. The header is judged before the body, and after a stop nothing is
-- left to read
abbrev pub reads : Bool → Bool → Bool → Field × List ℕ → Field × List ℕ
reads true good ends whole = (cut, [])
reads false false ends whole = (bad, [])
reads false true true whole = (cut, [])
reads false true false whole = whole

-- the first field of some bytes, and the bytes that are left to read after it. A header is three bytes
unfoldable pub first_field : List ℕ → Field × List ℕ
first_field bytes =
    let kind = head_kind bytes in
    let n = head_length bytes in
    let after = after_head bytes in
    reads (ltb (length bytes) 3) (may_hold kind n) (ltb (length after) n) (field_of kind (take n after), drop n after)

module _ (bytes : List ℕ) where
  -- one or two bytes left give `cut`, whatever the tag
  pub header_cut : length bytes < 3 → first_field bytes ≡ (cut, [])
  unfolding first_field
  header_cut few = rw (lt-ltb (length bytes) 3 few)

  -- a whole header with a stopping tag or a wrong length gives `bad`, whether its body is there or not
  pub header_bad : 3 ≤ length bytes → may_hold (head_kind bytes) (head_length bytes) ≡ false → first_field bytes ≡ (bad, [])
  unfolding first_field
  header_bad whole wrong = rw (le-ltb (length bytes) 3 whole, wrong)

  module _ (whole : 3 ≤ length bytes) (good : may_hold (head_kind bytes) (head_length bytes) ≡ true) where
    -- a good header whose body is short gives `cut`, a skipped one too
    pub body_cut : length (after_head bytes) < head_length bytes → first_field bytes ≡ (cut, [])
    unfolding first_field
    body_cut few = rw (le-ltb (length bytes) 3 whole, good, lt-ltb (length (after_head bytes)) (head_length bytes) few)

    pub body_whole : head_length bytes ≤ length (after_head bytes)
        → first_field bytes ≡ (field_of (head_kind bytes) (take (head_length bytes) (after_head bytes)), drop (head_length bytes) (after_head bytes))
    unfolding first_field
    body_whole enough = rw (le-ltb (length bytes) 3 whole, good, le-ltb (length (after_head bytes)) (head_length bytes) enough)

-- ---- the whole record

-- its first fields, at most so many
unfoldable pub fields_within : ℕ → List ℕ → List Field
fields_within zero bytes = []
fields_within (suc n) [] = []
fields_within (suc n) (b ∷ bytes) = let first = first_field (b ∷ bytes) in first.0 ∷ fields_within n first.1

-- all of them: there are no more than there are bytes
unfoldable pub fields : List ℕ → List Field
fields bytes = fields_within (length bytes) bytes

-- ---- so a record is its first field and then the fields of what is left to read

pub fields_none : fields [] ≡ []
unfolding fields fields_within
fields_none = refl
