-- What is read at an offset of the record is what `Fields` reads at the start of the bytes from there on. Assumes nothing.
use mathlib.Core.Path.{◌≡◌, sym, ap, ap₂, ◌∙◌}
use mathlib.Core.Bool.{true, false}
use mathlib.Core.List.{List, []}
use Prim.Native.Nat.{ℕ, ◌+◌, ◌-◌, ◌≤◌, ◌<◌}
use native.Mathlib.Omega.{arith}
use lib.ListN.{length, get_or, take, drop, length-drop}
use lib.Seq.{drop-length, get_or-drop, drop-drop}
use Rattle.runner.specs.declared.fields.Field.{Field as CodeField}
use Rattle.runner.specs.declared.fields.Field.TheVariants.{Bad, Cut}
use Rattle.report.specs.Fields.{Kind, kind_of, may_hold, field_of, number_at, head_kind, head_length, after_head, first_field, header_cut, header_bad, body_cut, body_whole}
use Rattle.runner.specs.Inner.{field_says, PieceSays}

-- two bytes further on are two bytes from there
pub number_from : (bytes : List ℕ) (offset i : ℕ) → number_at (drop offset bytes) i ≡ number_at bytes (offset + i)
number_from bytes offset i = rw (drop-drop i offset bytes)

module _ (bytes : List ℕ) (offset : ℕ) (inside : offset < length bytes) where
  abbrev rest : List ℕ
  rest = drop offset bytes

  kind_here : head_kind rest ≡ kind_of (get_or bytes offset 0)
  kind_here =
      let here : offset + 0 ≡ offset = omega arith in
      ap kind_of (get_or-drop offset bytes 0 0 ∙ ap (λ (i : ℕ). get_or bytes i 0) here)

  -- a field after which nothing is left to read
  last : (field : CodeField) → first_field rest ≡ (field_says field, []) → PieceSays bytes offset (record { field = field; next = length bytes })
  last field e = record {
    reads_as = ap (λ (left : List ℕ). (field_says field, left)) (drop-length bytes) ∙ sym e;
    further = inside;
    inside = omega arith;
  }

  pub piece_without_header : length bytes - offset < 3 → PieceSays bytes offset (record { field = Cut; next = length bytes })
  piece_without_header few = last Cut (header_cut rest (rw (length-drop offset bytes) few))

  module _ (whole : 3 ≤ length bytes - offset) (kind : Kind) (n : ℕ) (tagged : kind ≡ kind_of (get_or bytes offset 0)) (told : n ≡ number_at bytes (offset + 1)) where
    header : 3 ≤ length rest
    header = rw (length-drop offset bytes) whole

    is_kind : head_kind rest ≡ kind
    is_kind = kind_here ∙ sym tagged

    is_length : head_length rest ≡ n
    is_length = number_from bytes offset 1 ∙ sym told

    after_length : length (after_head rest) ≡ length bytes - (offset + 3)
    after_length = ap length (drop-drop 3 offset bytes) ∙ length-drop (offset + 3) bytes

    pub piece_bad : may_hold kind n ≡ false → PieceSays bytes offset (record { field = Bad; next = length bytes })
    piece_bad wrong = last Bad (header_bad rest header (ap₂ may_hold is_kind is_length ∙ wrong))

    module _ (good : may_hold kind n ≡ true) where
      held : may_hold (head_kind rest) (head_length rest) ≡ true
      held = ap₂ may_hold is_kind is_length ∙ good

      pub piece_without_body : length bytes - (offset + 3) < n → PieceSays bytes offset (record { field = Cut; next = length bytes })
      piece_without_body few = last Cut (body_cut rest header held (rw (is_length, after_length) few))

      pub piece_whole : n ≤ length bytes - (offset + 3) → (field : CodeField) → field_says field ≡ field_of kind (take n (drop (offset + 3) bytes))
          → PieceSays bytes offset (record { field = field; next = offset + 3 + n })
      piece_whole enough field made = record {
        reads_as = sym (body_whole rest header held (rw (is_length, after_length) enough) ∙ (λ i. (is_made i, is_left i)));
        further = omega arith;
        inside = omega arith;
      }
        where
          is_made : field_of (head_kind rest) (take (head_length rest) (after_head rest)) ≡ field_says field
          is_made = (λ i. field_of (is_kind i) (take (is_length i) (drop-drop 3 offset bytes i))) ∙ sym made

          is_left : drop (head_length rest) (after_head rest) ≡ drop (offset + 3 + n) bytes
          is_left = (λ i. drop (is_length i) (drop-drop 3 offset bytes i)) ∙ drop-drop n (offset + 3) bytes
