-- A field for each part of a map, in a row beside the map: field i has to agree with part i. Rests on `Keeping`.
use Rattle.std.specs.Prelude.{◌≡◌, ◌↔◌, Bool, true, List, ℕ, ◌<◌, T, length, get_or}
use Rattle.std.proofs.Common.{sym, zero-le, arith}
use Rattle.bits.specs.Range.{every, finds_every, same_test}
use Rattle.slots.specs.Kinds.{Kind}
use Rattle.slots.specs.View.{View}
use Rattle.views.specs.Keeping.{Kept}
use Rattle.views.specs.Words.{listed, length_listed, listed_first, listed_is}

-- n parts of a map, each a map of its own, beside which a field is kept; `none` stands for a field past the last
module _ {K J : Kind} (L : View K) (n : ℕ) (P : View J) (part : L.Map → ℕ → P.Map)
    (part_sound : (m : L.Map) → L.Sound m → (i : ℕ) → i < n → P.Sound (part m i))
    (part-map : (m : L.Map) → L.IsMap m → (i : ℕ) → i < n → P.IsMap (part m i))
    (F : Kept P) (none : F.Field) where
  abbrev Row : Type 0
  Row = List F.Field

  abbrev pub RowAgrees : L.Map → Row → Type 0
  RowAgrees m fields = (i : ℕ) → i < n → F.Agrees (part m i) (get_or fields i none)

  abbrev pub row_agrees : L.Map → Row → Bool
  row_agrees m fields = every (λ i. F.agrees (part m i) (get_or fields i none)) 0 n

  abbrev pub row_of : L.Map → Row
  row_of m = listed (λ i. F.made (part m i)) 0 n

  pub record IsRow (fields : Row) : Type 0 where
    pub so_many : length fields ≡ n
    pub each_fits : (i : ℕ) → i < n → F.IsField (get_or fields i none)

  pub finds_row : (m : L.Map) (fields : Row) → T (row_agrees m fields) ↔ RowAgrees m fields
  finds_row m fields =
      let found = finds_every (λ i. F.agrees (part m i) (get_or fields i none)) 0 n in (
        λ t i l. (F.finds_agrees (part m i) (get_or fields i none)).0 (rw (found.0 t i zero-le (omega arith)) tt),
        λ h. found.1 (λ i _ l.
            same_test (F.agrees (part m i) (get_or fields i none)) true (λ _. tt) (λ _. (F.finds_agrees (part m i) (get_or fields i none)).1 (h i (omega arith)))),
      )

  made_of : (m : L.Map) (i : ℕ) → i < n → get_or (row_of m) i none ≡ F.made (part m i)
  made_of m i l = listed_first (λ j. F.made (part m j)) n i none l

  pub made_row : (m : L.Map) → L.IsMap m → RowAgrees m (row_of m)
  made_row m held i l = rw (made_of m i l) (F.made_agrees (part m i) (part-map m held i l))

  pub is_row : (m : L.Map) → IsRow (row_of m)
  is_row m = record {
    so_many = length_listed (λ i. F.made (part m i)) 0 n;
    each_fits = λ i l. rw (made_of m i l) (F.made_field (part m i));
  }

  pub only_row : (m : L.Map) (fields : Row) → L.Sound m → L.IsMap m → IsRow fields → RowAgrees m fields → row_of m ≡ fields
  only_row m fields sound held fits h = sym (listed_is fields (λ i. F.made (part m i)) n none fits.so_many (λ i l.
      sym (F.only (part m i) (get_or fields i none) (part_sound m sound i l) (part-map m held i l) (fits.each_fits i l) (h i l))))
