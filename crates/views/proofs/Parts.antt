-- What stood in specs/Parts and rests on theorems there: moved, its statements unchanged. Rests on `Parts`.
use Rattle.std.specs.Prelude.{List, ℕ, ◌<◌}
use Rattle.slots.specs.Kinds.{Kind}
use Rattle.slots.specs.View.{View}
use Rattle.views.specs.Keeping.{Kept}
use Rattle.views.specs.Parts.{RowAgrees, row_agrees, row_of, IsRow, finds_row, made_row, is_row, only_row}

-- n parts of a map, each a map of its own, beside which a field is kept; `none` stands for a field past the last
module _ {K J : Kind} (L : View K) (n : ℕ) (P : View J) (part : L.Map → ℕ → P.Map)
    (part_sound : (m : L.Map) → L.Sound m → (i : ℕ) → i < n → P.Sound (part m i))
    (part-map : (m : L.Map) → L.IsMap m → (i : ℕ) → i < n → P.IsMap (part m i))
    (F : Kept P) (none : F.Field) where
  abbrev Row : Type 0
  Row = List F.Field

  abbrev pub row_kept : Kept L
  row_kept = record {
    Field = Row;
    IsField = IsRow L n P part part_sound part-map F none;
    Agrees = RowAgrees L n P part part_sound part-map F none;
    agrees = row_agrees L n P part part_sound part-map F none;
    finds_agrees = finds_row L n P part part_sound part-map F none;
    made = row_of L n P part part_sound part-map F none;
    made_agrees = made_row L n P part part_sound part-map F none;
    made_field = is_row L n P part part_sound part-map F none;
    only = only_row L n P part part_sound part-map F none;
  }
