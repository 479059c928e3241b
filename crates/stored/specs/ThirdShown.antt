-- The third level of the transcription, and what its calls give, as a list of numbers like those of `source`'s Shown.
use Rattle.std.proofs.Math.Option.{Option, none, some}
use Rattle.std.specs.Prelude.{List, [], ◌∷◌, ◌++◌, map, ℕ}
use Rattle.source.specs.Machine.{Run, gives, stops}
use Rattle.source.specs.BitmapAllocator.{Bitmap64, Bitmap1024, Bitmap16384}

abbrev pub third : ℕ → List Bitmap1024 → Bitmap16384
third bits trees = record { bits = bits; child = trees }

abbrev trees_shown : List Bitmap1024 → List ℕ
trees_shown [] = []
trees_shown (t ∷ ts) = t.bits ∷ (map (λ (c : Bitmap64). c.bits) t.child ++ trees_shown ts)

abbrev pub third_shown : Bitmap16384 → List ℕ
third_shown t = t.bits ∷ trees_shown t.child

abbrev pub third_take : Run (Option ℕ × Bitmap16384) → List ℕ
third_take (gives (some o, t)) = 1 ∷ o ∷ third_shown t
third_take (gives (none, t)) = 2 ∷ third_shown t
third_take stops = 0 ∷ []

abbrev pub third_change : Run Bitmap16384 → List ℕ
third_change (gives t) = 1 ∷ third_shown t
third_change stops = 0 ∷ []
