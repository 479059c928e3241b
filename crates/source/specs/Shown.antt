-- What a call of the transcription gives, as a list of numbers that can be compared: 0 alone where it stops; else 1, or 2 for none or no, and then what
-- it gives and the map that it leaves.
use Rattle.std.specs.Prelude.{Bool, true, false, ◌&&◌, List, [], ◌∷◌, map, ℕ, eqb}
use Rattle.std.proofs.Math.Option.{Option, none, some}
use Rattle.source.specs.Machine.{Run, gives, stops}
use Rattle.source.specs.BitmapAllocator.{Bitmap64, Bitmap1024}

abbrev pub word : ℕ → Bitmap64
word bits = record { bits = bits }

abbrev pub tree : ℕ → List ℕ → Bitmap1024
tree bits words = record { bits = bits; child = map word words }

abbrev tree_shown : Bitmap1024 → List ℕ
tree_shown t = t.bits ∷ map (λ (c : Bitmap64). c.bits) t.child

abbrev pub tree_take : Run (Option ℕ × Bitmap1024) → List ℕ
tree_take (gives (some o, t)) = 1 ∷ o ∷ tree_shown t
tree_take (gives (none, t)) = 2 ∷ tree_shown t
tree_take stops = 0 ∷ []

abbrev pub tree_change : Run Bitmap1024 → List ℕ
tree_change (gives t) = 1 ∷ tree_shown t
tree_change stops = 0 ∷ []

abbrev pub word_take : Run (Option ℕ × Bitmap64) → List ℕ
word_take (gives (some o, w)) = 1 ∷ o ∷ w.bits ∷ []
word_take (gives (none, w)) = 2 ∷ w.bits ∷ []
word_take stops = 0 ∷ []

abbrev pub word_change : Run Bitmap64 → List ℕ
word_change (gives w) = 1 ∷ w.bits ∷ []
word_change stops = 0 ∷ []

abbrev pub slot : Run (Option ℕ) → List ℕ
slot (gives (some i)) = 1 ∷ i ∷ []
slot (gives none) = 2 ∷ []
slot stops = 0 ∷ []

abbrev pub truth : Run Bool → List ℕ
truth (gives true) = 1 ∷ []
truth (gives false) = 2 ∷ []
truth stops = 0 ∷ []

abbrev pub number : Run ℕ → List ℕ
number (gives n) = 1 ∷ n ∷ []
number stops = 0 ∷ []

abbrev pub same : List ℕ → List ℕ → Bool
same [] [] = true
same [] (y ∷ ys) = false
same (x ∷ xs) [] = false
same (x ∷ xs) (y ∷ ys) = eqb x y && same xs ys

abbrev pub all : List Bool → Bool
all [] = true
all (b ∷ bs) = b && all bs
