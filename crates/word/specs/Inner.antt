-- What the word's own helper answers. Rests on `Layout` and on the words of `rows`.
use Rattle.std.specs.Prelude.{Bool, [], ◌∷◌, ℕ, get_or}
use Rattle.views.specs.Painting.{painted_words}
use Rattle.word.specs.declared.Word.{Word}
use Rattle.word.specs.Layout.{word_of}

-- the map with a run painted
abbrev pub painted_word : ℕ → ℕ → ℕ → Bool → Word
painted_word bits start n used = word_of (get_or (painted_words (bits ∷ []) start n used) 0 0)
