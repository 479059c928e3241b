-- What takes or frees one after the other leave, as a fold over the turns, is what their series leaves. Assumes nothing.
use mathlib.Core.Path.{◌≡◌, refl, ap, ◌∙◌}
use mathlib.Core.List.{List, [], ◌∷◌}
use Prim.Native.Nat.{ℕ, zero, suc, ◌^◌}
use Rattle.std.specs.List.{fold, range_with_len}
use Rattle.bits.specs.Range.{count}
use Rattle.views.specs.Painting.{slot_in}
use Rattle.slots.specs.Kinds.{plain}
use Rattle.slots.specs.Plain.{Asked, take, free}
use Rattle.slots.proofs.Plain.{plain_calls}
use Rattle.slots.specs.Series.{last_of}
use Rattle.slots.specs.View.{View}
use Rattle.measured.specs.Series.{takes_of, frees_of, left_after, After}

module _ (L : View plain) where
  abbrev pub last : L.Map → List Asked → L.Map
  last m calls = last_of L (plain_calls L.k) m calls

  pub takes_last : (n a times from : ℕ) (m : L.Map) → fold (λ (t : L.Map) (turn : ℕ). left_after L t (take n a)) m (range_with_len from times) ≡ last m (takes_of n a times)
  takes_last n a zero from m = refl
  takes_last n a (suc times) from m = takes_last n a times _ (left_after L m (take n a))

  pub frees_last : (n : ℕ) (starts : List ℕ) (m : L.Map) → fold (λ (t : L.Map) (s : ℕ). left_after L t (free s n)) m starts ≡ last m (frees_of starts n)
  frees_last n [] m = refl
  frees_last n (s ∷ starts) m = frees_last n starts (left_after L m (free s n))

  -- the words of the map that a series leaves, and how many slots they hold
  pub finished : (words_of : L.Map → List ℕ) (first held m : L.Map) (calls : List Asked) (left after : List ℕ) (r : ℕ) → held ≡ first → m ≡ last held calls
      → left ≡ words_of m → r ≡ count (slot_in left) 0 (2 ^ L.k) → after ≡ left → After L words_of first calls r after
  finished words_of first held m calls left after r is ends words used stored =
      (λ i. (used i, stored i)) ∙ ap (λ (l : List ℕ). (count (slot_in l) 0 (2 ^ L.k), l)) (words ∙ ap words_of (ends ∙ ap (λ (t : L.Map). last t calls) is))
