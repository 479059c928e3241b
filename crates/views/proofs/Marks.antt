-- What stood in specs/Marks and rests on theorems there: moved, its statements unchanged. Rests on `Marks`.
use Rattle.std.specs.Prelude.{◌↔◌, Bool, T}
use Prim.Native.Nat.{ℕ, ◌^◌, ◌≤◌}
use Rattle.views.specs.Keeping.{Kept}
use Rattle.views.proofs.Keeping.{bits_kept}
use Rattle.views.proofs.Words.{words_view}
use Rattle.views.specs.Marks.{passes_at, IsAt, finds_at}

-- ---- what a bit says

-- the test finds what is said of a word
module _ (test : ℕ → Bool) (Is : ℕ → Type 0) (finds : (word : ℕ) → T (test word) ↔ Is word) where
  abbrev pub marks_kept : (j : ℕ) (most : 2 ^ j ≤ 256) → Kept (words_view j most)
  marks_kept j most = bits_kept (words_view j most) 16 (IsAt test Is finds) (passes_at test) (finds_at test Is finds)
