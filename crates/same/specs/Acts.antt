-- When an allocator answers as a set of slots does. Rests on the transcription, on `Whenever` and on `Answering`.
use Rattle.std.specs.Prelude.{◌≡◌, Bool, ℕ, ◌+◌, ◌^◌, ◌≤◌, ◌<◌}
use Rattle.std.proofs.Math.Option.{Option, none, some}
use Rattle.bits.specs.Range.{count}
use Rattle.slots.specs.Sets.{Slots, painted, all_free}
use Rattle.slots.specs.Promises.{NextFree, NoneFree}
use Rattle.source.specs.BitmapAllocator.{BitmapAllocator}
use Rattle.same.specs.Whenever.{Whenever}
use Rattle.same.specs.Answering.{Answers}

-- what an answer of next_free says
abbrev pub Found : ℕ → Slots → ℕ → Option ℕ → Type 0
Found k S s (some i) = NextFree k S s i
Found k S s none = NoneFree k S s

-- what an allocator's methods give at each good value, in terms of the slots that it holds, and where they do give an answer
pub record Acts {Self : Type 0} (B : BitmapAllocator Self) (k : ℕ) (holds : Self → Slots) (Good : Self → Type 0) : Type 0 where
  pub capacity : B.CAPACITY ≡ 2 ^ k
  pub finds : (m : Self) → Good m → (s : ℕ) → Whenever (B.next_free m s) (Found k (holds m) s)
  pub reads : (m : Self) → Good m → (i : ℕ) → Whenever (B.get m i) (λ b. (i < 2 ^ k) × (b ≡ holds m i))
  -- at any numbers; past the end it stops or is cut off
  pub paints : (m : Self) → Good m → (s n : ℕ) (v : Bool)
      → Whenever (B.set_to m s n v) (λ after. Good after × ((i : ℕ) → i < 2 ^ k → holds after i ≡ painted (holds m) s n v i))
  pub counts : (m : Self) → Good m → Whenever (B.used m) (λ c. c ≡ count (holds m) 0 (2 ^ k))
  pub vacant : (m : Self) → Good m → B.empty m ≡ all_free (holds m) 0 (2 ^ k)
  pub finds_some : (m : Self) → Good m → (s : ℕ) → s < 2 ^ k → Answers (B.next_free m s)
  pub reads_some : (m : Self) → Good m → (i : ℕ) → i < 2 ^ k → Answers (B.get m i)
  pub paints_some : (m : Self) → Good m → (s n : ℕ) (v : Bool) → 0 < n → s + n ≤ 2 ^ k → Answers (B.set_to m s n v)
  pub counts_some : (m : Self) → Good m → Answers (B.used m)
