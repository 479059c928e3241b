-- Where the commit's code gives an answer on a map, ours is the same, save for the listed departures: on a sound map, for all numbers, and for every outcome
-- that a contract allows. And where none holds and the numbers pass, it does give an answer. Said and proved once, over any layout; each size has a value
-- of `SameCalls`. Rests on `Calls` and `Seen`.
use Rattle.std.specs.Prelude.{◌≡◌, ◌⊎◌, Bool, ℕ, ◌+◌, ◌^◌, ◌≤◌, ◌<◌}
use Rattle.std.proofs.Math.Option.{Option}
use Rattle.answers.specs.Said.{Said, value}
use Rattle.answers.specs.declared.Reply.{Reply}
use Rattle.slots.specs.Sets.{AllUsed}
use Rattle.slots.specs.Kinds.{plain}
use Rattle.slots.specs.View.{View}
use Rattle.slots.specs.Demands.{TakeSays, FreeSays, SetSays, NextFreeSays, GetSays, EmptySays, UsedSays}
use Rattle.source.specs.Machine.{gives}
use Rattle.source.specs.BitmapAllocator.{BitmapAllocator, alloc, free}
use Rattle.same.specs.Whenever.{Whenever}
use Rattle.same.specs.Same.{SameTake, SameChange, SameSlot}
use Rattle.same.specs.Calls.{TakeDeparts, SetDeparts, FreeDeparts}

-- an outcome of ours is a value of Out: what it says, and the map that it leaves
module _ (L : View plain) {Self : Type 0} (B : BitmapAllocator Self) (ours : Self → L.Map) (Out : Type 0) (said : Out → Said Reply) (left : Out → L.Map) where
  pub record SameCalls (m : Self) : Type 0 where
    -- whenever there is an answer. Take, for any count of turns
    pub take_same : (turns n a : ℕ) (r : Out) → TakeSays L Out said left (ours m) n a r
        → Whenever (alloc B turns m n a) (λ out. TakeDeparts n (ours m) (said r, left r) ⊎ SameTake out.0 (ours out.1) (said r, left r))
    pub set_same : (s n : ℕ) (v : Bool) (r : Out) → SetSays L Out said left (ours m) s n v r
        → Whenever (B.set_to m s n v) (λ after. SetDeparts L.k s n (ours m) (said r, left r) ⊎ SameChange (ours after) (said r, left r))
    pub free_same : (s n : ℕ) (r : Out) → FreeSays L Out said left (ours m) s n r
        → Whenever (free B m s n) (λ after. FreeDeparts L.k (L.state_of (ours m)) s n (ours m) (said r, left r) ⊎ SameChange (ours after) (said r, left r))
    pub next_free_same : (s : ℕ) (x : Said ℕ) → NextFreeSays L Out said left (ours m) s x → Whenever (B.next_free m s) (λ found. SameSlot found x)
    pub get_same : (i : ℕ) (x : Said Bool) → GetSays L Out said left (ours m) i x → Whenever (B.get m i) (λ b. x ≡ value b)
    pub empty_same : (x : Said Bool) → EmptySays L Out said left (ours m) x → x ≡ value (B.empty m)
    pub used_same : (x : Said ℕ) → UsedSays L Out said left (ours m) x → Whenever (B.used m) (λ c. x ≡ value c)
    -- and there is one, where no departure holds and the numbers pass. Take, with turns enough
    pub take_is : (turns n a : ℕ) → 2 ^ L.k + 1 < turns → 0 < n → n < 2 ^ 64 → (r : Out) → TakeSays L Out said left (ours m) n a r
        → (out : Option ℕ × Self) × (alloc B turns m n a ≡ gives out) × SameTake out.0 (ours out.1) (said r, left r)
    pub set_is : (s n : ℕ) (v : Bool) → 0 < n → s + n ≤ 2 ^ L.k → (r : Out) → SetSays L Out said left (ours m) s n v r
        → (after : Self) × (B.set_to m s n v ≡ gives after) × SameChange (ours after) (said r, left r)
    pub free_is : (s n : ℕ) → 0 < n → s + n ≤ 2 ^ L.k → AllUsed (L.state_of (ours m)) s n → (r : Out) → FreeSays L Out said left (ours m) s n r
        → (after : Self) × (free B m s n ≡ gives after) × SameChange (ours after) (said r, left r)
    pub next_free_is : (s : ℕ) → s < 2 ^ L.k → (x : Said ℕ) → NextFreeSays L Out said left (ours m) s x
        → (found : Option ℕ) × (B.next_free m s ≡ gives found) × SameSlot found x
    pub get_is : (i : ℕ) → i < 2 ^ L.k → (x : Said Bool) → GetSays L Out said left (ours m) i x → (b : Bool) × (B.get m i ≡ gives b) × (x ≡ value b)
    pub used_is : (x : Said ℕ) → UsedSays L Out said left (ours m) x → (c : ℕ) × (B.used m ≡ gives c) × (x ≡ value c)
