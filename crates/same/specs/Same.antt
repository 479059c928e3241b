-- When ours says the same as an answer of the commit's code, and what a listed departure is. Its `None` is refusal 3, 4 or 7, and the map is the one
-- that it leaves.
use Rattle.std.specs.Prelude.{◌≡◌, ◌⊎◌, ℕ}
use Rattle.std.proofs.Math.Option.{Option, none, some}
use Rattle.answers.specs.Said.{Said, value, refused}
use Rattle.answers.specs.declared.Reply.{Reply}
use Rattle.answers.specs.declared.Reply.TheVariants.{At as at, Done as ok}

abbrev pub IsNone : ℕ → Type 0
IsNone r = (r ≡ 3) ⊎ ((r ≡ 4) ⊎ (r ≡ 7))

-- of a take: the start and the map left, or none and the map left
abbrev pub SameTake : {M : Type 0} → Option ℕ → M → Said Reply × M → Type 0
SameTake (some o) left ours = ours ≡ (value (at o), left)
SameTake none left ours = (r : ℕ) × IsNone r × (ours ≡ (refused r, left))

-- of a set or a free: it is done, and the map left
abbrev pub SameChange : {M : Type 0} → M → Said Reply × M → Type 0
SameChange left ours = ours ≡ (value ok, left)

-- of next free
abbrev pub SameSlot : Option ℕ → Said ℕ → Type 0
SameSlot (some i) ours = ours ≡ value i
SameSlot none ours = (r : ℕ) × IsNone r × (ours ≡ refused r)

-- a departure: its fault holds, ours refuses by its number, and the map handed back is the map handed in
abbrev pub Departs : {M : Type 0} → ℕ → Type 0 → M → Said Reply × M → Type 0
Departs number fault map ours = fault × (ours ≡ (refused number, map))

-- of a helper, which has no map
abbrev pub Refuses : {A : Type 0} → ℕ → Type 0 → Said A → Type 0
Refuses number fault ours = fault × (ours ≡ refused number)
