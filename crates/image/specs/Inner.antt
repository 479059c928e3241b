-- What the private functions of this crate do. Rests on `Says`.
use Rattle.std.specs.Prelude.{◌≡◌, not, List, [], ◌∷◌, ℕ, ◌^◌, ◌<◌, ℤ, Result, Ok, Err}
use Rattle.answers.specs.Said.{Said, ◌when◌, judged, on_value, leaving}
use Rattle.answers.specs.Answers.{answer_says, answer_says_by}
use Rattle.answers.specs.declared.Changed.{Changed}
use Rattle.answers.specs.declared.Reply.{Reply}
use Rattle.answers.specs.declared.Reply.TheVariants.{At as at, Done as ok}
use Rattle.answers.specs.declared.Refusal.{Refusal}
use Rattle.slots.specs.Sets.{Slots}
use Rattle.slots.specs.Calls.{Call}
use Rattle.tree.specs.declared.Tree.{Tree}
use Rattle.tree.specs.Says as Tree
use Rattle.image.specs.declared.ImageRefusal.{ImageRefusal}
use Rattle.image.specs.Image.{image_of, is_image, held_in}
use Rattle.image.specs.ImageAnswers.{image_number_of, numbered}
use Rattle.image.specs.Says.{image_checks, used, on_bytes, call_of, answered_on, told}

-- the map that the bytes hold: where they are an image, and where it is sound besides
abbrev pub HeldSays : List ℕ → Result Tree ImageRefusal → Type 0
HeldSays bytes r = answer_says_by image_number_of r ≡ judged ((16 when not (is_image bytes)) ∷ []) (held_in bytes)

abbrev pub SoundSays : List ℕ → Result Tree ImageRefusal → Type 0
SoundSays bytes r = answer_says_by image_number_of r ≡ judged (image_checks bytes) (held_in bytes)

-- what used says, before it is told as one number
abbrev pub CountedSays : List ℕ → Result ℕ ImageRefusal → Type 0
CountedSays bytes r = answer_says_by image_number_of r ≡ (answered_on bytes (call_of bytes used)).0

-- the start that is told fits a signed number
abbrev pub Short : Result Reply Refusal → Type 0
Short (Ok (at start)) = start < 2 ^ 31
Short (Ok ok) = Unit {0}
Short (Err why) = Unit {0}

-- the number that a change of the map comes to, and the image of the map that it left; on a refusal the bytes
unfoldable pub left_on : List ℕ → Changed Refusal Tree → Said ℕ × List ℕ
left_on bytes r = leaving (on_value numbered (answer_says r.answer)) (λ _. image_of r.map) bytes

abbrev pub LeftIn : List ℕ → Changed Refusal Tree → ℤ → List ℕ → Type 0
LeftIn bytes changed r after = (r, after) ≡ told (left_on bytes changed)

-- of a change of a map that carries out a call on its slots, whichever it is: what the call comes to on the bytes
abbrev pub OnImage : List ℕ → (Tree → Changed Refusal Tree → Type 0) → ℤ → List ℕ → Type 0
OnImage bytes change r after =
    (call : Tree → Call Slots Reply) → ((t : Tree) (changed : Changed Refusal Tree) → change t changed → Tree.Leaves t (call t) changed)
    → (r, after) ≡ told (answered_on bytes (on_bytes (call (held_in bytes))))
