-- The contract of each call: of write and read the image and the map, of the calls for C the signed number and every byte at the end. Rests on `Image` and on
-- the calls of `slots`.
use Rattle.std.specs.Prelude.{◌≡◌, not, List, [], ◌∷◌, ◌++◌, ℕ, eqb, ℤ, length, Result}
use Rattle.answers.specs.Said.{Said, Check, ◌when◌, judged, leaving}
use Rattle.answers.specs.Answers.{answer_says_by}
use Rattle.answers.specs.declared.Reply.{Reply}
use Rattle.slots.specs.Sets.{Slots, none}
use Rattle.slots.specs.Calls.{Call, take_call, free_call, used_call}
use Rattle.tree.specs.declared.Tree.{Tree}
use Rattle.tree.specs.Layout.{slot_of, of_slots, tree_view}
use Rattle.image.specs.declared.ImageRefusal.{ImageRefusal}
use Rattle.image.specs.declared.Reading.{Reading}
use Rattle.image.specs.Image.{image_of, is_image, held_in}
use Rattle.image.specs.ImageAnswers.{image_number_of, numbered, signed}

abbrev pub NumberSays : ImageRefusal → ℕ → Type 0
NumberSays refusal r = r ≡ image_number_of refusal

-- ---- write and read

-- the image over the whole buffer; 16 where the buffer is not as long as an image, 1 where the map is not sound
unfoldable pub written : Tree → List ℕ → Said Unit × List ℕ
written t buffer =
    leaving (judged ((16 when not (eqb (length buffer) 136)) ∷ (1 when not (tree_view.is_sound t)) ∷ []) tt) (λ _. image_of t) buffer

abbrev pub WriteSays : Tree → List ℕ → Result Unit ImageRefusal → List ℕ → Type 0
WriteSays t buffer r after = (answer_says_by image_number_of r, after) ≡ written t buffer

-- what is asked of every image: 16 where the bytes are none, and then 1 where the map that they hold is not sound
abbrev pub image_checks : List ℕ → List Check
image_checks bytes = (16 when not (is_image bytes)) ∷ (1 when not (tree_view.is_sound (held_in bytes))) ∷ []

-- the map that the bytes hold, and the empty one where they are refused
unfoldable pub read_of : List ℕ → Said Unit × Tree
read_of bytes = leaving (judged (image_checks bytes) tt) (λ _. held_in bytes) (of_slots none)

abbrev pub ReadSays : List ℕ → Reading → Type 0
ReadSays bytes r = (answer_says_by image_number_of r.answer, r.map) ≡ read_of bytes

-- ---- the calls for C

-- what a C host asks
pub data Asked : Type 0 where
  take : ℕ → ℕ → Asked
  free : ℕ → ℕ → Asked
  used : Asked

-- a call of the tree as a call on bytes: the number that it answers, and the image of the map that it leaves
abbrev pub on_bytes : Call Slots Reply → Call (List ℕ) ℕ
on_bytes c = record { checks = c.checks; answer = numbered c.answer; after = image_of (of_slots c.after) }

-- on the slots that the image holds; used leaves the bytes
abbrev pub call_of : List ℕ → Asked → Call (List ℕ) ℕ
call_of bytes (take n a) = on_bytes (take_call 10 (slot_of (held_in bytes)) n a)
call_of bytes (free start n) = on_bytes (free_call 10 (slot_of (held_in bytes)) start n)
call_of bytes used =
    let counted = used_call 10 (slot_of (held_in bytes)) in
    record { checks = counted.checks; answer = counted.answer; after = bytes }

-- what is said and which bytes are left: what is asked of every image comes before the call's own checks, and a refused call leaves every byte
unfoldable pub answered_on : List ℕ → Call (List ℕ) ℕ → Said ℕ × List ℕ
answered_on bytes c = leaving (judged (image_checks bytes ++ c.checks) c.answer) (λ _. c.after) bytes

-- the one signed number, and the bytes
abbrev pub told : Said ℕ × List ℕ → ℤ × List ℕ
told out = (signed out.0, out.1)

abbrev pub on_image : List ℕ → Asked → ℤ × List ℕ
on_image bytes asked = told (answered_on bytes (call_of bytes asked))

-- the number and every byte at the end
abbrev pub Tells : List ℕ → Asked → ℤ → List ℕ → Type 0
Tells bytes asked r after = (r, after) ≡ on_image bytes asked

abbrev pub TakeTells : List ℕ → ℕ → ℕ → ℤ → List ℕ → Type 0
TakeTells bytes n a r after = Tells bytes (take n a) r after

abbrev pub FreeTells : List ℕ → ℕ → ℕ → ℤ → List ℕ → Type 0
FreeTells bytes start n r after = Tells bytes (free start n) r after

abbrev pub UsedTells : List ℕ → ℤ → List ℕ → Type 0
UsedTells bytes r after = Tells bytes used r after
