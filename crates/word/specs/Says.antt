-- The contract of each call on a word map: the meaning of `slots` through the word's view, answer and map. Rests on `Layout`.
use Rattle.std.specs.Prelude.{◌≡◌, Bool, ℕ, Result}
use Rattle.answers.specs.Said.{value}
use Rattle.answers.specs.Answers.{answer_says}
use Rattle.answers.specs.declared.Reply.{Reply}
use Rattle.answers.specs.declared.Refusal.{Refusal}
use Rattle.slots.specs.Sets.{Slots, none, all}
use Rattle.slots.specs.Calls.{Call, take_call, claim_call, free_call, set_call, next_free_call, get_call, empty_call, used_call, capacity}
use Rattle.slots.specs.View.{answered, changed}
use Rattle.word.specs.declared.Word.{Word}
use Rattle.answers.specs.declared.Changed.{Changed}
use Rattle.word.specs.Layout.{word_of, slot_of, of_slots, word_view}

-- the answer and the map, as the meaning has them
abbrev pub Leaves : Word → Call Slots Reply → Changed Refusal Word → Type 0
Leaves w call r = (answer_says r.answer, r.map) ≡ changed word_view w call

abbrev pub NewEmptySays : Word → Type 0
NewEmptySays r = r ≡ of_slots none

abbrev pub NewFullSays : Word → Type 0
NewFullSays r = r ≡ of_slots all

-- the map of a word's digits, and the word
abbrev pub HoldingSays : ℕ → Word → Type 0
HoldingSays bits r = r ≡ word_of bits

abbrev pub BitsSays : Word → ℕ → Type 0
BitsSays w r = r ≡ w.bits

abbrev pub TakeSays : Word → ℕ → ℕ → Changed Refusal Word → Type 0
TakeSays w n a r = Leaves w (take_call 6 (slot_of w) n a) r

abbrev pub ClaimSays : Word → ℕ → ℕ → Changed Refusal Word → Type 0
ClaimSays w start n r = Leaves w (claim_call 6 (slot_of w) start n) r

abbrev pub FreeSays : Word → ℕ → ℕ → Changed Refusal Word → Type 0
FreeSays w start n r = Leaves w (free_call 6 (slot_of w) start n) r

abbrev pub SetSays : Word → ℕ → ℕ → Bool → Changed Refusal Word → Type 0
SetSays w start n used r = Leaves w (set_call 6 (slot_of w) start n used) r

abbrev pub NextFreeSays : Word → ℕ → Result ℕ Refusal → Type 0
NextFreeSays w start r = answer_says r ≡ answered word_view w (next_free_call 6 (slot_of w) start)

abbrev pub GetSays : Word → ℕ → Result Bool Refusal → Type 0
GetSays w slot r = answer_says r ≡ answered word_view w (get_call 6 (slot_of w) slot)

-- a word map refuses neither of these
abbrev pub EmptySays : Word → Bool → Type 0
EmptySays w r = value r ≡ answered word_view w (empty_call 6 (slot_of w))

abbrev pub UsedSays : Word → ℕ → Type 0
UsedSays w r = value r ≡ answered word_view w (used_call 6 (slot_of w))

abbrev pub CapacitySays : ℕ → Type 0
CapacitySays r = r ≡ capacity 6
