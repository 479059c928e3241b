-- What is done to words in a row, for every list of words: each result slot by slot. Rests on `views`.
use Rattle.std.specs.Prelude.{◌≡◌, Bool, true, false, not, List, ℕ, ◌-◌, eqb}
use Rattle.std.proofs.Common.{sym, ◌∙◌}
use Rattle.bits.specs.Range.{least}
use Rattle.bits.specs.Digits.{digit, number}
use Rattle.views.specs.Painting.{slot_in, end_in, painted_words}
use Rattle.views.specs.Marks.{marks_of, touched_marks}
use Rattle.views.specs.Summary.{not_zero}
use Rattle.views.specs.Full.{all_ones, marked, filled, seen_from}
use Rattle.views.specs.Count.{count_of}
use Rattle.rows.specs.declared.Mark.{Mark}
use Rattle.rows.specs.declared.Mark.TheVariants.{Used, Full}
use Rattle.slots.specs.Sets.{Slots, all_free, all_used}
use Rattle.places.specs.Places.{free_in, used_in}
use Rattle.slots.specs.Lowest.{free_from}

-- ---- what is answered

-- which words a mark tells of: those that are not 0, or those that are all ones
abbrev pub mark_test : Mark → ℕ → Bool
mark_test Used = not_zero
mark_test Full = all_ones

-- the marks with bit i given the value v
unfoldable pub with_bit : ℕ → Bool → ℕ → ℕ
with_bit marks v i = number (λ p. elim (eqb p i) [ true ↦ v | false ↦ digit marks p ]) 16

-- the least word from i on that is not marked, or 256
unfoldable pub open_from : List ℕ → ℕ → ℕ
open_from fulls i = least (λ j. not (marked fulls j)) i (256 - i)

-- each place of the mask has the value v
abbrev pub mask_has : Bool → ℕ → ℕ → Bool
mask_has true word mask = used_in word mask
mask_has false word mask = free_in word mask

-- each of the n slots from s on has it
abbrev pub run_has : Bool → Slots → ℕ → ℕ → Bool
run_has true S s n = all_used S s n
run_has false S s n = all_free S s n

-- ---- the contracts

abbrev pub GetSays : List ℕ → ℕ → Bool → Type 0
GetSays words slot r = r ≡ slot_in words slot

abbrev pub CountSays : List ℕ → ℕ → Type 0
CountSays words r = r ≡ count_of words

-- of the 2 ^ 14 slots that a row can hold. A word that is marked counts as all ones, but the slot that is asked first counts as it is
abbrev pub FirstFreeSays : List ℕ → List ℕ → ℕ → ℕ → Type 0
FirstFreeSays words fulls from r = r ≡ free_from 14 (seen_from words fulls from) from

-- a word that is marked counts as all ones
abbrev pub FirstUsedSays : List ℕ → List ℕ → ℕ → ℕ → ℕ → Type 0
FirstUsedSays words fulls from end r = r ≡ least (slot_in (filled words fulls)) from (end - from)

abbrev pub AllFreeSays : List ℕ → ℕ → ℕ → Bool → Type 0
AllFreeSays words start n r = r ≡ all_free (slot_in words) start n

abbrev pub FitsSays : List ℕ → List ℕ → ℕ → ℕ → Bool → Type 0
FitsSays words fulls start n r = r ≡ all_free (slot_in (filled words fulls)) start n

abbrev pub AllUsedSays : List ℕ → ℕ → ℕ → Bool → Type 0
AllUsedSays words start n r = r ≡ all_used (slot_in words) start n

abbrev pub PaintSays : List ℕ → ℕ → ℕ → Bool → List ℕ → Type 0
PaintSays words start n used left = left ≡ painted_words words start n used

abbrev pub MarksSays : List ℕ → Mark → ℕ → Type 0
MarksSays part mark r = r ≡ marks_of (mark_test mark) part

abbrev pub TouchedSays : List ℕ → ℕ → ℕ → ℕ → Mark → ℕ → Type 0
TouchedSays part marks start n mark r = r ≡ touched_marks (mark_test mark) part marks start n

abbrev pub EndOfSays : ℕ → ℕ → ℕ → ℕ → Type 0
EndOfSays slots start n r = r ≡ end_in slots start n

-- ---- any two answers that a contract allows coincide

pub get_one_answer : (words : List ℕ) (slot : ℕ) (r q : Bool) → GetSays words slot r → GetSays words slot q → r ≡ q
get_one_answer words slot r q p o = p ∙ sym o

pub count_one_answer : (words : List ℕ) (r q : ℕ) → CountSays words r → CountSays words q → r ≡ q
count_one_answer words r q p o = p ∙ sym o

pub first_free_one_answer : (words fulls : List ℕ) (from r q : ℕ) → FirstFreeSays words fulls from r → FirstFreeSays words fulls from q → r ≡ q
first_free_one_answer words fulls from r q p o = p ∙ sym o

pub first_used_one_answer : (words fulls : List ℕ) (from end r q : ℕ) → FirstUsedSays words fulls from end r → FirstUsedSays words fulls from end q → r ≡ q
first_used_one_answer words fulls from end r q p o = p ∙ sym o

pub all_free_one_answer : (words : List ℕ) (start n : ℕ) (r q : Bool) → AllFreeSays words start n r → AllFreeSays words start n q → r ≡ q
all_free_one_answer words start n r q p o = p ∙ sym o

pub fits_one_answer : (words fulls : List ℕ) (start n : ℕ) (r q : Bool) → FitsSays words fulls start n r → FitsSays words fulls start n q → r ≡ q
fits_one_answer words fulls start n r q p o = p ∙ sym o

pub all_used_one_answer : (words : List ℕ) (start n : ℕ) (r q : Bool) → AllUsedSays words start n r → AllUsedSays words start n q → r ≡ q
all_used_one_answer words start n r q p o = p ∙ sym o

pub paint_one_answer : (words : List ℕ) (start n : ℕ) (used : Bool) (left other : List ℕ) → PaintSays words start n used left → PaintSays words start n used other
    → left ≡ other
paint_one_answer words start n used left other p o = p ∙ sym o

pub marks_one_answer : (part : List ℕ) (mark : Mark) (r q : ℕ) → MarksSays part mark r → MarksSays part mark q → r ≡ q
marks_one_answer part mark r q p o = p ∙ sym o

pub touched_one_answer : (part : List ℕ) (marks start n : ℕ) (mark : Mark) (r q : ℕ) → TouchedSays part marks start n mark r → TouchedSays part marks start n mark q → r ≡ q
touched_one_answer part marks start n mark r q p o = p ∙ sym o

pub end_of_one_answer : (slots start n r q : ℕ) → EndOfSays slots start n r → EndOfSays slots start n q → r ≡ q
end_of_one_answer slots start n r q p o = p ∙ sym o
