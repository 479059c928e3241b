-- The refusals by name, and document 01's number for each.
use Rattle.std.specs.Prelude.{◌≡◌, refl, [], ◌∷◌, false, ℕ, ◌≤◌, ◌<◌, eqb, get_or}
use Rattle.std.proofs.Common.{sym, ap, ◌∙◌, arith, ne_eqb}
use Rattle.answers.specs.declared.Refusal.{Refusal}
use Rattle.answers.specs.declared.Refusal.TheVariants.{Unsound, NoEntries, AlignmentTooGreat, PastTheEnd, AlreadyFree, AlreadyUsed, NoRoom, NotAPowerOfTwo, NoMultipleFits, EndBeforeStart, ReportTooShort, RecordTooLong}

abbrev pub number_of : Refusal → ℕ
number_of Unsound = 1
number_of NoEntries = 2
number_of AlignmentTooGreat = 3
number_of PastTheEnd = 4
number_of AlreadyFree = 5
number_of AlreadyUsed = 6
number_of NoRoom = 7
number_of NotAPowerOfTwo = 8
number_of NoMultipleFits = 9
number_of EndBeforeStart = 10
number_of ReportTooShort = 11
number_of RecordTooLong = 12

-- the refusal that has a number; any past 11 is taken for the last, so that the definition is total
abbrev pub named : ℕ → Refusal
named n =
    get_or
    (Unsound ∷ Unsound ∷ NoEntries ∷ AlignmentTooGreat ∷ PastTheEnd ∷ AlreadyFree ∷ AlreadyUsed ∷ NoRoom ∷ NotAPowerOfTwo ∷ NoMultipleFits ∷ EndBeforeStart ∷ ReportTooShort ∷ [])
    n RecordTooLong

pub named_number : (r : Refusal) → named (number_of r) ≡ r
named_number Unsound = refl
named_number NoEntries = refl
named_number AlignmentTooGreat = refl
named_number PastTheEnd = refl
named_number AlreadyFree = refl
named_number AlreadyUsed = refl
named_number NoRoom = refl
named_number NotAPowerOfTwo = refl
named_number NoMultipleFits = refl
named_number EndBeforeStart = refl
named_number ReportTooShort = refl
named_number RecordTooLong = refl

-- there are twelve
pub number_most : (r : Refusal) → number_of r ≤ 12
number_most Unsound = omega arith
number_most NoEntries = omega arith
number_most AlignmentTooGreat = omega arith
number_most PastTheEnd = omega arith
number_most AlreadyFree = omega arith
number_most AlreadyUsed = omega arith
number_most NoRoom = omega arith
number_most NotAPowerOfTwo = omega arith
number_most NoMultipleFits = omega arith
number_most EndBeforeStart = omega arith
number_most ReportTooShort = omega arith
number_most RecordTooLong = omega arith

-- so a number past 12 is none of theirs
pub number_other : (r : Refusal) (k : ℕ) → 12 < k → eqb (number_of r) k ≡ false
number_other r k past = let most = number_most r in ne_eqb (number_of r) k (λ e. omega (arith, e, most, past))

-- what can be undone tells its arguments apart
pub undone_injective : {A B : Type 0} (f : A → B) (undo : B → A) → ((a : A) → undo (f a) ≡ a) → (a b : A) → f a ≡ f b → a ≡ b
undone_injective f undo back a b e = sym (back a) ∙ ap undo e ∙ back b

-- ---- the contract of `Refusal::number`

abbrev pub NumberSays : Refusal → ℕ → Type 0
NumberSays refusal r = r ≡ number_of refusal

pub number_one_answer : (refusal : Refusal) (r s : ℕ) → NumberSays refusal r → NumberSays refusal s → r ≡ s
number_one_answer refusal r s p q = p ∙ sym q
