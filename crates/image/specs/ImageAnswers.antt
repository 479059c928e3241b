-- What this crate answers in the papers' terms: each refusal's number, and the one signed number that a C host gets. No two refusals share a number.
use Rattle.std.specs.Prelude.{◌≡◌, refl, true, false, ℕ, eqb, ℤ, pos, neg_ℤ}
use Rattle.std.proofs.Common.{ap, arith}
use Rattle.answers.specs.Said.{Said, value, refused}
use Rattle.answers.specs.Refusals.{number_of, number_other, named, named_number, undone_injective}
use Rattle.answers.specs.declared.Reply.{Reply}
use Rattle.answers.specs.declared.Reply.TheVariants.{At as at, Done as ok}
use Rattle.image.specs.declared.ImageRefusal.{ImageRefusal}
use Rattle.image.specs.declared.ImageRefusal.TheVariants.{Map, NoImage}

abbrev pub image_number_of : ImageRefusal → ℕ
image_number_of (Map why) = number_of why
image_number_of NoImage = 16

-- ---- for C

-- a reply as a number: the start, and 0 where there is none to tell
abbrev pub numbered : Reply → ℕ
numbered (at n) = n
numbered ok = 0

-- a number as it is, and a refusal's number negated
abbrev pub signed : Said ℕ → ℤ
signed (value n) = pos n
signed (refused k) = neg_ℤ (pos k)

-- ---- no two share a number

image_named : ℕ → ImageRefusal
image_named n = elim (eqb n 16) [ true ↦ NoImage | false ↦ Map (named n) ]

image_named_number : (r : ImageRefusal) → image_named (image_number_of r) ≡ r
unfolding image_named
image_named_number (Map why) = rw (image_named, number_other why 16 (omega arith)) (ap Map (named_number why))
image_named_number NoImage = refl

-- those of the maps among them
pub image_number_injective : (r s : ImageRefusal) → image_number_of r ≡ image_number_of s → r ≡ s
image_number_injective = undone_injective image_number_of image_named image_named_number
