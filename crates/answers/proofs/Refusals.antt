-- What stood in specs/Refusals and rests on theorems there: moved, its statements unchanged. Rests on `Refusals`.
use Rattle.std.specs.Prelude.{◌≡◌}
use Rattle.answers.specs.declared.Refusal.{Refusal}
use Rattle.answers.specs.Refusals.{number_of, named, named_number, undone_injective}

-- no two refusals share a number
pub number_injective : (r s : Refusal) → number_of r ≡ number_of s → r ≡ s
number_injective = undone_injective number_of named named_number
