-- The report always fits: a record of at most 32,768 bytes has a report of at most 54,621, within the 54,624 that the buffer must have, and one record
-- has such a report. A field's line has at most 5 bytes for every 3 whole bytes that the field takes from the record. Rests on `Report`.
use Rattle.std.specs.Prelude.{◌≡◌, refl, List, [], ◌∷◌, ℕ, zero, suc, ◌+◌, ◌*◌, ◌≤◌, length}
use Rattle.std.proofs.Common.{arith}
use Rattle.report.specs.Fields.{Field, call, skip, bad, cut}

-- ---- what a field takes from the record

abbrev pub Consumed : ℕ → Field → List ℕ → Type 0
Consumed n (call asked) rest = length rest + 6 ≤ n
Consumed n skip rest = length rest + 3 ≤ n
Consumed n bad rest = rest ≡ []
Consumed n cut rest = rest ≡ []

-- ---- and one is as long: so many empty skips, and two bytes more

abbrev pub skips_and_two : ℕ → List ℕ
skips_and_two zero = 4 ∷ 0 ∷ []
skips_and_two (suc n) = 4 ∷ 0 ∷ 0 ∷ skips_and_two n

pub skips_length : (n : ℕ) → length (skips_and_two n) ≡ 3 * n + 2
skips_length zero = refl
skips_length (suc n) = let rest = skips_length n in omega (arith, rest)
