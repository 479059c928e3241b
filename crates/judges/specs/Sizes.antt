-- The sizes that a map can have, each by the exponent of its capacity. One more size is one more line in each definition here.
use Rattle.std.specs.Prelude.{◌≡◌, ℕ, ◌≤◌, ◌^◌}
use Rattle.std.proofs.Common.{sym, ◌∙◌, arith}
use Rattle.judges.specs.declared.Size.{Size}
use Rattle.judges.specs.declared.Size.TheVariants.{Word, Tree, Third}

abbrev pub exponent_of : Size → ℕ
exponent_of Word = 6
exponent_of Tree = 10
exponent_of Third = 14

abbrev pub ExponentSays : Size → ℕ → Type 0
ExponentSays size r = r ≡ exponent_of size

abbrev pub CapacitySays : Size → ℕ → Type 0
CapacitySays size r = r ≡ 2 ^ exponent_of size

-- no size is above 2 ^ 14, which is as many slots as a row of words can hold
pub exponent_most : (size : Size) → exponent_of size ≤ 14
exponent_most Word = omega arith
exponent_most Tree = omega arith
exponent_most Third = omega arith

pub capacity_most : (size : Size) → 2 ^ exponent_of size ≤ 16384
capacity_most Word = omega arith
capacity_most Tree = omega arith
capacity_most Third = omega arith

pub exponent_one_answer : (size : Size) (r q : ℕ) → ExponentSays size r → ExponentSays size q → r ≡ q
exponent_one_answer size r q p o = p ∙ sym o

pub capacity_one_answer : (size : Size) (r q : ℕ) → CapacitySays size r → CapacitySays size q → r ≡ q
capacity_one_answer size r q p o = p ∙ sym o
