-- `runner::fields::number_at` meets its contract: none, one or two of the bytes are there. Assumes nothing.
use Rattle.std.proofs.Common.{◌≡◌, ◌∙◌, sym, ap, ℕ, ◌+◌, ◌-◌, List, length, get_or, take, drop, arith, take_all, le_of_eq, length-drop}
use Rattle.std.proofs.Math.Seq.{get_or-drop}
use Rattle.bits.specs.Bytes.{number_two}
use Rattle.report.specs.Fields.{number_none, number_one}
use Rattle.runner.proofs.fields.number_at.Goals as goal

-- the bytes from an offset on
module _ (bytes : List ℕ) (from : ℕ) where
  abbrev part : List ℕ
  part = take (length bytes - from) (drop from bytes)

  all : part ≡ drop from bytes
  all = take_all (length bytes - from) (drop from bytes) (le_of_eq (length-drop from bytes))

  part_long : length part ≡ length bytes - from
  part_long = ap length all ∙ length-drop from bytes

  byte : (i place : ℕ) → from + i ≡ place → get_or part i 0 ≡ get_or bytes place 0
  byte i place is = ap (λ (xs : List ℕ). get_or xs i 0) all ∙ get_or-drop from bytes i 0 ∙ ap (λ (j : ℕ). get_or bytes j 0) is

pub returns-in-empty : goal.returns-in-empty
returns-in-empty c =
    let bytes = c.args.bytes.now in
    let long = part_long bytes c.min.result in
    sym (number_none bytes c.args.at (omega (arith, c.min.ensures, c.in-empty.len_below, long)))

pub returns-in-len1 : goal.returns-in-len1
returns-in-len1 c =
    let bytes = c.args.bytes.now in
    let long = part_long bytes c.min.result in
    byte bytes c.min.result 0 c.args.at (omega (arith, c.min.ensures, c.in-len1.len_at_least, long))
    ∙ sym (number_one bytes c.args.at (omega (arith, c.min.ensures, c.in-len1.len_at_least, c.in-len1.len_below, long)))

pub returns-in-len2-up : goal.returns-in-len2-up
returns-in-len2-up c =
    let bytes = c.args.bytes.now in
    let at = c.args.at in
    let long = part_long bytes c.min.result in
    let low = byte bytes c.min.result 0 at (omega (arith, c.min.ensures, c.in-len2-up.len_at_least, long)) in
    let high = byte bytes c.min.result 1 (at + 1) (omega (arith, c.min.ensures, c.in-len2-up.len_at_least, long)) in
    let both = number_two bytes at (omega (arith, c.min.ensures, c.in-len2-up.len_at_least, long)) in
    omega (arith, c.from_le_bytes.ensures, low, high, both)
