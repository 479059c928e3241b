-- `runner::fields::field_at` meets its contract: the header, then the body, as `Fields` judges them. Assumes nothing.
use mathlib.Core.Path.{◌≡◌, sym, ap, ◌∙◌}
use Prim.Native.Nat.{ℕ, ◌+◌, ◌-◌}
use native.Mathlib.Omega.{arith}
use lib.ListN.{take, drop}
use Rattle.report.specs.Fields.{field_of}
use Rattle.runner.specs.Inner.{kind_says}
use Rattle.runner.proofs.Pieces.{piece_without_header, piece_bad, piece_without_body, piece_whole}
use Rattle.runner.proofs.fields.field_at.Goals as goal

pub returns-then-end-at-lt3 : goal.returns-then-end-at-lt3
returns-then-end-at-lt3 c = piece_without_header _ _ (omega arith) c.if-end-at-lt3.true

pub returns-then-not-may_hold : goal.returns-then-not-may_hold
returns-then-not-may_hold c =
    let asked = c.args in
    piece_bad asked.«record».now asked.at (omega arith) c.if-end-at-lt3.false _ _ c.kind_of-kind.ensures c.number_at-length.ensures
    (sym c.may_hold.ensures ∙ c.if-not-may_hold.true)

pub returns-then-end-body : goal.returns-then-end-body
returns-then-end-body c =
    let asked = c.args in
    piece_without_body asked.«record».now asked.at (omega arith) c.if-end-at-lt3.false _ _ c.kind_of-kind.ensures c.number_at-length.ensures
    (sym c.may_hold.ensures ∙ c.if-not-may_hold.false) c.if-end-body.true

pub returns : goal.returns
returns c =
    let asked = c.args in
    let kind = c.kind_of-kind.result in
    let n = c.number_at-length.result in
    let width : asked.at + 3 + n - (asked.at + 3) ≡ n = omega arith in
    piece_whole asked.«record».now asked.at (omega arith) c.if-end-at-lt3.false _ _ c.kind_of-kind.ensures c.number_at-length.ensures
    (sym c.may_hold.ensures ∙ c.if-not-may_hold.false) c.if-end-body.false c.field_of-field.result
    (c.field_of-field.ensures ∙ ap (λ (k : ℕ). field_of (kind_says kind) (take k (drop (asked.at + 3) asked.«record».now))) width)
