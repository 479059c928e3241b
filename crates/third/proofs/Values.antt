-- What owning a map tells: it is a value of its type. Assumes nothing.
use denote.Laws.{Is}
use denote.Struct.Declared.{row}
use denote.Struct.Laws.{vals}
use borrow.Author.Rules.{rules}
use Rattle.third.specs.declared.Third.{Third}
use Rattle.third.specs.Layout.{IsThird, is_third_means}
use Rattle.third.specs.contracts.Third.{the_type}
use Rattle.third.proofs.Third.TheLaws.{the_laws}

pub is_third : (t : Third) → Is (row the_type) t (vals the_type the_laws t) → IsThird t
is_third t good = (is_third_means t).1 (
  search rules,
  λ i l. search rules,
  search rules,
  λ i l. search rules,
  search rules,
  λ i l. search rules,
  search rules,
  λ i l. search rules,
  search rules,
)
