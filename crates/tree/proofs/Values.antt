-- What owning a tree tells, and owning what is stored: each is a value of its type. Assumes nothing.
use mathlib.Core.Path.{◌≡◌}
use Prim.Native.Nat.{ℕ, ◌^◌, ◌<◌}
use lib.ListN.{length, get_or}
use mir.Syntax.{w16, w64}
use mir.Val.{Fits}
use denote.Laws.{Is}
use denote.Struct.Declared.{row}
use denote.Struct.Laws.{vals}
use borrow.Author.Rules.{rules}
use Rattle.tree.specs.declared.Tree.{Tree}
use Rattle.tree.specs.declared.Stored.{Stored}
use Rattle.tree.specs.Layout.{IsTree, is_tree_means}
use Rattle.tree.specs.contracts.Tree.{the_type}
use Rattle.tree.proofs.Tree.TheLaws.{the_laws}
use Rattle.tree.specs.contracts.Stored as S
use Rattle.tree.proofs.Stored.TheLaws as S'

pub by_values : (t : Tree) → length t.words ≡ 16 → ((i : ℕ) → Fits w64 (get_or t.words i 0)) → Fits w16 t.stored.summary → Fits w16 t.stored.full
    → Fits w16 t.stored.count → IsTree t
by_values t sixteen words summary full count = (is_tree_means t).1 (sixteen, λ i l. (words i).fits, summary.fits, full.fits, count.fits)

module _ (t : Tree) (good : Is (row the_type) t (vals the_type the_laws t)) where
  pub is_tree : IsTree t
  is_tree = by_values t (search rules) (λ i. search rules) (search rules) (search rules) (search rules)

module _ (stored : Stored) (good : Is (row S.the_type) stored (vals S.the_type S'.the_laws stored)) where
  summary_of_lem : Fits w16 stored.summary
  summary_of_lem = search rules

  full_of_lem : Fits w16 stored.full
  full_of_lem = search rules

  pub both_fit : (stored.summary < 2 ^ 16) × (stored.full < 2 ^ 16)
  both_fit = (summary_of_lem.fits, full_of_lem.fits)
