-- What owning jobs tells: they are a value of their type. Assumes nothing.
use mathlib.Core.Path.{◌≡◌}
use Prim.Native.Nat.{ℕ}
use lib.ListN.{length, get_or}
use mir.Syntax.{w16, w64}
use mir.Val.{Fits}
use denote.Laws.{Is}
use denote.Struct.Declared.{row}
use denote.Struct.Laws.{vals}
use borrow.Author.Rules.{rules}
use Rattle.tree.specs.Layout.{IsTree, is_tree_means}
use Rattle.jobs.specs.declared.Jobs.{Jobs}
use Rattle.jobs.specs.Layout.{AreJobs, are_jobs_means}
use Rattle.jobs.specs.contracts.Jobs.{the_type}
use Rattle.jobs.proofs.Jobs.TheLaws.{the_laws}

module _ (j : Jobs) (good : Is (row the_type) j (vals the_type the_laws j)) where
  sixteen : length j.reaped ≡ 16
  sixteen = search rules

  word_fits : (i : ℕ) → Fits w64 (get_or j.reaped i 0)
  word_fits i = search rules

  sixteen_used : length j.tree.words ≡ 16
  sixteen_used = search rules

  used_fits : (i : ℕ) → Fits w64 (get_or j.tree.words i 0)
  used_fits i = search rules

  summary_fits : Fits w16 j.tree.stored.summary
  summary_fits = search rules

  full_fits : Fits w16 j.tree.stored.full
  full_fits = search rules

  count_fits : Fits w16 j.tree.stored.count
  count_fits = search rules

  tree_is : IsTree j.tree
  tree_is = (is_tree_means j.tree).1 (sixteen_used, λ i l. (used_fits i).fits, summary_fits.fits, full_fits.fits, count_fits.fits)

  pub are_jobs : AreJobs j
  are_jobs = (are_jobs_means j).1 (tree_is, sixteen, λ i l. (word_fits i).fits)
