-- `third::Third::new_full` meets its contract: 256 words of 64 ones, and the fields that are theirs. Assumes nothing.
use mathlib.Core.Path.{refl, sym, ap, ◌∙◌}
use mathlib.Core.Bool.{true}
use mathlib.Core.List.{List}
use Prim.Native.Nat.{ℕ}
use Rattle.bits.specs.Digits.{number}
use Rattle.slots.specs.Sets.{all}
use Rattle.views.specs.Words.{listed, words_of}
use Rattle.views.specs.Marks.{marks_of}
use Rattle.views.specs.Full.{full_of}
use Rattle.views.specs.Trees.{tree_words, each_of}
use Rattle.views.specs.Summaries.{summaries_of}
use Rattle.third.specs.Layout.{under, of_slots_under}
use Rattle.third.proofs.Outcomes.{counts_made}
use Rattle.third.proofs.Third.new_full.Goals as goal

pub returns : goal.returns
unfolding number listed tree_words marks_of each_of
returns c =
    ap (λ (counts : List ℕ). under (words_of 8 all) (summaries_of (words_of 8 all)) (each_of full_of (words_of 8 all)) counts) (sym (counts_made all true (λ i. refl)))
    ∙ of_slots_under all
