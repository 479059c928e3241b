-- `third::Third::new_empty` meets its contract: 256 words of no ones, and the fields that are theirs. Assumes nothing.
use mathlib.Core.Path.{refl, sym, ap, ◌∙◌}
use mathlib.Core.Bool.{false}
use mathlib.Core.List.{List}
use Prim.Native.Nat.{ℕ}
use Rattle.bits.specs.Digits.{number}
use Rattle.slots.specs.Sets.{none}
use Rattle.views.specs.Words.{listed, words_of}
use Rattle.views.specs.Marks.{marks_of}
use Rattle.views.specs.Full.{full_of}
use Rattle.views.specs.Trees.{tree_words, each_of}
use Rattle.views.specs.Summaries.{summaries_of}
use Rattle.third.specs.Layout.{under, of_slots_under}
use Rattle.third.proofs.Outcomes.{counts_made}
use Rattle.third.proofs.Third.new_empty.Goals as goal

pub returns : goal.returns
unfolding number listed tree_words marks_of each_of
returns c =
    ap (λ (counts : List ℕ). under (words_of 8 none) (summaries_of (words_of 8 none)) (each_of full_of (words_of 8 none)) counts) (sym (counts_made none false (λ i. refl)))
    ∙ of_slots_under none
