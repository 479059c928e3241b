-- What the third level's own helpers answer. Rests on `Layout`, on the judged calls of `judges` and on the trees of `views`.
use Rattle.std.specs.Prelude.{◌≡◌, Bool, not, List, ◌∷◌, ℕ, Result}
use Rattle.answers.specs.Said.{◌when◌, judged, on_value}
use Rattle.answers.specs.Answers.{answer_says}
use Rattle.answers.specs.declared.Reply.TheVariants.{At as at, Done as ok}
use Rattle.answers.specs.declared.Reply.{Reply}
use Rattle.answers.specs.declared.Refusal.{Refusal}
use Rattle.slots.specs.Calls.{range_checks, take_call}
use Rattle.slots.specs.View.{answered}
use Rattle.views.specs.Painting.{painted_words}
use Rattle.views.specs.Summary.{summary_of}
use Rattle.views.specs.Full.{full_of}
use Rattle.views.specs.Count.{count_of}
use Rattle.views.specs.Trees.{renewed, sum_first}
use Rattle.judges.specs.Judged.{change_call}
use Rattle.third.specs.declared.Third.{Third}
use Rattle.tree.specs.Layout.{tree_view}
use Rattle.third.specs.Layout.{third_of, under, slot_of, tree_at, third_view}

abbrev pub SoundSays : Third → Bool → Type 0
SoundSays t r = r ≡ third_view.is_sound t

abbrev pub TreeSoundSays : Third → ℕ → Bool → Type 0
TreeSoundSays t i r = r ≡ tree_view.is_sound (tree_at t i)

-- what each call has judged: check 1, and then what is said of it
abbrev pub RangeJudged : Third → ℕ → ℕ → Result Reply Refusal → Type 0
RangeJudged t start n r = answer_says r ≡ judged ((1 when not (third_view.is_sound t)) ∷ range_checks 14 start n) ok

abbrev pub ChangeJudged : Third → ℕ → ℕ → Bool → Result Reply Refusal → Type 0
ChangeJudged t start n used r = answer_says r ≡ answered third_view t (change_call used 14 (slot_of t) start n)

abbrev pub TakeJudged : Third → ℕ → ℕ → Result ℕ Refusal → Type 0
TakeJudged t n a r = on_value at (answer_says r) ≡ answered third_view t (take_call 14 (slot_of t) n a)

-- the sum of sixteen counts
abbrev pub TotalSays : List ℕ → ℕ → Type 0
TotalSays counts r = r ≡ sum_first counts 16

-- the map with what is stored of the trees that a run reaches made anew
abbrev pub renewed_third : Third → ℕ → ℕ → Third
renewed_third t start n =
    third_of t.words (renewed summary_of t.words t.summaries start n) (renewed full_of t.words t.fulls start n) (renewed count_of t.words t.counts start n) t.summary

-- the map with a run painted, and what is stored of the trees that it reaches made anew
abbrev pub painted_third : Third → ℕ → ℕ → Bool → Third
painted_third t start n used =
    let left = painted_words t.words start n used in
    under left (renewed summary_of left t.summaries start n) (renewed full_of left t.fulls start n) (renewed count_of left t.counts start n)
