-- What the tree's own helpers answer. Rests on `Layout`, on the judged calls of `judges` and on the words of `rows`.
use Rattle.std.specs.Prelude.{◌≡◌, Bool, true, false, not, ◌∷◌, ℕ, Result, MatchResult}
use Rattle.answers.specs.Said.{◌when◌, judged, on_value}
use Rattle.answers.specs.Answers.{answer_says}
use Rattle.answers.specs.declared.Reply.TheVariants.{At as at, Done as ok}
use Rattle.answers.specs.declared.Reply.{Reply}
use Rattle.answers.specs.declared.Refusal.{Refusal}
use Rattle.answers.specs.declared.Refusal.TheVariants.{Unsound}
use Rattle.slots.specs.Calls.{range_checks, take_call}
use Rattle.slots.specs.View.{answered}
use Rattle.views.specs.Painting.{painted_words}
use Rattle.views.specs.Marks.{touched_marks}
use Rattle.views.specs.Summary.{not_zero}
use Rattle.views.specs.Full.{all_ones}
use Rattle.views.specs.Count.{count_of, moved_count}
use Rattle.judges.specs.Judged.{change_call}
use Rattle.tree.specs.declared.Tree.{Tree}
use Rattle.tree.specs.declared.Stored.{Stored}
use Rattle.tree.specs.Layout.{stored_of, tree_of, tree_view, slot_of}

-- check 1: what is stored, of a sound tree, and else the refusal by 1
abbrev pub Checked : Tree → Result Stored Refusal → Type 0
Checked t r = MatchResult r (λ stored. (stored ≡ t.stored) × (tree_view.is_sound t ≡ true)) (λ why. (why ≡ Unsound) × (tree_view.is_sound t ≡ false))

-- what each call has judged: check 1, and then what is said of it
abbrev pub RangeJudged : Tree → ℕ → ℕ → Result Reply Refusal → Type 0
RangeJudged t start n r = answer_says r ≡ judged ((1 when not (tree_view.is_sound t)) ∷ range_checks 10 start n) ok

abbrev pub ChangeJudged : Tree → ℕ → ℕ → Bool → Result Reply Refusal → Type 0
ChangeJudged t start n used r = answer_says r ≡ answered tree_view t (change_call used 10 (slot_of t) start n)

abbrev pub TakeJudged : Tree → ℕ → ℕ → Result ℕ Refusal → Type 0
TakeJudged t n a r = on_value at (answer_says r) ≡ answered tree_view t (take_call 10 (slot_of t) n a)

-- the map with the bits of the words that the n slots from s on reach brought up to date, and this count
abbrev pub touched_tree : Tree → ℕ → ℕ → ℕ → Tree
touched_tree t s n count = tree_of t.words (stored_of (touched_marks not_zero t.words t.stored.summary s n) (touched_marks all_ones t.words t.stored.full s n) count)

-- the map with a run of its words painted, and what is stored as it was
abbrev pub painted_over : Tree → ℕ → ℕ → Bool → Tree
painted_over t start n used = tree_of (painted_words t.words start n used) t.stored

-- the map with a run painted that had the other value: the count moves by n
abbrev pub painted_tree : Tree → ℕ → ℕ → Bool → Tree
painted_tree t start n used = touched_tree (painted_over t start n used) start n (moved_count t.stored.count n used)

-- the map with a run painted, whatever it held: its slots are counted anew
abbrev pub set_tree : Tree → ℕ → ℕ → Bool → Tree
set_tree t start n used = touched_tree (painted_over t start n used) start n (count_of (painted_words t.words start n used))
