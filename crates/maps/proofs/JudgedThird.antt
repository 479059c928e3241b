-- The third level that a judged call leaves: the words painted, and what is stored of each tree made anew. Rests on `Judged`. Assumes nothing.
use Rattle.std.specs.Prelude.{◌≡◌, Bool, List, ℕ, Result, Err}
use Rattle.std.proofs.Common.{sym, ap, ◌∙◌}
use Rattle.answers.specs.Answers.{left_by}
use Rattle.answers.specs.declared.Reply.{Reply}
use Rattle.answers.specs.declared.Refusal.{Refusal}
use Rattle.views.specs.Painting.{painted_words}
use Rattle.views.specs.Summary.{summary_of}
use Rattle.views.specs.Full.{full_of}
use Rattle.views.specs.Count.{count_of}
use Rattle.views.specs.Trees.{renewed}
use Rattle.third.specs.declared.Third.{Third}
use Rattle.third.specs.Layout.{third_of, under}
use Rattle.third.specs.Inner.{painted_third}
use Rattle.maps.proofs.Judged.{left_behind}

pub left_as_judged : (judge : Result Reply Refusal) → ((why : Refusal) → judge ≡ Err why → ⊥) → (t : Third) (s n : ℕ) (v : Bool) (left summaries fulls counts : List ℕ) (over : ℕ)
    → left ≡ painted_words t.words s n v
    → (summaries ≡ renewed summary_of left t.summaries s n) × (fulls ≡ renewed full_of left t.fulls s n) × (counts ≡ renewed count_of left t.counts s n)
    → over ≡ summary_of summaries → third_of left summaries fulls counts over ≡ left_by judge t (painted_third t s n v)
left_as_judged judge kept t s n v left summaries fulls counts over e f g =
    ap (third_of left summaries fulls counts) g
    ∙ (λ i. under left (f.0 i) (f.1 i) (f.2 i))
    ∙ ap (λ (ws : List ℕ). under ws (renewed summary_of ws t.summaries s n) (renewed full_of ws t.fulls s n) (renewed count_of ws t.counts s n)) e
    ∙ sym (left_behind judge kept t (painted_third t s n v))
