-- The measured listings of a tree's runs: so many of them in one buffer, and so many questions for the longest free run. Rests on what the calls of
-- `gaps` say.
use Rattle.std.specs.Prelude.{◌≡◌, Bool, List, [], ◌∷◌, ℕ, zero, suc}
use Rattle.std.proofs.Common.{sym, ap, ◌∙◌}
use Rattle.answers.specs.Said.{Said, value, refused}
use Rattle.answers.specs.declared.Run.{Run}
use Rattle.slots.specs.Gaps.{longest_call}
use Rattle.slots.specs.View.{answered}
use Rattle.tree.specs.declared.Tree.{Tree}
use Rattle.tree.specs.Layout.{holding, slot_of, tree_view}
use Rattle.gaps.specs.Says.{listed}

-- so many steps
abbrev pub repeated : {A : Type 0} → (A → A) → ℕ → A → A
repeated step zero a = a
repeated step (suc times) a = repeated step times (step a)

-- ---- the listings

abbrev pub count_of : Said ℕ → ℕ
count_of (value n) = n
count_of (refused k) = 0

-- one of them: what it answers, and what it leaves of the buffer
abbrev pub listing : Bool → Tree → ℕ × List ℕ → ℕ × List ℕ
listing v t held =
    let out = listed v t held.1 in
    (count_of out.0, out.1)

abbrev pub ListsSays : Bool → List ℕ → List ℕ → ℕ → ℕ → List ℕ → Type 0
ListsSays v words before times r after = ◌≡◌ {A = ℕ × List ℕ} (r, after) (repeated (listing v (holding words)) times (0, before))

pub lists_one_answer : (v : Bool) (words before : List ℕ) (times r q : ℕ) (after other : List ℕ) → ListsSays v words before times r after
    → ListsSays v words before times q other → (r ≡ q) × (after ≡ other)
lists_one_answer v words before times r q after other p o = (ap (λ x. x.0) (p ∙ sym o), ap (λ x. x.1) (p ∙ sym o))

-- ---- the longest

abbrev pub numbers_of : Said Run → List ℕ
numbers_of (value r) = r.start ∷ (r.length ∷ [])
numbers_of (refused k) = 0 ∷ (0 ∷ [])

abbrev pub longest_in : Tree → List ℕ
longest_in t = numbers_of (answered tree_view t (longest_call 10 (slot_of t)))

abbrev pub LongestSays : List ℕ → List ℕ → ℕ → List ℕ → Type 0
LongestSays words before times after = after ≡ repeated (λ _. longest_in (holding words)) times before

pub longest_one_answer : (words before : List ℕ) (times : ℕ) (after other : List ℕ) → LongestSays words before times after → LongestSays words before times other
    → after ≡ other
longest_one_answer words before times after other p o = p ∙ sym o
