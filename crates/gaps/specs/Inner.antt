-- What the helpers answer and leave. Rests on the gaps of `slots`.
use Rattle.std.specs.Prelude.{◌≡◌, Bool, true, false, List, ℕ, ◌<◌, length, Option, Result, MatchOption, MatchResult}
use Rattle.answers.specs.Refusals.{number_of}
use Rattle.answers.specs.declared.Refusal.{Refusal}
use Rattle.answers.specs.declared.Run.{Run}
use Rattle.bits.specs.Buffers.{put_at}
use Rattle.slots.specs.Gaps.{having, runs_of, longest_of, flat}
use Rattle.slots.specs.Runs.{next_run}
use Rattle.views.specs.Painting.{slot_in}
use Rattle.tree.specs.declared.Tree.{Tree}
use Rattle.tree.specs.Layout.{tree_view}

-- the words of a sound tree, and else 1
abbrev pub SoundWordsSays : Tree → Result (List ℕ) Refusal → Type 0
SoundWordsSays t r =
    MatchResult r (λ words. (tree_view.is_sound t ≡ true) × (words ≡ t.words)) (λ why. (tree_view.is_sound t ≡ false) × (number_of why ≡ 1))

-- the list of the runs of some words
abbrev pub PutRunsSays : List ℕ → Bool → List ℕ → ℕ → List ℕ → Type 0
PutRunsSays words v before r after =
    let runs = runs_of 10 v (slot_in words) in
    ◌≡◌ {A = ℕ × List ℕ} (r, after) (length runs, put_at before 0 (flat runs))

-- the longest free run of some words, where it has a slot
abbrev pub LongestSays : List ℕ → Option Run → Type 0
LongestSays words r =
    let run = longest_of 10 false (slot_in words) in
    MatchOption r (run.length ≡ 0) (λ found. (found ≡ run) × (0 < found.length))

-- the next run, where it has a slot
abbrev pub NextRunSays : List ℕ → Bool → ℕ → Option Run → Type 0
NextRunSays words v from r =
    let run = next_run (having v (slot_in words)) 1024 from in
    MatchOption r (run.length ≡ 0) (λ found. (found ≡ run) × (0 < found.length))
