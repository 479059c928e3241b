-- What the crate's own helpers answer. Rests on `Layout`.
use Rattle.std.specs.Prelude.{◌≡◌, Bool, true, false, ℕ, Result, MatchResult}
use Rattle.answers.specs.Answers.{answer_says}
use Rattle.answers.specs.declared.Reply.{Reply}
use Rattle.answers.specs.declared.Reply.TheVariants.{Done as ok}
use Rattle.answers.specs.declared.Refusal.{Refusal}
use Rattle.answers.specs.declared.Refusal.TheVariants.{Unsound}
use Rattle.slots.specs.Sets.{Slots, none}
use Rattle.slots.specs.Calls.{Call, range_checks}
use Rattle.slots.specs.Jobs.{reap_call, record_call}
use Rattle.slots.specs.JobView.{reaped_used}
use Rattle.slots.specs.View.{answered}
use Rattle.tree.specs.declared.Tree.{Tree}
use Rattle.jobs.specs.declared.JobRefusal.{JobRefusal}
use Rattle.jobs.specs.declared.Jobs.{Jobs}
use Rattle.jobs.specs.JobAnswers.{job_answer_says}
use Rattle.jobs.specs.Layout.{jobs_view, marks_of, used_of, reaped_of}

abbrev pub ReapedUsedSays : Jobs → Bool → Type 0
ReapedUsedSays j r = r ≡ reaped_used (used_of j) (reaped_of j) 1024

-- the tree, where each reaped slot is used, and else 1
abbrev pub KeptTreeSays : Jobs → Result Tree Refusal → Type 0
KeptTreeSays j r =
    let kept = reaped_used (used_of j) (reaped_of j) 1024 in
    MatchResult r (λ tree. (tree ≡ j.tree) × (kept ≡ true)) (λ why. (why ≡ Unsound) × (kept ≡ false))

-- the checks that reap and record have in common, as a call that changes nothing
abbrev pub range_call : ℕ → ℕ → Call Slots Reply
range_call start n = record { checks = range_checks 10 start n; answer = ok; after = none }

-- what each call has judged: check 1, and then what is said of it
abbrev pub RangeJudged : Jobs → ℕ → ℕ → Result Reply Refusal → Type 0
RangeJudged j start n r = answer_says r ≡ answered jobs_view j (range_call start n)

abbrev pub ReapJudged : Jobs → ℕ → ℕ → Result Reply JobRefusal → Type 0
ReapJudged j start n r = job_answer_says r ≡ answered jobs_view j (reap_call 10 (marks_of j) start n)

abbrev pub RecordJudged : Jobs → ℕ → ℕ → Result Reply JobRefusal → Type 0
RecordJudged j start n r = job_answer_says r ≡ answered jobs_view j (record_call 10 (marks_of j) start n)
