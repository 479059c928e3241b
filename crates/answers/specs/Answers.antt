-- What a call's result says in document 01's terms: its value, or the number of its refusal. Two results that say the same are the same.
use Rattle.std.specs.Prelude.{ℕ, Result, Ok, Err}
use Rattle.answers.specs.Said.{Said, value, refused}
use Rattle.answers.specs.Refusals.{number_of}
use Rattle.answers.specs.declared.Refusal.{Refusal}
use Rattle.answers.specs.declared.Reply.{Reply}
use Rattle.answers.specs.declared.Changed.{Changed}
use Rattle.answers.specs.declared.Run.{Run}

-- where each refusal has this number
abbrev pub answer_says_by : {A E : Type 0} → (E → ℕ) → Result A E → Said A
answer_says_by number (Ok a) = value a
answer_says_by number (Err why) = refused (number why)

abbrev pub answer_says : {A : Type 0} → Result A Refusal → Said A
answer_says = answer_says_by number_of

-- the run of so many slots from a start on
abbrev pub run : ℕ → ℕ → Run
run start length = record { start = start; length = length }

-- an answer, with the map that is left
abbrev pub left_with : {E M : Type 0} → Result Reply E → M → Changed E M
left_with answer map = record { answer = answer; map = map }

-- what is left where a call was judged so: on a refusal what there was
abbrev pub left_by : {A E M : Type 0} → Result A E → M → M → M
left_by (Ok a) before after = after
left_by (Err why) before after = before
