-- The lines that show the runs of a map of 2 ^ k, as texts one after the other: its free runs, its used runs, the longest free run, and how many slots are free.
-- Rests on the gaps of `slots` and on `texts`.
use Rattle.std.specs.Prelude.{true, false, not, List, [], ◌∷◌, ◌++◌, ℕ, ◌^◌, length}
use Rattle.answers.specs.Said.{Said, value, refused}
use Rattle.answers.specs.declared.Run.{Run}
use Rattle.bits.specs.Buffers.{put_at}
use Rattle.bits.specs.Range.{count}
use Rattle.texts.specs.Decimal.{decimal}
use Rattle.texts.specs.Texts.{end, joined}
use Rattle.slots.specs.Sets.{Slots}
use Rattle.slots.specs.Calls.{Call, says}
use Rattle.slots.specs.Gaps.{runs_of, longest_call}

-- the words, in bytes: `free run `, `used run `, `longest free run `, `none`, `free slots `; and what stands between two numbers
abbrev pub free_word : List ℕ
free_word = 102 ∷ 114 ∷ 101 ∷ 101 ∷ 32 ∷ 114 ∷ 117 ∷ 110 ∷ 32 ∷ []

abbrev pub used_word : List ℕ
used_word = 117 ∷ 115 ∷ 101 ∷ 100 ∷ 32 ∷ 114 ∷ 117 ∷ 110 ∷ 32 ∷ []

abbrev pub longest_word : List ℕ
longest_word = 108 ∷ 111 ∷ 110 ∷ 103 ∷ 101 ∷ 115 ∷ 116 ∷ 32 ∷ 102 ∷ 114 ∷ 101 ∷ 101 ∷ 32 ∷ 114 ∷ 117 ∷ 110 ∷ 32 ∷ []

abbrev pub none_word : List ℕ
none_word = 110 ∷ 111 ∷ 110 ∷ 101 ∷ []

abbrev pub slots_word : List ℕ
slots_word = 102 ∷ 114 ∷ 101 ∷ 101 ∷ 32 ∷ 115 ∷ 108 ∷ 111 ∷ 116 ∷ 115 ∷ 32 ∷ []

abbrev pub space : List ℕ
space = 32 ∷ []

-- ---- the lines

-- a word, and a run by its start and its length
abbrev pub run_line : List ℕ → Run → List (List ℕ)
run_line word r = word ∷ decimal r.start ∷ space ∷ decimal r.length ∷ end ∷ []

-- one line for each run
abbrev pub run_lines : List ℕ → List Run → List (List ℕ)
run_lines word [] = []
run_lines word (r ∷ rs) = run_line word r ++ run_lines word rs

-- the longest free run, or that there is none
abbrev pub longest_line : Said Run → List (List ℕ)
longest_line (value r) = run_line longest_word r
longest_line (refused k) = (longest_word ++ (none_word ++ end)) ∷ []

-- how many slots are free
abbrev pub slots_line : ℕ → List (List ℕ)
slots_line n = slots_word ∷ decimal n ∷ end ∷ []

abbrev pub free_slots : ℕ → Slots → ℕ
free_slots k S = count (λ i. not (S i)) 0 (2 ^ k)

unfoldable pub lines_of : ℕ → Slots → List (List ℕ)
lines_of k S =
    run_lines free_word (runs_of k false S)
    ++ (run_lines used_word (runs_of k true S)
    ++ (longest_line (says (longest_call k S))
    ++ slots_line (free_slots k S)))

-- ---- the call: it puts them into the buffer and answers how long they are. The bytes after them stay, and it has no check of its own

unfoldable pub show_call : ℕ → Slots → List ℕ → Call (List ℕ) ℕ
show_call k S buffer = let text = joined (lines_of k S) in record { checks = []; answer = length text; after = put_at buffer 0 text }
