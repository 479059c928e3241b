-- What the runner owes: its refusals, 12 before 11, with every byte of the buffer kept; one outcome; each line the answer of its own call on the map
-- that the one before left, as a series of demand 3; and so that the record of its accepted calls, walked backward, brings its tree back to the
-- empty one. Rests on `Report` and on the tree's demands.
use Rattle.std.specs.Prelude.{◌≡◌, refl, ◌↔◌, List, [], ◌∷◌, ◌++◌, ℕ, ◌+◌, ◌≤◌, ◌<◌, ltb, length, drop, Result}
use Rattle.std.proofs.Math.Path.{sym, ap}
use Rattle.std.proofs.Common.{subst, ◌∙◌, arith, length-append}
use Rattle.answers.specs.Said.{Said, value, refused, ◌when◌, leaving_says, leaving_refused, leaving_value}
use Rattle.answers.specs.Faults.{Fault, ◌if◌, First, NoFault, Finds, judged_refuses, judged_accepts, finds_lt}
use Rattle.answers.specs.Answers.{answer_says}
use Rattle.answers.specs.declared.Reply.{Reply}
use Rattle.answers.proofs.Answers.{answer_says_injective}
use Rattle.answers.specs.declared.Refusal.{Refusal}
use Rattle.slots.specs.Sets.{none}
use Rattle.slots.specs.Calls.{used_call}
use Rattle.slots.specs.Plain.{Asked, call_of}
use Rattle.slots.specs.View.{changed_sound}
use Rattle.slots.specs.Series.{made, answers_of, last_of, record_of, before_of, Back}
use Rattle.slots.proofs.Series.{walked_back}
use Rattle.tree.specs.declared.Tree.{Tree}
use Rattle.tree.specs.Layout.{tree_view, slot_of, tree_calls, Sound}
use Rattle.report.specs.Fields.{Field, call, skip, bad, cut, fields}
use Rattle.report.specs.Report.{Line, said, skipped, stopped, short, used, carried, lines_of, left_by, empty_tree, report_of, left_of, over, ran, RunSays, ran_map, RunMapSays, output_of, OutputSays}

-- ---- refusals

module _ (bytes buffer : List ℕ) where
  abbrev pub faults : List Fault
  faults = (12 if (32768 < length bytes)) ∷ (11 if (length buffer < 54624)) ∷ []

  found : Finds ((12 when ltb 32768 (length bytes)) ∷ (11 when ltb (length buffer) 54624) ∷ []) faults
  found = (refl, finds_lt 32768 (length bytes), λ _. (refl, finds_lt (length buffer) 54624, λ _. tt))

  -- refused by the first fault that holds, and accepted, with the report's length, exactly when none does
  pub run_refuses : (k : ℕ) → ((ran bytes buffer).0 ≡ refused k) ↔ First k faults
  unfolding ran
  run_refuses k = rw (leaving_says (λ _. over (report_of bytes) buffer) buffer _) (judged_refuses _ faults (length (report_of bytes)) k found)

  pub run_accepts : (n : ℕ) → ((ran bytes buffer).0 ≡ value n) ↔ (NoFault faults × (length (report_of bytes) ≡ n))
  unfolding ran
  run_accepts n = rw (leaving_says (λ _. over (report_of bytes) buffer) buffer _) (judged_accepts _ faults (length (report_of bytes)) n found)

  -- a refused run keeps every byte; an accepted one writes the report and keeps every byte after it
  pub run_refused : (k : ℕ) → (ran bytes buffer).0 ≡ refused k → (ran bytes buffer).1 ≡ buffer
  unfolding ran
  run_refused k = leaving_refused (λ _. over (report_of bytes) buffer) buffer _ k

  pub run_accepted : (n : ℕ) → (ran bytes buffer).0 ≡ value n → (ran bytes buffer).1 ≡ report_of bytes ++ drop (length (report_of bytes)) buffer
  unfolding ran
  run_accepted n = leaving_value (λ _. over (report_of bytes) buffer) buffer _ n

  pub run_one_answer : (r q : Result ℕ Refusal) (after other : List ℕ) → RunSays bytes buffer r after → RunSays bytes buffer q other → (r ≡ q) × (after ≡ other)
  run_one_answer r q after other p o = (answer_says_injective r q (ap (λ x. x.0) (p ∙ sym o)), ap (λ x. x.1) (p ∙ sym o))

  -- with the map: what is said and written is the same, and the map is what the record leaves
  module _ (r : Result ℕ Refusal) (map : Tree) (after : List ℕ) (says : RunMapSays bytes buffer r map after) where
    pub run_map_runs : RunSays bytes buffer r after
    unfolding ran_map
    run_map_runs i = ((says i).0, (says i).1)

    pub run_map_left : (n : ℕ) → answer_says r ≡ value n → map ≡ left_of bytes
    unfolding ran_map
    run_map_left n e = ap (λ x. x.2) says ∙ leaving_value (λ _. left_of bytes) empty_tree (ran bytes buffer).0 n (leaving_says (λ _. left_of bytes) empty_tree (ran bytes buffer).0 ∙ sym (ap (λ x. x.0) says) ∙ e)

    pub run_map_none : (k : ℕ) → answer_says r ≡ refused k → map ≡ empty_tree
    unfolding ran_map
    run_map_none k e = ap (λ x. x.2) says ∙ leaving_refused (λ _. left_of bytes) empty_tree (ran bytes buffer).0 k (leaving_says (λ _. left_of bytes) empty_tree (ran bytes buffer).0 ∙ sym (ap (λ x. x.0) says) ∙ e)

  pub run_map_one_answer : (r q : Result ℕ Refusal) (map left : Tree) (after other : List ℕ) → RunMapSays bytes buffer r map after → RunMapSays bytes buffer q left other
      → (r ≡ q) × (map ≡ left) × (after ≡ other)
  run_map_one_answer r q map left after other p o =
      let same = p ∙ sym o in
      (answer_says_injective r q (ap (λ x. x.0) same), ap (λ x. x.2) same, ap (λ x. x.1) same)

-- what the program writes: one outcome, and it always fits
module _ (bytes : List ℕ) where
  pub output_one_answer : (before : List ℕ) (r q : ℕ) (after other : List ℕ) → OutputSays bytes before r after → OutputSays bytes before q other → (r ≡ q) × (after ≡ other)
  output_one_answer before r q after other p o = (ap (λ x. x.0) (p ∙ sym o), ap (λ x. x.1) (p ∙ sym o))

  -- its length is that of a part of the buffer
  pub output_inside : (before : List ℕ) (r : ℕ) (after : List ℕ) → OutputSays bytes before r after → r ≤ length after
  output_inside before r after p =
      let ends : r ≡ length (output_of bytes) = ap (λ x. x.0) p in
      let long : length after ≡ length (output_of bytes) + length (drop (length (output_of bytes)) before) =
      ap (λ x. length x.1) p ∙ length-append (output_of bytes) (drop (length (output_of bytes)) before) in
      omega (arith, ends, long)

-- ---- a run is a series of demand 3

-- the calls among some fields
abbrev pub calls_of : List Field → List Asked
calls_of [] = []
calls_of (call asked ∷ rest) = asked ∷ calls_of rest
calls_of (skip ∷ rest) = calls_of rest
calls_of (bad ∷ rest) = calls_of rest
calls_of (cut ∷ rest) = calls_of rest

-- what the calls said, as the lines have it
abbrev pub said_in : List Line → List (Said Reply)
said_in [] = []
said_in (said answer ∷ rest) = answer ∷ said_in rest
said_in (skipped ∷ rest) = said_in rest
said_in (stopped ∷ rest) = said_in rest
said_in (short ∷ rest) = said_in rest
said_in (used n ∷ rest) = said_in rest

-- the last line
abbrev pub last_in : Line → List Line → Line
last_in line [] = line
last_in line (next ∷ rest) = last_in next rest

pub left_last : (t : Tree) (fs : List Field) → left_by t fs ≡ last_of tree_view tree_calls t (calls_of fs)
left_last t [] = refl
left_last t (call asked ∷ rest) = left_last (made tree_view tree_calls t asked).1 rest
left_last t (skip ∷ rest) = left_last t rest
left_last t (bad ∷ rest) = left_last t rest
left_last t (cut ∷ rest) = left_last t rest

-- each call's line is its own answer, on the map that the one before left
pub lines_answer : (t : Tree) (fs : List Field) → said_in (lines_of t fs) ≡ answers_of tree_view tree_calls t (calls_of fs)
unfolding lines_of
lines_answer t [] = refl
lines_answer t (call asked ∷ rest) = ap (λ (more : List (Said Reply)). (made tree_view tree_calls t asked).0 ∷ more) (lines_answer (made tree_view tree_calls t asked).1 rest)
lines_answer t (skip ∷ rest) = lines_answer t rest
lines_answer t (bad ∷ rest) = lines_answer t rest
lines_answer t (cut ∷ rest) = lines_answer t rest

-- the last line counts the slots of the map that is left
pub last_counts : (t : Tree) (fs : List Field) (line : Line) → last_in line (lines_of t fs) ≡ used (used_call 10 (slot_of (left_by t fs))).answer
unfolding lines_of
last_counts t [] line = refl
last_counts t (field ∷ rest) line = last_counts (carried t field).1 rest (carried t field).0

-- every field leaves a sound tree sound
pub carried_sound : (t : Tree) (field : Field) → Sound t → Sound (carried t field).1
carried_sound t (call asked) sound = changed_sound tree_view t (call_of 10 (slot_of t) asked) sound (λ a said. tt)
carried_sound t skip sound = sound
carried_sound t bad sound = sound
carried_sound t cut sound = sound

fields_sound : (t : Tree) (fs : List Field) → Sound t → Sound (left_by t fs)
fields_sound t [] sound = sound
fields_sound t (field ∷ rest) sound = fields_sound (carried t field).1 rest (carried_sound t field sound)

-- ---- of the runner, which starts from the empty tree

module _ (bytes : List ℕ) where
  abbrev pub asked : List Asked
  asked = calls_of (fields bytes)

  -- the map that a record leaves is sound
  pub left_sound : Sound (left_of bytes)
  left_sound = fields_sound empty_tree (fields bytes) (tree_view.made_sound none tt)

  -- walked backward from the tree that the run leaves, the record of its accepted calls is accepted step by step, meets the maps that stood before
  -- each of them, and comes to the empty tree
  pub run_walked_back : Back tree_view tree_calls (left_of bytes) (record_of tree_view tree_calls empty_tree asked) (before_of tree_view tree_calls empty_tree asked) empty_tree
  run_walked_back =
      subst (λ (last : Tree). Back tree_view tree_calls last (record_of tree_view tree_calls empty_tree asked) (before_of tree_view tree_calls empty_tree asked) empty_tree)
      (sym (left_last empty_tree (fields bytes)))
      (walked_back tree_view tree_calls empty_tree (tree_view.made_sound none tt) (tree_view.made_map none) asked)
