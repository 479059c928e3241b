-- `gaps::longest_free` meets its contract: 1, then 7, and else the longest run. Assumes nothing.
use Rattle.std.specs.Prelude.{Option, None, Some}
use Rattle.std.specs.Option.{ok_or}
use Rattle.std.proofs.Common.{◌≡◌, List, ℕ, sym, ap, ◌∙◌}
use Rattle.std.proofs.lemmas.Result.{err_from_is_err_and}
use Rattle.answers.specs.Said.{value, refused}
use Rattle.answers.specs.Answers.{answer_says}
use Rattle.answers.specs.declared.Run.{Run}
use Rattle.answers.specs.declared.Refusal.TheVariants.{NoRoom}
use Rattle.slots.specs.Calls.{says}
use Rattle.slots.specs.View.{found_sound, found_unsound}
use Rattle.slots.specs.Gaps.{longest_call}
use Rattle.views.specs.Painting.{slot_in}
use Rattle.tree.specs.Layout.{slot_of, tree_view}
use Rattle.gaps.specs.Inner.{LongestSays}
use Rattle.gaps.proofs.Outcomes.{longest_none, longest_some}
use Rattle.gaps.proofs.longest_free.Goals as goal

-- 7 where no run was found, and else the run
said_of : (words : List ℕ) (r : Option Run) → LongestSays words r → answer_says (ok_or r NoRoom) ≡ says (longest_call 10 (slot_in words))
said_of words None none = sym (longest_none (slot_in words) none)
said_of words (Some found) is = ap value is.0 ∙ sym (longest_some (slot_in words) (rw (sym is.0) is.1))

pub returns-in_err-sound_words : goal.returns-in_err-sound_words
returns-in_err-sound_words c =
    let t = c.args.tree in
    let said = err_from_is_err_and c.from_residual.result c.from_residual.ensures.1 in
    rw (said.1, said.2) (ap refused c.in_err-sound_words.ensures.1 ∙ sym (found_unsound tree_view t (longest_call 10 (slot_of t)) c.in_err-sound_words.ensures.0))

pub returns : goal.returns
returns c =
    let t = c.args.tree in
    ap answer_says c.ok_or.ensures.value ∙ said_of _ c.longest.result c.longest.ensures
    ∙ ap (λ (words : List ℕ). says (longest_call 10 (slot_in words))) c.in_ok-sound_words.ensures.1
    ∙ sym (found_sound tree_view t (longest_call 10 (slot_of t)) c.in_ok-sound_words.ensures.0)
