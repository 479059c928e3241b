-- `gaps::sound_words` meets its contract: the tree's count is refused exactly where it is not sound, and then with 1. Assumes nothing.
use Rattle.std.proofs.lemmas.Result.{err_from_is_err_and}
use Rattle.tree.specs.Demands.{refused_unsound, counted_sound}
use Rattle.gaps.proofs.sound_words.Goals as goal

pub returns-in_err-used : goal.returns-in_err-used
returns-in_err-used c =
    let said = err_from_is_err_and c.from_residual.result c.from_residual.ensures.1 in
    rw (said.1, said.2) (refused_unsound c.args.tree _ c.used.ensures _ c.in_err-used.was)

pub returns : goal.returns
returns c = ((counted_sound c.args.tree _ c.used.ensures _ c.in_ok-used.was).0, c.words.ensures)
