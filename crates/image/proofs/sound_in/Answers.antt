-- `image::sound_in` meets its contract: where the map is sound, and the search finds the rest. Assumes nothing.
use Rattle.image.proofs.Outcomes.{judged_sound}
use Rattle.image.proofs.sound_in.Goals as goal

pub returns : goal.returns
returns c = judged_sound c.args.image.now _ c.held_in.ensures _ c.in_ok-found.was _ c.used.ensures _ c.in_ok-used.was
