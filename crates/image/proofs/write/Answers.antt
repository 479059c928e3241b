-- `image::write` meets its contract: where the image is written, and the search finds the rest. Assumes nothing.
use Rattle.image.proofs.Outcomes.{write_sound}
use Rattle.image.proofs.write.Goals as goal

pub returns : goal.returns
returns c =
    write_sound c.args.map c.args.image.now c.if-image-ne-LENGTH.false _ c.used.ensures _ c.in_ok-used.was _ c.put.ensures
