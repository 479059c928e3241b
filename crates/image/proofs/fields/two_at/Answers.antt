-- `image::fields::two_at` meets its contract: the low byte and the high byte. Assumes nothing.
use Rattle.std.proofs.Common.{arith}
use Rattle.bits.specs.Bytes.{number_two}
use Rattle.image.proofs.fields.two_at.Goals as goal

pub returns : goal.returns
returns c =
    let asked = c.args in
    let bytes = number_two asked.image.now asked.at (omega arith) in
    omega (arith, bytes, c.from_le_bytes.ensures)
