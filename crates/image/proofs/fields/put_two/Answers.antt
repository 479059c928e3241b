-- `image::fields::put_two` meets its contract: two bytes in the place of two. Assumes nothing.
use Rattle.std.proofs.Common.{◌∙◌, ap, ◌+◌}
use Rattle.bits.specs.Bytes.{to_bytes, to_bytes_length}
use Rattle.image.proofs.Numbers.{written, placed}
use Rattle.image.proofs.fields.put_two.Goals as goal

pub returns : goal.returns
returns c =
    let asked = c.args in
    placed asked.image.now _ (to_bytes 2 asked.n) asked.at (asked.at + 2) (ap (λ m. asked.at + m) (to_bytes_length 2 asked.n)) (c.copy_from_slice.ensures.after ∙ c.to_le_bytes.ensures ∙ written 2 asked.n)
