-- `image::fields::put_header` meets its contract: the tag, and behind it the length. Assumes nothing.
use mathlib.Core.Path.{ap, ◌∙◌}
use native.Mathlib.Omega.{arith}
use mathlib.Core.List.{List, [], ◌∷◌}
use Prim.Native.Nat.{ℕ, ◌+◌}
use lib.ListN.{length, length-set}
use Rattle.bits.specs.Bytes.{to_bytes, to_bytes_length}
use Rattle.bits.specs.Buffers.{put_at, put_length, put_one, put_put}
use Rattle.image.proofs.fields.put_header.Goals as goal

pub put_two-requires : goal.put_two-requires
put_two-requires c = let inside = c.requires in simp length-set (omega (arith, inside))

pub returns : goal.returns
returns c =
    let asked = c.args in
    let inside = c.requires in
    c.put_two.ensures
    ∙ ap (λ (held : List ℕ). put_at held (asked.at + 1) (to_bytes 2 asked.size)) (put_one asked.image.now asked.at asked.tag (omega (arith, inside)))
    ∙ put_put asked.image.now asked.at (asked.tag ∷ []) (to_bytes 2 asked.size) (omega (arith, inside))

pub shape_of-image : goal.shape_of-image
shape_of-image c =
    let asked = c.args in
    let inside = c.requires in
    let long = to_bytes_length 2 asked.size in
    ap length (returns c) ∙ put_length asked.image.now asked.at (asked.tag ∷ to_bytes 2 asked.size) (omega (arith, inside, long))
