-- `image::fields::put_words` meets its contract: a word each turn. Assumes nothing.
use Rattle.std.proofs.Common.{◌≡◌, take}
use Rattle.bits.specs.Bytes.{bytes_of}
use Rattle.bits.specs.Buffers.{put_at}
use Rattle.image.proofs.fields.put_words.Given as goal

abbrev pub invariant-loop-i : goal.invariant-loop-i
invariant-loop-i l = l.image ≡ put_at l.initial.image 3 (bytes_of 8 (take l.i l.words))
