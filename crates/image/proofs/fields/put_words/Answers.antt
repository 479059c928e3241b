-- `image::fields::put_words` meets its contract: a word each turn. Assumes nothing.
use Rattle.std.proofs.Common.{◌∙◌, List, ℕ, ap, ◌+◌, ◌*◌, arith, get_or}
use Rattle.bits.specs.Bytes.{to_bytes, to_bytes_length}
use Rattle.bits.specs.Buffers.{put_at}
use Rattle.image.proofs.Numbers.{written, placed}
use Rattle.image.proofs.Turns.{word_written, none_written}
use Rattle.image.proofs.fields.put_words.Goals as goal

pub loop-i-init : goal.loop-i-init
loop-i-init c = none_written c.args.image.now c.args.words.now c.requires.0 c.requires.1

pub loop-i-preserved : goal.loop-i-preserved
loop-i-preserved c =
    let asked = c.args in
    let i = c.loop-i.i in
    let word = get_or asked.words.now i 0 in
    word_written asked.image.now asked.words.now c.requires.0 c.requires.1 i _ (omega arith)
    (placed c.loop-i.image _ (to_bytes 8 word) (3 + 8 * i) (3 + 8 * i + 8) (ap (λ m. 3 + 8 * i + m) (to_bytes_length 8 word)) (c.copy_from_slice.ensures.after ∙ c.to_le_bytes.ensures ∙ written 8 word)
    ∙ ap (λ (held : List ℕ). put_at held (3 + 8 * i) (to_bytes 8 word)) c.loop-i.invariant)
