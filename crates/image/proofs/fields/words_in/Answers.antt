-- `image::fields::words_in` meets its contract: each word is that of the bytes. Assumes nothing.
use Rattle.std.proofs.Common.{◌≡◌, ◌∙◌, [], get_or, rules, arith, refl}
use Rattle.std.specs.Int.{from_le_bytes, w64}
use Rattle.image.proofs.Numbers.{word_at}
use Rattle.image.proofs.Turns.{each_made, words_read}
use Rattle.image.proofs.fields.words_in.Goals as goal

pub returns : goal.returns
returns c =
    let image = c.args.image.now in
    let parts = c.as_chunks.result.0 in
    let made = c.from_fn.ensures.items in
    words_read image _ made.long (λ i l.
    each_made _ (λ f. f.0 ≡ parts) (λ k. from_le_bytes w64 (get_or parts.now k [])) _ (λ p k y q held called. (search rules, search rules)) 16 0 _ refl made.each i (omega arith) l
    ∙ word_at image parts.now i [] c.requires l c.as_chunks.ensures.front)
