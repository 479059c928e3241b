-- `image::fields::put` meets its contract: both headers and what stands behind them. Assumes nothing.
use mathlib.Core.Path.{ap, ◌∙◌}
use mathlib.Core.List.{List}
use Prim.Native.Nat.{ℕ}
use Rattle.bits.specs.Bytes.{to_bytes, bytes_of}
use Rattle.bits.specs.Buffers.{put_at}
use Rattle.image.proofs.Turns.{put_in_turn}
use borrow.Author.Rules.{rules}
use Rattle.image.proofs.fields.put.Goals as goal

pub returns : goal.returns
returns c =
    let asked = c.args in
    put_in_turn asked.image.now asked.map c.requires (search rules)
    _ _ _ _ c.put_header.ensures
    (c.put_words.ensures ∙ ap (λ (held : List ℕ). put_at c.put_header.new.image 3 (bytes_of 8 held)) c.words-words.ensures)
    c.put_header-2.ensures
    (c.put_two.ensures ∙ ap (λ (n : ℕ). put_at c.put_header-2.new.image 134 (to_bytes 2 n)) c.summary-summary.ensures)
