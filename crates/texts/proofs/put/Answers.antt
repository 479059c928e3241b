-- `texts::put` meets its contract: the part that comes back holds the words. Assumes nothing.
use mathlib.Core.Path.{◌≡◌, sym, ◌∙◌}
use mathlib.Core.List.{List, ◌++◌}
use Prim.Native.Nat.{ℕ, ◌+◌, ◌-◌, ◌≤◌}
use native.Mathlib.Omega.{arith}
use lib.ListN.{length, take}
use borrow.Rule.Slice.PartMut.{put_mid, Post-is}
use Rattle.bits.specs.Buffers.{put_at}
use Rattle.texts.specs.Texts.{put_fits, put_no_room}
use Rattle.texts.proofs.put.Goals as goal

-- the words in the place of a part that is as long
put_words : (buffer words part : List ℕ) (s : ℕ) → s + length words ≤ length buffer
    → part ≡ words
    → put_mid s (s + length words - s) buffer part ≡ put_at buffer s words
unfolding put_at
put_words buffer words part s fits copied = (λ i. take s buffer ++ (copied i ++ Post-is s (s + length words) buffer (omega arith) i))

-- the offset lies past the buffer
pub returns-then-buffer-at : goal.returns-then-buffer-at
returns-then-buffer-at c =
    let asked = c.args in
    sym (put_no_room asked.at asked.buffer.now asked.words.now (omega (arith, c.if-buffer-at.true)))

-- what is left of it is too short
pub returns-then-buffer-at-2 : goal.returns-then-buffer-at-2
returns-then-buffer-at-2 c =
    let asked = c.args in
    sym (put_no_room asked.at asked.buffer.now asked.words.now (omega (arith, c.if-buffer-at.false, c.if-buffer-at-2.true)))

pub returns : goal.returns
returns c =
    let asked = c.args in
    let fits : asked.at + length asked.words.now ≤ length asked.buffer.now = omega arith in
    (λ i. (asked.at + length asked.words.now, put_words asked.buffer.now asked.words.now _ asked.at fits c.copy_from_slice.ensures.after i))
    ∙ sym (put_fits asked.at asked.buffer.now asked.words.now fits)
