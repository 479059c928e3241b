-- `gaps::next_of` meets its contract: the first used slot, or the first free one where it lies in the tree. Assumes nothing.
use Rattle.std.proofs.Common.{◌≡◌, ℕ, ◌-◌, Bool, true, List, [], ◌∷◌, sym, ap, ◌∙◌}
use Rattle.bits.specs.Range.{least}
use Rattle.slots.specs.Sets.{Slots}
use Rattle.slots.specs.Lowest.{free_from}
use Rattle.slots.specs.Gaps.{having}
use Rattle.views.specs.Painting.{slot_in}
use Rattle.views.specs.Full.{filled, filled_unmarked, seen_from, seen_right}
use Rattle.gaps.proofs.Turns.{near_free}
use Rattle.gaps.proofs.next_of.Goals as goal

-- the words as they are
used_at : (words : List ℕ) (v : Bool) (from : ℕ) → v ≡ true → least (slot_in (filled words (0 ∷ []))) from (1024 - from) ≡ least (having v (slot_in words)) from (1024 - from)
used_at words v from e = ap (λ (ws : List ℕ). least (slot_in ws) from (1024 - from)) (filled_unmarked words) ∙ sym (ap (λ (b : Bool). least (having b (slot_in words)) from (1024 - from)) e)

free_at : (words : List ℕ) (from : ℕ) → free_from 14 (seen_from words (0 ∷ []) from) from ≡ free_from 14 (slot_in words) from
free_at words from = ap (λ (S : Slots). free_from 14 S from) (seen_right words (0 ∷ []) (filled_unmarked words) from)

pub returns-then-used : goal.returns-then-used
returns-then-used c =
    let asked = c.args in
    c.first_used.ensures ∙ used_at asked.words.now asked.used asked.from c.if-used.true

pub returns : goal.returns
returns c =
    let asked = c.args in
    near_free (slot_in asked.words.now) asked.from c.requires c.first_free.result (c.first_free.ensures ∙ free_at asked.words.now asked.from) c.min.result c.min.ensures
    ∙ sym (ap (λ (b : Bool). least (having b (slot_in asked.words.now)) asked.from (1024 - asked.from)) c.if-used.false)
