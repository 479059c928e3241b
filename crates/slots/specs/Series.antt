-- Demand 3, over any kind of state, any layout and any family of calls: a series of calls, the record that it writes down, and that the record can be
-- walked backward, replayed, and reordered. Only the bridges know what a call does. Rests on `View` and on `Family`.
use Rattle.std.specs.Prelude.{◌≡◌, refl, false, ◌^◌, ltb}
use Rattle.std.proofs.Common.{sym, ap, ◌∙◌, arith, ltb-true, ltb-false}
use Rattle.std.proofs.Math.Path.{fun_ext}
use mathlib.Core.List.{List, [], ◌∷◌, map, reverse}
use Rattle.answers.specs.Said.{Said, value, refused}
use Rattle.answers.specs.declared.Reply.{Reply}
use Rattle.answers.specs.declared.Reply.TheVariants.{Done as ok}
use Rattle.bits.specs.Range.{either}
use Rattle.slots.specs.Promises.{InRange}
use Rattle.slots.specs.Kinds.{Kind, State, turned_other}
use Rattle.slots.specs.Calls.{says}
use Rattle.slots.specs.Records.{Entry, undo, after, touches}
use Rattle.slots.specs.View.{View, changed, changed_says, changed_sound, changed_map, sound_answers, says_accepted}
use Rattle.slots.specs.Outcome as Outcome
use Rattle.slots.specs.Family.{Family, Bridge}

-- every answer accepts
abbrev pub AllDone : List (Said Reply) → Type 0
AllDone [] = Unit {0}
AllDone (said ∷ rest) = (said ≡ value ok) × AllDone rest

-- ---- running it

module _ {K : Kind} (L : View K) (F : Family K L.k) where
  abbrev Asked : Type 0
  Asked = F.Asked

  -- a refused call leaves no entry
  abbrev pub written : Asked → Said Reply → List Entry → List Entry
  written asked (value reply) es = F.entry_of asked reply ∷ es
  written asked (refused r) es = es

  -- the calls that replay a record, and those that walk it backward from its end
  abbrev pub forward : List Entry → List Asked
  forward es = map F.asked_for es

  abbrev pub backward : List Entry → List Asked
  backward es = map (λ e. F.asked_for (undo e)) (reverse es)

  -- one call: its answer and the map that it leaves, as the contracts have them
  abbrev pub made : L.Map → Asked → Said Reply × L.Map
  made m c = changed L m (F.call_of (L.state_of m) c)

  -- the answers; the map after each call; the last map
  abbrev pub answers_of : L.Map → List Asked → List (Said Reply)
  answers_of m [] = []
  answers_of m (c ∷ cs) = (made m c).0 ∷ answers_of (made m c).1 cs

  abbrev pub maps_of : L.Map → List Asked → List L.Map
  maps_of m [] = []
  maps_of m (c ∷ cs) = (made m c).1 ∷ maps_of (made m c).1 cs

  abbrev pub last_of : L.Map → List Asked → L.Map
  last_of m [] = m
  last_of m (c ∷ cs) = last_of (made m c).1 cs

  -- the record, an entry for each accepted call; and the maps that stood before each accepted call
  abbrev pub record_of : L.Map → List Asked → List Entry
  record_of m [] = []
  record_of m (c ∷ cs) = written c (made m c).0 (record_of (made m c).1 cs)

  abbrev pub kept : L.Map → Said Reply → List L.Map → List L.Map
  kept m (value reply) ms = m ∷ ms
  kept m (refused r) ms = ms

  abbrev pub before_of : L.Map → List Asked → List L.Map
  before_of m [] = []
  before_of m (c ∷ cs) = kept m (made m c).0 (before_of (made m c).1 cs)

  -- ---- two series, one after the other

  -- where each call keeps the rule, a series from a sound map ends in a sound map
  pub last_sound : ((X : State K) (c : Asked) (reply : Reply) → says (F.call_of X c) ≡ value reply → K.Right (F.call_of X c).after)
      → (m : L.Map) → L.Sound m → (cs : List Asked) → L.Sound (last_of m cs)
  last_sound keeps m sound [] = sound
  last_sound keeps m sound (c ∷ cs) = last_sound keeps (made m c).1 (changed_sound L m (F.call_of (L.state_of m) c) sound (keeps (L.state_of m) c)) cs

  -- ---- on a sound map each call is its bridge

  pub record Sure (m : L.Map) : Type 0 where
    pub sound : L.Sound m
    pub held : L.IsMap m

  module _ (m : L.Map) (sure : Sure m) where
    abbrev X : State K
    X = L.state_of m

    pub said_by : (c : Asked) (x : Said Reply) → (made m c).0 ≡ x → says (F.call_of X c) ≡ x
    said_by c x e = sym (sound_answers L m (F.call_of X c) sure.sound) ∙ sym (changed_says L m (F.call_of X c)) ∙ e

    pub bridged : (c : Asked) (reply : Reply) → says (F.call_of X c) ≡ value reply → Bridge K L.k Asked F.call_of F.asked_for X c (F.entry_of c reply)
    bridged c reply said = F.bridge X (L.right m sure.sound sure.held) c reply said

    -- what the state accepts, the map does, and holds the state that is left
    pub accepts : (c : Asked) (reply : Reply) → says (F.call_of X c) ≡ value reply → made m c ≡ (value reply, L.of_state (after K X (F.entry_of c reply)))
    accepts c reply said =
        says_accepted L m (F.call_of X c) reply (sound_answers L m (F.call_of X c) sure.sound ∙ said)
        ∙ ap (λ (Y : State K). (value reply, L.of_state Y)) (bridged c reply said).leaves_as

    state_left : (e : Entry) → InRange L.k e.start e.entries → L.state_of (L.of_state (after K X e)) ≡ after K X e
    state_left e range = fun_ext (λ p.
        either (ltb (K.slot_for p) (2 ^ L.k)) (λ inside. L.holds (after K X e) p (ltb-true (K.slot_for p) (2 ^ L.k) inside))
        (λ out.
        let past = ltb-false (K.slot_for p) (2 ^ L.k) out in
        let apart : touches K e p ≡ false =
        either (touches K e p) (λ t. let own = K.names_own e.start e.entries p t in absurd (omega (arith, range.1, own.1, past))) (λ f. f) in
        L.past _ (L.made_map (after K X e)) p past
        ∙ sym (turned_other K X e.start e.entries e.used p apart ∙ L.past m sure.held p past)))

    pub next_state : (c : Asked) (reply : Reply) → says (F.call_of X c) ≡ value reply → L.state_of (made m c).1 ≡ after K X (F.entry_of c reply)
    next_state c reply said = ap (λ out. L.state_of out.1) (accepts c reply said) ∙ state_left (F.entry_of c reply) (bridged c reply said).range

    pub next_sure : (c : Asked) → Sure (made m c).1
    next_sure c = record {
      sound = changed_sound L m (F.call_of X c) sure.sound (λ reply said. rw (bridged c reply said).leaves_as (bridged c reply said).keeps);
      held = changed_map L m (F.call_of X c) sure.held;
    }

  -- ---- the whole walk backward, from the last map

  -- from `last`, the record es walked backward is accepted throughout, meets the maps bs from their end, and comes to `first`
  pub record Back (last : L.Map) (es : List Entry) (bs : List L.Map) (first : L.Map) : Type 0 where
    pub accepted : AllDone (answers_of last (backward es))
    pub met : maps_of last (backward es) ≡ reverse bs
    pub home : last_of last (backward es) ≡ first

  -- ---- the record replayed

  pub record Forth (m : L.Map) (es : List Entry) (last : L.Map) : Type 0 where
    pub accepted : AllDone (answers_of m (forward es))
    pub ends : last_of m (forward es) ≡ last

  -- ---- demand 3 of outcomes: the caller makes the calls, has what they say and leave, and makes the calls of the record, all by the contracts

  module _ (Out : Type 0) (said : Out → Said Reply) (left : Out → L.Map) where
    -- a series as it was run
    abbrev pub Ran : L.Map → List Asked → List Out → Type 0
    Ran = Outcome.Ran L Out said left F.call_of

    -- so its answers and its maps are those of the series
    pub ran_answers : (m : L.Map) (cs : List Asked) (rs : List Out) → Ran m cs rs → map said rs ≡ answers_of m cs
    ran_answers m [] [] ran = refl
    ran_answers m [] (r ∷ rs) ran = absurd ran
    ran_answers m (c ∷ cs) [] ran = absurd ran
    ran_answers m (c ∷ cs) (r ∷ rs) ran =
        λ i. (ran.0 i).0 ∷ (ran_answers (left r) cs rs ran.1 ∙ ap (λ (next : L.Map). answers_of next cs) (ap (λ out. out.1) ran.0)) i

    pub ran_maps : (m : L.Map) (cs : List Asked) (rs : List Out) → Ran m cs rs → map left rs ≡ maps_of m cs
    ran_maps m [] [] ran = refl
    ran_maps m [] (r ∷ rs) ran = absurd ran
    ran_maps m (c ∷ cs) [] ran = absurd ran
    ran_maps m (c ∷ cs) (r ∷ rs) ran =
        λ i. (ran.0 i).1 ∷ (ran_maps (left r) cs rs ran.1 ∙ ap (λ (next : L.Map). maps_of next cs) (ap (λ out. out.1) ran.0)) i

    -- what the caller has: the record, written down from the answers; the map that the last outcome left; the maps that stood before each accepted call
    abbrev pub record_ran : List Asked → List Out → List Entry
    record_ran [] rs = []
    record_ran (c ∷ cs) [] = []
    record_ran (c ∷ cs) (r ∷ rs) = written c (said r) (record_ran cs rs)

    abbrev pub last_ran : L.Map → List Out → L.Map
    last_ran = Outcome.last_ran L Out said left

    abbrev pub before_ran : L.Map → List Out → List L.Map
    before_ran m [] = []
    before_ran m (r ∷ rs) = kept m (said r) (before_ran (left r) rs)

    -- outcomes bs that undo the outcomes rs on m: every one accepts, they leave the maps that stood before each accepted call, from the last to the first,
    -- and the last that is left is m
    pub record BackRan (m : L.Map) (rs bs : List Out) : Type 0 where
      pub accepted : AllDone (map said bs)
      pub met : map left bs ≡ reverse (before_ran m rs)
      pub home : last_ran (last_ran m rs) bs ≡ m
