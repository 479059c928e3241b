-- What stood in specs/Series and rests on theorems there: moved, its statements unchanged. Rests on `Series`.
use Rattle.std.specs.Prelude.{◌≡◌, refl, ℕ}
use Rattle.std.proofs.Common.{sym, ap, subst, ◌∙◌}
use mathlib.Core.List.{List, [], ◌∷◌, ◌++◌, map, reverse, reverse-cons, map-append, Perm}
use Rattle.answers.specs.Said.{Said, value, refused}
use Rattle.answers.specs.declared.Reply.{Reply}
use Rattle.answers.specs.declared.Reply.TheVariants.{Done as ok}
use Rattle.slots.specs.Kinds.{Kind, State}
use Rattle.slots.specs.Calls.{says}
use Rattle.slots.specs.Records.{Entry, undo, after, Turns, AllTurn, finally, undo_restores, any_order}
use Rattle.slots.specs.View.{View, changed_refused, same_state}
use Rattle.slots.specs.Family.{Family}
use Rattle.slots.specs.Series.{AllDone, written, forward, backward, made, answers_of, maps_of, last_of, record_of, kept, before_of, Sure, said_by, bridged, accepts, next_state, next_sure, Back, Forth, Ran, ran_answers, ran_maps, record_ran, last_ran, before_ran, BackRan}

-- ---- running it

module _ {K : Kind} (L : View K) (F : Family K L.k) where
  abbrev Asked : Type 0
  Asked = F.Asked

  -- ---- two series, one after the other

  answers_then : (m : L.Map) (cs ds : List Asked) → answers_of L F m (cs ++ ds) ≡ answers_of L F m cs ++ (answers_of L F) (last_of L F m cs) ds
  answers_then m [] ds = refl
  answers_then m (c ∷ cs) ds = ap (λ (rest : List (Said Reply)). (made L F m c).0 ∷ rest) (answers_then (made L F m c).1 cs ds)

  maps_then : (m : L.Map) (cs ds : List Asked) → maps_of L F m (cs ++ ds) ≡ maps_of L F m cs ++ (maps_of L F) (last_of L F m cs) ds
  maps_then m [] ds = refl
  maps_then m (c ∷ cs) ds = ap (λ (rest : List L.Map). (made L F m c).1 ∷ rest) (maps_then (made L F m c).1 cs ds)

  last_then : (m : L.Map) (cs ds : List Asked) → last_of L F m (cs ++ ds) ≡ last_of L F (last_of L F m cs) ds
  last_then m [] ds = refl
  last_then m (c ∷ cs) ds = last_then (made L F m c).1 cs ds

  all_done_then : (xs ys : List (Said Reply)) → AllDone xs → AllDone ys → AllDone (xs ++ ys)
  all_done_then [] ys d e = e
  all_done_then (x ∷ xs) ys d e = (d.0, all_done_then xs ys d.1 e)

  module _ (m : L.Map) (sure : (Sure L F) m) where
    abbrev X : State K
    X = L.state_of m

    -- an accepted call, replayed as its entry
    again : (c : Asked) (reply : Reply) → says (F.call_of X c) ≡ value reply → made L F m (F.asked_for (F.entry_of c reply)) ≡ (value ok, (made L F m c).1)
    again c reply said =
        let e = F.entry_of c reply in
        (accepts L F m sure) (F.asked_for e) ok (bridged L F m sure c reply said).replays
        ∙ ap (λ (f : Entry). (value ok, L.of_state (after K X f))) (F.entry_asked e ok)
        ∙ ap (λ out. (value ok, out.1)) (sym (accepts L F m sure c reply said))

  -- undoing an accepted call gives back the very map
  undone : (m : L.Map) (sure : Sure L F m) (c : Asked) (reply : Reply) → says (F.call_of (L.state_of m) c) ≡ value reply
      → made L F (made L F m c).1 (F.asked_for (undo (F.entry_of c reply))) ≡ (value ok, m)
  undone m sure c reply said =
      let e = F.entry_of c reply in
      let bridge = bridged L F m sure c reply said in
      let mid = (made L F m c).1 in
      let state : L.state_of mid ≡ after K (L.state_of m) e = next_state L F m sure c reply said in
      let accepted : says (F.call_of (L.state_of mid) (F.asked_for (undo e))) ≡ value ok = ap (λ (Y : State K). says (F.call_of Y (F.asked_for (undo e)))) state ∙ bridge.undoes in
      (accepts L F) mid (next_sure L F m sure c) (F.asked_for (undo e)) ok accepted
      ∙ ap (λ (f : Entry). (value ok, L.of_state (after K (L.state_of mid) f))) (F.entry_asked (undo e) ok)
      ∙ ap (λ (Y : State K). (value ok, L.of_state Y)) (ap (λ (Y : State K). after K Y (undo e)) state ∙ undo_restores K (L.state_of m) e bridge.turns)
      ∙ ap (λ (x : L.Map). (value ok, x)) (L.same m sure.sound sure.held)

  back_more : (last : L.Map) (es : List Entry) (bs : List L.Map) (mid : L.Map) → Back L F last es bs mid
      → (e : Entry) (m : L.Map) → made L F mid (F.asked_for (undo e)) ≡ (value ok, m) → Back L F last (e ∷ es) (m ∷ bs) m
  back_more last es bs mid back e m step =
      let further : backward L F (e ∷ es) ≡ backward L F es ++ (F.asked_for (undo e) ∷ []) =
      ap (map (λ x. F.asked_for (undo x))) (reverse-cons e es) ∙ map-append (λ x. F.asked_for (undo x)) (reverse es) (e ∷ []) in
      let at_mid : made L F (last_of L F last (backward L F es)) (F.asked_for (undo e)) ≡ (value ok, m) = rw back.home step in
      record {
        accepted = rw (further, answers_then last (backward L F es) (F.asked_for (undo e) ∷ [])) (all_done_then (answers_of L F last (backward L F es)) (answers_of L F (last_of L F last (backward L F es)) (F.asked_for (undo e) ∷ [])) back.accepted (ap (λ out. out.0) at_mid, tt));
        met = ap (maps_of L F last) further ∙ maps_then last (backward L F es) (F.asked_for (undo e) ∷ [])
            ∙ (λ i. back.met i ++ ((at_mid i).1 ∷ [])) ∙ sym (reverse-cons m bs);
        home = ap (last_of L F last) further ∙ last_then last (backward L F es) (F.asked_for (undo e) ∷ []) ∙ ap (λ out. out.1) at_mid;
      }

  either_said : {P : Type 0} (said : Said Reply) → ((reply : Reply) → said ≡ value reply → P) → ((r : ℕ) → said ≡ refused r → P) → P
  either_said (value reply) yes-said no-said = yes-said reply refl
  either_said (refused r) yes-said no-said = no-said r refl

  back : (m : L.Map) → Sure L F m → (cs : List Asked) → Back L F (last_of L F m cs) (record_of L F m cs) (before_of L F m cs) m
  back m sure [] = record { accepted = tt; met = refl; home = refl }
  back m sure (c ∷ cs) =
      let mid = (made L F m c).1 in
      let rest = back mid (next_sure L F m sure c) cs in
      either_said (made L F m c).0
      (λ reply e.
      let es = ap (λ (said : Said Reply). written L F c said (record_of L F mid cs)) e in
      let bs = ap (λ (said : Said Reply). kept L F m said (before_of L F mid cs)) e in
      subst (λ (x : List Entry). Back L F (last_of L F mid cs) x (before_of L F m (c ∷ cs)) m) (sym es)
      (subst (λ (x : List L.Map). Back L F (last_of L F mid cs) (F.entry_of c reply ∷ (record_of L F) mid cs) x m) (sym bs)
      (back_more (last_of L F mid cs) (record_of L F mid cs) (before_of L F mid cs) mid rest (F.entry_of c reply) m
      (undone m sure c reply (said_by L F m sure c (value reply) e)))))
      (λ r e.
      let es = ap (λ (said : Said Reply). written L F c said (record_of L F mid cs)) e in
      let bs = ap (λ (said : Said Reply). kept L F m said (before_of L F mid cs)) e in
      subst (λ (x : List Entry). Back L F (last_of L F mid cs) x (before_of L F m (c ∷ cs)) m) (sym es)
      (subst (λ (x : List L.Map). Back L F (last_of L F mid cs) (record_of L F mid cs) x m) (sym bs)
      (subst (λ (x : L.Map). Back L F (last_of L F mid cs) (record_of L F mid cs) (before_of L F mid cs) x) (changed_refused L m _ r e) rest)))

  forth : (m : L.Map) → Sure L F m → (cs : List Asked) → Forth L F m (record_of L F m cs) (last_of L F m cs)
  forth m sure [] = record { accepted = tt; ends = refl }
  forth m sure (c ∷ cs) =
      let mid = (made L F m c).1 in
      let rest = forth mid (next_sure L F m sure c) cs in
      either_said (made L F m c).0
      (λ reply e.
      let es = ap (λ (said : Said Reply). written L F c said (record_of L F mid cs)) e in
      let step : made L F m (F.asked_for (F.entry_of c reply)) ≡ (value ok, mid) = again m sure c reply (said_by L F m sure c (value reply) e) in
      subst (λ (x : List Entry). Forth L F m x (last_of L F mid cs)) (sym es)
      (record {
        accepted = (ap (λ out. out.0) step, subst (λ (x : L.Map). AllDone (answers_of L F x (forward L F (record_of L F mid cs)))) (sym (ap (λ out. out.1) step)) rest.accepted);
        ends = ap (λ out. last_of L F out.1 (forward L F (record_of L F mid cs))) step ∙ rest.ends;
      }))
      (λ r e.
      let es = ap (λ (said : Said Reply). written L F c said (record_of L F mid cs)) e in
      subst (λ (x : List Entry). Forth L F m x (last_of L F mid cs)) (sym es)
      (subst (λ (x : L.Map). Forth L F x (record_of L F mid cs) (last_of L F mid cs)) (changed_refused L m _ r e) rest))

  -- ---- in any order

  last_sure : (m : L.Map) → Sure L F m → (cs : List Asked) → Sure L F (last_of L F m cs)
  last_sure m sure [] = sure
  last_sure m sure (c ∷ cs) = last_sure (made L F m c).1 (next_sure L F m sure c) cs

  -- entries that are accepted throughout turn one after the other, and the map at the end holds the state that they leave
  all_turn : (m : L.Map) → Sure L F m → (es : List Entry) → AllDone (answers_of L F m (forward L F es))
      → AllTurn K (L.state_of m) es × (L.state_of (last_of L F m (forward L F es)) ≡ finally K (L.state_of m) es)
  all_turn m sure [] done = (tt, refl)
  all_turn m sure (e ∷ es) done =
      let c = F.asked_for e in
      let said = said_by L F m sure c (value ok) done.0 in
      let back = F.entry_asked e ok in
      let turns : Turns K (L.state_of m) e = subst (λ (f : Entry). Turns K (L.state_of m) f) back (bridged L F m sure c ok said).turns in
      let state : L.state_of (made L F m c).1 ≡ after K (L.state_of m) e = next_state L F m sure c ok said ∙ ap (λ (f : Entry). after K (L.state_of m) f) back in
      let rest = all_turn (made L F m c).1 (next_sure L F m sure c) es done.1 in
      ((turns, subst (λ (Y : State K). AllTurn K Y es) state rest.0), rest.1 ∙ ap (λ (Y : State K). finally K Y es) state)

  -- ---- demand 3

  module _ (m : L.Map) (sound : L.Sound m) (held : L.IsMap m) (cs : List Asked) where
    sure : Sure L F m
    sure = record { sound = sound; held = held }

    -- walked backward from the last map, the record is accepted step by step, meets the maps that stood before each accepted call, and comes to the first
    pub walked_back : Back L F (last_of L F m cs) (record_of L F m cs) (before_of L F m cs) m
    walked_back = back m sure cs

    -- replayed from the first map, it is accepted throughout and ends in the last
    pub replayed : Forth L F m (record_of L F m cs) (last_of L F m cs)
    replayed = forth m sure cs

    -- and so does every order of its entries that is accepted
    pub in_any_order : (es : List Entry) → Perm es (record_of L F m cs) → AllDone (answers_of L F m (forward L F es)) → last_of L F m (forward L F es) ≡ last_of L F m cs
    in_any_order es same done =
        let once = all_turn m sure es done in
        let first = all_turn m sure (record_of L F m cs) replayed.accepted in
        let one = last_sure m sure (forward L F es) in
        let other = last_sure m sure (forward L F (record_of L F m cs)) in
        same_state L (last_of L F m (forward L F es)) (last_of L F m (forward L F (record_of L F m cs))) one.sound one.held other.sound other.held
        (λ p l. ap (λ Y. Y p) once.1 ∙ any_order K (L.state_of m) es (record_of L F m cs) same once.0 first.0 p ∙ sym (ap (λ Y. Y p) first.1))
        ∙ replayed.ends

  -- ---- demand 3 of outcomes: the caller makes the calls, has what they say and leave, and makes the calls of the record, all by the contracts

  module _ (Out : Type 0) (said : Out → Said Reply) (left : Out → L.Map) where
    -- each is that of the series
    ran_record : (m : L.Map) (cs : List Asked) (rs : List Out) → Ran L F Out said left m cs rs → record_ran L F Out said left cs rs ≡ record_of L F m cs
    ran_record m [] [] ran = refl
    ran_record m [] (r ∷ rs) ran = absurd ran
    ran_record m (c ∷ cs) [] ran = absurd ran
    ran_record m (c ∷ cs) (r ∷ rs) ran =
        ap (written L F c (said r)) (ran_record (left r) cs rs ran.1) ∙ (λ i. written L F c (ran.0 i).0 (record_of L F (ran.0 i).1 cs))

    ran_last : (m : L.Map) (cs : List Asked) (rs : List Out) → Ran L F Out said left m cs rs → last_ran L F Out said left m rs ≡ last_of L F m cs
    ran_last m [] [] ran = refl
    ran_last m [] (r ∷ rs) ran = absurd ran
    ran_last m (c ∷ cs) [] ran = absurd ran
    ran_last m (c ∷ cs) (r ∷ rs) ran = ran_last (left r) cs rs ran.1 ∙ (λ i. last_of L F (ran.0 i).1 cs)

    ran_before : (m : L.Map) (cs : List Asked) (rs : List Out) → Ran L F Out said left m cs rs → before_ran L F Out said left m rs ≡ before_of L F m cs
    ran_before m [] [] ran = refl
    ran_before m [] (r ∷ rs) ran = absurd ran
    ran_before m (c ∷ cs) [] ran = absurd ran
    ran_before m (c ∷ cs) (r ∷ rs) ran =
        ap (kept L F m (said r)) (ran_before (left r) cs rs ran.1) ∙ (λ i. kept L F m (ran.0 i).0 (before_of L F (ran.0 i).1 cs))

    module _ (m : L.Map) (sound : L.Sound m) (held : L.IsMap m) (cs : List Asked) (rs : List Out) (ran : (Ran L F Out said left) m cs rs) where
      -- the record walked backward from the last map
      pub ran_back : (bs : List Out) → Ran L F Out said left (last_ran L F Out said left m rs) (backward L F (record_ran L F Out said left cs rs)) bs → BackRan L F Out said left m rs bs
      ran_back bs walked =
          let first = ran_record m cs rs ran in
          let last = ran_last m cs rs ran in
          let calls = backward L F (record_ran L F Out said left cs rs) in
          let end = last_ran L F Out said left m rs in
          let back = walked_back m sound held cs in
          record {
            accepted = rw (ran_answers L F Out said left end calls bs walked, first, last) back.accepted;
            met = ran_maps L F Out said left end calls bs walked ∙ (λ i. maps_of L F (last i) (backward L F (first i))) ∙ back.met
                ∙ ap reverse (sym (ran_before m cs rs ran));
            home = ran_last end calls bs walked ∙ (λ i. last_of L F (last i) (backward L F (first i))) ∙ back.home;
          }

      -- the record replayed from the first map: every outcome accepts, and the map that is left at the end is the same
      pub ran_again : (fs : List Out) → Ran L F Out said left m (forward L F (record_ran L F Out said left cs rs)) fs
          → AllDone (map said fs) × (last_ran L F Out said left m fs ≡ last_ran L F Out said left m rs)
      ran_again fs walked =
          let first = ran_record m cs rs ran in
          let calls = forward L F (record_ran L F Out said left cs rs) in
          let again = replayed m sound held cs in (
            rw (ran_answers L F Out said left m calls fs walked, first) again.accepted,
            ran_last m calls fs walked ∙ ap (λ (es : List Entry). last_of L F m (forward L F es)) first ∙ again.ends
                ∙ sym (ran_last m cs rs ran),
          )

      -- and its entries in any other order leave that map too, if every outcome accepts
      pub ran_reordered : (es : List Entry) → Perm es (record_ran L F Out said left cs rs) → (fs : List Out) → Ran L F Out said left m (forward L F es) fs
          → AllDone (map said fs) → last_ran L F Out said left m fs ≡ last_ran L F Out said left m rs
      ran_reordered es same fs walked done =
          ran_last m (forward L F es) fs walked
          ∙ in_any_order m sound held cs es (subst (λ (x : List Entry). Perm es x) (ran_record m cs rs ran) same)
          (subst AllDone (ran_answers L F Out said left m (forward L F es) fs walked) done)
          ∙ sym (ran_last m cs rs ran)
