-- The tree over any child that answers as a set of slots does: it answers as the set of its children's slots in a row does. So a tree of words, and a
-- tree of trees. Rests on `Acts`.
use Rattle.std.specs.Prelude.{◌≡◌, refl, ◌⊎◌, Bool, not, ◌&&◌, ◌||◌, get_or, set, ltb, eqb}
use Rattle.std.proofs.Math.Path.{sym, ap}
use Rattle.std.proofs.Common.{ap₂, ◌∙◌, inl, inr, ⊎_elim, le_refl, zero-add, add-suc, suc-add, zero-mul, mod-eq_of_lt, mod-lt, div-add-mod', div-lt_iff_lt-mul, length-set, eqb→eq, pow_pos, pow-add, ltb-true, ltb-false, eqb-true}
use Rattle.std.proofs.Math.Bool.{true, false}
use Rattle.std.proofs.Math.Option.{Option, none}
use mathlib.Core.List.{List, [], ◌∷◌}
use Prim.Native.Nat.{ℕ, zero, suc, ◌+◌, ◌-◌, ◌*◌, ◌/◌, ◌%◌, ◌^◌, ◌≤◌, ◌<◌, min, zero-le}
use Rattle.std.proofs.Math.Nat.{add-zero, add_assoc, suc-mul, mul-add-div_right, mul-add-mod_self_right, div-eq_of_lt, mul-le-mul_right}
use native.Mathlib.Omega.{arith}
use Rattle.std.proofs.Math.ListN.{length}
use Rattle.std.proofs.Math.Dec as Dec
use Rattle.std.proofs.lemmas.Nat.{and_le_l, or_lt}
use Rattle.std.proofs.Math.Pow.{pow-lt}
use Rattle.std.proofs.lemmas.Bool.{eqb-false, not-false}
use Rattle.bits.specs.Range.{either, same_test, count, count_agree, count_moved, count_split, count_most, and_true, and_false, or_true, or_false}
use Rattle.bits.specs.Digits.{digit, zero_digit, power_digit}
use Rattle.bits.proofs.Digits.{equal_digits, and_digit, or_digit, complement_digit}
use Rattle.slots.specs.Sets.{Slots, Named, painted, painted_named, painted_other, all_free, finds_all_free}
use Rattle.slots.specs.Promises.{NoneFree}
use Rattle.source.specs.Machine.{◌&◌, ◌∣◌, !u16, ◌at?◌, Turn, next, break, Loop, left, returned, ended, for_in}
use Rattle.source.specs.BitmapAllocator.{BitmapAllocator, BitmapTree, AllocatorTree, set_turn, set_tree_lem, next_free_turn, next_free_tree, get_tree, sum_used}
use Rattle.same.specs.Whenever.{Whenever, then, so, anyhow, optioned, sum_then, difference_then, product_then, one_then, Kept, for_rule}
use Rattle.same.specs.Answering.{Answers, answers_then, answers_optioned, sum_answers, difference_answers, product_answers, one_answers, element_answers, for_answers}
use Rattle.same.specs.Acts.{Found, Acts}

module _ {Child : Type 0} (T : BitmapAllocator Child) (k : ℕ) (holds : Child → Slots) (Good : Child → Type 0) (acts : Acts T k holds Good) (few : k ≤ 58) where
  abbrev c : ℕ
  c = T.CAPACITY

  some_slots : 0 < c
  some_slots = rw acts.capacity (pow_pos k)

  -- ---- the children in a row

  abbrev pub slot_at : List Child → ℕ → Slots
  slot_at [] j = λ p. false
  slot_at (x ∷ xs) zero = holds x
  slot_at (x ∷ xs) (suc j) = slot_at xs j

  abbrev pub AllGood : List Child → Type 0
  AllGood [] = Unit {0}
  AllGood (x ∷ xs) = Good x × AllGood xs

  -- by place, where d stands past the last
  module _ (d : Child) where
    pub all_good : (xs : List Child) → ((i : ℕ) → i < length xs → Good (get_or xs i d)) → AllGood xs
    all_good [] each = tt
    all_good (x ∷ xs) each = (each 0 (omega arith), all_good xs (λ i l. each (suc i) (omega arith)))

    pub good_at : (xs : List Child) → AllGood xs → (i : ℕ) → i < length xs → Good (get_or xs i d)
    good_at [] good i l = absurd (omega arith)
    good_at (x ∷ xs) good zero l = good.0
    good_at (x ∷ xs) good (suc i) l = good_at xs good.1 i (omega arith)

    pub slot_at_lem : (xs : List Child) (i : ℕ) → i < length xs → slot_at xs i ≡ holds (get_or xs i d)
    slot_at_lem [] i l = absurd (omega arith)
    slot_at_lem (x ∷ xs) zero l = refl
    slot_at_lem (x ∷ xs) (suc i) l = slot_at_lem xs i (omega arith)

  child_there : (xs : List Child) → AllGood xs → (j : ℕ) → Whenever (xs at? j) (λ x. (j < length xs) × Good x × (slot_at xs j ≡ holds x))
  child_there [] good j = tt
  child_there (x ∷ xs) good zero = (omega arith, good.0, refl)
  child_there (x ∷ xs) good (suc j) = so (xs at? j) _ _ (child_there xs good.1 j) (λ y told. (omega (arith, told.0), told.1, told.2))

  set_good : (xs : List Child) (j : ℕ) (y : Child) → AllGood xs → Good y → AllGood (set xs j y)
  set_good [] j y good new = tt
  set_good (x ∷ xs) zero y good new = (new, good.1)
  set_good (x ∷ xs) (suc j) y good new = (good.0, set_good xs j y good.1 new)

  set_here : (xs : List Child) (j : ℕ) (y : Child) → j < length xs → slot_at (set xs j y) j ≡ holds y
  set_here [] j y l = absurd (omega arith)
  set_here (x ∷ xs) zero y l = refl
  set_here (x ∷ xs) (suc j) y l = set_here xs j y (omega arith)

  set_elsewhere : (xs : List Child) (j i : ℕ) (y : Child) → (i ≡ j → ⊥) → slot_at (set xs j y) i ≡ slot_at xs i
  set_elsewhere [] j i y other = refl
  set_elsewhere (x ∷ xs) zero zero y other = absurd (other refl)
  set_elsewhere (x ∷ xs) zero (suc i) y other = refl
  set_elsewhere (x ∷ xs) (suc j) zero y other = refl
  set_elsewhere (x ∷ xs) (suc j) (suc i) y other = set_elsewhere xs j i y (λ e. other (ap suc e))

  -- slot i of the tree is slot i % c of child i / c
  abbrev pub tree_holds : BitmapTree Child → Slots
  tree_holds t i = slot_at t.child (i / c) (i % c)

  slot_of : (t : BitmapTree Child) (j p : ℕ) → p < c → tree_holds t (j * c + p) ≡ slot_at t.child j p
  slot_of t j p l =
      ap (λ (q : ℕ). slot_at t.child q ((j * c + p) % c)) (mul-add-div_right some_slots j p ∙ ap (λ (r : ℕ). j + r) (div-eq_of_lt l) ∙ add-zero j)
      ∙ ap (slot_at t.child j) (mul-add-mod_self_right j c p ∙ mod-eq_of_lt l)

  -- sixteen good children, whatever the summary
  pub record Held (t : BitmapTree Child) : Type 0 where
    pub many : length t.child ≡ 16
    pub each : AllGood t.child

  -- and a summary that tells of each whether it holds a slot that is used
  pub record GoodTree (t : BitmapTree Child) : Type 0 where
    pub held : Held t
    pub fits : t.bits < 2 ^ 16
    pub right : (j : ℕ) → j < 16 → digit t.bits j ≡ not (all_free (slot_at t.child j) 0 (2 ^ k))

  whole : 2 ^ (k + 4) ≡ 16 * c
  whole = pow-add 2 k 4 ∙ omega (arith, acts.capacity)

  top : 16 * c < 2 ^ 64
  top = rw (sym whole) (pow-lt {i = k + 4} {j = 64} (omega arith))

  in_child : (i : ℕ) → i < 2 ^ (k + 4) → i / c < 16
  in_child i l = (div-lt_iff_lt-mul some_slots).1 (omega (arith, whole))

  inside_child : (j p : ℕ) → j < 16 → p < c → j * c + p < 16 * c
  inside_child j p h l = let most : suc j * c ≤ 16 * c = mul-le-mul_right c h in omega (arith, suc-mul j c)

  module _ (t : BitmapTree Child) (held : Held t) where
    -- ---- get

    pub get_tells : (i : ℕ) → Whenever (get_tree T t i) (λ b. (i < 2 ^ (k + 4)) × (b ≡ tree_holds t i))
    unfolding get_tree
    get_tells i = then (t.child at? (i / c)) _ _ (so (t.child at? (i / c)) _ _ (child_there t.child held.each (i / c)) (λ x told.
        so (T.get x (i % c)) _ _ (acts.reads x told.1 (i % c)) (λ b read. (
          rw whole ((div-lt_iff_lt-mul some_slots).0 (rw held.many at told.0)),
          read.1 ∙ ap (λ (S : Slots). S (i % c)) (sym told.2),
        ))))

    pub get_answers : (i : ℕ) → i < 2 ^ (k + 4) → Answers (get_tree T t i)
    unfolding get_tree
    get_answers i l =
        answers_then (t.child at? (i / c)) _ (element_answers t.child (i / c) (rw held.many (in_child i l)))
        (so (t.child at? (i / c)) _ _ (child_there t.child held.each (i / c)) (λ x told.
        acts.reads_some x told.1 (i % c) (rw (sym acts.capacity) (mod-lt i some_slots))))

    -- ---- next_free

    module _ (s : ℕ) where
      -- every slot from s up to place o of child j is used
      abbrev Passed : ℕ → ℕ → Type 0
      Passed j o = (s ≤ j * c + o) × (o < c) × ((i : ℕ) → s ≤ i → i < j * c + o → tree_holds t i ≡ true)

      abbrev Out : Loop ℕ (Option ℕ) → Type 0
      Out (left o) = NoneFree (k + 4) (tree_holds t) s
      Out (returned r) = Found (k + 4) (tree_holds t) s r

      used_from : (j o i : ℕ) (x : Child) → slot_at t.child j ≡ holds x → Passed j o → (top : ℕ) → top ≤ c
          → ((p : ℕ) → o ≤ p → p < top → holds x p ≡ true) → s ≤ i → i < j * c + top → tree_holds t i ≡ true
      used_from j o i x same passed top small full from below =
          either (ltb i (j * c + o)) (λ early. passed.2 i from (ltb-true i (j * c + o) early))
          (λ late.
          let after : j * c + o ≤ i = ltb-false i (j * c + o) late in
          let back : j * c + (i - j * c) ≡ i = omega arith in
          ap (tree_holds t) (sym back) ∙ slot_of t j (i - j * c) (omega arith)
          ∙ ap (λ (S : Slots). S (i - j * c)) same ∙ full (i - j * c) (omega arith) (omega arith))

      turn : (j o : ℕ) → j < 16 → Passed j o → Whenever (next_free_turn T t j o) (Kept (Passed (suc j)) Out)
      unfolding next_free_turn
      turn j o h passed = then (t.child at? j) _ _ (so (t.child at? j) _ _ (child_there t.child held.each j) (λ x told.
          then (T.next_free x o) _ _ (so (T.next_free x o) _ _ (acts.finds x told.1 o) (λ found known.
          optioned found _ _ _ (Found k (holds x) o) known
          (λ p there. product_then _ _ j c (λ _. sum_then _ _ p (j * c) (λ _.
          let small : p < c = rw acts.capacity there.inside in
          let turned : p + j * c ≡ j * c + p = omega arith in
          record {
            from = omega (arith, passed.0, there.from);
            inside = omega (arith, whole, inside_child j p h small);
            free = ap (tree_holds t) turned ∙ slot_of t j p small ∙ ap (λ (S : Slots). S p) told.2 ∙ there.free;
            first = λ i from below. used_from j o i x told.2 passed p (omega arith) there.first from (omega arith);
          })))
          (λ full. (
            omega (arith, passed.0, passed.1, suc-mul j c),
            some_slots,
            λ i from below. used_from j o i x told.2 passed c (le_refl c) (λ p l below_top. full p l (rw (sym acts.capacity) below_top)) from (omega (arith, suc-mul j c)),
          ))))))

      begun : Passed (s / c) (s % c)
      begun = (omega (arith, div-add-mod' s c), mod-lt s some_slots, λ i from below. absurd (omega (arith, div-add-mod' s c)))

      pub next_free_finds : Whenever (next_free_tree T t s) (Found (k + 4) (tree_holds t) s)
      unfolding next_free_tree
      next_free_finds =
          then (for_in (s / c) 16 (next_free_turn T t) (s % c)) _ _ (so (for_in (s / c) 16 (next_free_turn T t) (s % c)) _ _
          (for_rule (next_free_turn T t) Passed Out (16 - s / c) (s / c) (λ j l h o passed. turn j o (omega arith) passed)
          (λ o passed i from below. passed.2 i from (past_all o i below)) (s % c) begun)
          by)
        where
          -- past the sixteen children there is no slot
          past_all : (o i : ℕ) → i < 2 ^ (k + 4) → i < (s / c + (16 - s / c)) * c + o
          past_all o i l = let most : 16 * c ≤ (s / c + (16 - s / c)) * c = mul-le-mul_right c (omega arith) in omega (arith, whole)

          by : (loop : Loop ℕ (Option ℕ)) → Out loop → Found (k + 4) (tree_holds t) s (elim loop [ left offset ↦ none | returned found ↦ found ])
          by (left o) full = full
          by (returned r) found = found

      -- at any start
      pub next_free_answers : Answers (next_free_tree T t s)
      unfolding next_free_tree
      next_free_answers =
          answers_then (for_in (s / c) 16 (next_free_turn T t) (s % c)) _
          (for_answers (next_free_turn T t) Passed Out (16 - s / c) (s / c)
          (λ j l h o passed. (turn_answers j o (omega arith) passed.1, turn j o (omega arith) passed)) (s % c) begun)
          (anyhow (for_in (s / c) 16 (next_free_turn T t) (s % c)) _ (λ _. tt))
        where
          turn_answers : (j o : ℕ) → j < 16 → o < c → Answers (next_free_turn T t j o)
          turn_answers j o h small = unfold next_free_turn in
              answers_then (t.child at? j) _ (element_answers t.child j (rw held.many h)) (so (t.child at? j) _ _ (child_there t.child held.each j) (λ x told.
              answers_then (T.next_free x o) _ (acts.finds_some x told.1 o (rw (sym acts.capacity) small)) (so (T.next_free x o) _ _ (acts.finds x told.1 o) (λ found known.
              answers_optioned found _ _ (Found k (holds x) o) known
              (λ p there.
              let inside : p < c = rw acts.capacity there.inside in
              product_answers _ j c (omega (arith, top, inside_child j p h inside)) (sum_answers _ p (j * c) (omega (arith, top, inside_child j p h inside)) tt)) (λ _. tt)))))

  -- ---- set

  size_is : (room remain : ℕ) → elim (ltb room remain) [ true ↦ room | false ↦ remain ] ≡ min room remain
  size_is room remain =
      either (ltb room remain) (λ e. rw e (omega (arith, ltb-true room remain e))) (λ e. rw e (omega (arith, ltb-false room remain e)))

  -- the summary with the bit of child j cleared if the child is empty, and set if not
  module _ (b j : ℕ) (fits : b < 2 ^ 16) (l : j < 16) where
    abbrev marked : Bool → ℕ
    marked empty = elim empty [ true ↦ b & !u16 (2 ^ j) | false ↦ b ∣ 2 ^ j ]

    marked_fits : (empty : Bool) → marked empty < 2 ^ 16
    marked_fits true = omega (arith, and_le_l b (!u16 (2 ^ j)))
    marked_fits false = or_lt 16 b (2 ^ j) fits (pow-lt l)

    marked_digit : (empty : Bool) (i : ℕ) → i < 16 → digit (marked empty) i ≡ elim (eqb i j) [ true ↦ not empty | false ↦ digit b i ]
    marked_digit true i h =
        and_digit b (!u16 (2 ^ j)) i
        ∙ ap (λ (d : Bool). digit b i && d) (complement_digit 16 (2 ^ j) i (pow-lt l) h ∙ ap not (power_digit j i)) ∙ cleared (digit b i) (eqb i j)
      where
        cleared : (d same : Bool) → d && not same ≡ elim same [ true ↦ false | false ↦ d ]
        cleared d true = and_false d
        cleared d false = and_true d
    marked_digit false i h =
        or_digit b (2 ^ j) i ∙ ap (λ (d : Bool). digit b i || d) (power_digit j i) ∙ set_so (digit b i) (eqb i j)
      where
        set_so : (d same : Bool) → d || same ≡ elim same [ true ↦ true | false ↦ d ]
        set_so d true = or_true d
        set_so d false = or_false d

  module _ (t : BitmapTree Child) (good : GoodTree t) (s n : ℕ) (v : Bool) where
    abbrev S : Slots
    S = tree_holds t

    -- before turn j, at place o of child j with r slots to go: the children before j are painted, and the others as they were
    record Before (j : ℕ) (state : BitmapTree Child × ℕ × ℕ) : Type 0 where
      pub good_now : GoodTree state.0
      pub done : (i p : ℕ) → i < 16 → i < j → p < c → slot_at state.0.child i p ≡ painted S s n v (i * c + p)
      pub ahead : (i : ℕ) → j ≤ i → slot_at state.0.child i ≡ slot_at t.child i
      pub to_go : j * c + state.1 + state.2 ≡ s + n
      pub from : s ≤ j * c + state.1
      pub first : (state.1 ≡ 0) ⊎ (j * c + state.1 ≡ s)
      pub inside : state.1 < c
      pub more : 0 < n → 0 < state.2

    abbrev Painted : BitmapTree Child → Type 0
    Painted after = GoodTree after × ((i p : ℕ) → i < 16 → p < c → slot_at after.child i p ≡ painted S s n v (i * c + p))

    abbrev Done : Loop (BitmapTree Child × ℕ × ℕ) ⊥ → Type 0
    Done loop = Painted (ended loop).0

    -- a slot that neither names is as it was
    unnamed : (X : Slots) (o size p q : ℕ) → X p ≡ S q → (Named o size p → ⊥) → (Named s n q → ⊥) → painted X o size v p ≡ painted S s n v q
    unnamed X o size p q same here there = painted_other X o size v p here ∙ same ∙ sym (painted_other S s n v q there)

    -- painting the places of child j that are in the run is painting the run's part
    part_painted : (X : Slots) (j o r size : ℕ) → size ≡ min (c - o) r → o < c → j * c + o + r ≡ s + n → s ≤ j * c + o → (o ≡ 0) ⊎ (j * c + o ≡ s)
        → (p : ℕ) → p < c → X p ≡ S (j * c + p) → painted X o size v p ≡ painted S s n v (j * c + p)
    part_painted X j o r size sized small sum from first p l same =
        either (ltb p o)
        (λ early. let before : p < o = ltb-true p o early in
        unnamed X o size p (j * c + p) same (λ named. omega (arith, named.0)) (λ named. ⊎_elim (λ z. omega arith) (λ z. omega (arith, named.0)) first))
        (λ late. let after : o ≤ p = ltb-false p o late in
        either (ltb p (o + size))
        (λ inside. let below : p < o + size = ltb-true p (o + size) inside in
        painted_named X o size v p (after, below) ∙ sym (painted_named S s n v (j * c + p) (omega arith, omega arith)))
        (λ past. let above : o + size ≤ p = ltb-false p (o + size) past in
        unnamed X o size p (j * c + p) same (λ named. omega (arith, named.1)) (λ named. omega (arith, named.1))))

    module _ (j : ℕ) (self : BitmapTree Child) (o r : ℕ) (h : j < 16) (now : Before j (self, o, r)) where
      module _ (size : ℕ) (sized : size ≡ min (c - o) r) (x after : Child) (same : slot_at self.child j ≡ holds x) (good-after : Good after)
          (told : (p : ℕ) → p < 2 ^ k → holds after p ≡ painted (holds x) o size v p) where
        abbrev self_after : BitmapTree Child
        self_after = record { bits = marked self.bits j now.good_now.fits h (T.empty after); child = set self.child j after }

        there : j < length self.child
        there = rw now.good_now.held.many h

        tree_after : GoodTree self_after
        tree_after = record {
          held = record {
            many = length-set self.child j after ∙ now.good_now.held.many;
            each = set_good self.child j after now.good_now.held.each good-after;
          };
          fits = marked_fits self.bits j now.good_now.fits h (T.empty after);
          right = λ i l. marked_digit self.bits j now.good_now.fits h (T.empty after) i l ∙ told_of i l (eqb i j) refl;
        }
          where
            told_of : (i : ℕ) → i < 16 → (b : Bool) → eqb i j ≡ b
                → elim b [ true ↦ not (T.empty after) | false ↦ digit self.bits i ] ≡ not (all_free (slot_at (set self.child j after) i) 0 (2 ^ k))
            told_of i l true e =
                ap not (acts.vacant after good-after)
                ∙ ap (λ (X : Slots). not (all_free X 0 (2 ^ k))) (sym (ap (slot_at (set self.child j after)) (eqb-true i j e) ∙ set_here self.child j after there))
            told_of i l false e =
                now.good_now.right i l ∙ ap (λ (X : Slots). not (all_free X 0 (2 ^ k))) (sym (set_elsewhere self.child j i after (eqb-false i j e)))

        here_painted : (p : ℕ) → p < c → holds after p ≡ painted S s n v (j * c + p)
        here_painted p l =
            told p (rw (sym acts.capacity) l)
            ∙ part_painted (holds x) j o r size sized now.inside now.to_go now.from now.first p l
            (ap (λ (X : Slots). X p) (sym same ∙ now.ahead j (le_refl j)) ∙ sym (slot_of t j p l))

        done_after : (i p : ℕ) → i < 16 → i < suc j → p < c → slot_at (set self.child j after) i p ≡ painted S s n v (i * c + p)
        done_after i p b l q =
            either (eqb i j)
            (λ e. rw (eqb-true i j e) (ap (λ (X : Slots). X p) (set_here self.child j after there) ∙ here_painted p q))
            (λ e. ap (λ (X : Slots). X p) (set_elsewhere self.child j i after (eqb-false i j e)) ∙ now.done i p b (omega (arith, eqb-false i j e)) q)

        ahead_after : (i : ℕ) → suc j ≤ i → slot_at (set self.child j after) i ≡ slot_at t.child i
        ahead_after i l = set_elsewhere self.child j i after (λ e. omega arith) ∙ now.ahead i (omega arith)

        -- where the run ends the other children are as they were
        all_after : r - size ≡ 0 → (i p : ℕ) → i < 16 → p < c → slot_at (set self.child j after) i p ≡ painted S s n v (i * c + p)
        all_after over i p b l =
            either (ltb j i)
            (λ e. let later : suc j ≤ i = ltb-true j i e in
            let further : suc j * c ≤ i * c = mul-le-mul_right c later in
            ap (λ (X : Slots). X p) (ahead_after i later) ∙ sym (slot_of t i p l)
            ∙ sym (painted_other S s n v (i * c + p) (λ named. omega (arith, named.1, now.to_go, now.inside, suc-mul j c))))
            (λ e. done_after i p b (omega (arith, ltb-false j i e)) l)

        turned : (b : Bool) → eqb (r - size) 0 ≡ b
            → Kept (Before (suc j)) Done (elim b as (λ _. Turn (BitmapTree Child × ℕ × ℕ) ⊥) [ true ↦ break (self_after, o, r - size) | false ↦ next (self_after, 0, r - size) ])
        turned true e = (tree_after, all_after (eqb-true (r - size) 0 e))
        turned false e = record {
          good_now = tree_after;
          done = done_after;
          ahead = ahead_after;
          to_go = omega (arith, now.to_go, now.inside, eqb-false (r - size) 0 e, suc-mul j c);
          from = omega (arith, now.from, now.inside, suc-mul j c);
          first = inl refl;
          inside = some_slots;
          more = λ _. omega (arith, eqb-false (r - size) 0 e);
        }

      set_turned : Whenever (set_turn T v j (self, o, r)) (Kept (Before (suc j)) Done)
      unfolding set_turn
      set_turned =
          let size : ℕ = elim (ltb (c - o) r) [ true ↦ c - o | false ↦ r ] in
          difference_then _ _ c o (λ _. difference_then _ _ r size (λ _.
          then (self.child at? j) _ _ (so (self.child at? j) _ _ (child_there self.child now.good_now.held.each j) (λ x told.
          then (T.set_to x o size v) _ _ (so (T.set_to x o size v) _ _ (acts.paints x told.1 o size v) (λ after left_so.
          one_then _ _ 16 j (λ _. turned size (size_is (c - o) r) x after told.2 left_so.0 left_so.1 (eqb (r - size) 0) refl)))))))

      turn_answers : 0 < n → Answers (set_turn T v j (self, o, r))
      unfolding set_turn
      turn_answers pos =
          let size : ℕ = elim (ltb (c - o) r) [ true ↦ c - o | false ↦ r ] in
          let sized : size ≡ min (c - o) r = size_is (c - o) r in
          let room : o < c = now.inside in
          let left_over : 0 < r = now.more pos in
          let ends : o + size ≤ c = omega arith in
          difference_answers _ c o (omega arith) (difference_answers _ r size (omega arith)
          (answers_then (self.child at? j) _ (element_answers self.child j (rw now.good_now.held.many h)) (so (self.child at? j) _ _ (child_there self.child now.good_now.held.each j) (λ x told.
          answers_then (T.set_to x o size v) _ (acts.paints_some x told.1 o size v (omega arith) (rw (sym acts.capacity) ends))
          (anyhow (T.set_to x o size v) _ (λ after. one_answers _ 16 j h tt))))))

    set_begun : Before (s / c) (t, s % c, n)
    set_begun = record {
      good_now = good;
      done = λ i p b l q.
          let further : suc i * c ≤ s / c * c = mul-le-mul_right c l in
          sym (slot_of t i p q) ∙ sym (painted_other S s n v (i * c + p) (λ named. omega (arith, named.0, div-add-mod' s c, suc-mul i c)));
      ahead = λ i l. refl;
      to_go = omega (arith, div-add-mod' s c);
      from = omega (arith, div-add-mod' s c);
      first = inr (div-add-mod' s c);
      inside = mod-lt s some_slots;
      more = λ pos. pos;
    }

    set_paints_each : Whenever (set_tree_lem T t s n v) Painted
    unfolding set_tree_lem
    set_paints_each =
        then (for_in (s / c) 16 (set_turn T v) (t, s % c, n)) _ _ (so (for_in (s / c) 16 (set_turn T v) (t, s % c, n)) _ _
        (for_rule (set_turn T v) Before Done (16 - s / c) (s / c)
        (λ j l h state now. set_turned j state.0 state.1 state.2 (omega arith) now)
        (λ state now. (now.good_now, λ i p b l. now.done i p b (omega arith) l))
        (t, s % c, n) set_begun) (λ loop done. done))

    -- at any numbers: where the run goes past the end it is cut off there
    pub set_paints : Whenever (set_tree_lem T t s n v) (λ after. GoodTree after × ((i : ℕ) → i < 2 ^ (k + 4) → tree_holds after i ≡ painted S s n v i))
    set_paints = so (set_tree_lem T t s n v) _ _ set_paints_each (λ after done. (
      done.0,
      λ i l. done.1 (i / c) (i % c) (in_child i l) (mod-lt i some_slots) ∙ ap (painted S s n v) (div-add-mod' i c),
    ))

    pub set_answers : 0 < n → Answers (set_tree_lem T t s n v)
    unfolding set_tree_lem
    set_answers pos =
        answers_then (for_in (s / c) 16 (set_turn T v) (t, s % c, n)) _
        (for_answers (set_turn T v) Before Done (16 - s / c) (s / c)
        (λ j l h state now. (
          turn_answers j state.0 state.1 state.2 (omega arith) now pos,
          set_turned j state.0 state.1 state.2 (omega arith) now,
        )) (t, s % c, n) set_begun)
        (anyhow (for_in (s / c) 16 (set_turn T v) (t, s % c, n)) _ (λ _. tt))

  -- ---- empty

  pub empty_tells : (t : BitmapTree Child) → GoodTree t → eqb t.bits 0 ≡ all_free (tree_holds t) 0 (2 ^ (k + 4))
  empty_tells t good =
      let found = finds_all_free (tree_holds t) 0 (2 ^ (k + 4)) in
      same_test (eqb t.bits 0) (all_free (tree_holds t) 0 (2 ^ (k + 4)))
      (λ e. found.1 (λ i named. child_free e (i / c) (in_child i (omega (arith, named.1))) (i % c) (mod-lt i some_slots)))
      (λ free. rw (equal_digits 16 t.bits 0 good.fits (pow_pos 16) (λ j l.
      good.right j l ∙ ap not (same_test (all_free (slot_at t.child j) 0 (2 ^ k)) true (λ _. tt) (λ _. (finds_all_free (slot_at t.child j) 0 (2 ^ k)).1 (λ p named.
      let small : p < c = rw acts.capacity (omega (arith, named.1)) in
      sym (slot_of t j p small) ∙ found.0 free (j * c + p) (zero-le, omega (arith, whole, inside_child j p l small))))) ∙ sym (zero_digit j))) tt)
    where
      child_free : Dec.T (eqb t.bits 0) → (j : ℕ) → j < 16 → (p : ℕ) → p < c → slot_at t.child j p ≡ false
      child_free e j l p small =
          let none_used : not (all_free (slot_at t.child j) 0 (2 ^ k)) ≡ false =
          sym (good.right j l) ∙ ap (λ (b : ℕ). digit b j) (eqb→eq t.bits 0 e) ∙ zero_digit j in
          (finds_all_free (slot_at t.child j) 0 (2 ^ k)).0 (rw (not-false (all_free (slot_at t.child j) 0 (2 ^ k)) none_used) tt) p
          (zero-le, omega (arith, acts.capacity))

  -- ---- used

  module _ (t : BitmapTree Child) (held : Held t) where
    summed : (i : ℕ) (rest : List Child) → AllGood rest → ((p : ℕ) → p < length rest → slot_at rest p ≡ slot_at t.child (i + p)) → (sum : ℕ)
        → Whenever (sum_used T rest sum) (λ r. r ≡ sum + count (tree_holds t) (i * c) (length rest * c))
    unfolding sum_used count
    summed i [] good at sum = sym (ap (λ (m : ℕ). sum + count (tree_holds t) (i * c) m) (zero-mul c) ∙ add-zero sum)
    summed i (x ∷ rest) good at sum =
        let here : holds x ≡ slot_at t.child i = at 0 (omega arith) ∙ ap (slot_at t.child) (add-zero i) in
        let more : suc (length rest) * c ≡ c + length rest * c = omega (arith, suc-mul (length rest) c) in
        let further : i * c + c ≡ suc i * c = omega (arith, suc-mul i c) in
        let own : count (tree_holds t) (i * c) c ≡ count (holds x) 0 (2 ^ k) =
        count_moved (tree_holds t) (i * c) c ∙ count_agree _ (holds x) 0 c (λ p _ l. slot_of t i p (omega arith) ∙ ap (λ (X : Slots). X p) (sym here))
        ∙ ap (count (holds x) 0) acts.capacity in
        let split : count (tree_holds t) (i * c) (suc (length rest) * c) ≡ count (tree_holds t) (i * c) c + count (tree_holds t) (suc i * c) (length rest * c) =
        ap (count (tree_holds t) (i * c)) more ∙ count_split (tree_holds t) (i * c) c (length rest * c)
        ∙ ap (λ (from : ℕ). count (tree_holds t) (i * c) c + count (tree_holds t) from (length rest * c)) further in
        then (T.used x) _ _ (so (T.used x) _ _ (acts.counts x good.0) (λ n told.
        sum_then _ _ sum n (λ _.
        so (sum_used T rest (sum + n)) _ _
        (summed (suc i) rest good.1 (λ p l. at (suc p) (omega arith) ∙ ap (slot_at t.child) (add-suc i p ∙ sym (suc-add i p))) (sum + n))
        (λ r e. e ∙ ap (λ (y : ℕ). sum + y + count (tree_holds t) (suc i * c) (length rest * c)) (told ∙ sym own)
        ∙ add_assoc sum (count (tree_holds t) (i * c) c) (count (tree_holds t) (suc i * c) (length rest * c)) ∙ ap (λ (y : ℕ). sum + y) (sym split)))))

    pub used_counts : Whenever (sum_used T t.child 0) (λ r. r ≡ count (tree_holds t) 0 (2 ^ (k + 4)))
    used_counts = so (sum_used T t.child 0) _ _ (summed 0 t.child held.each (λ p l. ap (slot_at t.child) (sym (zero-add p))) 0)
        (λ r e. e ∙ zero-add _ ∙ ap₂ (count (tree_holds t)) (zero-mul c) (ap (λ (m : ℕ). m * c) held.many ∙ sym whole))

    summing : (rest : List Child) → AllGood rest → (sum : ℕ) → sum + length rest * c < 2 ^ 64 → Answers (sum_used T rest sum)
    unfolding sum_used
    summing [] good sum fits = tt
    summing (x ∷ rest) good sum fits =
        let more : suc (length rest) * c ≡ length rest * c + c = suc-mul (length rest) c in
        answers_then (T.used x) _ (acts.counts_some x good.0) (so (T.used x) _ _ (acts.counts x good.0) (λ n told.
        let most : n ≤ c = omega (arith, told, count_most (holds x) 0 (2 ^ k), acts.capacity) in
        sum_answers _ sum n (omega arith) (summing rest good.1 (sum + n) (omega arith))))

    pub used_answers : Answers (sum_used T t.child 0)
    used_answers = summing t.child held.each 0 (rw held.many (omega (arith, top)))

  -- so the tree answers as its set does
  pub tree_acts : Acts (AllocatorTree T) (k + 4) tree_holds GoodTree
  tree_acts = record {
    capacity = omega (arith, whole);
    finds = λ t good s. next_free_finds t good.held s;
    reads = λ t good i. get_tells t good.held i;
    paints = set_paints;
    counts = λ t good. used_counts t good.held;
    vacant = empty_tells;
    finds_some = λ t good s l. next_free_answers t good.held s;
    reads_some = λ t good i l. get_answers t good.held i l;
    paints_some = λ t good s n v pos ends. set_answers t good s n v pos;
    counts_some = λ t good. used_answers t good.held;
  }
