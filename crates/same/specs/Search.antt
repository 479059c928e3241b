-- `alloc_aligned` over any layout: whenever it gives an answer, take says the same. The loop is generic in the source, and so is this: it asks
-- of the layout what next_free, get and set give. Rests on the laws of the search of `slots`.
use Rattle.std.specs.Prelude.{◌≡◌, Bool, false, not, leb, ltb, eqb}
use Rattle.std.proofs.Math.Path.{refl, sym, ap}
use Rattle.std.proofs.Common.{◌∙◌, le_refl, le_antisymm, add-mul, one-mul, mul-div_cancel, pow_pos}
use Rattle.std.proofs.Math.Bool.{true, true≢false}
use Rattle.std.proofs.Math.Option.{Option, none, some}
use Prim.Native.Nat.{ℕ, suc, ◌+◌, ◌-◌, ◌*◌, ◌/◌, ◌^◌, ◌≤◌, ◌<◌, zero-le}
use native.Mathlib.Omega.{arith}
use Rattle.std.specs.Int.Bits.{bit_and}
use Rattle.std.proofs.lemmas.Nat.Bits.{and_high}
use Rattle.std.proofs.Math.Pow.{pow-lt, shr_mod}
use borrow.Author.Tests.{leb-true, leb-false, ltb-true, ltb-false, eqb-true, eqb-false, not-true, not-false}
use Rattle.bits.specs.Range.{either, count}
use Rattle.slots.specs.Sets.{Slots, AllFree, all_free, painted}
use Rattle.slots.specs.Lowest.{Fits, LowestFit, NoStart}
use Rattle.slots.specs.Promises.{NextFree}
use Rattle.slots.specs.Search.{next_multiple, next_above, next_near, Searched, searched_none, searched_found, searched_on}
use Rattle.slots.specs.Kinds.{plain}
use Rattle.slots.specs.View.{View}
use Rattle.source.specs.Machine.{Run, gives, ◌>>=◌, ◌+?◌, ◌&◌, !u64, ilog2, Turn, next, break, return, Loop, left, returned, ended, for_in, while}
use Rattle.source.specs.BitmapAllocator.{BitmapAllocator, size_turn, alloc_onward, alloc_turn, alloc_aligned, alloc}
use Rattle.same.specs.Whenever.{Whenever, then, so, tested, optioned, anyhow, sum_then, difference_then, one_then, Kept, for_rule}
use Rattle.same.specs.Answering.{Answers, answers_then, answers_tested, answers_optioned, sum_answers, difference_answers, one_answers, for_answers, while_answers}
use Rattle.same.specs.Acts.{Found}

-- what the commit's methods give at one map, in terms of the slots that it holds
pub record Follows (L : View plain) {Self : Type 0} (B : BitmapAllocator Self) (ours : Self → L.Map) (m : Self) : Type 0 where
  pub small : L.k < 64
  pub capacity : B.CAPACITY ≡ 2 ^ L.k
  pub log : ilog2 B.CAPACITY ≡ L.k
  pub finds : (s : ℕ) → Whenever (B.next_free m s) (Found L.k (L.state_of (ours m)) s)
  pub reads : (i : ℕ) → Whenever (B.get m i) (λ b. (i < 2 ^ L.k) × (b ≡ L.state_of (ours m) i))
  pub paints : (s n : ℕ) (v : Bool) → 0 < n → s + n ≤ 2 ^ L.k → Whenever (B.set_to m s n v) (λ after. ours after ≡ L.of_state (painted (L.state_of (ours m)) s n v))
  pub counts : Whenever (B.used m) (λ c. c ≡ count (L.state_of (ours m)) 0 (2 ^ L.k))
  pub vacant : B.empty m ≡ all_free (L.state_of (ours m)) 0 (2 ^ L.k)

-- where the commit's methods do give an answer at one map
pub record Replies (L : View plain) {Self : Type 0} (B : BitmapAllocator Self) (m : Self) : Type 0 where
  pub room : 2 ^ L.k + 2 ^ L.k + 2 ^ L.k < 2 ^ 64
  pub finds_some : (s : ℕ) → s < 2 ^ L.k → Answers (B.next_free m s)
  pub reads_some : (i : ℕ) → i < 2 ^ L.k → Answers (B.get m i)
  pub paints_some : (s n : ℕ) (v : Bool) → 0 < n → s + n ≤ 2 ^ L.k → Answers (B.set_to m s n v)
  pub counts_some : Answers (B.used m)

-- ---- the next multiple as the source makes it

-- from a multiple, one step on
step_on : (a q : ℕ) → q * 2 ^ a + 2 ^ a ≡ next_multiple a (q * 2 ^ a)
unfolding next_multiple
step_on a q = sym (ap (λ (p : ℕ). (p + 1) * 2 ^ a) (mul-div_cancel q (pow_pos a)) ∙ rw (add-mul, one-mul))

-- from any place, by the mask
mask_on : (a p : ℕ) → a < 64 → p < 2 ^ 64 → (p & !u64 (2 ^ a - 1)) + 2 ^ a ≡ next_multiple a p
unfolding next_multiple
mask_on a p small fits =
    let whole : (64 - a) + a ≡ 64 = omega arith in
    let high : !u64 (2 ^ a - 1) ≡ 2 ^ ((64 - a) + a) - 2 ^ a = ap (λ (w : ℕ). (2 ^ w - 1) - (2 ^ a - 1)) (sym whole) ∙ omega (arith, pow_pos a) in
    let kept : p & !u64 (2 ^ a - 1) ≡ p / 2 ^ a * 2 ^ a = ap (bit_and p) high ∙ and_high p (64 - a) a ∙ ap (λ (q : ℕ). q * 2 ^ a) (shr_mod (64 - a) a (rw whole fits)) in
    ap (λ (q : ℕ). q + 2 ^ a) kept ∙ sym (rw (add-mul, one-mul))

module _ (L : View plain) {Self : Type 0} (B : BitmapAllocator Self) (ours : Self → L.Map) (m : Self) (law : Follows L B ours m) (n a : ℕ) (pos : 0 < n) where
  abbrev S : Slots
  S = L.state_of (ours m)

  -- ---- the slots of the run, one by one

  -- all of them are free exactly if all were counted
  abbrev Counted : ℕ → ℕ → Type 0
  Counted offset c = (c ≡ n → AllFree S offset n) × ((c ≡ n → ⊥) → AllFree S offset n → ⊥)

  -- up to slot j
  abbrev Free : ℕ → ℕ → ℕ → Type 0
  Free offset j c = (offset + c ≡ j) × ((i : ℕ) → offset ≤ i → i < j → S i ≡ false)

  size_turned : (offset j : ℕ) → offset ≤ j → j < offset + n → (c : ℕ) → Free offset j c
      → Whenever (size_turn B m j c) (Kept (Free offset (suc j)) (λ loop. Counted offset (ended loop)))
  unfolding size_turn
  size_turned offset j l h c free = then (B.get m j) _ _ (so (B.get m j) _ _ (law.reads j) (λ used told.
      tested (not used) _ _ _
      (λ not-used. sum_then _ _ c 1 (λ _. (
        omega (arith, free.0),
        λ i from below.
            either (eqb i j) (λ same. ap S (eqb-true i j same) ∙ sym told.1 ∙ not-true used not-used)
            (λ other. free.1 i from (omega (arith, eqb-false i j other))),
      )))
      (λ is-used. (
        λ all. absurd (omega (arith, free.0)),
        λ _ all. true≢false (sym (not-false used is-used) ∙ told.1 ∙ all j (l, omega arith)),
      ))))

  size_turns : (offset : ℕ) → Whenever (for_in offset (offset + n) (size_turn B m) 0) (λ loop. Counted offset (ended loop))
  size_turns offset =
      for_rule (size_turn B m) (Free offset) (λ loop. Counted offset (ended loop)) (offset + n - offset) offset (λ j l h. size_turned offset j l (omega arith))
      (λ c free. (λ e i named. free.1 i named.0 (omega (arith, named.1)), λ other all. other (omega (arith, free.0))))
      0 (omega arith, λ i l h. absurd (omega arith))

  -- ---- the loop over the offset

  -- what an answer comes to: the lowest start and its run marked, or no start and the map as it was
  abbrev Out : Option ℕ × Self → Type 0
  Out (some o, after) = LowestFit L.k S n a o × (ours after ≡ L.of_state (painted S o n true))
  Out (none, after) = NoStart L.k S n a × (after ≡ m)

  abbrev Gone : Loop ℕ (Option ℕ × Self) → Type 0
  Gone (left offset) = NoStart L.k S n a
  Gone (returned out) = Out out

  -- the offset after this one: no start below it fits, it is later, and not far past the end
  abbrev Onto : ℕ → ℕ → Type 0
  Onto offset o = Searched L.k S n a o × (offset < o) × (o ≤ 2 ^ L.k + 2 ^ a)

  module _ (offset : ℕ) (known : Searched L.k S n a offset) (ends : offset + n ≤ 2 ^ L.k) where
    -- past an aligned start that does not fit
    on_by_one : (Fits L.k S n a offset → ⊥) → Onto offset (offset + 2 ^ a)
    on_by_one misfit =
        let at-multiple : offset + 2 ^ a ≡ next_multiple a offset = rw known.aligned.1 (step_on a known.aligned.0) in (
          rw at-multiple (searched_on L.k S n a pos offset known offset (le_refl offset) (λ o l h fits. misfit (rw (le_antisymm l h) fits))),
          omega (arith, pow_pos a),
          omega arith,
        )

    -- to the multiple after the used slots
    on_by_free : (free : ℕ) → a < 64 → NextFree L.k S offset free → (free ≡ offset → ⊥) → Onto offset (((free - 1) & !u64 (2 ^ a - 1)) + 2 ^ a)
    on_by_free free narrow found other =
        let top : 2 ^ L.k < 2 ^ 64 = pow-lt law.small in
        let later : offset < free = omega (arith, found.from) in
        rw (mask_on a (free - 1) narrow (omega (arith, found.inside))) (
          searched_on L.k S n a pos offset known (free - 1) (omega arith) (λ o l h fits.
              true≢false (sym (found.first o l (omega arith)) ∙ fits.free o (le_refl o, omega arith))),
          omega (arith, next_above a (free - 1)),
          omega (arith, next_near a (free - 1), found.inside),
        )

    onward : (Fits L.k S n a offset → ⊥) → Whenever (alloc_onward B m a offset) (Kept (Onto offset) Gone)
    unfolding alloc_onward
    onward misfit = one_then _ _ 64 a (λ _. sum_then _ _ offset (2 ^ a) (λ _. on_by_one misfit))

    pub turn : Whenever (alloc_turn B m n a (2 ^ a - 1) offset) (Kept (Onto offset) Gone)
    unfolding alloc_turn
    turn = then (B.next_free m offset) _ _ (so (B.next_free m offset) _ _ (law.finds offset) (λ next_one told.
        optioned next_one _ _ _ (Found L.k S offset) told
        (λ free found.
        tested (not (eqb free offset)) _ _ _
        (λ other. difference_then _ _ free 1 (λ _. one_then _ _ 64 a (λ narrow. sum_then _ _ ((free - 1) & !u64 (2 ^ a - 1)) (2 ^ a) (λ _.
        on_by_free free narrow found (eqb-false free offset (not-true (eqb free offset) other))))))
        (λ same. sum_then _ _ offset n (λ _. then (for_in offset (offset + n) (size_turn B m) 0) _ _ (so (for_in offset (offset + n) (size_turn B m) 0) _ _ (size_turns offset) (λ loop counted.
        tested (eqb (ended loop) n) _ _ _
        (λ whole. then (B.set_to m offset n true) _ _ (so (B.set_to m offset n true) _ _ (law.paints offset n true pos ends) (λ after painted-so.
        (searched_found L.k S n a pos offset known ends (counted.0 (eqb-true (ended loop) n whole)), painted-so))))
        (λ short. onward (λ fits. counted.1 (eqb-false (ended loop) n short) fits.free)))))))
        (λ full. onward (λ fits. true≢false (sym (full offset (le_refl offset) (omega arith)) ∙ fits.free offset (le_refl offset, omega arith))))))

  -- ---- the whole, and what take says of it

  abbrev test : ℕ → Run Bool
  test offset = (offset +? n) >>= λ end. gives (leb end B.CAPACITY)

  -- ---- and it does give an answer, with turns enough

  module _ (Some-of : Replies L B m) where
    module _ (narrow : a < L.k) (few : n ≤ 2 ^ L.k) where
      small_step : 2 ^ a < 2 ^ L.k
      small_step = pow-lt narrow

      digits : a < 64
      digits = omega (arith, law.small)

      room_left : 2 ^ L.k + 2 ^ L.k + 2 ^ L.k < 2 ^ 64
      room_left = Some-of.room

      size_answers : (offset : ℕ) → offset + n ≤ 2 ^ L.k → Answers (for_in offset (offset + n) (size_turn B m) 0)
      unfolding size_turn
      size_answers offset ends =
          for_answers (size_turn B m) (Free offset) (λ loop. Counted offset (ended loop)) (offset + n - offset) offset
          (λ j l h c free. (
            answers_then (B.get m j) _ (Some-of.reads_some j (omega arith)) (anyhow (B.get m j) _ (λ used.
                answers_tested (not used) _ _ (λ _. sum_answers _ c 1 (omega (arith, free.0, room_left)) tt) (λ _. tt))),
            size_turned offset j l (omega arith) c free,
          )) 0 (omega arith, λ i l h. absurd (omega arith))

      module _ (offset : ℕ) (known : Searched L.k S n a offset) (ends : offset + n ≤ 2 ^ L.k) where
        onward_answers : Answers (alloc_onward B m a offset)
        unfolding alloc_onward
        onward_answers = one_answers _ 64 a digits (sum_answers _ offset (2 ^ a) (omega (arith, room_left, small_step)) tt)

        turn_answers : Answers (alloc_turn B m n a (2 ^ a - 1) offset)
        unfolding alloc_turn
        turn_answers =
            answers_then (B.next_free m offset) _ (Some-of.finds_some offset (omega arith)) (so (B.next_free m offset) _ _ (law.finds offset) (λ next_one told.
            answers_optioned next_one _ _ (Found L.k S offset) told
            (λ free found.
            answers_tested (not (eqb free offset)) _ _
            (λ other.
            let apart : free ≡ offset → ⊥ = eqb-false free offset (not-true (eqb free offset) other) in
            difference_answers _ free 1 (omega (arith, found.from)) (one_answers _ 64 a digits
            (sum_answers _ ((free - 1) & !u64 (2 ^ a - 1)) (2 ^ a) (omega (arith, (on_by_free offset known ends free digits found apart).2, room_left, small_step)) tt)))
            (λ same. sum_answers _ offset n (omega (arith, room_left))
            (answers_then (for_in offset (offset + n) (size_turn B m) 0) _ (size_answers offset ends) (anyhow (for_in offset (offset + n) (size_turn B m) 0) _ (λ loop.
            answers_tested (eqb (ended loop) n) _ _
            (λ whole. answers_then (B.set_to m offset n true) _ (Some-of.paints_some offset n true pos ends) (anyhow (B.set_to m offset n true) _ (λ _. tt)))
            (λ short. onward_answers))))))
            (λ full. onward_answers)))

      regroup : (offset : ℕ) (t : Turn ℕ (Option ℕ × Self)) → Kept (Onto offset) Gone t
          → Kept (λ o. (Searched L.k S n a o × (o ≤ 2 ^ L.k + 2 ^ a)) × (offset < o)) Gone t
      regroup offset (next o) kept = ((kept.0, kept.2), kept.1)
      regroup offset (break o) kept = kept
      regroup offset (return r) kept = kept

      loop_answers : (turns : ℕ) → 2 ^ L.k + 1 < turns → Answers (while turns test (alloc_turn B m n a (2 ^ a - 1)) 0)
      loop_answers turns enough =
          while_answers test (alloc_turn B m n a (2 ^ a - 1)) (λ o. Searched L.k S n a o × (o ≤ 2 ^ L.k + 2 ^ a)) Gone (2 ^ L.k)
          (λ o inv. (
            sum_answers (λ end. gives (leb end B.CAPACITY)) o n (omega (arith, inv.1, room_left, small_step)) tt,
            sum_then (λ end. gives (leb end B.CAPACITY)) _ o n (λ _ inside.
                let ends : o + n ≤ 2 ^ L.k = rw law.capacity at (leb-true (o + n) B.CAPACITY inside) in
                (omega arith, turn_answers o inv.0 ends, so (alloc_turn B m n a (2 ^ a - 1) o) _ _ (turn o inv.0 ends) (regroup o))),
          )) turns 0 (searched_none L.k S n a pos, zero-le) (omega arith) (omega arith)

    -- more entries than the map has: the loop is not entered
    many_answers : (turns : ℕ) → 2 ^ L.k + 1 < turns → n < 2 ^ 64 → 2 ^ L.k < n → Answers (while turns test (alloc_turn B m n a (2 ^ a - 1)) 0)
    many_answers turns enough fits many =
        while_answers test (alloc_turn B m n a (2 ^ a - 1)) (λ o. o ≡ 0) (λ _. Unit {0}) (2 ^ L.k)
        (λ o none_yet. (
          sum_answers (λ end. gives (leb end B.CAPACITY)) o n (omega arith) tt,
          sum_then (λ end. gives (leb end B.CAPACITY)) _ o n (λ _ inside.
              let ends : o + n ≤ 2 ^ L.k = rw law.capacity at (leb-true (o + n) B.CAPACITY inside) in absurd (omega arith)),
        )) turns 0 refl (omega arith) (omega arith)

    pub alloc_answers : (turns : ℕ) → 2 ^ L.k + 1 < turns → n < 2 ^ 64 → Answers (alloc B turns m n a)
    unfolding alloc alloc_aligned
    alloc_answers turns enough fits =
        answers_tested (leb (ilog2 B.CAPACITY) a) _ _ (λ _. tt) (λ low.
        let narrow : a < L.k = rw law.log at (leb-false (ilog2 B.CAPACITY) a low) in
        one_answers _ 64 a (omega (arith, law.small)) (difference_answers _ (2 ^ a) 1 (pow_pos a)
        (answers_then (while turns test (alloc_turn B m n a (2 ^ a - 1)) 0) _
        (either (ltb (2 ^ L.k) n) (λ many. many_answers turns enough fits (ltb-true (2 ^ L.k) n many)) (λ few. loop_answers narrow (ltb-false (2 ^ L.k) n few) turns enough))
        (anyhow (while turns test (alloc_turn B m n a (2 ^ a - 1)) 0) _ (λ _. tt)))))
