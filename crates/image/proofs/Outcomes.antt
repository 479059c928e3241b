-- What the calls of this crate come to, from what the tree's calls came to. Assumes nothing.
use Rattle.std.specs.Prelude.{Result, Ok, Err}
use mathlib.Core.Path.{◌≡◌, refl, sym, ap, subst, ◌∙◌}
use mathlib.Core.Bool.{Bool, true, false, not}
use mathlib.Core.List.{List, [], ◌∷◌}
use Prim.Native.Nat.{ℕ, ◌^◌, ◌<◌}
use native.Mathlib.Omega.{arith}
use lib.IntN.{ℤ, pos, neg_ℤ}
use lib.ListN.{length}
use borrow.Author.Tests.{eq-eqb, ne_eqb}
use Rattle.answers.specs.Said.{Said, value, refused, Check, ◌when◌, judged, judged_first, on_value, leaving, leaving_says, leaving_kept, value≢refused, value_injective, refused_injective}
use Rattle.answers.specs.Refusals.{number_of}
use Rattle.answers.specs.Answers.{answer_says, answer_says_by}
use Rattle.answers.specs.declared.Changed.{Changed}
use Rattle.answers.specs.declared.Reply.{Reply}
use Rattle.answers.specs.declared.Reply.TheVariants.{At as at, Done as ok}
use Rattle.answers.specs.declared.Refusal.{Refusal}
use Rattle.bits.specs.Range.{count, count_most}
use Rattle.slots.specs.Sets.{Slots}
use Rattle.slots.specs.Calls.{Call, take_call, free_call, used_call}
use Rattle.slots.specs.Promises.{free_faults}
use Rattle.slots.proofs.Promises.{take_promise, free_refused}
use Rattle.slots.specs.View.{answered, answered_decided, changed_says, found_sound, accepted_sound}
use Rattle.tree.specs.declared.Tree.{Tree}
use Rattle.tree.specs.Layout.{slot_of, tree_view}
use Rattle.tree.specs.Says as Tree
use Rattle.tree.specs.Demands.{refused_unsound, counted_sound}
use Rattle.image.specs.declared.ImageRefusal.{ImageRefusal}
use Rattle.image.specs.declared.ImageRefusal.TheVariants.{Map, NoImage}
use Rattle.image.specs.Image.{image_of, is_image, held_in}
use Rattle.image.proofs.Image.{image_long}
use Rattle.image.specs.ImageAnswers.{image_number_of, numbered, signed}
use Rattle.image.specs.Says.{written, image_checks, WriteSays, used, on_bytes, call_of, answered_on, told, on_image}
use Rattle.image.specs.Inner.{HeldSays, SoundSays, CountedSays, Short, left_on, LeftIn}
use Rattle.image.specs.Demands.{no_image, a_count, a_change}

-- ---- what is told where a result is a refusal, and where it is a value

module _ {A : Type 0} (r : Result A ImageRefusal) (said : Said A) (says : answer_says_by image_number_of r ≡ said) where
  pub says_refused : (why : ImageRefusal) → r ≡ Err why → said ≡ refused (image_number_of why)
  says_refused why e = sym says ∙ ap (answer_says_by image_number_of) e

  pub says_value : (a : A) → r ≡ Ok a → said ≡ value a
  says_value a e = sym says ∙ ap (answer_says_by image_number_of) e

-- a value that is told is the one that the checks were asked with
judged_is : {A : Type 0} (cs : List Check) (a x : A) → judged cs a ≡ value x → x ≡ a
unfolding judged
judged_is [] a x e = value_injective (sym e)
judged_is ((k when true) ∷ cs) a x e = absurd (value≢refused x k (sym e))
judged_is ((k when false) ∷ cs) a x e = judged_is cs a x e

-- ---- the map that the bytes hold, where they are an image

by_one : {A : Type 0} (b : Bool) (a : A) (k : ℕ) → judged ((16 when not b) ∷ []) a ≡ refused k → (b ≡ false) × (k ≡ 16)
unfolding judged
by_one true a k e = absurd (value≢refused a k e)
by_one false a k e = (refl, refused_injective (sym e))

past_one : {A : Type 0} (b : Bool) (a x : A) → judged ((16 when not b) ∷ []) a ≡ value x → (b ≡ true) × (x ≡ a)
unfolding judged
past_one true a x e = (refl, value_injective (sym e))
past_one false a x e = absurd (value≢refused x 16 (sym e))

module _ (bytes : List ℕ) (held : Result Tree ImageRefusal) (says : HeldSays bytes held) where
  -- they are none: a call for C tells -16 and leaves the bytes
  module _ (why : ImageRefusal) (failed : held ≡ Err why) where
    none_held : (is_image bytes ≡ false) × (image_number_of why ≡ 16)
    none_held = by_one (is_image bytes) (held_in bytes) (image_number_of why) (says_refused held _ says why failed)

    pub answered_none : (c : Call (List ℕ) ℕ) → ◌≡◌ {A = Said ℕ × List ℕ} (refused (image_number_of why), bytes) (answered_on bytes c)
    answered_none c = (λ i. (refused (none_held.1 i), bytes)) ∙ sym (no_image bytes c none_held.0)

    pub told_none : (c : Call (List ℕ) ℕ) → ◌≡◌ {A = ℤ × List ℕ} (neg_ℤ (pos (image_number_of why)), bytes) (told (answered_on bytes c))
    told_none c = ap told (answered_none c)

    -- and nothing else is asked of them
    pub judged_none : SoundSays bytes (Err why)
    judged_none = sym (judged_first _ ((1 when not (tree_view.is_sound (held_in bytes))) ∷ []) (held_in bytes) (held_in bytes) (image_number_of why) (says_refused held _ says why failed))

  -- they are one, and that is the map
  module _ (t : Tree) (passed : held ≡ Ok t) where
    both : (is_image bytes ≡ true) × (t ≡ held_in bytes)
    both = past_one (is_image bytes) (held_in bytes) t (says_value held _ says t passed)

    pub long : length bytes ≡ 136
    long = image_long bytes (rw both.0 tt)

    -- then what is told of a change of the map is what is told of the call
    pub told_change : (call : Tree → Call Slots Reply) (q : Changed Refusal Tree) → Tree.Leaves t (call t) q → (r : ℤ) (after : List ℕ) → LeftIn bytes q r after
        → ◌≡◌ {A = ℤ × List ℕ} (r, after) (told (answered_on bytes (on_bytes (call (held_in bytes)))))
    told_change call q outcome r after left =
        left ∙ sym (ap told (a_change bytes both.0 (call (held_in bytes)) q (subst (λ (x : Tree). Tree.Leaves x (call x) q) both.1 outcome)))

    -- and of its count
    module _ (q : Result ℕ Refusal) (outcome : Tree.UsedSays t q) where
      its_own : Tree.UsedSays (held_in bytes) q
      its_own = subst (λ (x : Tree). Tree.UsedSays x q) both.1 outcome

      pub says_count : answer_says q ≡ (answered_on bytes (call_of bytes used)).0
      says_count = sym (ap (λ x. x.0) (a_count bytes both.0 q its_own))

      -- the map is sound exactly where it is counted
      pub judged_unsound : (why : Refusal) → q ≡ Err why → SoundSays bytes (Err (Map why))
      unfolding judged
      judged_unsound why e = let so = refused_unsound (held_in bytes) q its_own why e in rw (both.0, so.0) (ap refused so.1)

      pub judged_sound : (n : ℕ) → q ≡ Ok n → SoundSays bytes (Ok t)
      unfolding judged
      judged_sound n e = rw (both.0, (counted_sound (held_in bytes) q its_own n e).0) (ap value both.1)

-- ---- the count

module _ (bytes : List ℕ) (counted : Result ℕ ImageRefusal) (says : CountedSays bytes counted) where
  -- it fits a signed number
  pub count_fits : (n : ℕ) → counted ≡ Ok n → n < 2 ^ 31
  unfolding answered_on used_call
  count_fits n e =
      let is = judged_is (image_checks bytes) (count (slot_of (held_in bytes)) 0 1024) n (sym (leaving_says (λ _. bytes) bytes _) ∙ says_value counted _ says n e) in
      let most = count_most (slot_of (held_in bytes)) 0 1024 in
      omega (arith, is, most)

  pub told_count : (r : Result ℕ ImageRefusal) → counted ≡ r → ◌≡◌ {A = ℤ × List ℕ} (signed (answer_says_by image_number_of r), bytes) (on_image bytes used)
  unfolding answered_on used_call
  told_count r e =
      let kept = leaving_kept (judged (image_checks bytes) (count (slot_of (held_in bytes)) 0 1024)) bytes in
      (λ i. (signed ((sym (ap (answer_says_by image_number_of) e) ∙ says ∙ ap (λ x. x.0) kept) i), bytes)) ∙ sym (ap told kept)

-- ---- writing

module _ (t : Tree) (buffer : List ℕ) where
  pub write_short : (length buffer ≡ 136 → ⊥) → WriteSays t buffer (Err NoImage) buffer
  unfolding written judged leaving
  write_short other = rw (ne_eqb (length buffer) 136 other) refl

  module _ (long : length buffer ≡ 136) (q : Result ℕ Refusal) (outcome : Tree.UsedSays t q) where
    pub write_unsound : (why : Refusal) → q ≡ Err why → WriteSays t buffer (Err (Map why)) buffer
    unfolding written judged leaving
    write_unsound why e = let so = refused_unsound t q outcome why e in rw (eq-eqb (length buffer) 136 long, so.0, so.1) refl

    pub write_sound : (n : ℕ) → q ≡ Ok n → (after : List ℕ) → after ≡ image_of t → WriteSays t buffer (Ok tt) after
    unfolding written judged leaving
    write_sound n e after is = rw (eq-eqb (length buffer) 136 long, (counted_sound t q outcome n e).0, is) refl

-- ---- what a change leaves

module _ (bytes : List ℕ) (r : Changed Refusal Tree) where
  left_as : (answer : Result Reply Refusal) → r.answer ≡ answer → left_on bytes r ≡ leaving (on_value numbered (answer_says answer)) (λ _. image_of r.map) bytes
  unfolding left_on
  left_as answer e = ap (λ (a : Result Reply Refusal). leaving (on_value numbered (answer_says a)) (λ _. image_of r.map) bytes) e

  pub left_refused : (why : Refusal) → r.answer ≡ Err why → left_on bytes r ≡ (refused (number_of why), bytes)
  unfolding leaving on_value
  left_refused why e = left_as (Err why) e

  pub left_done : (reply : Reply) → r.answer ≡ Ok reply → left_on bytes r ≡ (value (numbered reply), image_of r.map)
  unfolding leaving on_value
  left_done reply e = left_as (Ok reply) e

-- ---- a start is short

short_by : (answer : Result Reply Refusal) → ((start : ℕ) → answer_says answer ≡ value (at start) → start < 2 ^ 31) → Short answer
short_by (Ok (at start)) short = short start refl
short_by (Ok ok) short = tt
short_by (Err why) short = tt

said_by : (t : Tree) (c : Call Slots Reply) (r : Changed Refusal Tree) → Tree.Leaves t c r → answer_says r.answer ≡ answered tree_view t c
said_by t c r outcome = ap (λ x. x.0) outcome ∙ changed_says tree_view t c

pub take_short : (t : Tree) (n a : ℕ) (r : Changed Refusal Tree) → Tree.TakeSays t n a r → Short r.answer
take_short t n a r outcome = short_by r.answer (λ start e.
    let c = take_call 10 (slot_of t) n a in
    let said : answered tree_view t c ≡ value (at start) = sym (said_by t c r outcome) ∙ e in
    let ends = ((take_promise 10 (slot_of t) n a start).0 (sym (found_sound tree_view t c (accepted_sound tree_view t c (at start) said)) ∙ said)).3.fits.ends in
    omega (arith, ends))

is_at : Reply → Type 0
is_at (at n) = Unit {0}
is_at ok = ⊥

pub free_short : (t : Tree) (start n : ℕ) (r : Changed Refusal Tree) → Tree.FreeSays t start n r → Short r.answer
unfolding free_call is_at
free_short t start n r outcome = short_by r.answer (λ told e.
    let c = free_call 10 (slot_of t) start n in
    let said : answered tree_view t c ≡ value (at told) = sym (said_by t c r outcome) ∙ e in
    absurd (subst is_at (sym (((answered_decided tree_view t c (free_faults 10 (slot_of t) start n) (free_refused 10 (slot_of t) start n)).accepts (at told)).0 said).1) tt))
