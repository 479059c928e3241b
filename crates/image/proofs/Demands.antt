-- What stood in specs/Demands and rests on theorems there: moved, its statements unchanged. Rests on `Demands`.
use Rattle.std.specs.Prelude.{◌≡◌, ◌↔◌, true, ℕ, zero, suc, T, ℤ, pos, negsuc, neg_ℤ, length, Result}
use Rattle.std.proofs.Math.Path.{refl, sym, ap}
use Rattle.std.proofs.Common.{subst, ◌∙◌, ⊎_elim, arith}
use mathlib.Core.List.{List, [], ◌∷◌, ◌++◌}
use Rattle.std.proofs.Math.Pow.{are_bytes}
use Rattle.answers.specs.Said.{Said, value, refused, Check, on_value, leaving, leaving_says, leaving_refused, value≢refused, value_injective, refused_injective}
use Rattle.answers.specs.Faults.{Fault, ◌if◌, First, NoFault, Rising, Finds, judged_refuses, judged_accepts, finds_not}
use Rattle.answers.specs.Answers.{answer_says, answer_says_by}
use Rattle.answers.specs.declared.Reply.{Reply}
use Rattle.answers.specs.declared.Refusal.{Refusal}
use Rattle.bits.specs.Range.{same_test}
use Rattle.slots.specs.Sets.{Slots, none}
use Rattle.slots.specs.Calls.{Call, take_call, free_call}
use Rattle.slots.specs.Promises.{used_refused}
use Rattle.slots.proofs.Promises.{take_refused, free_refused}
use Rattle.slots.specs.View.{changed_refused}
use Rattle.tree.specs.declared.Tree.{Tree}
use Rattle.answers.specs.declared.Changed.{Changed}
use Rattle.tree.specs.Layout.{of_slots, slot_of, tree_view, Sound, IsTree, is_tree_means}
use Rattle.tree.specs.Says as Tree
use Rattle.image.specs.declared.ImageRefusal.{ImageRefusal}
use Rattle.image.specs.declared.Reading.{Reading}
use Rattle.image.specs.Image.{image_of, is_image, held_in, TwoFields, SummaryAgrees, held_sound_means, reads_back}
use Rattle.image.proofs.Image.{is_image_means, an_image, writes_back}
use Rattle.image.specs.ImageAnswers.{image_number_of, numbered, signed}
use Rattle.image.specs.Inner.{left_on}
use Rattle.image.specs.Says.{written, WriteSays, image_checks, read_of, ReadSays, Asked, take, free, used, on_bytes, call_of, answered_on, told, on_image, TakeTells, FreeTells, UsedTells}
use Rattle.image.specs.Demands.{both_pass, image_faults, own_faults, write_accepts, write_accepted, read_accepted, faults, a_count, a_change}

finds_agreed : (bytes : List ℕ) → T (tree_view.is_sound (held_in bytes)) ↔ SummaryAgrees bytes
finds_agreed bytes = (
  λ t. (held_sound_means bytes).0 ((tree_view.finds_sound (held_in bytes)).0 t),
  λ agrees. (tree_view.finds_sound (held_in bytes)).1 ((held_sound_means bytes).1 agrees),
)

found_faults : (bytes : List ℕ) (cs : List Check) (fs : List Fault) → Finds cs fs → Finds (image_checks bytes ++ cs) (image_faults bytes ++ fs)
found_faults bytes cs fs own = (refl, finds_not (is_image bytes) (is_image_means bytes), λ _. (refl, finds_not (tree_view.is_sound (held_in bytes)) (finds_agreed bytes), λ _. own))

own_found : (bytes : List ℕ) (asked : Asked) → Finds (call_of bytes asked).checks (own_faults bytes asked)
own_found bytes (take n a) = (take_refused 10 (slot_of (held_in bytes)) n a).finds
own_found bytes (free start n) = (free_refused 10 (slot_of (held_in bytes)) start n).finds
own_found bytes used = (used_refused 10 (slot_of (held_in bytes))).finds

-- reading
module _ (bytes : List ℕ) where
  pub read_refuses : (k : ℕ) → ((read_of bytes).0 ≡ refused k) ↔ First k (image_faults bytes)
  unfolding read_of
  read_refuses k = rw (leaving_says (λ _. held_in bytes) (of_slots none) _) (judged_refuses _ (image_faults bytes) tt k (found_faults bytes [] [] tt))

  pub read_accepts : ((read_of bytes).0 ≡ value tt) ↔ (TwoFields bytes × SummaryAgrees bytes)
  unfolding read_of
  read_accepts =
      rw (leaving_says (λ _. held_in bytes) (of_slots none) _) (both_pass (is_image bytes) (tree_view.is_sound (held_in bytes)) (is_image_means bytes) (finds_agreed bytes))

-- ---- the calls for C

-- a negative number is a refusal's, and any other is an answer: no refusal has the number 0
is_negative : ℤ → Type 0
is_negative (pos n) = ⊥
is_negative (negsuc n) = Unit {0}

below_zero : ℤ → ℕ
below_zero (pos n) = 0
below_zero (negsuc n) = n

above_zero : ℤ → ℕ
above_zero (pos n) = n
above_zero (negsuc n) = 0

zero_no_suc : {j : ℕ} → 0 ≡ suc j → ⊥
zero_no_suc e = omega (arith, e)

signed_refusal : (said : Said ℕ) (j : ℕ) → (signed said ≡ negsuc j) ↔ (said ≡ refused (suc j))
unfolding is_negative below_zero
signed_refusal (value n) j = (λ e. absurd (subst is_negative (sym e) tt), λ e. absurd (value≢refused n (suc j) e))
signed_refusal (refused zero) j = (λ e. absurd (subst is_negative (sym e) tt), λ e. absurd (zero_no_suc (refused_injective e)))
signed_refusal (refused (suc k)) j = (λ e. ap (λ (m : ℕ). refused (suc m)) (ap below_zero e), λ e. ap (λ (m : ℕ). neg_ℤ (pos m)) (refused_injective e))

signed_number : (said : Said ℕ) (n : ℕ) → (said ≡ refused 0 → ⊥) → (signed said ≡ pos n) ↔ (said ≡ value n)
unfolding is_negative above_zero
signed_number (value m) n none-zero = (λ e. ap value (ap above_zero e), λ e. ap pos (value_injective e))
signed_number (refused zero) n none-zero = absurd (none-zero refl)
signed_number (refused (suc k)) n none-zero = (λ e. absurd (subst is_negative e tt), λ e. absurd (value≢refused n (suc k) (sym e)))

-- numbers that rise leave 0 out
never_zero : (k : ℕ) (fs : List Fault) → Rising k fs → First 0 fs → ⊥
never_zero k [] r f = f
never_zero k ((m if P) ∷ fs) r f = ⊎_elim (λ g. let none = g.0 in let above = r.0 in omega (arith, none, above)) (λ g. never_zero m fs r.1 g.1) f

own_rising : (bytes : List ℕ) (asked : Asked) → Rising 1 (own_faults bytes asked)
own_rising bytes (take n a) = (take_refused 10 (slot_of (held_in bytes)) n a).rising
own_rising bytes (free start n) = (free_refused 10 (slot_of (held_in bytes)) start n).rising
own_rising bytes used = tt

module _ (bytes : List ℕ) (asked : Asked) where
  abbrev call : Call (List ℕ) ℕ
  call = call_of bytes asked

  found : Finds (image_checks bytes ++ call.checks) (faults bytes asked)
  found = found_faults bytes call.checks (own_faults bytes asked) (own_found bytes asked)

  says_refused_by : (k : ℕ) → ((answered_on bytes call).0 ≡ refused k) ↔ First k (faults bytes asked)
  unfolding answered_on
  says_refused_by k = rw (leaving_says (λ _. call.after) bytes _) (judged_refuses _ (faults bytes asked) call.answer k found)

  says_accepted_by : (n : ℕ) → ((answered_on bytes call).0 ≡ value n) ↔ (NoFault (faults bytes asked) × (call.answer ≡ n))
  unfolding answered_on
  says_accepted_by n = rw (leaving_says (λ _. call.after) bytes _) (judged_accepts _ (faults bytes asked) call.answer n found)

  -- the number is -(j + 1) exactly where j + 1 is the number of the first fault that holds
  pub tells_refusal : (j : ℕ) → ((on_image bytes asked).0 ≡ negsuc j) ↔ First (suc j) (faults bytes asked)
  tells_refusal j =
      let sign = signed_refusal (answered_on bytes call).0 j in
      let says = says_refused_by (suc j) in
      (λ e. says.0 (sign.0 e), λ f. sign.1 (says.1 f))

  -- and it is n exactly where no fault holds and n is the answer
  pub tells_number : (n : ℕ) → ((on_image bytes asked).0 ≡ pos n) ↔ (NoFault (faults bytes asked) × ((call_of bytes asked).answer ≡ n))
  tells_number n =
      let sign = signed_number (answered_on bytes call).0 n (λ e. no_zero ((says_refused_by 0).0 e)) in
      let says = says_accepted_by n in
      (λ e. says.0 (sign.0 e), λ f. sign.1 (says.1 f))
    where
      no_zero : First 0 (faults bytes asked) → ⊥
      no_zero f =
          ⊎_elim (λ g. let none = g.0 in omega (arith, none))
          (λ g. ⊎_elim (λ h. let none = h.0 in omega (arith, none)) (λ h. never_zero 1 (own_faults bytes asked) (own_rising bytes asked) h.1) g.1) f

  -- a negative number, and every byte is as it was
  pub tells_kept : (j : ℕ) → (on_image bytes asked).0 ≡ negsuc j → (on_image bytes asked).1 ≡ bytes
  unfolding answered_on
  tells_kept j e = leaving_refused (λ _. call.after) bytes _ (suc j) ((signed_refusal (answered_on bytes call).0 j).0 e)

-- ---- reading what was written gives the map, and writing what was read gives the bytes

module _ (t : Tree) (held : IsTree t) (buffer : List ℕ) (w : Result Unit ImageRefusal) (after : List ℕ) (wrote : WriteSays t buffer w after) (done : answer_says_by image_number_of w ≡ value tt) where
  accepted : (written t buffer).0 ≡ value tt
  accepted = sym (ap (λ x. x.0) wrote) ∙ done

  sound : Sound t
  sound = ((write_accepts t buffer).0 accepted).1

  the_image : after ≡ image_of t
  the_image = ap (λ x. x.1) wrote ∙ write_accepted t buffer accepted

  pub read_written : (r : Reading) → ReadSays after r → (answer_says_by image_number_of r.answer ≡ value tt) × (r.map ≡ t)
  read_written r read =
      let same = reads_back t held sound in
      let found = an_image t ((is_tree_means t).0 held).0 in
      let agrees = subst Sound (sym same) sound in
      let whole = read ∙ ap read_of the_image in
      let said = (read_accepts (image_of t)).1 ((is_image_means (image_of t)).0 found, (held_sound_means (image_of t)).0 agrees) in
      (ap (λ x. x.0) whole ∙ said, ap (λ x. x.1) whole ∙ read_accepted (image_of t) said ∙ same)

module _ (bytes : List ℕ) (are : T (are_bytes bytes)) (r : Reading) (read : ReadSays bytes r) (done : answer_says_by image_number_of r.answer ≡ value tt) where
  taken_in : (read_of bytes).0 ≡ value tt
  taken_in = sym (ap (λ x. x.0) read) ∙ done

  the_map : r.map ≡ held_in bytes
  the_map = ap (λ x. x.1) read ∙ read_accepted bytes taken_in

  found_image : T (is_image bytes)
  found_image = (is_image_means bytes).1 ((read_accepts bytes).0 taken_in).0

  held_sound : Sound (held_in bytes)
  held_sound = (held_sound_means bytes).1 ((read_accepts bytes).0 taken_in).1

  pub written_read : (buffer : List ℕ) → length buffer ≡ 136 → (w : Result Unit ImageRefusal) (after : List ℕ) → WriteSays r.map buffer w after
      → (answer_says_by image_number_of w ≡ value tt) × (after ≡ bytes)
  written_read buffer long w after wrote =
      let said = (write_accepts (held_in bytes) buffer).1 (long, held_sound) in
      let whole = wrote ∙ ap (λ (t : Tree). written t buffer) the_map in
      (ap (λ x. x.0) whole ∙ said, ap (λ x. x.1) whole ∙ write_accepted (held_in bytes) buffer said ∙ writes_back bytes found_image are)

-- so, of an image that is read: the number is what the tree's call says of the map that was read, and the bytes are the image of the map that it leaves
module _ (bytes : List ℕ) (are : T (are_bytes bytes)) (reading : Reading) (read : ReadSays bytes reading) (done : answer_says_by image_number_of reading.answer ≡ value tt) where
  is : is_image bytes ≡ true
  is = same_test (is_image bytes) true (λ _. tt) (λ _. found_image bytes are reading read done)

  same_map : reading.map ≡ held_in bytes
  same_map = the_map bytes are reading read done

  module _ (c : Call Slots Reply) (q : Changed Refusal Tree) (outcome : Tree.Leaves (held_in bytes) c q) where
    -- on a refusal the map is as it was, and so are the bytes
    left_by : (said : Said Reply) → answer_says q.answer ≡ said → (leaving (on_value numbered said) (λ _. image_of q.map) bytes).1 ≡ image_of q.map
    unfolding leaving on_value
    left_by (value x) e = refl
    left_by (refused k) e =
        sym (writes_back bytes (found_image bytes are reading read done) are)
        ∙ ap image_of (sym (ap (λ x. x.1) outcome ∙ changed_refused tree_view (held_in bytes) c k (sym (ap (λ x. x.0) outcome) ∙ e)))

    changes : (n : ℤ) (after : List ℕ) → (n, after) ≡ told (answered_on bytes (on_bytes c)) → (n ≡ signed (on_value numbered (answer_says q.answer))) × (after ≡ image_of q.map)
    unfolding left_on
    changes n after tells =
        let whole = tells ∙ ap told (a_change bytes is c q outcome) in (
          ap (λ x. x.0) whole ∙ ap signed (leaving_says (λ _. image_of q.map) bytes (on_value numbered (answer_says q.answer))),
          ap (λ x. x.1) whole ∙ left_by (answer_says q.answer) refl,
        )

  pub take_is_the_trees : (n a : ℕ) (r : ℤ) (after : List ℕ) → TakeTells bytes n a r after → (q : Changed Refusal Tree) → Tree.TakeSays reading.map n a q
      → (r ≡ signed (on_value numbered (answer_says q.answer))) × (after ≡ image_of q.map)
  take_is_the_trees n a r after tells q outcome =
      changes (take_call 10 (slot_of (held_in bytes)) n a) q (subst (λ (t : Tree). Tree.TakeSays t n a q) same_map outcome) r after tells

  pub free_is_the_trees : (start n : ℕ) (r : ℤ) (after : List ℕ) → FreeTells bytes start n r after → (q : Changed Refusal Tree) → Tree.FreeSays reading.map start n q
      → (r ≡ signed (on_value numbered (answer_says q.answer))) × (after ≡ image_of q.map)
  free_is_the_trees start n r after tells q outcome =
      changes (free_call 10 (slot_of (held_in bytes)) start n) q (subst (λ (t : Tree). Tree.FreeSays t start n q) same_map outcome) r after tells

  pub used_is_the_trees : (r : ℤ) (after : List ℕ) → UsedTells bytes r after → (q : Result ℕ Refusal) → Tree.UsedSays reading.map q → (r ≡ signed (answer_says q)) × (after ≡ bytes)
  used_is_the_trees r after tells q outcome =
      let whole = tells ∙ ap told (a_count bytes is q (subst (λ (t : Tree). Tree.UsedSays t q) same_map outcome)) in
      (ap (λ x. x.0) whole, ap (λ x. x.1) whole)
