-- What a call on a map has to show at each way out, over any view: a judged call, carried out. Assumes nothing.
use Rattle.std.specs.Prelude.{Result, Ok, Err}
use mathlib.Core.Path.{◌≡◌, refl, sym, ap, ◌∙◌}
use mathlib.Core.Bool.{Bool, true}
use Prim.Native.Nat.{ℕ}
use Rattle.answers.specs.Said.{value}
use Rattle.answers.specs.Refusals.{number_of}
use Rattle.answers.specs.Answers.{answer_says, left_by}
use Rattle.answers.specs.declared.Reply.{Reply}
use Rattle.answers.specs.declared.Reply.TheVariants.{At as at}
use Rattle.answers.specs.declared.Refusal.{Refusal}
use Rattle.slots.specs.Sets.{Slots, painted}
use Rattle.slots.specs.Kinds.{Kind, State, plain}
use Rattle.slots.specs.Lowest.{Fits}
use Rattle.slots.specs.Calls.{Call, says, take_call}
use Rattle.slots.proofs.Promises.{take_promise, take_after}
use Rattle.slots.specs.View.{View, answered, changed, accepted_sound, found_sound, says_refused, says_accepted}

-- ---- a judged call, carried out, is as its contract has it

module _ {K : Kind} (L : View K) (m : L.Map) (call : Call (State K) Reply) (after : L.Map)
    (right : (reply : Reply) → answered L m call ≡ value reply → after ≡ L.of_state call.after) where
  accepting : (judge : Result Reply Refusal) (reply : Reply) → answer_says judge ≡ value reply → value reply ≡ answered L m call → (answer_says judge, after) ≡ changed L m call
  accepting judge reply says told = (λ i. (says i, right reply (sym told) i)) ∙ sym (says_accepted L m call reply (sym told))

  pub carried_out_lem : (judge : Result Reply Refusal) → answer_says judge ≡ answered L m call → (answer_says judge, left_by judge m after) ≡ changed L m call
  carried_out_lem (Ok reply) told = accepting (Ok reply) reply refl told
  carried_out_lem (Err why) told = sym (says_refused L m call (number_of why) (sym told))

-- ---- a call that paints a run

module _ (L : View plain) (m : L.Map) where
  -- what an accepted take says of the set alone
  take_says : (n a start : ℕ) → value (at start) ≡ answered L m (take_call L.k (L.state_of m) n a) → says (take_call L.k (L.state_of m) n a) ≡ value (at start)
  take_says n a start told =
      let call = take_call L.k (L.state_of m) n a in
      sym (found_sound L m call (accepted_sound L m call (at start) (sym told))) ∙ sym told

  -- the set that it leaves, and that its run was free and within the map
  pub take_paints : (n a start : ℕ) → value (at start) ≡ answered L m (take_call L.k (L.state_of m) n a)
      → (take_call L.k (L.state_of m) n a).after ≡ painted (L.state_of m) start n true
  take_paints n a start told = take_after L.k (L.state_of m) n a start (take_says n a start told)

  pub take_fits : (n a start : ℕ) → value (at start) ≡ answered L m (take_call L.k (L.state_of m) n a) → Fits L.k (L.state_of m) n a start
  take_fits n a start told = ((take_promise L.k (L.state_of m) n a start).0 (take_says n a start told)).3.fits

  -- where the painted map is that of the painted set, as it is where the map is sound and the call has passed its checks
  pub carries : (call : Call Slots Reply) (s n : ℕ) (v : Bool) → call.after ≡ painted (L.state_of m) s n v
      → (after : L.Map) → (L.is_sound m ≡ true → (reply : Reply) → says call ≡ value reply → after ≡ L.of_state (painted (L.state_of m) s n v))
      → (judge : Result Reply Refusal) → answer_says judge ≡ answered L m call → (left : L.Map) → left ≡ left_by judge m after → (answer_says judge, left) ≡ changed L m call
  carries call s n v paints after right judge told left e =
      ap (λ (map : L.Map). (answer_says judge, map)) e
      ∙ carried_out_lem L m call after (λ reply said.
      let sound = accepted_sound L m call reply said in
      right sound reply (sym (found_sound L m call sound) ∙ said) ∙ ap L.of_state (sym paints)) judge told
