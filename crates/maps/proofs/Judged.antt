-- The ways out of a call on a map that judges by a value: by a flag, or by an answer that is no refusal. The calls of today leave by `?`, so that no
-- proof cites these. Assumes nothing.
use Rattle.std.specs.Prelude.{◌≡◌, Bool, true, false, Result, Ok, Err}
use Rattle.std.proofs.Common.{refl, sym, ◌∙◌}
use Rattle.answers.specs.Said.{value, refused}
use Rattle.answers.specs.Answers.{answer_says, left_by}
use Rattle.answers.specs.declared.Refusal.{Refusal}
use Rattle.slots.specs.Kinds.{Kind}
use Rattle.slots.specs.Calls.{Call, says}
use Rattle.slots.specs.View.{View, answered, found_unsound, found_sound}

-- ---- an answer that is no refusal

pub not_refused : {A : Type 0} (answer : Result A Refusal) → ((why : Refusal) → answer ≡ Err why → ⊥) → (x : A) × (answer_says answer ≡ value x)
not_refused (Ok x) h = (x, refl)
not_refused (Err why) h = absurd (h why refl)

pub left_behind : {A M : Type 0} (answer : Result A Refusal) → ((why : Refusal) → answer ≡ Err why → ⊥) → (before after : M) → left_by answer before after ≡ after
left_behind (Ok x) h before after = refl
left_behind (Err why) h before after = absurd (h why refl)

-- ---- check 1, by the flag of a branch

module _ {K : Kind} (L : View K) {X A : Type 0} (m : L.Map) (call : Call X A) where
  module _ (flag : Bool) (told : flag ≡ L.is_sound m) where
    pub shown_unsound : flag ≡ false → answered L m call ≡ refused 1
    shown_unsound e = found_unsound L m call (sym told ∙ e)

    pub shown_sound : flag ≡ true → answered L m call ≡ says call
    shown_sound e = found_sound L m call (sym told ∙ e)
