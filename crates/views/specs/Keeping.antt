-- How views are made of others: the same maps in other words, and maps with a field beside them that has to agree with them. Rests on `View`.
use Rattle.std.specs.Prelude.{◌≡◌, refl, ◌↔◌, Bool, true, false, not, ◌&&◌, ℕ, ◌^◌, ◌<◌, T}
use Rattle.std.proofs.Common.{sym, ap, ◌∙◌, zero-le, arith}
use Rattle.answers.specs.Faults.{finds_both}
use Rattle.bits.specs.Range.{every, finds_every, same_test}
use Rattle.bits.specs.Digits.{digit, number}
use Rattle.bits.proofs.Digits.{digit_number, number_is}
use Rattle.slots.specs.Kinds.{Kind, State}
use Rattle.slots.specs.View.{View}

-- ---- the same maps in other words

-- only maps that a state makes have to come back
abbrev pub carried : {K : Kind} (L : View K) (M : Type 0) (to : M → L.Map) (from : L.Map → M)
    → ((X : State K) → to (from (L.of_state X)) ≡ L.of_state X) → ((m : M) → from (to m) ≡ m) → View K
carried L M to from there back = record {
  k = L.k;
  Map = M;
  state_of = λ m. L.state_of (to m);
  of_state = λ X. from (L.of_state X);
  Sound = λ m. L.Sound (to m);
  is_sound = λ m. L.is_sound (to m);
  IsMap = λ m. L.IsMap (to m);
  finds_sound = λ m. L.finds_sound (to m);
  holds = λ X p h. rw (there X) (L.holds X p h);
  past = λ m held p h. L.past (to m) held p h;
  right = λ m sound held. L.right (to m) sound held;
  made_sound = λ X right. rw (there X) (L.made_sound X right);
  made_map = λ X. rw (there X) (L.made_map X);
  same = λ m sound held. ap from (L.same (to m) sound held) ∙ back m;
}

-- the state of a map said in other words; only values of the type have to have it
abbrev pub seen_as : {K : Kind} (L : View K) (state : L.Map → State K) → ((m : L.Map) → L.IsMap m → L.state_of m ≡ state m) → View K
seen_as {K} L state seen = record {
  k = L.k;
  Map = L.Map;
  state_of = state;
  of_state = L.of_state;
  Sound = L.Sound;
  is_sound = L.is_sound;
  IsMap = L.IsMap;
  finds_sound = L.finds_sound;
  holds = λ X p h. ap (λ (Y : State K). Y p) (sym (seen (L.of_state X) (L.made_map X))) ∙ L.holds X p h;
  past = λ m held p h. ap (λ (Y : State K). Y p) (sym (seen m held)) ∙ L.past m held p h;
  right = λ m sound held. rw (sym (seen m held)) (L.right m sound held);
  made_sound = L.made_sound;
  made_map = L.made_map;
  same = λ m sound held. ap L.of_state (sym (seen m held)) ∙ L.same m sound held;
}

-- ---- a field kept beside a map

-- what is stored beside a map, the sentence that says when it agrees with the map, and the test that finds it: one value of its type does agree
pub record Kept {K : Kind} (L : View K) : Type 1 where
  pub Field : Type 0
  -- the field is a value of its type
  pub IsField : Field → Type 0
  pub Agrees : L.Map → Field → Type 0
  pub agrees : L.Map → Field → Bool
  pub finds_agrees : (m : L.Map) (f : Field) → T (agrees m f) ↔ Agrees m f
  -- the field that a map has
  pub made : L.Map → Field
  pub made_agrees : (m : L.Map) → L.IsMap m → Agrees m (made m)
  pub made_field : (m : L.Map) → IsField (made m)
  pub only : (m : L.Map) (f : Field) → L.Sound m → L.IsMap m → IsField f → Agrees m f → made m ≡ f

pub record Beside (M F : Type 0) : Type 0 where
  pub map : M
  pub kept : F

module _ {K : Kind} (L : View K) (F : Kept L) where
  abbrev Both : Type 0
  Both = Beside L.Map F.Field

  abbrev pub with_kept : L.Map → Both
  with_kept m = record { map = m; kept = F.made m }

  -- sound: the map is, and the field agrees with it
  pub record SoundBeside (m : Both) : Type 0 where
    pub map_sound : L.Sound m.map
    pub kept_agrees : F.Agrees m.map m.kept

  abbrev pub sound_beside : Both → Bool
  sound_beside m = L.is_sound m.map && F.agrees m.map m.kept

  pub record MapBeside (m : Both) : Type 0 where
    pub is_map : L.IsMap m.map
    pub is_field : F.IsField m.kept

  pub finds_sound_beside : (m : Both) → T (sound_beside m) ↔ SoundBeside m
  finds_sound_beside m =
      let found = finds_both (L.is_sound m.map) (F.agrees m.map m.kept) (L.finds_sound m.map) (F.finds_agrees m.map m.kept) in
      (λ t. record { map_sound = (found.0 t).0; kept_agrees = (found.0 t).1 }, λ s. found.1 (s.map_sound, s.kept_agrees))

  pub same_beside : (m : Both) → SoundBeside m → MapBeside m → with_kept (L.of_state (L.state_of m.map)) ≡ m
  same_beside m sound held =
      ap with_kept (L.same m.map sound.map_sound held.is_map)
      ∙ (λ i. record { map = m.map; kept = F.only m.map m.kept sound.map_sound held.is_map held.is_field sound.kept_agrees i })

-- ---- bits that say something of each part of a map, in one number

abbrev alike : Bool → Bool → Bool
alike true b = b
alike false b = not b

alike_same : (a b : Bool) → (alike a b ≡ true) ↔ (a ≡ b)
alike_same true b = (sym, sym)
alike_same false true = (λ e. e, λ e. e)
alike_same false false = (λ e. refl, λ e. refl)

-- a digit is the test's answer exactly if it says what the test finds
told : {P : Type 0} (d v : Bool) → T v ↔ P → (d ≡ v) ↔ ((d ≡ true) ↔ P)
told d v found = (
  λ e. (λ t. found.0 (rw (sym e ∙ t) tt), λ q. e ∙ same_test v true (λ _. tt) (λ _. found.1 q)),
  λ h. same_test d v (λ t. found.1 (h.0 (same_test d true (λ _. tt) (λ _. t)))) (λ t. rw (h.1 (found.0 t)) tt),
)

-- bit i is 1 exactly if P says it of part i
module _ {M : Type 0} (n : ℕ) (P : M → ℕ → Type 0) (p : M → ℕ → Bool) (finds : (m : M) (i : ℕ) → T (p m i) ↔ P m i) where
  abbrev pub BitsAgree : M → ℕ → Type 0
  BitsAgree m f = (i : ℕ) → i < n → (digit f i ≡ true) ↔ P m i

  abbrev pub bits_agree : M → ℕ → Bool
  bits_agree m f = every (λ i. alike (digit f i) (p m i)) 0 n

  abbrev pub bits_of : M → ℕ
  bits_of m = number (p m) n

  pub finds_bits : (m : M) (f : ℕ) → T (bits_agree m f) ↔ BitsAgree m f
  finds_bits m f =
      let found = finds_every (λ i. alike (digit f i) (p m i)) 0 n in (
        λ t i l. (told (digit f i) (p m i) (finds m i)).0 ((alike_same (digit f i) (p m i)).0 (found.0 t i zero-le (omega arith))),
        λ h. found.1 (λ i _ l. (alike_same (digit f i) (p m i)).1 ((told (digit f i) (p m i) (finds m i)).1 (h i (omega arith)))),
      )

  pub made_bits : (m : M) → BitsAgree m (bits_of m)
  made_bits m i l = (told (digit (bits_of m) i) (p m i) (finds m i)).0 (digit_number (p m) n i l)

  pub only_bits : (m : M) (f : ℕ) → f < 2 ^ n → BitsAgree m f → bits_of m ≡ f
  only_bits m f fits h = sym (number_is n f (p m) fits (λ i l. (told (digit f i) (p m i) (finds m i)).1 (h i l)))
