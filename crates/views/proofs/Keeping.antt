-- What stood in specs/Keeping and rests on theorems there: moved, its statements unchanged. Rests on `Keeping`.
use Rattle.std.specs.Prelude.{◌↔◌, Bool, ℕ, ◌^◌, ◌<◌, T}
use Rattle.bits.specs.Digits.{number_lt}
use Rattle.slots.specs.Kinds.{Kind}
use Rattle.slots.specs.View.{View}
use Rattle.views.specs.Keeping.{Kept, Beside, with_kept, SoundBeside, sound_beside, MapBeside, finds_sound_beside, same_beside, BitsAgree, bits_agree, bits_of, finds_bits, made_bits, only_bits}

module _ {K : Kind} (L : View K) (F : Kept L) where
  abbrev Both : Type 0
  Both = Beside L.Map F.Field

  -- a second and a third field are the same step again
  abbrev pub keeping : View K
  keeping = record {
    k = L.k;
    Map = Both;
    state_of = λ m. L.state_of m.map;
    of_state = λ X. with_kept L F (L.of_state X);
    Sound = SoundBeside L F;
    is_sound = sound_beside L F;
    IsMap = MapBeside L F;
    finds_sound = finds_sound_beside L F;
    holds = λ X p h. L.holds X p h;
    past = λ m held p h. L.past m.map held.is_map p h;
    right = λ m sound held. L.right m.map sound.map_sound held.is_map;
    made_sound = λ X right. record { map_sound = L.made_sound X right; kept_agrees = F.made_agrees (L.of_state X) (L.made_map X) };
    made_map = λ X. record { is_map = L.made_map X; is_field = F.made_field (L.of_state X) };
    same = same_beside L F;
  }

-- a field that agrees with the map alone, beside a map that keeps another already
abbrev pub also : {K : Kind} (L : View K) (F G : Kept L) → Kept (keeping L F)
also L F G = record {
  Field = G.Field;
  IsField = G.IsField;
  Agrees = λ m f. G.Agrees m.map f;
  agrees = λ m f. G.agrees m.map f;
  finds_agrees = λ m f. G.finds_agrees m.map f;
  made = λ m. G.made m.map;
  made_agrees = λ m held. G.made_agrees m.map held.is_map;
  made_field = λ m. G.made_field m.map;
  only = λ m f sound held fits h. G.only m.map f sound.map_sound held.is_map fits h;
}

-- one number of n bits, kept beside a map
module _ {K : Kind} (L : View K) (n : ℕ) (P : L.Map → ℕ → Type 0) (p : L.Map → ℕ → Bool) (finds : (m : L.Map) (i : ℕ) → T (p m i) ↔ P m i) where
  abbrev pub bits_kept : Kept L
  bits_kept = record {
    Field = ℕ;
    IsField = λ f. f < 2 ^ n;
    Agrees = BitsAgree n P p finds;
    agrees = bits_agree n P p finds;
    finds_agrees = finds_bits n P p finds;
    made = bits_of n P p finds;
    made_agrees = λ m held. made_bits n P p finds m;
    made_field = λ m. number_lt (p m) n;
    only = λ m f sound held fits h. only_bits n P p finds m f fits h;
  }
