-- What stood in specs/Fields and rests on theorems there: moved, its statements unchanged. Rests on `Fields`.
use Rattle.std.specs.Prelude.{◌≡◌, refl, List, [], ◌∷◌, ℕ, zero, suc, ◌≤◌, ltb, length, drop}
use Rattle.std.proofs.Common.{ap, arith, length-drop}
use borrow.Author.Tests.{ltb-true, ltb-false}
use Rattle.bits.specs.Range.{either}
use Rattle.report.specs.Fields.{may_hold, Field, head_kind, head_length, after_head, first_field, header_cut, header_bad, body_cut, body_whole, fields_within, fields}

-- ---- so a record is its first field and then the fields of what is left to read

pub first_shorter : (b : ℕ) (bytes : List ℕ) → length (first_field (b ∷ bytes)).1 ≤ length bytes
first_shorter b bytes =
    either (ltb (length all) 3)
    (λ few. left (header_cut all (ltb-true _ _ few)) (omega arith))
    (λ whole. either (may_hold (head_kind all) (head_length all))
    (λ good. either (ltb (length (after_head all)) (head_length all))
    (λ few. left (body_cut all (ltb-false _ _ whole) good (ltb-true _ _ few)) (omega arith))
    (λ enough. left (body_whole all (ltb-false _ _ whole) good (ltb-false _ _ enough))
    (let after = length-drop 2 bytes in let rest = length-drop (head_length all) (drop 2 bytes) in omega (arith, after, rest))))
    (λ wrong. left (header_bad all (ltb-false _ _ whole) wrong) (omega arith)))
  where
    all : List ℕ
    all = b ∷ bytes

    left : {out : Field × List ℕ} → first_field all ≡ out → length out.1 ≤ length bytes → length (first_field all).1 ≤ length bytes
    left {out} e l = rw e l

enough : (m n : ℕ) (bytes : List ℕ) → length bytes ≤ m → length bytes ≤ n → fields_within m bytes ≡ fields_within n bytes
unfolding fields_within
enough zero zero bytes f g = refl
enough zero (suc n) [] f g = refl
enough zero (suc n) (b ∷ bytes) f g = absurd (omega (arith, f))
enough (suc m) zero [] f g = refl
enough (suc m) zero (b ∷ bytes) f g = absurd (omega (arith, g))
enough (suc m) (suc n) [] f g = refl
enough (suc m) (suc n) (b ∷ bytes) f g =
    let less = first_shorter b bytes in
    ap (λ (rest : List Field). (first_field (b ∷ bytes)).0 ∷ rest) (enough m n (first_field (b ∷ bytes)).1 (omega (arith, less, f)) (omega (arith, less, g)))

pub fields_first : (b : ℕ) (bytes : List ℕ) → fields (b ∷ bytes) ≡ (first_field (b ∷ bytes)).0 ∷ fields (first_field (b ∷ bytes)).1
unfolding fields fields_within
fields_first b bytes =
    let left = (first_field (b ∷ bytes)).1 in
    ap (λ (rest : List Field). (first_field (b ∷ bytes)).0 ∷ rest) (enough (length bytes) (length left) left (first_shorter b bytes) (omega arith))
