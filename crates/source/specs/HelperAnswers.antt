-- Made by tools/stored of tests/original.list: what the compiled original gave, call by call, of the helpers.
use Rattle.std.specs.Prelude.{◌≡◌, refl, true, [], ◌∷◌}
use Rattle.source.specs.Machine.{gives}
use Rattle.source.specs.Util.{align_up, align_down, is_aligned, page_align_up, round_to_pages, page_offset_lem, overlap, BIT, BIT-MASK}
use Rattle.source.specs.Shown.{truth, number, same, all}

pub answers_1 : all (
    -- mask 2 64 = 18446744073709551612
    same (number (BIT-MASK 64 2)) (1 ∷ 18446744073709551612 ∷ []) ∷
    -- align_up_64 1 3 = 1
    same (number (align_up 64 1 3)) (1 ∷ 1 ∷ []) ∷
    -- overlap 1 0 0 1 = yes
    same (truth (gives (overlap 1 0 0 1))) (1 ∷ []) ∷
    -- align_up_64 0 0 = none: attempt to subtract with overflow
    same (number (align_up 64 0 0)) (0 ∷ []) ∷
    -- align_down_64 0 0 = none: attempt to subtract with overflow
    same (number (align_down 64 0 0)) (0 ∷ []) ∷
    -- is_aligned_64 0 0 = none: attempt to subtract with overflow
    same (truth (is_aligned 0 0)) (0 ∷ []) ∷
    -- align_up_64 0 1 = 0
    same (number (align_up 64 0 1)) (1 ∷ 0 ∷ []) ∷
    -- align_down_64 0 1 = 0
    same (number (align_down 64 0 1)) (1 ∷ 0 ∷ []) ∷
    -- is_aligned_64 0 1 = yes
    same (truth (is_aligned 0 1)) (1 ∷ []) ∷
    -- align_down_64 0 3 = 0
    same (number (align_down 64 0 3)) (1 ∷ 0 ∷ []) ∷
    -- is_aligned_64 0 3 = yes
    same (truth (is_aligned 0 3)) (1 ∷ []) ∷
    -- is_aligned_64 1 2 = no
    same (truth (is_aligned 1 2)) (2 ∷ []) ∷
    -- is_aligned_64 4095 3 = no
    same (truth (is_aligned 4095 3)) (2 ∷ []) ∷
    -- align_up_64 4095 18446744073709551615 = none: attempt to add with overflow
    same (number (align_up 64 4095 18446744073709551615)) (0 ∷ []) ∷
    -- align_up_64 18446744073709547520 2147483648 = none: attempt to add with overflow
    same (number (align_up 64 18446744073709547520 2147483648)) (0 ∷ []) ∷
    -- align_up_32 0 0 = none: attempt to subtract with overflow
    same (number (align_up 32 0 0)) (0 ∷ []) ∷
    -- align_down_32 0 0 = none: attempt to subtract with overflow
    same (number (align_down 32 0 0)) (0 ∷ []) ∷
    -- is_aligned_32 0 0 = none: attempt to subtract with overflow
    same (truth (is_aligned 0 0)) (0 ∷ []) ∷
    -- align_up_32 0 1 = 0
    same (number (align_up 32 0 1)) (1 ∷ 0 ∷ []) ∷
    -- align_down_32 0 1 = 0
    same (number (align_down 32 0 1)) (1 ∷ 0 ∷ []) ∷
    []) ≡ true
unfolding align_up align_down is_aligned page_align_up round_to_pages page_offset_lem overlap BIT BIT-MASK
answers_1 = refl

pub answers_2 : all (
    -- is_aligned_32 0 1 = yes
    same (truth (is_aligned 0 1)) (1 ∷ []) ∷
    -- align_up_32 0 3 = 0
    same (number (align_up 32 0 3)) (1 ∷ 0 ∷ []) ∷
    -- align_down_32 0 3 = 0
    same (number (align_down 32 0 3)) (1 ∷ 0 ∷ []) ∷
    -- is_aligned_32 0 3 = yes
    same (truth (is_aligned 0 3)) (1 ∷ []) ∷
    -- is_aligned_32 1 2 = no
    same (truth (is_aligned 1 2)) (2 ∷ []) ∷
    -- is_aligned_32 4095 3 = no
    same (truth (is_aligned 4095 3)) (2 ∷ []) ∷
    -- align_up_32 4095 4294967295 = none: attempt to add with overflow
    same (number (align_up 32 4095 4294967295)) (0 ∷ []) ∷
    -- align_up_32 4294963200 2147483648 = none: attempt to add with overflow
    same (number (align_up 32 4294963200 2147483648)) (0 ∷ []) ∷
    -- page_align_up 4095 = 4096
    same (number (page_align_up 4095)) (1 ∷ 4096 ∷ []) ∷
    -- round_to_pages 4095 = 1
    same (number (round_to_pages 4095)) (1 ∷ 1 ∷ []) ∷
    -- page_offset 4095 = 4095
    same (number (page_offset_lem 4095)) (1 ∷ 4095 ∷ []) ∷
    -- page_align_up 18446744073709547521 = none: attempt to add with overflow
    same (number (page_align_up 18446744073709547521)) (0 ∷ []) ∷
    -- round_to_pages 18446744073709547521 = none: attempt to add with overflow
    same (number (round_to_pages 18446744073709547521)) (0 ∷ []) ∷
    -- bit 0 = 1
    same (number (BIT 0)) (1 ∷ 1 ∷ []) ∷
    -- mask 0 0 = 1
    same (number (BIT-MASK 0 0)) (1 ∷ 1 ∷ []) ∷
    -- mask 0 63 = none: attempt to shift left with overflow
    same (number (BIT-MASK 63 0)) (0 ∷ []) ∷
    -- mask 0 64 = none: attempt to shift left with overflow
    same (number (BIT-MASK 64 0)) (0 ∷ []) ∷
    -- mask 0 18446744073709551615 = none: attempt to add with overflow
    same (number (BIT-MASK 18446744073709551615 0)) (0 ∷ []) ∷
    -- mask 1 0 = none: attempt to subtract with overflow
    same (number (BIT-MASK 0 1)) (0 ∷ []) ∷
    -- bit 64 = none: attempt to shift left with overflow
    same (number (BIT 64)) (0 ∷ []) ∷
    []) ≡ true
unfolding align_up align_down is_aligned page_align_up round_to_pages page_offset_lem overlap BIT BIT-MASK
answers_2 = refl

pub answers_3 : all (
    -- mask 65 64 = none: attempt to subtract with overflow
    same (number (BIT-MASK 64 65)) (0 ∷ []) ∷
    -- overlap 0 0 0 0 = yes
    same (truth (gives (overlap 0 0 0 0))) (1 ∷ []) ∷
    -- overlap 0 0 1 0 = no
    same (truth (gives (overlap 0 0 1 0))) (2 ∷ []) ∷
    -- overlap 0 0 1 1 = no
    same (truth (gives (overlap 0 0 1 1))) (2 ∷ []) ∷
    []) ≡ true
unfolding align_up align_down is_aligned page_align_up round_to_pages page_offset_lem overlap BIT BIT-MASK
answers_3 = refl
