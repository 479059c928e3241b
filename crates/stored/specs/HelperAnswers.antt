-- Made by tools/stored of tests/original.list: what the compiled original gave, call by call, of the helpers.
use Rattle.std.specs.Prelude.{◌≡◌, refl, true, [], ◌∷◌}
use Rattle.source.specs.Machine.{gives}
use Rattle.source.specs.Util.{align_up, align_down, is_aligned, page_align_up, round_to_pages, page_offset_lem, overlap, BIT, BIT-MASK}
use Rattle.source.specs.Shown.{truth, number, same, all}

pub answers_1 : all (
    -- is_aligned_64 0 2 = yes
    same (truth (is_aligned 0 2)) (1 ∷ []) ∷
    -- is_aligned_64 0 64 = yes
    same (truth (is_aligned 0 64)) (1 ∷ []) ∷
    -- align_up_64 0 65 = 0
    same (number (align_up 64 0 65)) (1 ∷ 0 ∷ []) ∷
    -- is_aligned_64 0 65 = yes
    same (truth (is_aligned 0 65)) (1 ∷ []) ∷
    -- align_up_64 0 4096 = 0
    same (number (align_up 64 0 4096)) (1 ∷ 0 ∷ []) ∷
    -- is_aligned_64 0 4096 = yes
    same (truth (is_aligned 0 4096)) (1 ∷ []) ∷
    -- align_down_64 0 2147483648 = 0
    same (number (align_down 64 0 2147483648)) (1 ∷ 0 ∷ []) ∷
    -- is_aligned_64 0 2147483648 = yes
    same (truth (is_aligned 0 2147483648)) (1 ∷ []) ∷
    -- align_down_64 0 4294967295 = 0
    same (number (align_down 64 0 4294967295)) (1 ∷ 0 ∷ []) ∷
    -- is_aligned_64 0 4294967295 = yes
    same (truth (is_aligned 0 4294967295)) (1 ∷ []) ∷
    -- align_up_64 0 18446744073709551615 = 0
    same (number (align_up 64 0 18446744073709551615)) (1 ∷ 0 ∷ []) ∷
    -- is_aligned_64 0 18446744073709551615 = yes
    same (truth (is_aligned 0 18446744073709551615)) (1 ∷ []) ∷
    -- align_up_64 1 0 = none: attempt to subtract with overflow
    same (number (align_up 64 1 0)) (0 ∷ []) ∷
    -- align_down_64 1 0 = none: attempt to subtract with overflow
    same (number (align_down 64 1 0)) (0 ∷ []) ∷
    -- is_aligned_64 1 0 = none: attempt to subtract with overflow
    same (truth (is_aligned 1 0)) (0 ∷ []) ∷
    -- align_up_64 1 1 = 1
    same (number (align_up 64 1 1)) (1 ∷ 1 ∷ []) ∷
    -- align_down_64 1 3 = 1
    same (number (align_down 64 1 3)) (1 ∷ 1 ∷ []) ∷
    -- is_aligned_64 1 3 = yes
    same (truth (is_aligned 1 3)) (1 ∷ []) ∷
    -- align_down_64 1 64 = 0
    same (number (align_down 64 1 64)) (1 ∷ 0 ∷ []) ∷
    -- align_up_64 1 65 = 1
    same (number (align_up 64 1 65)) (1 ∷ 1 ∷ []) ∷
    []) ≡ true
unfolding align_up align_down is_aligned page_align_up round_to_pages page_offset_lem overlap BIT BIT-MASK
answers_1 = refl

pub answers_2 : all (
    -- align_up_64 1 4096 = 4096
    same (number (align_up 64 1 4096)) (1 ∷ 4096 ∷ []) ∷
    -- is_aligned_64 1 4096 = no
    same (truth (is_aligned 1 4096)) (2 ∷ []) ∷
    -- align_down_64 1 4294967295 = 1
    same (number (align_down 64 1 4294967295)) (1 ∷ 1 ∷ []) ∷
    -- is_aligned_64 1 9223372036854775808 = no
    same (truth (is_aligned 1 9223372036854775808)) (2 ∷ []) ∷
    -- align_up_64 1 18446744073709551615 = 1
    same (number (align_up 64 1 18446744073709551615)) (1 ∷ 1 ∷ []) ∷
    -- align_up_64 4095 0 = none: attempt to subtract with overflow
    same (number (align_up 64 4095 0)) (0 ∷ []) ∷
    -- align_down_64 4095 0 = none: attempt to subtract with overflow
    same (number (align_down 64 4095 0)) (0 ∷ []) ∷
    -- is_aligned_64 4095 0 = none: attempt to subtract with overflow
    same (truth (is_aligned 4095 0)) (0 ∷ []) ∷
    -- align_up_64 4095 1 = 4095
    same (number (align_up 64 4095 1)) (1 ∷ 4095 ∷ []) ∷
    -- align_down_64 4095 1 = 4095
    same (number (align_down 64 4095 1)) (1 ∷ 4095 ∷ []) ∷
    -- align_down_64 4095 3 = 4093
    same (number (align_down 64 4095 3)) (1 ∷ 4093 ∷ []) ∷
    -- is_aligned_64 4095 64 = no
    same (truth (is_aligned 4095 64)) (2 ∷ []) ∷
    -- is_aligned_64 4095 65 = no
    same (truth (is_aligned 4095 65)) (2 ∷ []) ∷
    -- align_down_64 4095 2147483648 = 0
    same (number (align_down 64 4095 2147483648)) (1 ∷ 0 ∷ []) ∷
    -- is_aligned_64 4095 2147483648 = no
    same (truth (is_aligned 4095 2147483648)) (2 ∷ []) ∷
    -- is_aligned_64 4095 4294967295 = no
    same (truth (is_aligned 4095 4294967295)) (2 ∷ []) ∷
    -- is_aligned_64 4095 18446744073709551615 = no
    same (truth (is_aligned 4095 18446744073709551615)) (2 ∷ []) ∷
    -- align_up_64 4096 0 = none: attempt to subtract with overflow
    same (number (align_up 64 4096 0)) (0 ∷ []) ∷
    -- align_down_64 4096 0 = none: attempt to subtract with overflow
    same (number (align_down 64 4096 0)) (0 ∷ []) ∷
    -- is_aligned_64 4096 0 = none: attempt to subtract with overflow
    same (truth (is_aligned 4096 0)) (0 ∷ []) ∷
    []) ≡ true
unfolding align_up align_down is_aligned page_align_up round_to_pages page_offset_lem overlap BIT BIT-MASK
answers_2 = refl

pub answers_3 : all (
    -- is_aligned_64 4096 4294967295 = no
    same (truth (is_aligned 4096 4294967295)) (2 ∷ []) ∷
    -- align_up_64 4096 18446744073709551615 = none: attempt to add with overflow
    same (number (align_up 64 4096 18446744073709551615)) (0 ∷ []) ∷
    -- align_up_64 4097 0 = none: attempt to subtract with overflow
    same (number (align_up 64 4097 0)) (0 ∷ []) ∷
    -- align_down_64 4097 0 = none: attempt to subtract with overflow
    same (number (align_down 64 4097 0)) (0 ∷ []) ∷
    -- is_aligned_64 4097 0 = none: attempt to subtract with overflow
    same (truth (is_aligned 4097 0)) (0 ∷ []) ∷
    -- align_up_64 4097 18446744073709551615 = none: attempt to add with overflow
    same (number (align_up 64 4097 18446744073709551615)) (0 ∷ []) ∷
    -- align_up_64 4294963200 18446744073709551615 = none: attempt to add with overflow
    same (number (align_up 64 4294963200 18446744073709551615)) (0 ∷ []) ∷
    -- align_up_64 4294967295 18446744073709551615 = none: attempt to add with overflow
    same (number (align_up 64 4294967295 18446744073709551615)) (0 ∷ []) ∷
    -- align_up_64 18446744073709547520 9223372036854775808 = none: attempt to add with overflow
    same (number (align_up 64 18446744073709547520 9223372036854775808)) (0 ∷ []) ∷
    -- align_up_64 18446744073709551615 2 = none: attempt to add with overflow
    same (number (align_up 64 18446744073709551615 2)) (0 ∷ []) ∷
    -- align_up_64 18446744073709551615 64 = none: attempt to add with overflow
    same (number (align_up 64 18446744073709551615 64)) (0 ∷ []) ∷
    -- align_up_64 18446744073709551615 4096 = none: attempt to add with overflow
    same (number (align_up 64 18446744073709551615 4096)) (0 ∷ []) ∷
    -- is_aligned_32 0 2 = yes
    same (truth (is_aligned 0 2)) (1 ∷ []) ∷
    -- align_up_32 0 64 = 0
    same (number (align_up 32 0 64)) (1 ∷ 0 ∷ []) ∷
    -- align_down_32 0 64 = 0
    same (number (align_down 32 0 64)) (1 ∷ 0 ∷ []) ∷
    -- is_aligned_32 0 64 = yes
    same (truth (is_aligned 0 64)) (1 ∷ []) ∷
    -- align_up_32 0 65 = 0
    same (number (align_up 32 0 65)) (1 ∷ 0 ∷ []) ∷
    -- align_down_32 0 65 = 0
    same (number (align_down 32 0 65)) (1 ∷ 0 ∷ []) ∷
    -- is_aligned_32 0 65 = yes
    same (truth (is_aligned 0 65)) (1 ∷ []) ∷
    -- is_aligned_32 0 4096 = yes
    same (truth (is_aligned 0 4096)) (1 ∷ []) ∷
    []) ≡ true
unfolding align_up align_down is_aligned page_align_up round_to_pages page_offset_lem overlap BIT BIT-MASK
answers_3 = refl

pub answers_4 : all (
    -- align_up_32 0 2147483648 = 0
    same (number (align_up 32 0 2147483648)) (1 ∷ 0 ∷ []) ∷
    -- align_down_32 0 2147483648 = 0
    same (number (align_down 32 0 2147483648)) (1 ∷ 0 ∷ []) ∷
    -- is_aligned_32 0 2147483648 = yes
    same (truth (is_aligned 0 2147483648)) (1 ∷ []) ∷
    -- align_up_32 0 4294967295 = 0
    same (number (align_up 32 0 4294967295)) (1 ∷ 0 ∷ []) ∷
    -- align_down_32 0 4294967295 = 0
    same (number (align_down 32 0 4294967295)) (1 ∷ 0 ∷ []) ∷
    -- is_aligned_32 0 4294967295 = yes
    same (truth (is_aligned 0 4294967295)) (1 ∷ []) ∷
    -- align_up_32 1 0 = none: attempt to subtract with overflow
    same (number (align_up 32 1 0)) (0 ∷ []) ∷
    -- align_down_32 1 0 = none: attempt to subtract with overflow
    same (number (align_down 32 1 0)) (0 ∷ []) ∷
    -- is_aligned_32 1 0 = none: attempt to subtract with overflow
    same (truth (is_aligned 1 0)) (0 ∷ []) ∷
    -- align_up_32 1 2 = 2
    same (number (align_up 32 1 2)) (1 ∷ 2 ∷ []) ∷
    -- align_down_32 1 2 = 0
    same (number (align_down 32 1 2)) (1 ∷ 0 ∷ []) ∷
    -- align_up_32 1 3 = 1
    same (number (align_up 32 1 3)) (1 ∷ 1 ∷ []) ∷
    -- align_down_32 1 3 = 1
    same (number (align_down 32 1 3)) (1 ∷ 1 ∷ []) ∷
    -- is_aligned_32 1 3 = yes
    same (truth (is_aligned 1 3)) (1 ∷ []) ∷
    -- is_aligned_32 1 64 = no
    same (truth (is_aligned 1 64)) (2 ∷ []) ∷
    -- align_up_32 1 65 = 1
    same (number (align_up 32 1 65)) (1 ∷ 1 ∷ []) ∷
    -- align_down_32 1 65 = 1
    same (number (align_down 32 1 65)) (1 ∷ 1 ∷ []) ∷
    -- is_aligned_32 1 65 = yes
    same (truth (is_aligned 1 65)) (1 ∷ []) ∷
    -- align_up_32 1 4096 = 4096
    same (number (align_up 32 1 4096)) (1 ∷ 4096 ∷ []) ∷
    -- align_down_32 1 4096 = 0
    same (number (align_down 32 1 4096)) (1 ∷ 0 ∷ []) ∷
    []) ≡ true
unfolding align_up align_down is_aligned page_align_up round_to_pages page_offset_lem overlap BIT BIT-MASK
answers_4 = refl

pub answers_5 : all (
    -- is_aligned_32 1 4096 = no
    same (truth (is_aligned 1 4096)) (2 ∷ []) ∷
    -- is_aligned_32 1 2147483648 = no
    same (truth (is_aligned 1 2147483648)) (2 ∷ []) ∷
    -- align_up_32 4095 0 = none: attempt to subtract with overflow
    same (number (align_up 32 4095 0)) (0 ∷ []) ∷
    -- align_down_32 4095 0 = none: attempt to subtract with overflow
    same (number (align_down 32 4095 0)) (0 ∷ []) ∷
    -- is_aligned_32 4095 0 = none: attempt to subtract with overflow
    same (truth (is_aligned 4095 0)) (0 ∷ []) ∷
    -- is_aligned_32 4095 2 = no
    same (truth (is_aligned 4095 2)) (2 ∷ []) ∷
    -- is_aligned_32 4095 65 = no
    same (truth (is_aligned 4095 65)) (2 ∷ []) ∷
    -- is_aligned_32 4095 4294967295 = no
    same (truth (is_aligned 4095 4294967295)) (2 ∷ []) ∷
    -- align_up_32 4096 0 = none: attempt to subtract with overflow
    same (number (align_up 32 4096 0)) (0 ∷ []) ∷
    -- align_down_32 4096 0 = none: attempt to subtract with overflow
    same (number (align_down 32 4096 0)) (0 ∷ []) ∷
    -- is_aligned_32 4096 0 = none: attempt to subtract with overflow
    same (truth (is_aligned 4096 0)) (0 ∷ []) ∷
    -- align_up_32 4096 4294967295 = none: attempt to add with overflow
    same (number (align_up 32 4096 4294967295)) (0 ∷ []) ∷
    -- is_aligned_32 4096 4294967295 = no
    same (truth (is_aligned 4096 4294967295)) (2 ∷ []) ∷
    -- align_up_32 4097 0 = none: attempt to subtract with overflow
    same (number (align_up 32 4097 0)) (0 ∷ []) ∷
    -- align_down_32 4097 0 = none: attempt to subtract with overflow
    same (number (align_down 32 4097 0)) (0 ∷ []) ∷
    -- is_aligned_32 4097 0 = none: attempt to subtract with overflow
    same (truth (is_aligned 4097 0)) (0 ∷ []) ∷
    -- align_up_32 4097 4294967295 = none: attempt to add with overflow
    same (number (align_up 32 4097 4294967295)) (0 ∷ []) ∷
    -- is_aligned_32 4097 4294967295 = no
    same (truth (is_aligned 4097 4294967295)) (2 ∷ []) ∷
    -- align_up_32 4294963200 4294967295 = none: attempt to add with overflow
    same (number (align_up 32 4294963200 4294967295)) (0 ∷ []) ∷
    -- align_up_32 4294967295 2 = none: attempt to add with overflow
    same (number (align_up 32 4294967295 2)) (0 ∷ []) ∷
    []) ≡ true
unfolding align_up align_down is_aligned page_align_up round_to_pages page_offset_lem overlap BIT BIT-MASK
answers_5 = refl

pub answers_6 : all (
    -- align_up_32 4294967295 3 = none: attempt to add with overflow
    same (number (align_up 32 4294967295 3)) (0 ∷ []) ∷
    -- align_up_32 4294967295 64 = none: attempt to add with overflow
    same (number (align_up 32 4294967295 64)) (0 ∷ []) ∷
    -- align_up_32 4294967295 4096 = none: attempt to add with overflow
    same (number (align_up 32 4294967295 4096)) (0 ∷ []) ∷
    -- page_align_up 4097 = 8192
    same (number (page_align_up 4097)) (1 ∷ 8192 ∷ []) ∷
    -- round_to_pages 4097 = 2
    same (number (round_to_pages 4097)) (1 ∷ 2 ∷ []) ∷
    -- page_offset 4097 = 1
    same (number (page_offset_lem 4097)) (1 ∷ 1 ∷ []) ∷
    -- page_align_up 65536 = 65536
    same (number (page_align_up 65536)) (1 ∷ 65536 ∷ []) ∷
    -- round_to_pages 65536 = 16
    same (number (round_to_pages 65536)) (1 ∷ 16 ∷ []) ∷
    -- page_offset 65536 = 0
    same (number (page_offset_lem 65536)) (1 ∷ 0 ∷ []) ∷
    -- page_align_up 2147483647 = 2147483648
    same (number (page_align_up 2147483647)) (1 ∷ 2147483648 ∷ []) ∷
    -- round_to_pages 2147483647 = 524288
    same (number (round_to_pages 2147483647)) (1 ∷ 524288 ∷ []) ∷
    -- page_offset 2147483647 = 4095
    same (number (page_offset_lem 2147483647)) (1 ∷ 4095 ∷ []) ∷
    -- page_align_up 18446744073709551614 = none: attempt to add with overflow
    same (number (page_align_up 18446744073709551614)) (0 ∷ []) ∷
    -- round_to_pages 18446744073709551614 = none: attempt to add with overflow
    same (number (round_to_pages 18446744073709551614)) (0 ∷ []) ∷
    -- page_align_up 18446744073709551615 = none: attempt to add with overflow
    same (number (page_align_up 18446744073709551615)) (0 ∷ []) ∷
    -- round_to_pages 18446744073709551615 = none: attempt to add with overflow
    same (number (round_to_pages 18446744073709551615)) (0 ∷ []) ∷
    -- mask 0 1 = 3
    same (number (BIT-MASK 1 0)) (1 ∷ 3 ∷ []) ∷
    -- mask 0 2 = 7
    same (number (BIT-MASK 2 0)) (1 ∷ 7 ∷ []) ∷
    -- mask 0 31 = 4294967295
    same (number (BIT-MASK 31 0)) (1 ∷ 4294967295 ∷ []) ∷
    -- mask 0 65 = none: attempt to shift left with overflow
    same (number (BIT-MASK 65 0)) (0 ∷ []) ∷
    []) ≡ true
unfolding align_up align_down is_aligned page_align_up round_to_pages page_offset_lem overlap BIT BIT-MASK
answers_6 = refl

pub answers_7 : all (
    -- mask 0 127 = none: attempt to shift left with overflow
    same (number (BIT-MASK 127 0)) (0 ∷ []) ∷
    -- bit 1 = 2
    same (number (BIT 1)) (1 ∷ 2 ∷ []) ∷
    -- mask 1 64 = none: attempt to shift left with overflow
    same (number (BIT-MASK 64 1)) (0 ∷ []) ∷
    -- bit 2 = 4
    same (number (BIT 2)) (1 ∷ 4 ∷ []) ∷
    -- mask 2 64 = 18446744073709551612
    same (number (BIT-MASK 64 2)) (1 ∷ 18446744073709551612 ∷ []) ∷
    -- bit 31 = 2147483648
    same (number (BIT 31)) (1 ∷ 2147483648 ∷ []) ∷
    -- mask 31 0 = none: attempt to subtract with overflow
    same (number (BIT-MASK 0 31)) (0 ∷ []) ∷
    -- mask 31 64 = 18446744071562067968
    same (number (BIT-MASK 64 31)) (1 ∷ 18446744071562067968 ∷ []) ∷
    -- mask 31 65 = 18446744071562067968
    same (number (BIT-MASK 65 31)) (1 ∷ 18446744071562067968 ∷ []) ∷
    -- mask 32 0 = none: attempt to subtract with overflow
    same (number (BIT-MASK 0 32)) (0 ∷ []) ∷
    -- mask 32 31 = none: attempt to subtract with overflow
    same (number (BIT-MASK 31 32)) (0 ∷ []) ∷
    -- mask 32 64 = 18446744069414584320
    same (number (BIT-MASK 64 32)) (1 ∷ 18446744069414584320 ∷ []) ∷
    -- bit 65 = none: attempt to shift left with overflow
    same (number (BIT 65)) (0 ∷ []) ∷
    -- bit 127 = none: attempt to shift left with overflow
    same (number (BIT 127)) (0 ∷ []) ∷
    -- mask 127 64 = none: attempt to subtract with overflow
    same (number (BIT-MASK 64 127)) (0 ∷ []) ∷
    -- mask 127 65 = none: attempt to subtract with overflow
    same (number (BIT-MASK 65 127)) (0 ∷ []) ∷
    -- bit 18446744073709551615 = none: attempt to shift left with overflow
    same (number (BIT 18446744073709551615)) (0 ∷ []) ∷
    -- mask 18446744073709551615 64 = none: attempt to subtract with overflow
    same (number (BIT-MASK 64 18446744073709551615)) (0 ∷ []) ∷
    -- overlap 0 0 1 5 = no
    same (truth (gives (overlap 0 0 1 5))) (2 ∷ []) ∷
    -- overlap 0 0 2 5 = no
    same (truth (gives (overlap 0 0 2 5))) (2 ∷ []) ∷
    []) ≡ true
unfolding align_up align_down is_aligned page_align_up round_to_pages page_offset_lem overlap BIT BIT-MASK
answers_7 = refl

pub answers_8 : all (
    -- overlap 0 1 0 0 = yes
    same (truth (gives (overlap 0 1 0 0))) (1 ∷ []) ∷
    -- overlap 0 1 1 0 = yes
    same (truth (gives (overlap 0 1 1 0))) (1 ∷ []) ∷
    -- overlap 0 1 1 1 = yes
    same (truth (gives (overlap 0 1 1 1))) (1 ∷ []) ∷
    -- overlap 0 1 2 2 = no
    same (truth (gives (overlap 0 1 2 2))) (2 ∷ []) ∷
    -- overlap 0 1 5 0 = no
    same (truth (gives (overlap 0 1 5 0))) (2 ∷ []) ∷
    -- overlap 0 2 0 1 = yes
    same (truth (gives (overlap 0 2 0 1))) (1 ∷ []) ∷
    -- overlap 0 2 2 0 = yes
    same (truth (gives (overlap 0 2 2 0))) (1 ∷ []) ∷
    -- overlap 0 5 1 0 = yes
    same (truth (gives (overlap 0 5 1 0))) (1 ∷ []) ∷
    -- overlap 0 5 2 1 = yes
    same (truth (gives (overlap 0 5 2 1))) (1 ∷ []) ∷
    -- overlap 1 0 1 1 = no
    same (truth (gives (overlap 1 0 1 1))) (2 ∷ []) ∷
    -- overlap 1 0 5 1 = no
    same (truth (gives (overlap 1 0 5 1))) (2 ∷ []) ∷
    -- round_to_pages 18446744073709548931 = none: attempt to add with overflow
    same (number (round_to_pages 18446744073709548931)) (0 ∷ []) ∷
    -- page_align_up 18446744073709551614 = none: attempt to add with overflow
    same (number (page_align_up 18446744073709551614)) (0 ∷ []) ∷
    []) ≡ true
unfolding align_up align_down is_aligned page_align_up round_to_pages page_offset_lem overlap BIT BIT-MASK
answers_8 = refl
