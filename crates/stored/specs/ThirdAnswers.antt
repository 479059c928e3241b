-- Made by tools/stored of tests/original.list: what the compiled original gave, call by call, of the third level.
use Rattle.std.specs.Prelude.{◌≡◌, refl, true, [], ◌∷◌, ◌++◌, replicate}
use Rattle.std.specs.Int.Count.{count_trailing_zeros, count_leading_zeros}
use Rattle.bits.specs.Range.{count}
use Rattle.bits.specs.Digits.{digit}
use Rattle.source.specs.Machine.{gives}
use Rattle.source.specs.BitmapAllocator.{Allocator16384, set64, next_free64, get64, set_turn, set_tree_lem, next_free_turn, next_free_tree, get_tree, sum_used, free, size_turn, alloc_onward, alloc_turn, alloc_aligned, alloc}
use Rattle.source.specs.Shown.{tree, slot, truth, number, same, all}
use Rattle.stored.specs.ThirdShown.{third, third_shown, third_take, third_change}

pub answers_1 : all (
    -- third free 0 0 = none: attempt to subtract with overflow
    same (third_change (free Allocator16384 (third 0 (replicate 16 (tree 0 (replicate 16 0)))) 0 0)) (0 ∷ []) ∷
    -- third set 0 0 on = none: attempt to subtract with overflow
    same (third_change (Allocator16384.set_to (third 0 (replicate 16 (tree 0 (replicate 16 0)))) 0 0 true)) (0 ∷ []) ∷
    -- third set 1023 1 on = done; 15:8000000000000000 /0:8001 /1
    same (third_change (Allocator16384.set_to (third 0 (((tree 1 (replicate 16 0)) ∷ []) ++ replicate 15 (tree 0 (replicate 16 0)))) 1023 1 true)) (1 ∷ third_shown (third 1 (((tree 32769 (replicate 15 0 ++ (9223372036854775808 ∷ []))) ∷ []) ++ replicate 15 (tree 0 (replicate 16 0))))) ∷
    -- third free 1023 1 = done; /1
    same (third_change (free Allocator16384 (third 0 (((tree 1 (replicate 16 0)) ∷ []) ++ replicate 15 (tree 0 (replicate 16 0)))) 1023 1)) (1 ∷ third_shown (third 1 (((tree 1 (replicate 16 0)) ∷ []) ++ replicate 15 (tree 0 (replicate 16 0))))) ∷
    -- third set 1023 2 on = done; 15:8000000000000000 16:1 /0:8001 /1:1 /3
    same (third_change (Allocator16384.set_to (third 0 (((tree 1 (replicate 16 0)) ∷ []) ++ replicate 15 (tree 0 (replicate 16 0)))) 1023 2 true)) (1 ∷ third_shown (third 3 (((tree 32769 (replicate 15 0 ++ (9223372036854775808 ∷ []))) ∷ []) ++ ((tree 1 ((1 ∷ []) ++ replicate 15 0)) ∷ []) ++ replicate 14 (tree 0 (replicate 16 0))))) ∷
    -- third free 1023 2 = done; /1
    same (third_change (free Allocator16384 (third 0 (((tree 1 (replicate 16 0)) ∷ []) ++ replicate 15 (tree 0 (replicate 16 0)))) 1023 2)) (1 ∷ third_shown (third 1 (((tree 1 (replicate 16 0)) ∷ []) ++ replicate 15 (tree 0 (replicate 16 0))))) ∷
    -- third take 0 0 = none: attempt to subtract with overflow
    same (third_take (alloc Allocator16384 17000 (third 0 (((tree 1 (replicate 16 0)) ∷ []) ++ replicate 15 (tree 0 (replicate 16 0)))) 0 0)) (0 ∷ []) ∷
    -- third take 1 0 = 0; 0:1 /1
    same (third_take (alloc Allocator16384 17000 (third 0 (((tree 1 (replicate 16 0)) ∷ []) ++ replicate 15 (tree 0 (replicate 16 0)))) 1 0)) (1 ∷ 0 ∷ third_shown (third 1 (((tree 1 ((1 ∷ []) ++ replicate 15 0)) ∷ []) ++ replicate 15 (tree 0 (replicate 16 0))))) ∷
    -- third take 1 13 = 0; 0:1 /1
    same (third_take (alloc Allocator16384 17000 (third 0 (((tree 1 (replicate 16 0)) ∷ []) ++ replicate 15 (tree 0 (replicate 16 0)))) 1 13)) (1 ∷ 0 ∷ third_shown (third 1 (((tree 1 ((1 ∷ []) ++ replicate 15 0)) ∷ []) ++ replicate 15 (tree 0 (replicate 16 0))))) ∷
    -- third take 0 14 = not found; same
    same (third_take (alloc Allocator16384 17000 (third 0 (replicate 16 (tree 0 (replicate 16 0)))) 0 14)) (2 ∷ third_shown (third 0 (replicate 16 (tree 0 (replicate 16 0))))) ∷
    -- third take 0 13 = not found; same
    same (third_take (alloc Allocator16384 17000 (third 65535 (((tree 65534 (replicate 16 18446744073709551615)) ∷ []) ++ replicate 15 (tree 65535 (replicate 16 18446744073709551615)))) 0 13)) (2 ∷ third_shown (third 65535 (((tree 65534 (replicate 16 18446744073709551615)) ∷ []) ++ replicate 15 (tree 65535 (replicate 16 18446744073709551615))))) ∷
    -- third empty = yes
    same (truth (gives (Allocator16384.empty (third 0 (((tree 1 (replicate 16 0)) ∷ []) ++ replicate 15 (tree 0 (replicate 16 0))))))) (1 ∷ []) ∷
    -- third empty = yes
    same (truth (gives (Allocator16384.empty (third 0 (replicate 16 (tree 0 (replicate 16 0))))))) (1 ∷ []) ∷
    -- third next_free 0 = 0
    same (slot (Allocator16384.next_free (third 0 (((tree 1 (replicate 16 0)) ∷ []) ++ replicate 15 (tree 0 (replicate 16 0)))) 0)) (1 ∷ 0 ∷ []) ∷
    -- third get 0 = no
    same (truth (Allocator16384.get (third 0 (((tree 1 (replicate 16 0)) ∷ []) ++ replicate 15 (tree 0 (replicate 16 0)))) 0)) (2 ∷ []) ∷
    -- third get 0 = yes
    same (truth (Allocator16384.get (third 65535 (((tree 65534 (replicate 16 18446744073709551615)) ∷ []) ++ replicate 15 (tree 65535 (replicate 16 18446744073709551615)))) 0)) (1 ∷ []) ∷
    -- third next_free 16384 = not found
    same (slot (Allocator16384.next_free (third 0 (((tree 1 (replicate 16 0)) ∷ []) ++ replicate 15 (tree 0 (replicate 16 0)))) 16384)) (2 ∷ []) ∷
    -- third get 16384 = none: index out of bounds
    same (truth (Allocator16384.get (third 0 (((tree 1 (replicate 16 0)) ∷ []) ++ replicate 15 (tree 0 (replicate 16 0)))) 16384)) (0 ∷ []) ∷
    -- third empty = no
    same (truth (gives (Allocator16384.empty (third 1 (replicate 16 (tree 0 (replicate 16 0))))))) (2 ∷ []) ∷
    -- third used = 0
    same (number (Allocator16384.used (third 0 (((tree 1 (replicate 16 0)) ∷ []) ++ replicate 15 (tree 0 (replicate 16 0)))))) (1 ∷ 0 ∷ []) ∷
    []) ≡ true
unfolding set64 next_free64 get64 set_turn set_tree_lem next_free_turn next_free_tree get_tree sum_used free size_turn alloc_onward alloc_turn alloc_aligned alloc count_trailing_zeros count_leading_zeros count digit
answers_1 = refl

pub answers_2 : all (
    -- third take 0 0 = none: attempt to subtract with overflow
    same (third_take (alloc Allocator16384 17000 (third 0 (replicate 16 (tree 0 (replicate 16 0)))) 0 0)) (0 ∷ []) ∷
    -- third set 1023 0 on = done; same
    same (third_change (Allocator16384.set_to (third 0 (replicate 16 (tree 0 (replicate 16 0)))) 1023 0 true)) (1 ∷ third_shown (third 0 (replicate 16 (tree 0 (replicate 16 0))))) ∷
    -- third take 1025 13 = 8192; 128-143:ffffffffffffffff 144:1 /8:ffff /9:1 /8301
    same (third_take (alloc Allocator16384 17000 (third 32769 (((tree 1 ((9223372036854775808 ∷ []) ++ replicate 15 0)) ∷ []) ++ replicate 14 (tree 0 (replicate 16 0)) ++ ((tree 32768 (replicate 15 0 ++ (1 ∷ []))) ∷ []))) 1025 13)) (1 ∷ 8192 ∷ third_shown (third 33537 (((tree 1 ((9223372036854775808 ∷ []) ++ replicate 15 0)) ∷ []) ++ replicate 7 (tree 0 (replicate 16 0)) ++ ((tree 65535 (replicate 16 18446744073709551615)) ∷ []) ++ ((tree 1 ((1 ∷ []) ++ replicate 15 0)) ∷ []) ++ replicate 5 (tree 0 (replicate 16 0)) ++ ((tree 32768 (replicate 15 0 ++ (1 ∷ []))) ∷ [])))) ∷
    -- third take 1 13 = not found; same
    same (third_take (alloc Allocator16384 17000 (third 65535 (replicate 16 (tree 65535 (replicate 16 18446744073709551615)))) 1 13)) (2 ∷ third_shown (third 65535 (replicate 16 (tree 65535 (replicate 16 18446744073709551615))))) ∷
    -- third get 16384 = none: index out of bounds
    same (truth (Allocator16384.get (third 0 (replicate 16 (tree 0 (replicate 16 0)))) 16384)) (0 ∷ []) ∷
    -- third free 1023 0 = done; same
    same (third_change (free Allocator16384 (third 0 (replicate 16 (tree 0 (replicate 16 0)))) 1023 0)) (1 ∷ third_shown (third 0 (replicate 16 (tree 0 (replicate 16 0))))) ∷
    -- third get 0 = yes
    same (truth (Allocator16384.get (third 65535 (replicate 16 (tree 65535 (replicate 16 18446744073709551615)))) 0)) (1 ∷ []) ∷
    -- third next_free 0 = not found
    same (slot (Allocator16384.next_free (third 65535 (replicate 16 (tree 65535 (replicate 16 18446744073709551615)))) 0)) (2 ∷ []) ∷
    -- third take 1 0 = 0; 0:1 /0:1 /1
    same (third_take (alloc Allocator16384 17000 (third 0 (replicate 16 (tree 0 (replicate 16 0)))) 1 0)) (1 ∷ 0 ∷ third_shown (third 1 (((tree 1 ((1 ∷ []) ++ replicate 15 0)) ∷ []) ++ replicate 15 (tree 0 (replicate 16 0))))) ∷
    -- third next_free 16384 = not found
    same (slot (Allocator16384.next_free (third 0 (replicate 16 (tree 0 (replicate 16 0)))) 16384)) (2 ∷ []) ∷
    -- third get 0 = no
    same (truth (Allocator16384.get (third 0 (replicate 16 (tree 0 (replicate 16 0)))) 0)) (2 ∷ []) ∷
    -- third next_free 0 = 0
    same (slot (Allocator16384.next_free (third 0 (replicate 16 (tree 0 (replicate 16 0)))) 0)) (1 ∷ 0 ∷ []) ∷
    -- third set 0 16385 on = done; 0-255:ffffffffffffffff /0:ffff /1:ffff /2:ffff /3:ffff /4:ffff /5:ffff /6:ffff /7:ffff /8:ffff /9:ffff /10:ffff /11:ffff /12:ffff /13:ffff /14:ffff /15:ffff /ffff
    same (third_change (Allocator16384.set_to (third 0 (replicate 16 (tree 0 (replicate 16 0)))) 0 16385 true)) (1 ∷ third_shown (third 65535 (replicate 16 (tree 65535 (replicate 16 18446744073709551615))))) ∷
    -- third free 1023 1025 = done; 15:7fffffffffffffff 16-31:0 /1:0 /fffd
    same (third_change (free Allocator16384 (third 65535 (replicate 16 (tree 65535 (replicate 16 18446744073709551615)))) 1023 1025)) (1 ∷ third_shown (third 65533 (((tree 65535 (replicate 15 18446744073709551615 ++ (9223372036854775807 ∷ []))) ∷ []) ++ ((tree 0 (replicate 16 0)) ∷ []) ++ replicate 14 (tree 65535 (replicate 16 18446744073709551615))))) ∷
    -- third empty = no
    same (truth (gives (Allocator16384.empty (third 65535 (replicate 16 (tree 65535 (replicate 16 18446744073709551615))))))) (2 ∷ []) ∷
    -- third take 1 13 = 0; 0:1 /0:1 /1
    same (third_take (alloc Allocator16384 17000 (third 0 (replicate 16 (tree 0 (replicate 16 0)))) 1 13)) (1 ∷ 0 ∷ third_shown (third 1 (((tree 1 ((1 ∷ []) ++ replicate 15 0)) ∷ []) ++ replicate 15 (tree 0 (replicate 16 0))))) ∷
    -- third free 1023 1025 = done; same
    same (third_change (free Allocator16384 (third 0 (replicate 16 (tree 0 (replicate 16 0)))) 1023 1025)) (1 ∷ third_shown (third 0 (replicate 16 (tree 0 (replicate 16 0))))) ∷
    -- third set 1023 1025 on = done; 15:8000000000000000 16-31:ffffffffffffffff /0:8000 /1:ffff /3
    same (third_change (Allocator16384.set_to (third 0 (replicate 16 (tree 0 (replicate 16 0)))) 1023 1025 true)) (1 ∷ third_shown (third 3 (((tree 32768 (replicate 15 0 ++ (9223372036854775808 ∷ []))) ∷ []) ++ ((tree 65535 (replicate 16 18446744073709551615)) ∷ []) ++ replicate 14 (tree 0 (replicate 16 0))))) ∷
    -- third free 0 16385 = done; same
    same (third_change (free Allocator16384 (third 0 (replicate 16 (tree 0 (replicate 16 0)))) 0 16385)) (1 ∷ third_shown (third 0 (replicate 16 (tree 0 (replicate 16 0))))) ∷
    -- third next_free 1023 = 8192
    same (slot (Allocator16384.next_free (third 255 (replicate 8 (tree 65535 (replicate 16 18446744073709551615)) ++ replicate 8 (tree 0 (replicate 16 0)))) 1023)) (1 ∷ 8192 ∷ []) ∷
    []) ≡ true
unfolding set64 next_free64 get64 set_turn set_tree_lem next_free_turn next_free_tree get_tree sum_used free size_turn alloc_onward alloc_turn alloc_aligned alloc count_trailing_zeros count_leading_zeros count digit
answers_2 = refl

pub answers_3 : all (
    -- third free 0 1 = done; 0:fffffffffffffffe
    same (third_change (free Allocator16384 (third 65535 (replicate 16 (tree 65535 (replicate 16 18446744073709551615)))) 0 1)) (1 ∷ third_shown (third 65535 (((tree 65535 ((18446744073709551614 ∷ []) ++ replicate 15 18446744073709551615)) ∷ []) ++ replicate 15 (tree 65535 (replicate 16 18446744073709551615))))) ∷
    -- third set 0 1 on = done; 0:1 /0:1 /1
    same (third_change (Allocator16384.set_to (third 0 (replicate 16 (tree 0 (replicate 16 0)))) 0 1 true)) (1 ∷ third_shown (third 1 (((tree 1 ((1 ∷ []) ++ replicate 15 0)) ∷ []) ++ replicate 15 (tree 0 (replicate 16 0))))) ∷
    -- third free 0 1 = done; same
    same (third_change (free Allocator16384 (third 0 (replicate 16 (tree 0 (replicate 16 0)))) 0 1)) (1 ∷ third_shown (third 0 (replicate 16 (tree 0 (replicate 16 0))))) ∷
    -- third used = 0
    same (number (Allocator16384.used (third 0 (replicate 16 (tree 0 (replicate 16 0)))))) (1 ∷ 0 ∷ []) ∷
    []) ≡ true
unfolding set64 next_free64 get64 set_turn set_tree_lem next_free_turn next_free_tree get_tree sum_used free size_turn alloc_onward alloc_turn alloc_aligned alloc count_trailing_zeros count_leading_zeros count digit
answers_3 = refl
