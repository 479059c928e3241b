-- Made by tools/stored of tests/original.list: what the compiled original gave, call by call, of the word.
use Rattle.std.specs.Prelude.{◌≡◌, refl, true, false, [], ◌∷◌}
use Rattle.std.specs.Int.Count.{count_trailing_zeros, count_leading_zeros}
use Rattle.bits.specs.Range.{count}
use Rattle.bits.specs.Digits.{digit}
use Rattle.source.specs.Machine.{gives}
use Rattle.source.specs.BitmapAllocator.{Allocator64, set64, next_free64, get64, free, size_turn, alloc_onward, alloc_turn, alloc_aligned, alloc}
use Rattle.source.specs.Shown.{word, word_take, word_change, slot, truth, number, same, all}

pub answers_1 : all (
    -- word set 0 0 off = none: attempt to subtract with overflow
    same (word_change (Allocator64.set_to (word 0) 0 0 false)) (0 ∷ []) ∷
    -- word free 0 0 = none: attempt to subtract with overflow
    same (word_change (free Allocator64 (word 0) 0 0)) (0 ∷ []) ∷
    -- word claim 0 0 = none: attempt to subtract with overflow
    same (word_change (Allocator64.set_to (word 0) 0 0 true)) (0 ∷ []) ∷
    -- word free 1 1 = done; same
    same (word_change (free Allocator64 (word 0) 1 1)) (1 ∷ 0 ∷ []) ∷
    -- word claim 1 31 = done; 0:fffffffe
    same (word_change (Allocator64.set_to (word 0) 1 31 true)) (1 ∷ 4294967294 ∷ []) ∷
    -- word claim 31 0 = done; same
    same (word_change (Allocator64.set_to (word 0) 31 0 true)) (1 ∷ 0 ∷ []) ∷
    -- word free 31 31 = done; same
    same (word_change (free Allocator64 (word 0) 31 31)) (1 ∷ 0 ∷ []) ∷
    -- word free 32 0 = done; same
    same (word_change (free Allocator64 (word 0) 32 0)) (1 ∷ 0 ∷ []) ∷
    -- word set 32 2 off = done; same
    same (word_change (Allocator64.set_to (word 0) 32 2 false)) (1 ∷ 0 ∷ []) ∷
    -- word set 32 65 off = none: attempt to shift left with overflow
    same (word_change (Allocator64.set_to (word 0) 32 65 false)) (0 ∷ []) ∷
    -- word free 32 65 = none: attempt to shift left with overflow
    same (word_change (free Allocator64 (word 0) 32 65)) (0 ∷ []) ∷
    -- word set 62 0 off = done; same
    same (word_change (Allocator64.set_to (word 0) 62 0 false)) (1 ∷ 0 ∷ []) ∷
    -- word free 62 2 = done; same
    same (word_change (free Allocator64 (word 0) 62 2)) (1 ∷ 0 ∷ []) ∷
    -- word free 63 0 = done; same
    same (word_change (free Allocator64 (word 0) 63 0)) (1 ∷ 0 ∷ []) ∷
    -- word free 63 31 = none: attempt to shift left with overflow
    same (word_change (free Allocator64 (word 0) 63 31)) (0 ∷ []) ∷
    -- word set 63 32 on = none: attempt to shift left with overflow
    same (word_change (Allocator64.set_to (word 0) 63 32 true)) (0 ∷ []) ∷
    -- word set 64 0 off = none: attempt to shift left with overflow
    same (word_change (Allocator64.set_to (word 0) 64 0 false)) (0 ∷ []) ∷
    -- word claim 64 0 = none: attempt to shift left with overflow
    same (word_change (Allocator64.set_to (word 0) 64 0 true)) (0 ∷ []) ∷
    -- word set 64 33 on = none: attempt to shift left with overflow
    same (word_change (Allocator64.set_to (word 0) 64 33 true)) (0 ∷ []) ∷
    -- word free 64 33 = none: attempt to shift left with overflow
    same (word_change (free Allocator64 (word 0) 64 33)) (0 ∷ []) ∷
    []) ≡ true
unfolding set64 next_free64 get64 free size_turn alloc_onward alloc_turn alloc_aligned alloc count_trailing_zeros count_leading_zeros count digit
answers_1 = refl

pub answers_2 : all (
    -- word set 0 0 on = none: attempt to subtract with overflow
    same (word_change (Allocator64.set_to (word 18446744073709551615) 0 0 true)) (0 ∷ []) ∷
    -- word set 0 0 off = none: attempt to subtract with overflow
    same (word_change (Allocator64.set_to (word 18446744073709551615) 0 0 false)) (0 ∷ []) ∷
    -- word free 0 0 = none: attempt to subtract with overflow
    same (word_change (free Allocator64 (word 18446744073709551615) 0 0)) (0 ∷ []) ∷
    -- word free 0 63 = done; 0:8000000000000000
    same (word_change (free Allocator64 (word 18446744073709551615) 0 63)) (1 ∷ 9223372036854775808 ∷ []) ∷
    -- word set 0 64 on = done; same
    same (word_change (Allocator64.set_to (word 18446744073709551615) 0 64 true)) (1 ∷ 18446744073709551615 ∷ []) ∷
    -- word set 1 0 on = done; same
    same (word_change (Allocator64.set_to (word 18446744073709551615) 1 0 true)) (1 ∷ 18446744073709551615 ∷ []) ∷
    -- word free 1 32 = done; 0:fffffffe00000001
    same (word_change (free Allocator64 (word 18446744073709551615) 1 32)) (1 ∷ 18446744065119617025 ∷ []) ∷
    -- word free 31 0 = done; same
    same (word_change (free Allocator64 (word 18446744073709551615) 31 0)) (1 ∷ 18446744073709551615 ∷ []) ∷
    -- word claim 31 0 = done; same
    same (word_change (Allocator64.set_to (word 18446744073709551615) 31 0 true)) (1 ∷ 18446744073709551615 ∷ []) ∷
    -- word free 31 31 = done; 0:c00000007fffffff
    same (word_change (free Allocator64 (word 18446744073709551615) 31 31)) (1 ∷ 13835058057429647359 ∷ []) ∷
    -- word free 31 63 = none: attempt to shift left with overflow
    same (word_change (free Allocator64 (word 18446744073709551615) 31 63)) (0 ∷ []) ∷
    -- word set 31 64 off = none: attempt to shift left with overflow
    same (word_change (Allocator64.set_to (word 18446744073709551615) 31 64 false)) (0 ∷ []) ∷
    -- word set 32 31 off = done; 0:80000000ffffffff
    same (word_change (Allocator64.set_to (word 18446744073709551615) 32 31 false)) (1 ∷ 9223372041149743103 ∷ []) ∷
    -- word free 32 31 = done; 0:80000000ffffffff
    same (word_change (free Allocator64 (word 18446744073709551615) 32 31)) (1 ∷ 9223372041149743103 ∷ []) ∷
    -- word free 62 0 = done; same
    same (word_change (free Allocator64 (word 18446744073709551615) 62 0)) (1 ∷ 18446744073709551615 ∷ []) ∷
    -- word free 62 32 = none: attempt to shift left with overflow
    same (word_change (free Allocator64 (word 18446744073709551615) 62 32)) (0 ∷ []) ∷
    -- word set 62 63 on = none: attempt to shift left with overflow
    same (word_change (Allocator64.set_to (word 18446744073709551615) 62 63 true)) (0 ∷ []) ∷
    -- word set 64 0 on = none: attempt to shift left with overflow
    same (word_change (Allocator64.set_to (word 18446744073709551615) 64 0 true)) (0 ∷ []) ∷
    -- word set 64 0 off = none: attempt to shift left with overflow
    same (word_change (Allocator64.set_to (word 18446744073709551615) 64 0 false)) (0 ∷ []) ∷
    -- word free 64 0 = none: attempt to shift left with overflow
    same (word_change (free Allocator64 (word 18446744073709551615) 64 0)) (0 ∷ []) ∷
    []) ≡ true
unfolding set64 next_free64 get64 free size_turn alloc_onward alloc_turn alloc_aligned alloc count_trailing_zeros count_leading_zeros count digit
answers_2 = refl

pub answers_3 : all (
    -- word set 64 1 on = none: attempt to shift left with overflow
    same (word_change (Allocator64.set_to (word 18446744073709551615) 64 1 true)) (0 ∷ []) ∷
    -- word free 64 1 = none: attempt to shift left with overflow
    same (word_change (free Allocator64 (word 18446744073709551615) 64 1)) (0 ∷ []) ∷
    -- word set 64 63 on = none: attempt to shift left with overflow
    same (word_change (Allocator64.set_to (word 18446744073709551615) 64 63 true)) (0 ∷ []) ∷
    -- word free 64 63 = none: attempt to shift left with overflow
    same (word_change (free Allocator64 (word 18446744073709551615) 64 63)) (0 ∷ []) ∷
    -- word free 0 0 = none: attempt to subtract with overflow
    same (word_change (free Allocator64 (word 1) 0 0)) (0 ∷ []) ∷
    -- word free 1 1 = done; same
    same (word_change (free Allocator64 (word 1) 1 1)) (1 ∷ 1 ∷ []) ∷
    -- word free 64 0 = none: attempt to shift left with overflow
    same (word_change (free Allocator64 (word 1) 64 0)) (0 ∷ []) ∷
    -- word set 64 2 on = none: attempt to shift left with overflow
    same (word_change (Allocator64.set_to (word 1) 64 2 true)) (0 ∷ []) ∷
    -- word free 64 2 = none: attempt to shift left with overflow
    same (word_change (free Allocator64 (word 1) 64 2)) (0 ∷ []) ∷
    -- word free 0 0 = none: attempt to subtract with overflow
    same (word_change (free Allocator64 (word 9223372036854775808) 0 0)) (0 ∷ []) ∷
    -- word free 64 0 = none: attempt to shift left with overflow
    same (word_change (free Allocator64 (word 9223372036854775808) 64 0)) (0 ∷ []) ∷
    -- word free 64 0 = none: attempt to shift left with overflow
    same (word_change (free Allocator64 (word 4294967295) 64 0)) (0 ∷ []) ∷
    -- word set 63 18446744073709551615 off = none: attempt to add with overflow
    same (word_change (Allocator64.set_to (word 18446744073709551615) 63 18446744073709551615 false)) (0 ∷ []) ∷
    -- word set 63 18446744073709551615 on = none: attempt to add with overflow
    same (word_change (Allocator64.set_to (word 1) 63 18446744073709551615 true)) (0 ∷ []) ∷
    -- word set 63 18446744073709551615 off = none: attempt to add with overflow
    same (word_change (Allocator64.set_to (word 1) 63 18446744073709551615 false)) (0 ∷ []) ∷
    -- word free 63 18446744073709551615 = none: attempt to add with overflow
    same (word_change (free Allocator64 (word 1) 63 18446744073709551615)) (0 ∷ []) ∷
    -- word take 0 1 = none: attempt to subtract with overflow
    same (word_take (alloc Allocator64 1100 (word 0) 0 1)) (0 ∷ []) ∷
    -- word take 0 4 = none: attempt to subtract with overflow
    same (word_take (alloc Allocator64 1100 (word 0) 0 4)) (0 ∷ []) ∷
    -- word take 0 5 = none: attempt to subtract with overflow
    same (word_take (alloc Allocator64 1100 (word 0) 0 5)) (0 ∷ []) ∷
    -- word take 0 6 = not found; same
    same (word_take (alloc Allocator64 1100 (word 0) 0 6)) (2 ∷ 0 ∷ []) ∷
    []) ≡ true
unfolding set64 next_free64 get64 free size_turn alloc_onward alloc_turn alloc_aligned alloc count_trailing_zeros count_leading_zeros count digit
answers_3 = refl

pub answers_4 : all (
    -- word take 31 1 = 0; 0:7fffffff
    same (word_take (alloc Allocator64 1100 (word 0) 31 1)) (1 ∷ 0 ∷ 2147483647 ∷ []) ∷
    -- word take 32 0 = 0; 0:ffffffff
    same (word_take (alloc Allocator64 1100 (word 0) 32 0)) (1 ∷ 0 ∷ 4294967295 ∷ []) ∷
    -- word take 33 1 = 0; 0:1ffffffff
    same (word_take (alloc Allocator64 1100 (word 0) 33 1)) (1 ∷ 0 ∷ 8589934591 ∷ []) ∷
    -- word take 64 0 = 0; 0:ffffffffffffffff
    same (word_take (alloc Allocator64 1100 (word 0) 64 0)) (1 ∷ 0 ∷ 18446744073709551615 ∷ []) ∷
    -- word take 64 1 = 0; 0:ffffffffffffffff
    same (word_take (alloc Allocator64 1100 (word 0) 64 1)) (1 ∷ 0 ∷ 18446744073709551615 ∷ []) ∷
    -- word take 0 1 = none: attempt to shift left with overflow
    same (word_take (alloc Allocator64 1100 (word 18446744073709551615) 0 1)) (0 ∷ []) ∷
    -- word take 0 4 = none: attempt to shift left with overflow
    same (word_take (alloc Allocator64 1100 (word 18446744073709551615) 0 4)) (0 ∷ []) ∷
    -- word take 0 5 = none: attempt to shift left with overflow
    same (word_take (alloc Allocator64 1100 (word 18446744073709551615) 0 5)) (0 ∷ []) ∷
    -- word take 0 6 = not found; same
    same (word_take (alloc Allocator64 1100 (word 18446744073709551615) 0 6)) (2 ∷ 18446744073709551615 ∷ []) ∷
    -- word take 2 1 = not found; same
    same (word_take (alloc Allocator64 1100 (word 18446744073709551615) 2 1)) (2 ∷ 18446744073709551615 ∷ []) ∷
    -- word take 33 6 = not found; same
    same (word_take (alloc Allocator64 1100 (word 18446744073709551615) 33 6)) (2 ∷ 18446744073709551615 ∷ []) ∷
    -- word take 0 4 = 16; same
    same (word_take (alloc Allocator64 1100 (word 1) 0 4)) (1 ∷ 16 ∷ 1 ∷ []) ∷
    -- word take 0 5 = 32; same
    same (word_take (alloc Allocator64 1100 (word 1) 0 5)) (1 ∷ 32 ∷ 1 ∷ []) ∷
    -- word take 0 6 = not found; same
    same (word_take (alloc Allocator64 1100 (word 1) 0 6)) (2 ∷ 1 ∷ []) ∷
    -- word take 2 1 = 2; 0:d
    same (word_take (alloc Allocator64 1100 (word 1) 2 1)) (1 ∷ 2 ∷ 13 ∷ []) ∷
    -- word take 31 0 = 1; 0:ffffffff
    same (word_take (alloc Allocator64 1100 (word 1) 31 0)) (1 ∷ 1 ∷ 4294967295 ∷ []) ∷
    -- word take 31 6 = not found; same
    same (word_take (alloc Allocator64 1100 (word 1) 31 6)) (2 ∷ 1 ∷ []) ∷
    -- word take 63 0 = 1; 0:ffffffffffffffff
    same (word_take (alloc Allocator64 1100 (word 1) 63 0)) (1 ∷ 1 ∷ 18446744073709551615 ∷ []) ∷
    -- word take 0 0 = none: attempt to subtract with overflow
    same (word_take (alloc Allocator64 1100 (word 9223372036854775808) 0 0)) (0 ∷ []) ∷
    -- word take 0 6 = not found; same
    same (word_take (alloc Allocator64 1100 (word 9223372036854775808) 0 6)) (2 ∷ 9223372036854775808 ∷ []) ∷
    []) ≡ true
unfolding set64 next_free64 get64 free size_turn alloc_onward alloc_turn alloc_aligned alloc count_trailing_zeros count_leading_zeros count digit
answers_4 = refl

pub answers_5 : all (
    -- word take 1 6 = not found; same
    same (word_take (alloc Allocator64 1100 (word 9223372036854775808) 1 6)) (2 ∷ 9223372036854775808 ∷ []) ∷
    -- word take 0 0 = 32; same
    same (word_take (alloc Allocator64 1100 (word 4294967295) 0 0)) (1 ∷ 32 ∷ 4294967295 ∷ []) ∷
    -- word take 0 1 = 32; same
    same (word_take (alloc Allocator64 1100 (word 4294967295) 0 1)) (1 ∷ 32 ∷ 4294967295 ∷ []) ∷
    -- word take 0 4 = 32; same
    same (word_take (alloc Allocator64 1100 (word 4294967295) 0 4)) (1 ∷ 32 ∷ 4294967295 ∷ []) ∷
    -- word take 0 0 = 1; same
    same (word_take (alloc Allocator64 1100 (word 67571517940137985) 0 0)) (1 ∷ 1 ∷ 67571517940137985 ∷ []) ∷
    -- word get 31 = no
    same (truth (Allocator64.get (word 0) 31)) (2 ∷ []) ∷
    -- word next_free 32 = 32
    same (slot (Allocator64.next_free (word 0) 32)) (1 ∷ 32 ∷ []) ∷
    -- word get 63 = no
    same (truth (Allocator64.get (word 0) 63)) (2 ∷ []) ∷
    -- word next_free 18446744073709551615 = none: attempt to shift left with overflow
    same (slot (Allocator64.next_free (word 0) 18446744073709551615)) (0 ∷ []) ∷
    -- word get 18446744073709551615 = none: attempt to shift left with overflow
    same (truth (Allocator64.get (word 0) 18446744073709551615)) (0 ∷ []) ∷
    -- word next_free 1 = not found
    same (slot (Allocator64.next_free (word 18446744073709551615) 1)) (2 ∷ []) ∷
    -- word next_free 8 = not found
    same (slot (Allocator64.next_free (word 18446744073709551615) 8)) (2 ∷ []) ∷
    -- word get 8 = yes
    same (truth (Allocator64.get (word 18446744073709551615) 8)) (1 ∷ []) ∷
    -- word next_free 31 = not found
    same (slot (Allocator64.next_free (word 18446744073709551615) 31)) (2 ∷ []) ∷
    -- word next_free 32 = not found
    same (slot (Allocator64.next_free (word 18446744073709551615) 32)) (2 ∷ []) ∷
    -- word get 32 = yes
    same (truth (Allocator64.get (word 18446744073709551615) 32)) (1 ∷ []) ∷
    -- word get 63 = yes
    same (truth (Allocator64.get (word 18446744073709551615) 63)) (1 ∷ []) ∷
    -- word next_free 65 = none: attempt to shift left with overflow
    same (slot (Allocator64.next_free (word 18446744073709551615) 65)) (0 ∷ []) ∷
    -- word get 65 = none: attempt to shift left with overflow
    same (truth (Allocator64.get (word 18446744073709551615) 65)) (0 ∷ []) ∷
    -- word used = 64
    same (number (Allocator64.used (word 18446744073709551615))) (1 ∷ 64 ∷ []) ∷
    []) ≡ true
unfolding set64 next_free64 get64 free size_turn alloc_onward alloc_turn alloc_aligned alloc count_trailing_zeros count_leading_zeros count digit
answers_5 = refl

pub answers_6 : all (
    -- word next_free 1 = 1
    same (slot (Allocator64.next_free (word 1) 1)) (1 ∷ 1 ∷ []) ∷
    -- word get 31 = no
    same (truth (Allocator64.get (word 1) 31)) (2 ∷ []) ∷
    -- word next_free 62 = 62
    same (slot (Allocator64.next_free (word 1) 62)) (1 ∷ 62 ∷ []) ∷
    -- word get 63 = no
    same (truth (Allocator64.get (word 1) 63)) (2 ∷ []) ∷
    -- word next_free 64 = none: attempt to shift left with overflow
    same (slot (Allocator64.next_free (word 1) 64)) (0 ∷ []) ∷
    -- word get 64 = none: attempt to shift left with overflow
    same (truth (Allocator64.get (word 1) 64)) (0 ∷ []) ∷
    -- word next_free 18446744073709551615 = none: attempt to shift left with overflow
    same (slot (Allocator64.next_free (word 1) 18446744073709551615)) (0 ∷ []) ∷
    -- word get 18446744073709551615 = none: attempt to shift left with overflow
    same (truth (Allocator64.get (word 1) 18446744073709551615)) (0 ∷ []) ∷
    -- word empty = no
    same (truth (gives (Allocator64.empty (word 1)))) (2 ∷ []) ∷
    -- word used = 1
    same (number (Allocator64.used (word 1))) (1 ∷ 1 ∷ []) ∷
    -- word next_free 8 = 8
    same (slot (Allocator64.next_free (word 9223372036854775808) 8)) (1 ∷ 8 ∷ []) ∷
    -- word get 63 = yes
    same (truth (Allocator64.get (word 9223372036854775808) 63)) (1 ∷ []) ∷
    -- word empty = no
    same (truth (gives (Allocator64.empty (word 9223372036854775808)))) (2 ∷ []) ∷
    -- word used = 1
    same (number (Allocator64.used (word 9223372036854775808))) (1 ∷ 1 ∷ []) ∷
    -- word empty = no
    same (truth (gives (Allocator64.empty (word 4294967295)))) (2 ∷ []) ∷
    -- word used = 32
    same (number (Allocator64.used (word 4294967295))) (1 ∷ 32 ∷ []) ∷
    -- word empty = no
    same (truth (gives (Allocator64.empty (word 67571517940137985)))) (2 ∷ []) ∷
    -- word empty = yes
    same (truth (gives (Allocator64.empty (word 0)))) (1 ∷ []) ∷
    -- word empty = yes
    same (truth (gives (Allocator64.empty (word 0)))) (1 ∷ []) ∷
    -- word empty = yes
    same (truth (gives (Allocator64.empty (word 0)))) (1 ∷ []) ∷
    []) ≡ true
unfolding set64 next_free64 get64 free size_turn alloc_onward alloc_turn alloc_aligned alloc count_trailing_zeros count_leading_zeros count digit
answers_6 = refl

pub answers_7 : all (
    -- word empty = yes
    same (truth (gives (Allocator64.empty (word 0)))) (1 ∷ []) ∷
    -- word take 4 3 = 16; 0:f1e00c0ff4f0817
    same (word_take (alloc Allocator64 1100 (word 1089308988786346007) 4 3)) (1 ∷ 16 ∷ 1089308988787329047 ∷ []) ∷
    -- word take 6 0 = 5; 0:481e00c0ff4f0ff3
    same (word_take (alloc Allocator64 1100 (word 5196591848949221395) 6 0)) (1 ∷ 5 ∷ 5196591848949223411 ∷ []) ∷
    -- then word take 5 0 = 11; 0:81f07ff0f0ffff3
    same (word_take (alloc Allocator64 1100 (word 585195268632152051) 5 0)) (1 ∷ 11 ∷ 585195268632215539 ∷ []) ∷
    -- then word take 13 0 = 43; 0:80ffffff8bfffc01
    same (word_take (alloc Allocator64 1100 (word 9223380831001639937) 13 0)) (1 ∷ 43 ∷ 9295429628946545665 ∷ []) ∷
    -- word take 4 2 = 20; 0:300103c7f3f7eb3f
    same (word_take (alloc Allocator64 1100 (word 3459050146108009279) 4 2)) (1 ∷ 20 ∷ 3459050146123737919 ∷ []) ∷
    -- then word take 2 2 = 36; 0:73f9fbf7f3f61b7f
    same (word_take (alloc Allocator64 1100 (word 8356987419772722047) 2 2)) (1 ∷ 36 ∷ 8356987625931152255 ∷ []) ∷
    -- word take 0 0 = none: attempt to shift left with overflow
    same (word_take (alloc Allocator64 1100 (word 18446744073709551615) 0 0)) (0 ∷ []) ∷
    []) ≡ true
unfolding set64 next_free64 get64 free size_turn alloc_onward alloc_turn alloc_aligned alloc count_trailing_zeros count_leading_zeros count digit
answers_7 = refl
