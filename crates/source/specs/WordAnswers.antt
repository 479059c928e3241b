-- Made by tools/stored of tests/original.list: what the compiled original gave, call by call, of the word.
use Rattle.std.specs.Prelude.{◌≡◌, refl, true, [], ◌∷◌}
use Rattle.std.specs.Int.Count.{count_trailing_zeros, count_leading_zeros}
use Rattle.bits.specs.Range.{count}
use Rattle.bits.specs.Digits.{digit}
use Rattle.source.specs.Machine.{gives}
use Rattle.source.specs.BitmapAllocator.{Allocator64, set64, next_free64, get64, free, size_turn, alloc_onward, alloc_turn, alloc_aligned, alloc}
use Rattle.source.specs.Shown.{word, word_take, word_change, slot, truth, number, same, all}

pub answers_1 : all (
    -- word free 0 0 = none: attempt to subtract with overflow
    same (word_change (free Allocator64 (word 18446744073709551615) 0 0)) (0 ∷ []) ∷
    -- word take 0 6 = not found; same
    same (word_take (alloc Allocator64 1100 (word 0) 0 6)) (2 ∷ 0 ∷ []) ∷
    -- word free 0 2 = done; 0:0
    same (word_change (free Allocator64 (word 1) 0 2)) (1 ∷ 0 ∷ []) ∷
    -- word set 0 0 on = none: attempt to subtract with overflow
    same (word_change (Allocator64.set_to (word 0) 0 0 true)) (0 ∷ []) ∷
    -- word set 0 1 on = done; 0:1
    same (word_change (Allocator64.set_to (word 0) 0 1 true)) (1 ∷ 1 ∷ []) ∷
    -- word set 0 65 on = none: attempt to shift left with overflow
    same (word_change (Allocator64.set_to (word 0) 0 65 true)) (0 ∷ []) ∷
    -- word free 0 65 = none: attempt to shift left with overflow
    same (word_change (free Allocator64 (word 0) 0 65)) (0 ∷ []) ∷
    -- word set 1 0 on = done; same
    same (word_change (Allocator64.set_to (word 0) 1 0 true)) (1 ∷ 0 ∷ []) ∷
    -- word free 1 0 = done; same
    same (word_change (free Allocator64 (word 0) 1 0)) (1 ∷ 0 ∷ []) ∷
    -- word set 1 64 on = none: attempt to shift left with overflow
    same (word_change (Allocator64.set_to (word 0) 1 64 true)) (0 ∷ []) ∷
    -- word free 1 64 = none: attempt to shift left with overflow
    same (word_change (free Allocator64 (word 0) 1 64)) (0 ∷ []) ∷
    -- word set 64 0 on = none: attempt to shift left with overflow
    same (word_change (Allocator64.set_to (word 0) 64 0 true)) (0 ∷ []) ∷
    -- word free 64 0 = none: attempt to shift left with overflow
    same (word_change (free Allocator64 (word 0) 64 0)) (0 ∷ []) ∷
    -- word free 0 1 = done; 0:fffffffffffffffe
    same (word_change (free Allocator64 (word 18446744073709551615) 0 1)) (1 ∷ 18446744073709551614 ∷ []) ∷
    -- word set 63 18446744073709551615 on = none: attempt to add with overflow
    same (word_change (Allocator64.set_to (word 18446744073709551615) 63 18446744073709551615 true)) (0 ∷ []) ∷
    -- word free 63 18446744073709551615 = none: attempt to add with overflow
    same (word_change (free Allocator64 (word 18446744073709551615) 63 18446744073709551615)) (0 ∷ []) ∷
    -- word take 0 0 = none: attempt to subtract with overflow
    same (word_take (alloc Allocator64 1100 (word 0) 0 0)) (0 ∷ []) ∷
    -- word take 1 0 = 0; 0:1
    same (word_take (alloc Allocator64 1100 (word 0) 1 0)) (1 ∷ 0 ∷ 1 ∷ []) ∷
    -- word take 1 1 = 0; 0:1
    same (word_take (alloc Allocator64 1100 (word 0) 1 1)) (1 ∷ 0 ∷ 1 ∷ []) ∷
    -- word take 1 6 = not found; same
    same (word_take (alloc Allocator64 1100 (word 0) 1 6)) (2 ∷ 0 ∷ []) ∷
    []) ≡ true
unfolding set64 next_free64 get64 free size_turn alloc_onward alloc_turn alloc_aligned alloc count_trailing_zeros count_leading_zeros count digit
answers_1 = refl

pub answers_2 : all (
    -- word take 0 0 = none: attempt to shift left with overflow
    same (word_take (alloc Allocator64 1100 (word 18446744073709551615) 0 0)) (0 ∷ []) ∷
    -- word take 0 0 = 1; same
    same (word_take (alloc Allocator64 1100 (word 1) 0 0)) (1 ∷ 1 ∷ 1 ∷ []) ∷
    -- word take 0 1 = 2; same
    same (word_take (alloc Allocator64 1100 (word 1) 0 1)) (1 ∷ 2 ∷ 1 ∷ []) ∷
    -- word next_free 0 = 0
    same (slot (Allocator64.next_free (word 0) 0)) (1 ∷ 0 ∷ []) ∷
    -- word get 0 = no
    same (truth (Allocator64.get (word 0) 0)) (2 ∷ []) ∷
    -- word next_free 64 = none: attempt to shift left with overflow
    same (slot (Allocator64.next_free (word 0) 64)) (0 ∷ []) ∷
    -- word get 64 = none: attempt to shift left with overflow
    same (truth (Allocator64.get (word 0) 64)) (0 ∷ []) ∷
    -- word empty = yes
    same (truth (gives (Allocator64.empty (word 0)))) (1 ∷ []) ∷
    -- word used = 0
    same (number (Allocator64.used (word 0))) (1 ∷ 0 ∷ []) ∷
    -- word next_free 0 = not found
    same (slot (Allocator64.next_free (word 18446744073709551615) 0)) (2 ∷ []) ∷
    -- word get 0 = yes
    same (truth (Allocator64.get (word 18446744073709551615) 0)) (1 ∷ []) ∷
    -- word empty = no
    same (truth (gives (Allocator64.empty (word 18446744073709551615)))) (2 ∷ []) ∷
    -- word take 3 0 = 8; 0:fffff9ffffcc37fe
    same (word_take (alloc Allocator64 1100 (word 18446737476636389630) 3 0)) (1 ∷ 8 ∷ 18446737476636391422 ∷ []) ∷
    -- word take 9 3 = 24; 0:80000c1ff400804
    same (word_take (alloc Allocator64 1100 (word 576461576941340676) 9 3)) (1 ∷ 24 ∷ 576461585514498052 ∷ []) ∷
    []) ≡ true
unfolding set64 next_free64 get64 free size_turn alloc_onward alloc_turn alloc_aligned alloc count_trailing_zeros count_leading_zeros count digit
answers_2 = refl
