-- source: util.rs
-- The commit's helpers, transcribed as `BitmapAllocator` is: kernel/src/utils/util.rs of the same commit. T is a number of w digits. `zero_mem_region`
-- writes through a raw address and is left out.
use Rattle.std.specs.Prelude.{Bool, true, false, ◌&&◌, ℕ, ◌+◌, ◌-◌, ◌/◌, ◌^◌, leb, ltb, eqb}
use Rattle.source.specs.Machine.{Run, gives, stops, ◌>>=◌, ◌+?◌, ◌-?◌, ◌<<?◌, ◌&◌}

-- a sum of w digits, checked, and the complement in w digits
abbrev pub added : ℕ → ℕ → ℕ → Run ℕ
added w a b = elim (ltb (a + b) (2 ^ w)) [ true ↦ gives (a + b) | false ↦ stops ]

abbrev pub ! : ℕ → ℕ → ℕ
! w a = (2 ^ w - 1) - a

-- 22 to 25
unfoldable pub align_up : ℕ → ℕ → ℕ → Run ℕ
align_up w addr align = do
  -- 26
  mask ← align -? 1
  -- 27
  gives ((← added w addr mask) & ! w mask)

-- 36 to 39
unfoldable pub align_down : ℕ → ℕ → ℕ → Run ℕ
align_down w addr align = do
  -- 40
  gives (addr & ! w (← align -? 1))

-- 49 to 52
unfoldable pub is_aligned : ℕ → ℕ → Run Bool
is_aligned addr align = do
  -- 53
  gives (eqb (addr & (← align -? 1)) 0)

-- its value is not in the text: 4,096 by document 01
abbrev pub PAGE-SIZE : ℕ
PAGE-SIZE = 4096

-- 56 to 58
unfoldable pub page_align_up : ℕ → Run ℕ
page_align_up x = align_up 64 x PAGE-SIZE

-- 60 to 62
unfoldable pub round_to_pages : ℕ → Run ℕ
round_to_pages x = do
  gives ((← page_align_up x) / PAGE-SIZE)

-- 64 to 66
unfoldable pub page_offset_lem : ℕ → Run ℕ
page_offset_lem x = do
  gives (x & (← PAGE-SIZE -? 1))

-- 68 to 73
unfoldable pub overlap : ℕ → ℕ → ℕ → ℕ → Bool
overlap x1 x2 y1 y2 = leb x1 y2 && leb y1 x2

-- in 64 digits
-- 95 to 99
unfoldable pub BIT : ℕ → Run ℕ
BIT x = 1 <<? x

-- 103 to 107
unfoldable pub BIT-MASK : ℕ → ℕ → Run ℕ
BIT-MASK e s = do
  run ← (← 1 <<? (← (← e -? s) +? 1)) -? 1
  run <<? s
