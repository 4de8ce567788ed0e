-- The links of all copies have room in a word's range.
use Prim.Native.Nat.{ℕ, ◌+◌, ◌*◌, ◌^◌, ◌≤◌, ◌<◌}
use native.Mathlib.Omega.{arith}
use native.Mathlib.Nat.{mul-le-mul_right}
use Rattle.model.specs.Judge.{most_copies}

pub room_small : (links copies : ℕ) → links ≤ 2 ^ 32 → copies ≤ most_copies → links * (copies + 1) < 2 ^ 43
room_small links copies h k = omega (arith, mul-le-mul_right (copies + 1) h)
