-- A test of every number below i, from the last one down.
use mathlib.Core.Path.{◌≡◌, ap}
use mathlib.Core.Bool.{Bool, true, ◌&&◌}
use Prim.Native.Nat.{ℕ, suc, ◌-◌, ◌≤◌, ◌<◌}
use native.Mathlib.Omega.{arith}
use Rattle.layout.specs.Tables.{for_all}

module _ (test : ℕ → Bool) (i : ℕ) where
  pub for_all-next : 0 < i → for_all test i ≡ (test (i - 1) && for_all test (i - 1))
  unfolding for_all
  for_all-next h = let e : i ≡ suc (i - 1) = omega arith in ap (for_all test) e

  pub for_all-none : i ≤ 0 → for_all test i ≡ true
  unfolding for_all
  for_all-none h = let e : i ≡ 0 = omega arith in rw e
