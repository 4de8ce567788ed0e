-- A piece line's hex pairs are no longer than the line.
use Prim.Native.Nat.{ℕ, ◌≤◌}
use mathlib.Core.List.{List}
use native.Mathlib.Omega.{arith}
use lib.ListN.{length, length-take, length-drop}
use Rattle.job_items.specs.Item.{pairs}

pub pairs-most : (l : List ℕ) → length (pairs l) ≤ length l
pairs-most l = simp (length-take, length-drop) (omega arith)
