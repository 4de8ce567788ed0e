-- The bytes that are left, written over the slice as it is, give what the contract says.
use mathlib.Core.Path.{◌≡◌}
use Prim.Native.Nat.{◌+◌, ◌≤◌}
use lib.ListN.{length, drop}
use Rattle.lists.specs.Lists.{over}
use Rattle.memory_copy.proofs.copy.Given as goal

abbrev pub invariant-loop-i : goal.invariant-loop-i
invariant-loop-i l = (l.i ≤ length l.src) × (length l.s ≡ length l.initial.s) × (over (l.at + l.i) (drop l.i l.src) l.s ≡ over l.at l.src l.initial.s)
