-- What is written so far is the front of all, and the last step writes the end.
use mathlib.Core.Path.{◌≡◌}
use Prim.Native.Nat.{◌-◌, ◌≤◌}
use lib.ListN.{length, take}
use Rattle.lists.specs.Lists.{over}
use Rattle.memory_copy.proofs.copy_more.Given as goal

abbrev pub invariant-loop-i : goal.invariant-loop-i
invariant-loop-i g l = (l.i ≤ length l.src) × (length l.s ≡ length l.initial.s) × (l.s ≡ over l.at (take l.i l.src) l.initial.s)

abbrev pub decreases-loop-i : goal.decreases-loop-i
decreases-loop-i g l = l.last - l.i
