-- The pairs left, written over the slice as it is, give what the contract says.
use Rattle.text_hex.specs.Hex.{hex_pairs}
use mathlib.Core.Path.{◌≡◌}
use Prim.Native.Nat.{◌+◌, ◌*◌}
use lib.ListN.{drop}
use Rattle.lists.specs.Lists.{over}
use Rattle.text_hex.proofs.put_pairs.Given as goal

abbrev pub invariant-loop-i : goal.invariant-loop-i
invariant-loop-i l =
    over (l.at + l.i * 2) (hex_pairs (drop l.i l.bytes)) l.out ≡ over l.at (hex_pairs l.bytes) l.initial.out
