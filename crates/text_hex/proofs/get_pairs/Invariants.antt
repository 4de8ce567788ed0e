-- The bytes left, written over the slice as it is, give what the contract says.
use mathlib.Core.Path.{◌≡◌}
use Prim.Native.Nat.{◌*◌}
use lib.ListN.{drop}
use Rattle.lists.specs.Lists.{over}
use Rattle.text_hex.specs.Hex.{bytes_of}
use Rattle.text_hex.proofs.get_pairs.Given as goal

abbrev pub invariant-loop-i : goal.invariant-loop-i
invariant-loop-i l =
    over l.i (bytes_of (drop (l.i * 2) l.s)) l.out ≡ over 0 (bytes_of l.s) l.initial.out
