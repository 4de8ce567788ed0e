-- What is left to read, from here on, gives what reading all gives; and so do the digits and the remainder.
use Rattle.text_hex.specs.Hex.{bytes_of}
use Rattle.text.specs.Digits.{all_digits}
use Rattle.cable_crc.specs.Crc.{divided}
use Rattle.lists.specs.Lists.{over}
use lib.ListN.{drop}
use Prim.Native.Nat.{◌*◌}
use mathlib.Core.Bool.{◌&&◌}
use mathlib.Core.Path.{◌≡◌}
use Rattle.cable_data.proofs.read_pairs.Given as goal

abbrev pub invariant-loop-i : goal.invariant-loop-i
invariant-loop-i l =
    ((l.all && all_digits 16 (drop (l.i * 2) l.s)) ≡ all_digits 16 l.s) × (over l.i (bytes_of (drop (l.i * 2) l.s)) l.body ≡ over 0 (bytes_of l.s) l.initial.body) × (divided l.rest (bytes_of (drop (l.i * 2) l.s)) ≡ divided l.remainder (bytes_of l.s))
