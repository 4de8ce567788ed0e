-- The table has the values of the digits below d, and no others.
use mathlib.Core.Path.{◌≡◌}
use Prim.Native.Nat.{ℕ, ◌<◌}
use lib.Dec.{ltb}
use lib.ListN.{get_or}
use Rattle.lists.specs.Lists.{pick}
use Rattle.text.specs.Digits.{no_digit, value_of}
use Rattle.text_hex.proofs.values.Given as goal

abbrev pub invariant-loop-d : goal.invariant-loop-d
invariant-loop-d l = (c : ℕ) → c < 256 → get_or l.table c 0 ≡ pick (ltb (value_of c) l.d) (value_of c) no_digit
