-- The digits left, written over the slice as it is, give what the contract says.
use mathlib.Core.Path.{◌≡◌}
use Prim.Native.Nat.{◌-◌}
use Rattle.lists.specs.Lists.{over}
use Rattle.text.specs.Digits.{digits}
use Rattle.text.proofs.digits.put_digits.Given as goal

abbrev pub invariant-loop-i : goal.invariant-loop-i
invariant-loop-i l =
    over l.at (digits l.base (l.i - l.at) l.rest) l.out ≡ over l.at (digits l.base l.width l.n) l.initial.out
