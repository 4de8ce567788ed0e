-- The digits left, read on from the value so far, give the value of all; i digits are below 10 ^ i.
use mathlib.Core.Path.{◌≡◌}
use Prim.Native.Nat.{◌^◌, ◌<◌}
use mathlib.Core.Bool.{true}
use lib.ListN.{drop}
use Rattle.text.specs.Digits.{all_digits, read_on}
use Rattle.text.proofs.decimal.value.Given as goal

abbrev pub invariant-loop-c : goal.invariant-loop-c
invariant-loop-c l =
    (l.v < 10 ^ l.c-index) × (all_digits 10 (drop l.c-index l.s) ≡ true) × (read_on 10 l.v (drop l.c-index l.s) ≡ read_on 10 0 l.s)
