-- All are digits exactly if those that are left are.
use mathlib.Core.Path.{◌≡◌}
use lib.ListN.{drop}
use Rattle.text.specs.Digits.{all_digits}
use Rattle.text.proofs.digits.all_digits.Given as goal

abbrev pub invariant-loop-c : goal.invariant-loop-c
invariant-loop-c l = all_digits l.base (drop l.c-index l.s) ≡ all_digits l.base l.s
