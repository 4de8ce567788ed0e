-- The digits left, read on from the value so far, give the value of all; i digits are below 10 ^ i.
use Rattle.text.proofs.DigitTurns.{read-turn, read-end, digit-below, digits-below}
use Rattle.text.proofs.DecimalTurns.{tens, ten-more}
use mathlib.Core.Path.{sym, ◌∙◌}
use Prim.Native.Nat.{◌<◌}
use native.Mathlib.Omega.{arith}
use lib.ListN.{get_or}
use Rattle.text.specs.Digits.{value_of}
use borrow.Author.Rules.{rules}
use Rattle.text.proofs.decimal.value.Goals as goal

pub overflow_mul-v : goal.overflow_mul-v
overflow_mul-v c = omega (arith, tens c.loop-c.c-index 8 (search rules))

pub overflow_add-v : goal.overflow_add-v
overflow_add-v c =
    let l = c.loop-c in
    let s = c.args.s.now in
    omega (arith, tens l.c-index 8 (search rules), c.value_of.ensures, digit-below 10 l.c-index s (search rules) l.invariant.1)

pub loop-c-preserved : goal.loop-c-preserved
loop-c-preserved c =
    let l = c.loop-c in
    let s = c.args.s.now in
    let d : value_of (get_or s l.c-index 0) < 10 = digit-below 10 l.c-index s (search rules) l.invariant.1 in
    rw c.value_of.ensures
    (omega (arith, ten-more l.c-index), digits-below 10 l.c-index s (search rules) l.invariant.1, read-turn 10 l.c-index s (search rules) l.v ∙ l.invariant.2)

pub returns : goal.returns
returns c = sym (read-end 10 c.loop-c.c-index c.loop-c.v _ (search rules)) ∙ c.loop-c.invariant.2
