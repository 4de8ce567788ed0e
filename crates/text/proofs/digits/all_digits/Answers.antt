-- All are digits exactly if those that are left are.
use mathlib.Core.Path.{sym, ◌∙◌}
use borrow.Author.Tests.{lt-ltb, le-ltb}
use Rattle.text.proofs.DigitTurns.{all_first, all_none}
use borrow.Author.Rules.{rules}
use Rattle.text.proofs.digits.all_digits.Goals as goal

pub returns-then-base-value_of : goal.returns-then-base-value_of
returns-then-base-value_of c =
    let l = c.loop-c in
    let a = c.args in
    sym (sym l.invariant ∙ all_first a.base l.c-index a.s.now (search rules) ∙ rw (← c.value_of.ensures, le-ltb _ _ c.if-base-value_of.true))

pub loop-c-preserved : goal.loop-c-preserved
loop-c-preserved c =
    let l = c.loop-c in
    let a = c.args in
    sym (all_first a.base l.c-index a.s.now (search rules) ∙ rw (← c.value_of.ensures, lt-ltb _ _ c.if-base-value_of.false)) ∙ l.invariant

pub returns : goal.returns
returns c = sym (sym c.loop-c.invariant ∙ all_none _ c.loop-c.c-index _ (search rules))
