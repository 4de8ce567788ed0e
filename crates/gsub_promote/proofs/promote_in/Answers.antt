-- `promote_in` meets its contract: a trial more leaves what the look comes to as it was.
use Rattle.std.proofs.lemmas.Result.{err_from_is_err_and}
use mathlib.Core.Path.{ap, ◌∙◌}
use native.Mathlib.Omega.{arith}
use borrow.Author.Rules.{rules}
use Rattle.gsub.specs.Tables.{word_at}
use Rattle.gsub_promote.proofs.Looking.{none-looked, look-unread, look-packed, look-refused, look-less, look-on}
use Rattle.gsub_promote.proofs.promote_in.Goals as goal

pub loop-promoted-init : goal.loop-promoted-init
loop-promoted-init c =
    let a = c.args in
    none-looked _ a.table.now _ _ (c.word_at-most.ensures.0 ∙ ap (word_at a.table.now) c.word_at.ensures.0)

pub returns-in_err-promoted : goal.returns-in_err-promoted
returns-in_err-promoted c =
    let p = err_from_is_err_and c.from_residual.result c.from_residual.ensures.1 in
    rw (p.1, p.2) (look-unread _ _ _ _ c.loop-promoted.invariant _ _ c.in_err-promoted.ensures)

pub returns-in-Ok : goal.returns-in-Ok
returns-in-Ok c = look-packed _ _ _ _ c.loop-promoted.invariant _ _ (rw c.in-Ok.is at c.in_ok-promoted.ensures)

pub overflow_add-n : goal.overflow_add-n
overflow_add-n c = omega (arith, look-less _ _ _ _ c.loop-promoted.invariant _ _ (rw c.in-Err.is at c.in_ok-promoted.ensures) c.goes_on.ensures c.if-goes_on.true)

pub loop-promoted-smaller : goal.loop-promoted-smaller
loop-promoted-smaller c = omega (arith, look-less _ _ _ _ c.loop-promoted.invariant _ _ (rw c.in-Err.is at c.in_ok-promoted.ensures) c.goes_on.ensures c.if-goes_on.true)

pub loop-promoted-preserved : goal.loop-promoted-preserved
loop-promoted-preserved c =
    look-on _ _ _ _ c.loop-promoted.invariant _ _ (rw c.in-Err.is at c.in_ok-promoted.ensures) c.goes_on.ensures c.if-goes_on.true (search rules) (search rules) (search rules) (search rules)

pub returns-in-Err-2 : goal.returns-in-Err-2
returns-in-Err-2 c = look-refused _ _ _ _ c.loop-promoted.invariant _ _ (rw c.in-Err.is at c.in_ok-promoted.ensures) c.goes_on.ensures c.if-goes_on.false c.start.ensures
