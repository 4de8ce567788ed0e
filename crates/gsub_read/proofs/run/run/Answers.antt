-- `run` meets its contract: what is left, done to the stores as they are, is the whole; with each op less is left.
use native.Mathlib.Omega.{arith}
use Rattle.std.proofs.lemmas.Result.{err_from_is_err_and}
use Rattle.gsub_read.proofs.Made.{move-ok}
use Rattle.gsub_read.proofs.Loops.{none-walked, walked_on, walked-less, walk_refused, all-walked}
use Rattle.gsub_read.proofs.run.run.Goals as goal

pub loop-walk-init : goal.loop-walk-init
loop-walk-init c = none-walked c.requires.0 c.requires.1

pub perform-requires : goal.perform-requires
perform-requires c = (c.loop-walk.invariant.stays, move-ok _ _ _ _ c.step-m.ensures)

pub returns-in_err-last : goal.returns-in_err-last
returns-in_err-last c =
    let p = err_from_is_err_and c.from_residual.result c.from_residual.ensures.1 in
    rw (p.1, p.2) (walk_refused c.loop-walk.invariant _ _ c.step-m.ensures _ c.in_err-last.ensures)

pub loop-walk-smaller : goal.loop-walk-smaller
loop-walk-smaller c = walked-less c.loop-walk.invariant _ _ c.step-m.ensures _ c.in_ok-last.ensures c.loop-walk-test.true

pub loop-walk-preserved : goal.loop-walk-preserved
loop-walk-preserved c =
    walked_on c.loop-walk.invariant _ _ c.step-m.ensures _ c.in_ok-last.ensures c.loop-walk-test.true c.perform.auto.store c.perform.auto.records

pub returns : goal.returns
returns c = all-walked c.loop-walk.invariant (omega (arith, c.loop-walk-test.false))
