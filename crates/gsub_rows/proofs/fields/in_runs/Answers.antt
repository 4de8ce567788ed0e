-- The field that is looked for is the one that is left, in the runs that are left.
use native.Mathlib.Omega.{arith}
use Rattle.gsub_rows.proofs.Looks.{run-read, mul-fits, size_fits, look-here, looked-on, look-end}
use Rattle.gsub_rows.proofs.fields.in_runs.Goals as goal

pub overflow_mul-fields : goal.overflow_mul-fields
overflow_mul-fields c =
    let read = run-read _ c.requires.1 c.loop-run-test.true c.often-n.ensures in
    omega (arith, mul-fits read)

pub returns-then-left-fields : goal.returns-then-left-fields
returns-then-left-fields c =
    let read = run-read _ c.requires.1 c.loop-run-test.true c.often-n.ensures in
    look-here read _ c.loop-run.invariant c.if-left-fields.true

pub overflow_mul-at : goal.overflow_mul-at
overflow_mul-at c =
    let read = run-read _ c.requires.1 c.loop-run-test.true c.often-n.ensures in
    omega (arith, size_fits read)

pub overflow_add-at : goal.overflow_add-at
overflow_add-at c =
    let read = run-read _ c.requires.1 c.loop-run-test.true c.often-n.ensures in
    omega (arith, size_fits read, c.loop-run.invariant.near, c.requires.1.runs)

pub loop-run-preserved : goal.loop-run-preserved
loop-run-preserved c =
    let read = run-read _ c.requires.1 c.loop-run-test.true c.often-n.ensures in
    looked-on read c.loop-run.invariant c.if-left-fields.false

pub returns : goal.returns
returns c = look-end c.loop-run.invariant (omega arith)
