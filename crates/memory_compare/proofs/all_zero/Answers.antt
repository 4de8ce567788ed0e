-- Every byte is zero exactly if those that are left are.
use Rattle.std.proofs.Common.{sym, ◌∙◌}
use Rattle.lists.proofs.Tests.{zeros-append}
use Rattle.memory_compare.proofs.Compares.{zeros_nothing}
use Rattle.memory_compare.proofs.all_zero.Goals as goal

pub returns-then-not-run_zero : goal.returns-then-not-run_zero
returns-then-not-run_zero c =
    let front = sym c.run_zero.ensures ∙ c.if-not-run_zero.true in
    sym (c.loop-run.invariant ∙ rw (c.in-Some.ensures.steps.1.0, zeros-append, front))

pub loop-run-preserved : goal.loop-run-preserved
loop-run-preserved c =
    let front = sym c.run_zero.ensures ∙ c.if-not-run_zero.false in
    c.loop-run.invariant ∙ rw (c.in-Some.ensures.steps.1.0, zeros-append, front)

pub returns : goal.returns
returns c = sym (c.loop-run.invariant ∙ zeros_nothing _ c.in-None.ensures.steps.1.0)
