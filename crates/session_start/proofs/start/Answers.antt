-- By whether the limits and the stores are in range.
use mathlib.Core.Bool.{not}
use mathlib.Core.Path.{ap, ◌∙◌}
use Rattle.std.proofs.Common.{zero-le}
use Rattle.memory.proofs.Writes.{cleared-over}
use Rattle.steps.specs.Runs.{left_by, step_on}
use Rattle.steps.proofs.Works.{start-refused, start_fits, start-done}
use Rattle.session_start.proofs.start.Goals as goal

pub returns-then-not-fits : goal.returns-then-not-fits
unfolding step_on
returns-then-not-fits c = rw c.with.ensures (ap left_by (start-refused _ _ _ _ c.none.ensures (rw c.need.ensures at (ap not c.if-not-fits.true))))

pub start_words-requires : goal.start_words-requires
start_words-requires c =
    start_fits _ _ _ _ (rw c.need.ensures at (ap not c.if-not-fits.false))

pub returns : goal.returns
unfolding step_on
returns c =
    let cleared = c.clear.ensures ∙ cleared-over 0 c.args.store.now _ zero-le in
    rw (cleared, c.start_words.ensures)
    (ap left_by (start-done _ _ _ _ c.none-2.ensures (rw c.need.ensures at (ap not c.if-not-fits.false))))
