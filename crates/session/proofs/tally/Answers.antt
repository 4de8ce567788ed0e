-- By what the test tells.
use mathlib.Core.Path.{refl, ap}
use Rattle.steps.specs.Runs.{tally, left_by, step_on}
use Rattle.steps.proofs.Works.{tally-done}
use Rattle.session.proofs.Unsound.{call-unsound}
use Rattle.soundness.proofs.Telling.{tested-ok}
use Rattle.session.proofs.tally.Goals as goal

pub returns-in_err-test : goal.returns-in_err-test
returns-in_err-test c = call-unsound _ _ tally refl c.in_err-test.ensures _ c.from_residual.ensures.1

pub returns : goal.returns
unfolding step_on
returns c = ap left_by (tally-done (tested-ok _ c.in_ok-test.ensures) c.tally_sound.ensures)
