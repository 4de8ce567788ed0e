-- By what the test tells.
use mathlib.Core.Path.{refl, ap}
use Rattle.steps.specs.Runs.{close, left_by_close, step_on}
use Rattle.session.proofs.Unsound.{close-unsound}
use Rattle.session.proofs.close.Goals as goal

pub returns-in_err-test : goal.returns-in_err-test
returns-in_err-test c = close-unsound _ _ close refl c.in_err-test.ensures _ c.from_residual.ensures.1

pub returns : goal.returns
unfolding step_on
returns c = ap left_by_close c.close_sound.ensures
