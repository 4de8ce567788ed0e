-- By what the test tells.
use mathlib.Core.Path.{refl, ap}
use Rattle.steps.specs.Runs.{put, left_by, step_on}
use Rattle.session.proofs.Unsound.{call-unsound}
use Rattle.session.proofs.put.Goals as goal

pub returns-in_err-test : goal.returns-in_err-test
returns-in_err-test c = call-unsound _ _ (put _) refl c.in_err-test.ensures _ c.from_residual.ensures.1

pub returns : goal.returns
unfolding step_on
returns c = ap left_by c.put_sound.ensures
