-- No tally.
use mathlib.Core.Path.{ap}
use Rattle.session_batch_turn.specs.declared.Ending.TheVariants.{Refused}
use Rattle.batch.proofs.refused.Goals as goal

pub returns : goal.returns
returns c = ap (λ t. record { ending = Refused c.args.why; tally = t; calls = 0; told = 0 }) c.none.ensures
