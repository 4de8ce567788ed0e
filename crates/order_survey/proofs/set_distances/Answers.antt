-- `set_distances` meets its contract: the distances along the line from their start, whichever way they are lowered.
use Rattle.order_survey.proofs.Lowers.{begun-asks, begun-set}
use Rattle.order_survey.proofs.set_distances.Goals as goal

pub lower_along-requires : goal.lower_along-requires
lower_along-requires c = begun-asks c.requires.1 c.requires.0 c.fill.ensures

pub lower_along-requires-else-runs : goal.lower_along-requires-else-runs
lower_along-requires-else-runs c = begun-asks c.requires.1 c.requires.0 c.fill.ensures

pub returns-then-runs : goal.returns-then-runs
returns-then-runs c = begun-set c.requires.1 c.requires.0 c.fill.ensures c.lower_along.ensures

pub returns-else-runs : goal.returns-else-runs
returns-else-runs c = begun-set c.requires.1 c.requires.0 c.fill.ensures c.lower_along-else-runs.ensures
