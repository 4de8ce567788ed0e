-- A piece line has them behind its key.
use Rattle.job_items.specs.Item.{codes}
use Rattle.job_items.proofs.pairs.Goals as goal

pub returns : goal.returns
unfolding codes
returns c = c.value.ensures
