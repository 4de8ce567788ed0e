-- `main` meets its contract: each of the graphs is one that can be shown.
use Rattle.orders.proofs.Given.{shown-each}
use Rattle.orders.proofs.main.Goals as goal

pub show-requires : goal.show-requires
show-requires c = shown-each c.loop-g.invariant c.loop-g.g-index _ c.loop-g-test.true
