-- `main` meets its contract: each of the graphs is one that can be shown.
use Rattle.orders.proofs.Given.{AllShown}
use Rattle.orders.proofs.main.Given as goal

abbrev pub invariant-loop-g : goal.invariant-loop-g
invariant-loop-g l = AllShown l.g-items
