-- `load_links` meets its contract: the words passed stand in the memory, two in one.
use Rattle.orders.specs.Given.{packed}
use Rattle.orders.proofs.Loading.{Loading}
use Rattle.orders.proofs.load_links.Given as goal

abbrev pub invariant-loop-i : goal.invariant-loop-i
invariant-loop-i l = Loading (packed l.words) l.at l.i l.initial.work l.work
