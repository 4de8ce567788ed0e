-- `find_link` meets its contract: the field is that of a link from t on, and of none before it.
use Prim.Native.Nat.{◌-◌}
use lib.ListN.{take}
use Rattle.order_graph.specs.Graph.{link_count}
use Rattle.order_copies.proofs.Finding.{Seeking}
use Rattle.order_copies.proofs.find.find_link.Given as goal

abbrev pub invariant-loop-a : goal.invariant-loop-a
invariant-loop-a l = Seeking l.a l.p l.at l.t l.work

abbrev pub decreases-loop-a : goal.decreases-loop-a
decreases-loop-a l = link_count l.a (take l.a.keys l.work) l.p - l.t
