-- `run_from` meets its contract: link by link the run is one longer, until a child is another or there are no more.
use lib.ListN.{take}
use Rattle.order_graph.specs.Graph.{RunFrom}
use Rattle.order_graph.proofs.run.run_from.Given as goal

abbrev pub invariant-loop-end : goal.invariant-loop-end
invariant-loop-end l = RunFrom l.a l.n (take l.a.keys l.work) l.i l.t l.end l.child l.width
