-- `write_table` meets its contract: the objects left, written over the output as it is from the next place on, give what is promised.
use Rattle.work.specs.Views.{order_in}
use Rattle.order_graph.specs.Graph.{graph_on}
use Rattle.pack_write.specs.Write.{bytes_of}
use Rattle.pack_write.proofs.Objects.{Objects}
use Rattle.pack_write.proofs.write_table.Given as goal

abbrev pub invariant-loop-t : goal.invariant-loop-t
invariant-loop-t l = Objects (graph_on l.a l.r.nodes l.work) (bytes_of l.store l.records l.a l.s.closed l.work) (order_in l.a l.r.placed l.work) l.r.placed l.t l.initial.out l.out
