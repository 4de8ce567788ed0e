-- `place_heap` meets its contract: the ready nodes are in the heap, before and after every turn.
use Prim.Native.Nat.{◌-◌}
use Rattle.order_place.proofs.Heaping.{HeapTurn}
use Rattle.order_place.proofs.place_heap.Given as goal

abbrev pub invariant-loop-q : goal.invariant-loop-q
invariant-loop-q l = HeapTurn l.a l.n l.root l.m l.q l.initial.work l.work

abbrev pub decreases-loop-q : goal.decreases-loop-q
decreases-loop-q l = l.a.nodes - l.q
