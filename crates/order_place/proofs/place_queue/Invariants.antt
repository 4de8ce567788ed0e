-- `place_queue` meets its contract: what stands in the order behind the placed ones is ready.
use Prim.Native.Nat.{◌-◌}
use Rattle.order_place.proofs.Queue.{Queued}
use Rattle.order_place.proofs.place_queue.Given as goal

abbrev pub invariant-loop-q : goal.invariant-loop-q
invariant-loop-q l = Queued l.a l.n l.root l.m l.q l.initial.work l.work

abbrev pub decreases-loop-q : goal.decreases-loop-q
decreases-loop-q l = l.a.nodes - l.q
