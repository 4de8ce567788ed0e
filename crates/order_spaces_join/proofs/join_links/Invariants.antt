-- `join_links` meets its contract: the links left, with the sets as they are now, give the sets that are promised.
use Rattle.order_spaces_join.proofs.Tying.{Turning}
use Prim.Native.Nat.{◌-◌}
use Rattle.order_spaces_join.proofs.join_links.Given as goal

abbrev pub invariant-loop-t : goal.invariant-loop-t
invariant-loop-t l = Turning l.a l.n l.r l.i l.x l.t l.initial.work l.work

abbrev pub decreases-loop-t : goal.decreases-loop-t
decreases-loop-t l = l.count - l.t
