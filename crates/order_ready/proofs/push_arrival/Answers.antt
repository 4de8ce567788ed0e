-- `push_arrival` meets its contract: the stamp of the node that is last of those that became ready goes into the heap.
use native.Mathlib.Omega.{arith}
use Rattle.order_ready.proofs.Lent.{lent-pushed}
use Rattle.order_ready.proofs.Heaps.{node-known, key-small, pushed-one}
use Rattle.order_ready.proofs.push_arrival.Goals as goal

pub overflow_add-at : goal.overflow_add-at
overflow_add-at c =
    let s = c.requires in
    omega (arith, node-known s)

pub offset_bounds-work-at : goal.offset_bounds-work-at
offset_bounds-work-at c =
    let s = c.requires in
    omega (arith, node-known s)

pub bounds-work-at : goal.bounds-work-at
bounds-work-at c =
    let s = c.requires in
    omega (arith, node-known s)

pub stamp_of-stamp-requires : goal.stamp_of-stamp-requires
stamp_of-stamp-requires c =
    let s = c.requires in
    (key-small s _ (omega (arith, node-known s)), omega arith)

pub returns : goal.returns
returns c =
    let s = c.requires in
    pushed-one s (rw c.stamp_of-stamp.ensures at (lent-pushed _ s.graph (omega arith) (omega arith) c.push.ensures))
