-- `join_along` meets its contract: the nodes left, with the sets as they are now, give the sets that are promised.
use native.Mathlib.Omega.{arith}
use Rattle.order_spaces_join.proofs.Tying.{along-asks, along-in, along-low, along-skip, along-next, along-all}
use Rattle.order_spaces_join.proofs.join_along.Goals.{then-x-ne0, else-x-ne0}
use Rattle.order_spaces_join.proofs.join_along.Goals as goal

pub overflow_add-x : goal.overflow_add-x
overflow_add-x c = omega (arith, along-in c.requires c.loop-t.invariant (omega arith))

pub offset_bounds-work-a-in-loop-t : goal.offset_bounds-work-a-in-loop-t
offset_bounds-work-a-in-loop-t c = omega (arith, along-in c.requires c.loop-t.invariant (omega arith))

pub bounds-work-a-in-loop-t : goal.bounds-work-a-in-loop-t
bounds-work-a-in-loop-t c = omega (arith, along-in c.requires c.loop-t.invariant (omega arith))

pub join_links-requires : goal.join_links-requires
join_links-requires c =
    let pre = c.requires in
    let inv = c.loop-t.invariant in
    (along-in pre inv (omega arith), along-low pre inv (omega arith), along-asks pre inv (omega arith))

pub loop-t-preserved : goal.loop-t-preserved
loop-t-preserved c =
    let inv = c.loop-t.invariant in
    elim c.if-x-ne0.branch [
      | then-x-ne0 w ↦ rw w.work-is (along-next c.requires inv (omega arith) w.if-x-ne0.true w.join_links.ensures)
      | else-x-ne0 w ↦ rw w.work-is (along-skip c.requires inv (omega arith) w.if-x-ne0.false)
    ]

pub returns : goal.returns
returns c = along-all c.requires c.loop-t.invariant (omega arith)
