-- `clear_along` meets its contract: the nodes left, taken up in the memory as it is now, give what is promised.
use native.Mathlib.Omega.{arith}
use Rattle.order_spaces_near.proofs.Clearing.{passing-in, passing-asks, passing-skip, passing-next, passing-all}
use Rattle.order_spaces_near.proofs.clear_along.Goals.{then-work-a-eq0, else-work-a-eq0}
use Rattle.order_spaces_near.proofs.clear_along.Goals as goal

pub overflow_add-a : goal.overflow_add-a
overflow_add-a c = omega (arith, passing-in c.requires c.loop-t.invariant (omega arith))

pub offset_bounds-work-a-in-loop-t : goal.offset_bounds-work-a-in-loop-t
offset_bounds-work-a-in-loop-t c = omega (arith, passing-in c.requires c.loop-t.invariant (omega arith))

pub bounds-work-a-in-loop-t : goal.bounds-work-a-in-loop-t
bounds-work-a-in-loop-t c = omega (arith, passing-in c.requires c.loop-t.invariant (omega arith))

pub clear_links-requires : goal.clear_links-requires
clear_links-requires c = (passing-asks c.requires c.loop-t.invariant (omega arith), omega arith)

pub loop-t-preserved : goal.loop-t-preserved
loop-t-preserved c =
    let inv = c.loop-t.invariant in
    elim c.if-work-a-eq0.branch [
      | then-work-a-eq0 w ↦ rw w.work-is (passing-next c.requires inv (omega arith) (omega arith) w.clear_links.ensures)
      | else-work-a-eq0 w ↦ rw w.work-is (passing-skip c.requires inv (omega arith) (omega arith))
    ]

pub returns : goal.returns
returns c = passing-all c.requires c.loop-t.invariant (omega arith)
