-- `set_bosses` meets its contract: each boss is pushed behind those before it.
use native.Mathlib.Omega.{arith}
use Rattle.order_spaces_join.proofs.Bossing.{bossing-in, bossing-next}
use Rattle.order_spaces_join.proofs.set_bosses.Goals as goal

pub overflow_add-work : goal.overflow_add-work
overflow_add-work c = omega (arith, bossing-in c.requires c.loop-t.invariant (omega arith))

pub offset_bounds-work-a-in-loop-t : goal.offset_bounds-work-a-in-loop-t
offset_bounds-work-a-in-loop-t c = omega (arith, bossing-in c.requires c.loop-t.invariant (omega arith))

pub bounds-work-a-in-loop-t : goal.bounds-work-a-in-loop-t
bounds-work-a-in-loop-t c = omega (arith, bossing-in c.requires c.loop-t.invariant (omega arith))

pub loop-t-preserved : goal.loop-t-preserved
loop-t-preserved c = bossing-next c.requires c.loop-t.invariant (omega arith)
