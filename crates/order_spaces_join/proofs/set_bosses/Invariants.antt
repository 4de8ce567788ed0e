-- `set_bosses` meets its contract: each boss is pushed behind those before it.
use Rattle.order_spaces_join.proofs.Bossing.{Bossing}
use Rattle.order_spaces_join.proofs.set_bosses.Given as goal

abbrev pub invariant-loop-t : goal.invariant-loop-t
invariant-loop-t l = Bossing l.a l.r l.t l.initial.work l.work
