-- The slots one by one: those passed do not hold the answer. Behind the last of them, the look through all.
use Rattle.session_slots.proofs.Passes.{Passing}
use Rattle.session_slots.proofs.look.find_slotted.Given as goal

abbrev pub invariant-loop-slot : goal.invariant-loop-slot
invariant-loop-slot l = Passing l.store l.records l.table l.slot-index
