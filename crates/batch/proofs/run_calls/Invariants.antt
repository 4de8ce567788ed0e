-- Turn by turn: with each that leads on fewer words are left.
use Prim.Native.Nat.{◌-◌}
use lib.ListN.{length}
use Rattle.session_batch_turn.specs.Turn.{lent}
use Rattle.batch.proofs.Loops.{Going}
use Rattle.batch.proofs.run_calls.Given as goal

abbrev pub invariant-loop-q : goal.invariant-loop-q
invariant-loop-q l =
    Going l.calls l.bytes l.buckets (lent l.initial.store l.initial.records l.initial.ids l.initial.index) (lent l.store l.records l.ids l.index) l.p

abbrev pub decreases-loop-q : goal.decreases-loop-q
decreases-loop-q l = length l.calls - l.p.words
