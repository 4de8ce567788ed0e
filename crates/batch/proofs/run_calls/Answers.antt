-- Turn by turn: with each that leads on fewer words are left.
use Rattle.batch.proofs.Loops.{going-none, going_less, going_on, gone}
use Rattle.batch.proofs.run_calls.Goals as goal

pub loop-q-init : goal.loop-q-init
loop-q-init c = going-none _ _ c.requires

pub take_turn-t-requires : goal.take_turn-t-requires
take_turn-t-requires c = c.loop-q.invariant.ready

pub loop-q-smaller : goal.loop-q-smaller
loop-q-smaller c =
    going_less c.loop-q.invariant c.take_turn-t.ensures _ c.in-On.is

pub loop-q-preserved : goal.loop-q-preserved
loop-q-preserved c =
    let kept = c.take_turn-t.auto in
    going_on c.loop-q.invariant c.take_turn-t.ensures _ c.in-On.is
    (record { bytes = kept.store; words = kept.records; ids = kept.ids; index = kept.index })

pub returns-in-Over : goal.returns-in-Over
returns-in-Over c =
    gone c.loop-q.invariant c.take_turn-t.ensures _ c.in-Over.is
