-- `place` meets its contract: in turn, or with the keys filled by what was chosen.
use Rattle.order.specs.Try.{Keyed}
use Rattle.order.proofs.Keys.{keys-distances}
use Rattle.order.proofs.Placing.{turn-order, keyed-starting, keyed-order}
use Rattle.order.proofs.place.Goals.{in-Distance, in-Space}
use Rattle.order.proofs.place.Goals as goal

pub returns-in-Readiness : goal.returns-in-Readiness
returns-in-Readiness c = turn-order c.in-Readiness.is c.requires c.place_in_turn.ensures

pub place_by_keys-requires : goal.place_by_keys-requires
place_by_keys-requires c =
    let keyed : Keyed c.args.a c.args.by c.args.work.now c.match-by.work =
    elim c.match-by.branch [
      | in-Distance w ↦ rw w.work-is (keys-distances w.in-Distance.is c.requires w.copy.ensures)
      | in-Space w ↦ rw (w.work-is, w.in-Space.is) w.weigh_spaces.ensures
    ] in
    (keyed-starting c.requires keyed, keyed.small)

pub returns : goal.returns
returns c =
    let keyed : Keyed c.args.a c.args.by c.args.work.now c.match-by.work =
    elim c.match-by.branch [
      | in-Distance w ↦ rw w.work-is (keys-distances w.in-Distance.is c.requires w.copy.ensures)
      | in-Space w ↦ rw (w.work-is, w.in-Space.is) w.weigh_spaces.ensures
    ] in
    keyed-order c.requires keyed c.place_by_keys.ensures
