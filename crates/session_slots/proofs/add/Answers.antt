-- The first free slot, as `position` finds it.
use Rattle.std.proofs.Common.{◌+◌, rules, tests, arith, eqb, sym}
use Rattle.std.proofs.lemmas.Iterator.{YieldsList-from_slice}
use Rattle.std.proofs.lemmas.Iterator.Search.{position_from_yields_List}
use Rattle.lists.specs.Lists.{part}
use Rattle.session_slots.specs.Slots.{probes}
use Rattle.session_slots.proofs.Places.{added-found, added-full}
use Rattle.session_slots.proofs.add.Goals as goal

pub returns-in-Some : goal.returns-in-Some
returns-in-Some c =
    let at = c.slot_of-at.result in
    let m = c.args.table.now in
    let found = position_from_yields_List (λ x. eqb x 0) _ _ c.position.result c.position.ensures.ran (YieldsList-from_slice (part at (at + probes) m) cc) (λ x b q k. search (rules, tests)) in
    sym (rw (← c.slot_of-at.ensures.0) (added-found c.args.id m probes at (omega arith) found c.in-Some.is))

pub returns-in_default : goal.returns-in_default
returns-in_default c =
    let at = c.slot_of-at.result in
    let m = c.args.table.now in
    let found = position_from_yields_List (λ x. eqb x 0) _ _ c.position.result c.position.ensures.ran (YieldsList-from_slice (part at (at + probes) m) cc) (λ x b q k. search (rules, tests)) in
    sym (rw (← c.slot_of-at.ensures.0) (added-full c.args.id m probes at (omega arith) found c.in_default.is))
