-- The slots one by one: those passed do not hold the answer. Behind the last of them, the look through all.
use mathlib.Core.Path.{sym, ap, ◌∙◌}
use Prim.Native.Nat.{◌+◌, ◌<◌}
use Rattle.lists.proofs.Parts.{get_or-part}
use Rattle.lists.proofs.Runs.{length_part}
use native.Mathlib.Omega.{arith}
use Rattle.session_find.proofs.Looks.{ground}
use Rattle.session_slots.specs.Slots.{probes, slot_from}
use Rattle.session_slots.proofs.Passes.{passing-none, passing-next, passing-free, holding-few, holding-equal}
use Rattle.session_slots.proofs.look.find_slotted.Goals as goal

pub loop-slot-init : goal.loop-slot-init
loop-slot-init c = passing-none _ _ _

pub returns-then-x-eq0 : goal.returns-then-x-eq0
returns-then-x-eq0 c =
    let p = c.requires in
    let at = c.slot_of-at.result in
    let e = c.loop-slot.slot-index in
    let h : e < probes = omega (arith, c.loop-slot-test.true, length_part at (at + probes) c.args.table.now (omega (arith, p.slotted.long))) in
    let read = c.from-x.ensures ∙ get_or-part at (at + probes) e c.args.table.now (omega arith) in
    p.read.closed_is ∙ passing-free _ _ _ p.slotted c.loop-slot.invariant h (c.slot_of-at.ensures.0 ∙ ap slot_from p.hash_is) (sym read ∙ c.if-x-eq0.true)

pub holds_equal-requires : goal.holds_equal-requires
holds_equal-requires c =
    let p = c.requires in
    (ground p.read p.lies c.runs_of-runs.ensures, omega (arith, c.if-x-eq0.false))

pub overflow_cast-result-then-holds_equal : goal.overflow_cast-result-then-holds_equal
overflow_cast-result-then-holds_equal c =
    let p = c.requires in
    omega (arith, holding-few _ _ _ p.slotted (omega (arith, c.if-x-eq0.false)) (sym c.holds_equal.ensures ∙ c.if-holds_equal.true), p.read.closed_is, p.read.bounds)

pub returns-then-holds_equal : goal.returns-then-holds_equal
returns-then-holds_equal c = holding-equal _ _ _ c.requires.slotted (omega (arith, c.if-x-eq0.false)) (sym c.holds_equal.ensures ∙ c.if-holds_equal.true)

pub loop-slot-preserved : goal.loop-slot-preserved
loop-slot-preserved c =
    let p = c.requires in
    let at = c.slot_of-at.result in
    let e = c.loop-slot.slot-index in
    let h : e < probes = omega (arith, c.loop-slot-test.true, length_part at (at + probes) c.args.table.now (omega (arith, p.slotted.long))) in
    let read = c.from-x.ensures ∙ get_or-part at (at + probes) e c.args.table.now (omega arith) in
    passing-next _ _ _ c.loop-slot.invariant (c.slot_of-at.ensures.0 ∙ ap slot_from p.hash_is) read (sym c.holds_equal.ensures ∙ c.if-holds_equal.false)

pub find-requires : goal.find-requires
find-requires c = let p = c.requires in (p.read, p.lies)

pub returns : goal.returns
returns c = c.find.ensures
