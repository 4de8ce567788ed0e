-- Each id that is passed is not the answer.
use Rattle.std.proofs.Common.{◌≡◌, sym, ◌∙◌, arith}
use Rattle.session_find.proofs.Looks.{ground, look-first, look_none, look-here, look-next}
use Rattle.session_find.proofs.find.Goals as goal

pub loop-id-init : goal.loop-id-init
loop-id-init c = look-first c.requires.0.closed_is

pub equals_closed-requires : goal.equals_closed-requires
equals_closed-requires c =
    let r = c.requires.0 in
    (rw (← r.closed_is) (ground r c.requires.1 c.runs_of-runs.ensures), omega (arith, r.closed_is))

pub returns-then-equals_closed : goal.returns-then-equals_closed
returns-then-equals_closed c = look-here c.loop-id.invariant c.loop-id-test.true (sym c.equals_closed.ensures ∙ c.if-equals_closed.true)

pub loop-id-preserved : goal.loop-id-preserved
loop-id-preserved c = look-next c.loop-id.invariant c.loop-id-test.true (sym c.equals_closed.ensures ∙ c.if-equals_closed.false)

pub returns : goal.returns
returns c =
    let k = c.loop-id.invariant in
    let all : c.args.s.closed ≡ c.loop-id.id = omega (arith, k.within, c.loop-id-test.false) in
    all ∙ look_none k c.loop-id-test.false
