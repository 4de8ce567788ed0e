-- A law for each move; the next field's are step_in's.
use mathlib.Core.Path.{refl}
use native.Mathlib.Omega.{arith}
use Rattle.gsub_walk.specs.Rest.{MovesBy}
use Rattle.gsub_walk.proofs.Moving.{done-rest, innermost-ok, link-made, end-made}
use Rattle.gsub_walk.proofs.walk.step.Goals as goal

pub returns-then-w-eq0 : goal.returns-then-w-eq0
unfolding MovesBy
returns-then-w-eq0 c = (done-rest c.args.table.now _ c.if-w-eq0.true, refl)

pub returns-then-w : goal.returns-then-w
returns-then-w c =
    link-made c.args.table.now c.requires (omega (arith, c.if-w-eq0.false)) c.innermost-f.ensures c.if-w.true refl

pub next_in-requires : goal.next_in-requires
next_in-requires c =
    let ok = innermost-ok c.args.table.now c.requires (omega (arith, c.if-w-eq0.false)) c.innermost-f.ensures in
    (ok.begins, ok.fits)

pub returns-in_default : goal.returns-in_default
returns-in_default c =
    end-made c.args.table.now c.requires (omega (arith, c.if-w-eq0.false)) c.innermost-f.ensures c.if-w.false c.next_in.ensures c.in_default.is c.leave.ensures
