-- Nothing is open, or the look is done.
use native.Mathlib.Omega.{arith}
use Rattle.layout.proofs.Facts.{words-read}
use Rattle.steps.proofs.Held.{some-open}
use Rattle.session_close.proofs.look.Goals as goal

pub returns-then-s-eq0 : goal.returns-then-s-eq0
returns-then-s-eq0 c = λ h. absurd (omega (arith, c.if-s-eq0.true))

pub innermost-requires : goal.innermost-requires
innermost-requires c = (words-read c.requires, some-open c.if-s-eq0.false)

pub find-requires : goal.find-requires
find-requires c = (c.requires, c.innermost.ensures)

pub returns : goal.returns
returns c = λ h. c.find.ensures
