-- Two ways: nothing is open, or the innermost object is forgotten.
use native.Mathlib.Omega.{arith}
use Rattle.layout.proofs.Facts.{words-read, size-known}
use Rattle.steps.proofs.Held.{held, some-open}
use Rattle.steps.proofs.Works.{drop-none, drop-done}
use Rattle.session_drop.proofs.drop_sound.Goals as goal

pub returns-then-s-eq0 : goal.returns-then-s-eq0
returns-then-s-eq0 c = rw c.with.ensures (drop-none (held c.read-s.ensures c.tally_of-t.ensures) c.if-s-eq0.true)

pub innermost-own-requires : goal.innermost-own-requires
innermost-own-requires c = (words-read c.read-s.ensures, some-open c.if-s-eq0.false)

pub forget-requires : goal.forget-requires
forget-requires c = (c.innermost-own.ensures, size-known c.read-s.ensures)

pub release-requires : goal.release-requires
release-requires c =
    omega (arith, held c.read-s.ensures c.tally_of-t.ensures, c.innermost-own.ensures)

pub returns : goal.returns
returns c =
    rw (c.release.ensures, c.forget.ensures.bytes, c.forget.ensures.words) (drop-done (held c.read-s.ensures c.tally_of-t.ensures) c.innermost-own.ensures)
