-- Type 7 put, or the slice's end.
use mathlib.Core.Path.{refl}
use native.Mathlib.Omega.{arith}
use Rattle.gsub_walk.specs.Rest.{MovesBy}
use Rattle.gsub_walk.proofs.Moving.{next-ok, field-narrow}
use Rattle.gsub_walk.proofs.Moves.{type-made, type-past}
use Rattle.gsub_walk.proofs.walk.step_type.Goals as goal

pub advance-requires : goal.advance-requires
advance-requires c =
    let x = c.requires.0 in
    (x.stands, x.inside, next-ok x, (field-narrow x).most)

pub returns-then-not-lies_in : goal.returns-then-not-lies_in
unfolding MovesBy
returns-then-not-lies_in c =
    (type-past c.requires.0 c.requires.1 c.requires.2 c.lies_in.ensures c.if-not-lies_in.true, refl)

pub returns : goal.returns
returns c =
    type-made c.requires.0 c.requires.1 c.requires.2 c.lies_in.ensures (omega (arith, c.well_formed.0.1)) c.if-not-lies_in.false c.advance.ensures
