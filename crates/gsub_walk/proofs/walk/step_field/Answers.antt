-- A law for each move: a field put, one refused, a table too deep, a child begun.
use mathlib.Core.Path.{refl}
use native.Mathlib.Omega.{arith}
use Rattle.gsub_walk.specs.Rest.{MovesBy}
use Rattle.gsub_walk.proofs.Moving.{next-ok, field-narrow}
use Rattle.gsub_walk.proofs.Moves.{place-fits, put-made, refuse-made, follow-room, enter-stands, deep-made, child-near, begin-made}
use Rattle.gsub_walk.proofs.walk.step_field.Goals as goal

pub overflow_add-at : goal.overflow_add-at
overflow_add-at c =
    omega (arith, place-fits c.requires.0 c.requires.1 (omega (arith, c.well_formed.0.1)))

pub judge-requires : goal.judge-requires
judge-requires c =
    (field-narrow c.requires.0, place-fits c.requires.0 c.requires.1 (omega (arith, c.well_formed.0.1)))

pub advance-requires : goal.advance-requires
advance-requires c =
    let x = c.requires.0 in
    (x.stands, x.inside, next-ok x, (field-narrow x).most)

pub read-requires : goal.read-requires
read-requires c =
    (follow-room c.requires.0 c.requires.1 (omega (arith, c.well_formed.0.1)) c.judge.ensures c.in-Follow.is, omega (arith, (field-narrow c.requires.0).most))

pub overflow_add-child : goal.overflow_add-child
overflow_add-child c =
    omega (arith, child-near c.requires.0 c.requires.1 (omega (arith, c.well_formed.0.1)) c.judge.ensures c.in-Follow.is c.read.ensures (λ i. omega (arith, c.type_inv.table i)))

pub returns-then-w-ge-DEEPEST : goal.returns-then-w-ge-DEEPEST
unfolding MovesBy
returns-then-w-ge-DEEPEST c =
    (deep-made c.requires.0 c.requires.1 (omega (arith, c.well_formed.0.1)) c.judge.ensures c.in-Follow.is c.read.ensures c.if-w-ge-DEEPEST.true, refl)

pub child_mode-mode-requires : goal.child_mode-mode-requires
child_mode-mode-requires c = (
  (next-ok c.requires.0).begins,
  child-near c.requires.0 c.requires.1 (omega (arith, c.well_formed.0.1)) c.judge.ensures c.in-Follow.is c.read.ensures (λ i. omega (arith, c.type_inv.table i)),
)

pub advance-requires-in-Follow : goal.advance-requires-in-Follow
advance-requires-in-Follow c =
    let x = c.requires.0 in
    (x.stands, x.inside, next-ok x, (field-narrow x).most)

pub enter-requires : goal.enter-requires
enter-requires c =
    enter-stands c.requires.0 c.requires.1 (omega (arith, c.well_formed.0.1)) c.judge.ensures c.in-Follow.is (omega (arith, c.if-w-ge-DEEPEST.false)) c.advance-in-Follow.ensures

pub returns-in-Keep : goal.returns-in-Keep
returns-in-Keep c =
    put-made c.requires.0 c.requires.1 (omega (arith, c.well_formed.0.1)) c.judge.ensures c.in-Keep.is c.advance.ensures

pub returns-in-Refuse : goal.returns-in-Refuse
unfolding MovesBy
returns-in-Refuse c =
    (refuse-made c.requires.0 c.requires.1 (omega (arith, c.well_formed.0.1)) c.judge.ensures c.in-Refuse.is, refl)

pub returns-else-w-ge-DEEPEST : goal.returns-else-w-ge-DEEPEST
returns-else-w-ge-DEEPEST c =
    begin-made c.requires.0 c.requires.1 (omega (arith, c.well_formed.0.1)) c.judge.ensures c.in-Follow.is c.read.ensures (λ i. omega (arith, c.type_inv.table i)) (omega (arith, c.if-w-ge-DEEPEST.false)) c.child_mode-mode.ensures
    c.advance-in-Follow.ensures c.enter.ensures
