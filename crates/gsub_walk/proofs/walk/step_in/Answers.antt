-- By the mode, and whether a promoted Lookup's field is its first.
use Rattle.gsub_walk.proofs.Moving.{next-ok, field-narrow}
use Rattle.gsub_walk.proofs.Moves.{as-promoted}
use Rattle.gsub_walk.proofs.walk.step_in.Goals as goal

pub step_field-requires-else-f-eq0 : goal.step_field-requires-else-f-eq0
step_field-requires-else-f-eq0 c =
    (c.requires, as-promoted _ c.in-Promoted.is (next-ok c.requires) c.requires.found c.if-f-eq0.false)

pub step_new-requires : goal.step_new-requires
step_new-requires c =
    let x = c.requires in
    (x.stands, x.inside, next-ok x, field-narrow x, c.in-New.is)
