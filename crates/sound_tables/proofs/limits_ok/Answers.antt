-- The tests of the limits are joined in their order.
use Rattle.sound_tables.proofs.Joined.{limits-joined}
use Rattle.sound_tables.proofs.limits_ok.Goals as goal

pub returns : goal.returns
returns c =
    let p = c.word-p.ensures.0 in
    rw (c.need.ensures, c.word-l.ensures.0, c.word-s.ensures.0, p) (limits-joined _ _ _ _ _ _ _)
