-- No text is held.
use Rattle.cable_head.proofs.Heads.{begin-done}
use Rattle.cable_head.proofs.holding.begin.Goals as goal

pub returns : goal.returns
returns c = begin-done _ _ _ _ c.put_numbers.ensures
