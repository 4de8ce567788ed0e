-- `join_at` meets its contract: the bosses are lent as a slice of their own.
use Rattle.order_spaces_join.proofs.Lent.{lent-joined}
use Rattle.order_spaces_join.proofs.join_at.Goals as goal

pub returns : goal.returns
returns c = lent-joined c.requires.2 c.join.ensures
