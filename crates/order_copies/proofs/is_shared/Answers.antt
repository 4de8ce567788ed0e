-- `is_shared` meets its contract: the count of the child of the link that was found.
use mathlib.Core.Path.{ap}
use lib.Dec.{ltb}
use Rattle.order_copies.proofs.Finding.{shared-read}
use Rattle.order_copies.proofs.is_shared.Goals as goal

pub returns : goal.returns
returns c = ap (ltb 1) (shared-read c.find_link-t.ensures c.field_at-f.ensures)
