-- `note_copy` meets its contract: one word of each area.
use Rattle.order_copies.proofs.Noting.{noted}
use Rattle.order_copies.proofs.note.note_copy.Goals as goal

pub returns : goal.returns
returns c = noted c.requires c.origin_at-origin.ensures
