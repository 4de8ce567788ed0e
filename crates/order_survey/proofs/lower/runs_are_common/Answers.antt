-- `runs_are_common` reads nodes of the line alone.
use native.Mathlib.Omega.{arith}
use Rattle.order_survey.proofs.Nodes.{line-node}
use Rattle.order_survey.proofs.lower.runs_are_common.Goals as goal

pub link_count-requires : goal.link_count-requires
link_count-requires c = line-node c.requires (omega arith)

pub links_at-from-requires : goal.links_at-from-requires
links_at-from-requires c = line-node c.requires (omega arith)

pub field_from-first-requires : goal.field_from-first-requires
field_from-first-requires c =
    let count = c.link_count.ensures in
    record { link = record { node = line-node c.requires (omega arith); some = omega arith }; begins = c.links_at-from.ensures }

pub field_from-second-requires : goal.field_from-second-requires
field_from-second-requires c =
    let count = c.link_count.ensures in
    record { link = record { node = line-node c.requires (omega arith); some = omega arith }; begins = c.links_at-from.ensures }
