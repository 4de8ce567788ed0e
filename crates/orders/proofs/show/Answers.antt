-- `show` meets its contract: the words given are loaded, and the graph in them is tidy.
use mathlib.Core.Path.{refl}
use Rattle.std.specs.Prelude.{replicate}
use Rattle.orders.specs.Given.{space}
use Rattle.orders.proofs.Given.{told, loaded-stood}
use Rattle.orders.proofs.show.Goals as goal

pub show_orders-requires : goal.show_orders-requires
show_orders-requires g c =
    loaded-stood c.args.g.now.nodes.now (replicate space 0) (told _ _ _ c.requires) c.of.ensures refl (rw c.copy_from_slice.ensures.after) c.load_links.ensures
