-- `append_node` meets its contract: its words and its links' words.
use Rattle.order_grow.proofs.Appending.{appended-by}
use Rattle.order_grow.proofs.append_node.Goals as goal

pub returns : goal.returns
returns c =
    appended-by c.requires c.link_count-count.ensures c.copy_links.ensures c.set_node.ensures
