-- `copy_graph` meets its contract: the copied nodes and links are the graph of the closed objects.
use Rattle.pack_copy.proofs.CopiedGraph.{all-copied}
use Rattle.pack_copy.proofs.copy_graph.Goals as goal

pub returns : goal.returns
returns c =
    let pre = c.requires in
    all-copied pre c.copy_nodes.ensures c.copy_links.ensures
