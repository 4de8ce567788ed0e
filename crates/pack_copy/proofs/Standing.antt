-- The graph in the work memory stands as long as its words are kept.
use mathlib.Core.Path.{ap, ◌∙◌}
use Prim.Native.Nat.{ℕ, ◌≤◌}
use mathlib.Core.List.{List}
use Rattle.regions.specs.Region.{Kept}
use Rattle.work.specs.declared.Areas.{Areas}
use Rattle.order_graph.specs.Graph.{graph_in}
use Rattle.order_graph.proofs.Links.{front_kept, stands-kept}
use Rattle.pack_copy.specs.Copy.{Standing}

pub standing-kept : {a : Areas} {n x y : ℕ} {b w m m' : List ℕ} → Standing b w a n m → Kept x y m m' → a.keys ≤ x → Standing b w a n m'
standing-kept {a} {n} g k h =
    let front = front_kept g.graph k h in
    record { graph = stands-kept g.graph k h; same = ap (graph_in a n) front ∙ g.same; falls = rw front g.falls; taken = rw front g.taken; parted = rw front g.parted }
