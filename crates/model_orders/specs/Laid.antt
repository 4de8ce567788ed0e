-- docs/RULES.md, sections 2 and 7: what it is for a table to be laid out in an order.
use Rattle.std.specs.Prelude.{ℕ, ◌+◌, ◌≤◌, ◌<◌, ◌≡◌, List, length}
use Rattle.lists.specs.Lists.{total}
use Rattle.model_orders.specs.Bag.{count}
use Rattle.model_orders.specs.Object.{Link}
use Rattle.model_orders.specs.Graph.{Graph, kids}
use Rattle.model_orders.specs.Distance.{In}
use Rattle.model_orders.specs.Table.{place_of}
use Rattle.model_orders.specs.Reading.{Reading, target, Shows, Wide, Apart}

-- t is the table of the nodes in order o; ρ gives their readings
pub record LaidOut (g : Graph) (nodes : List ℕ) (root : ℕ) (ρ : ℕ → Reading) (o t : List ℕ) : Type 0 where
  -- the root is shown from the first byte
  pub shown : Shows t 0 (ρ root)
  -- and no field of it, or below it, holds 0
  pub apart : Wide (ρ root) → Apart t 0 (ρ root)
  -- each is shown at its place
  pub each : (i : ℕ) → 0 < count i nodes → Shows t (place_of g o i) (ρ i)
  -- the length is the sum of the sizes
  pub sum : length t ≡ total g.size nodes
  -- each child lies behind its parent's end
  pub behind : (p c : ℕ) → 0 < count p nodes → 0 < count c (kids g p) → place_of g o p + g.size p ≤ place_of g o c
  -- each field leads to the very place of its child
  pub leads : (p : ℕ) (l : Link) → 0 < count p nodes → In l (g.links p) → target t (place_of g o p) l.slot ≡ place_of g o l.child
