-- docs/RULES.md, 6.5 and 7.6, on lent memory: the table written from the order and the places in the work memory.
use Rattle.std.specs.Prelude.{ℕ, ◌<◌, ◌≡◌, List, length, get_or}
use Rattle.lists.specs.Lists.{total}
use Rattle.model_orders.specs.Bag.{count}
use Rattle.model_orders.specs.Graph.{Closed, Once}
use Rattle.model_orders.specs.Table.{place_of, table_of, FieldsIn}
use Rattle.model.specs.Session.{content}
use Rattle.layout.specs.Decode.{decode}
use Rattle.layout.specs.Known.{Read}
use Rattle.layout.specs.declared.state.State.{State}
use Rattle.work.specs.Views.{order_in, places_in, origin_in}
use Rattle.work.specs.declared.Areas.{Areas}
use Rattle.order_place.specs.Place.{OrderIds}
use Rattle.order_graph.specs.Graph.{graph_on, Stands, Owned}
use Rattle.order_resolve.specs.declared.Arranged.{Arranged}

-- the bytes of each node: those of its object, of which there are n
abbrev pub bytes_of : List ℕ → List ℕ → Areas → ℕ → List ℕ → ℕ → List ℕ
bytes_of b w a n m i = content (decode b w) (origin_in a n m i)

-- a node has as many bytes as its object, and its fields lie in them
pub record NodeFits (b w : List ℕ) (a : Areas) (n nodes : ℕ) (m : List ℕ) (i : ℕ) : Type 0 where
  pub sized : length (bytes_of b w a n m i) ≡ (graph_on a nodes m).size i
  pub fields : FieldsIn 0 ((graph_on a nodes m).size i) ((graph_on a nodes m).links i)

-- what writing the placed nodes of an arrangement asks
pub record Writing (b w : List ℕ) (s : State) (a : Areas) (r : Arranged) (m : List ℕ) : Type 0 where
  pub read : Read b w s
  pub graph : Stands a r.nodes m
  pub owned : Owned a s.closed r.nodes m
  pub each : (i : ℕ) → i < r.nodes → NodeFits b w a s.closed r.nodes m i
  pub ids : OrderIds a r.nodes r.placed m
  pub once : Once (order_in a r.placed m)
  pub closed : Closed (graph_on a r.nodes m) (order_in a r.placed m)
  pub places : (i : ℕ) → 0 < count i (order_in a r.placed m) → get_or (places_in a m) i 0 ≡ place_of (graph_on a r.nodes m) (order_in a r.placed m) i
  pub size_is : r.length ≡ total (graph_on a r.nodes m).size (order_in a r.placed m)

-- the table of r placed nodes
abbrev pub table_for : List ℕ → List ℕ → Areas → ℕ → ℕ → ℕ → List ℕ → List ℕ
table_for b w a n nodes r m = table_of (graph_on a nodes m) (bytes_of b w a n m) (order_in a r m)
