-- docs/RULES.md, 7.14 and 7.15, in the work memory: the child x of a link copied, and that link alone led to the copy. The first n nodes are objects, the copies
-- stand behind them, and `links` links are taken.
use Rattle.std.specs.Prelude.{ℕ, ◌+◌, ◌-◌, ◌*◌, ◌≤◌, ◌<◌, ◌≡◌, List, length, get_or, set, take}
use Rattle.regions.specs.Region.{ceiling, Kept}
use Rattle.model_orders.specs.Object.{Link}
use Rattle.model_orders.specs.Bag.{count, one}
use Rattle.model_orders.specs.Graph.{kids, Once}
use Rattle.model_orders.specs.Distance.{In}
use Rattle.model_orders.specs.Copies.{child_at, copied, beside}
use Rattle.work.specs.Packed.{packed_words}
use Rattle.work.specs.Views.{order_in, incoming_in, spaces_in, origin_in}
use Rattle.work.specs.declared.Areas.{Areas}
use Rattle.order_graph.specs.Graph.{graph_on, link_count, most_node_links, Stands, AtNode, Taken, Parted, Owned}
use Rattle.order_survey.specs.Survey.{far_away}
use Rattle.order_place.specs.Place.{OrderIds}

-- a field at this place, of one of these links
pub record FieldAt (at : ℕ) (ls : List Link) : Type 0 where
  pub link : Link
  pub of : In link ls
  pub at-is : link.slot.at ≡ at

-- the child of the field at this place in node p
abbrev pub child_in : Areas → ℕ → List ℕ → ℕ → ℕ → ℕ
child_in a nodes w p at = child_at at ((graph_on a nodes w).links p)

-- node p has a field at this place
pub record AtField (a : Areas) (nodes p at : ℕ) (w : List ℕ) : Type 0 where
  pub node : AtNode a nodes p w
  pub has : FieldAt at ((graph_on a nodes w).links p)

-- what a copy asks: a field, whose child stands in an order of r nodes; and room
pub record CopyingChild (a : Areas) (n nodes links r p at : ℕ) (w : List ℕ) : Type 0 where
  pub field : AtField a nodes p at w
  pub base : n ≤ nodes
  pub node-room : nodes < a.nodes
  pub copy-room : nodes - n < a.copies
  pub taken : Taken a nodes links w
  pub parted : Parted a nodes w
  pub link-room : a.links + (links + link_count a (take a.keys w) (child_in a nodes w p at)) * packed_words ≤ a.keys
  pub owned : Owned a n nodes w
  pub order : OrderIds a nodes r w
  pub order-room : r < a.nodes
  pub once : Once (order_in a r w)
  pub placed : 0 < count (child_in a nodes w p at) (order_in a r w)
  pub led : 0 < get_or (incoming_in a w) (child_in a nodes w p at) 0
  pub small : ceiling (incoming_in a w) + (most_node_links + 1) ≤ far_away

-- the copy is node `nodes`, of this size, and so many links are taken then. The words of the order, of the counts, of spaces and origins follow
pub record ChildCopied (a : Areas) (n nodes links r p at size links' : ℕ) (w w' : List ℕ) : Type 0 where
  pub kept : Kept 0 a.end w w'
  pub graph : Stands a (nodes + 1) w'
  pub same : let g = graph_on a nodes w in graph_on a (nodes + 1) w' ≡ copied g p at (child_in a nodes w p at) nodes
  pub size_is : size ≡ (graph_on a nodes w).size (child_in a nodes w p at)
  pub links-is : links' ≡ links + length ((graph_on a nodes w).links (child_in a nodes w p at))
  pub taken : Taken a (nodes + 1) links' w'
  pub parted : Parted a (nodes + 1) w'
  pub owned : Owned a n (nodes + 1) w'
  pub origins : (i : ℕ) → i < nodes → origin_in a n w' i ≡ origin_in a n w i
  pub origin : origin_in a n w' nodes ≡ origin_in a n w (child_in a nodes w p at)
  pub spaces : spaces_in a w' ≡ set (spaces_in a w) nodes (get_or (spaces_in a w) (child_in a nodes w p at) 0)
  pub order-ids : OrderIds a (nodes + 1) (r + 1) w'
  pub order : order_in a (r + 1) w' ≡ beside (child_in a nodes w p at) nodes (order_in a r w)
  pub incoming :
      (c : ℕ) → let x = child_in a nodes w p at in
      get_or (incoming_in a w') c 0 + one c x ≡ get_or (incoming_in a w) c 0 + count c (kids (graph_on a nodes w) x) + one c nodes
  pub small : ceiling (incoming_in a w') ≤ ceiling (incoming_in a w) + (most_node_links + 1)
