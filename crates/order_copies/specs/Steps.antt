-- The steps of a copy: the link whose child is copied, and what stands beside the graph brought up to date.
use Rattle.std.specs.Prelude.{ℕ, ◌+◌, ◌-◌, ◌≤◌, ◌<◌, ◌≡◌, List, get_or, set, take}
use Rattle.regions.specs.Region.{ceiling, Kept}
use Rattle.model_orders.specs.Bag.{one, count}
use Rattle.model_orders.specs.Graph.{kids, Once}
use Rattle.model_orders.specs.Copies.{beside}
use Rattle.work.specs.Views.{order_in, incoming_in, spaces_in, origins_in, origin_in}
use Rattle.work.specs.declared.Areas.{Areas}
use Rattle.order_graph.specs.Graph.{graph_on, link_of, most_node_links, Stands, AtLink}
use Rattle.order_survey.specs.Survey.{far_away}
use Rattle.order_place.specs.Place.{OrderIds}

-- ---- the link whose field is at a place

-- link t of node p is the first whose field is there
pub record LinkFound (a : Areas) (n p at t : ℕ) (w : List ℕ) : Type 0 where
  pub link : AtLink a n p t w
  pub there : (link_of a (take a.keys w) p t).slot.at ≡ at
  pub earlier : (s : ℕ) → s < t → (link_of a (take a.keys w) p s).slot.at ≡ at → ⊥

-- ---- what stands beside the graph

-- node `nodes` is a copy of x
pub record Noting (a : Areas) (n nodes x : ℕ) (w : List ℕ) : Type 0 where
  pub graph : Stands a (nodes + 1) w
  pub inside : x < nodes
  pub base : n ≤ nodes
  pub copy-room : nodes - n < a.copies

pub record CopyNoted (a : Areas) (n nodes x : ℕ) (w w' : List ℕ) : Type 0 where
  pub kept : Kept a.spaces a.end w w'
  pub spaces : spaces_in a w' ≡ set (spaces_in a w) nodes (get_or (spaces_in a w) x 0)
  pub origins : origins_in a w' ≡ set (origins_in a w) (nodes - n) (origin_in a n w x)

pub record CountingCopy (a : Areas) (nodes x : ℕ) (w : List ℕ) : Type 0 where
  pub graph : Stands a (nodes + 1) w
  pub inside : x < nodes
  pub led : 0 < get_or (incoming_in a w) x 0
  pub small : ceiling (incoming_in a w) + (most_node_links + 1) ≤ far_away

pub record CopyCounted (a : Areas) (nodes x : ℕ) (w w' : List ℕ) : Type 0 where
  pub kept : Kept a.incoming a.distances w w'
  pub incoming :
      (c : ℕ) → get_or (incoming_in a w') c 0 + one c x ≡ get_or (incoming_in a w) c 0 + count c (kids (graph_on a (nodes + 1) w) nodes) + one c nodes
  pub small : ceiling (incoming_in a w') ≤ ceiling (incoming_in a w) + (most_node_links + 1)

-- y, a node that is new, is to come behind x
pub record Inserting (a : Areas) (r x y : ℕ) (w : List ℕ) : Type 0 where
  pub graph : Stands a (y + 1) w
  pub order : OrderIds a y r w
  pub order-room : r < a.nodes
  pub once : Once (order_in a r w)
  pub placed : 0 < count x (order_in a r w)

pub record Inserted (a : Areas) (r x y : ℕ) (w w' : List ℕ) : Type 0 where
  pub kept : Kept a.order a.incoming w w'
  pub order-ids : OrderIds a (y + 1) (r + 1) w'
  pub order : order_in a (r + 1) w' ≡ beside x y (order_in a r w)
