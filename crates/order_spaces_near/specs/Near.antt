-- docs/RULES.md, 7.10, in the work memory: each node's position in an order of r nodes that stands there, and position 0 for all of space 0. Between two
-- orders the area of positions is free.
use Rattle.std.specs.Prelude.{ℕ, ◌+◌, ◌≤◌, ◌<◌, ◌≡◌, List, [], ◌∷◌, ◌++◌, Bool, get_or, set, replicate, eqb, ltb}
use Rattle.lists.specs.Lists.{pick}
use Rattle.regions.specs.Region.{ceiling, Kept}
use Rattle.model_orders.specs.Graph.{Graph, Once}
use Rattle.model_orders.specs.Space.{narrow_of, narrow_kids}
use Rattle.work.specs.Views.{order_in, spots_in}
use Rattle.work.specs.declared.Areas.{Areas}
use Rattle.order_graph.specs.Graph.{link_count, links_after, graph_on, Stands}

-- ---- positions

-- the positions of the nodes of a list, from t on
unfoldable pub spots_from : List ℕ → ℕ → List ℕ → List ℕ
spots_from [] t s = s
spots_from (x ∷ o) t s = spots_from o (t + 1) (set s x t)

-- the nodes of a list at position 0
unfoldable pub cleared : List ℕ → List ℕ → List ℕ
cleared [] s = s
cleared (c ∷ cs) s = cleared cs (set s c 0)

-- along a list, with every node at position 0, its children by narrow links
unfoldable pub cleared_all : Graph → List ℕ → List ℕ → List ℕ
cleared_all g [] s = s
cleared_all g (x ∷ o) s = cleared_all g o (pick (eqb (get_or s x 0) 0) (cleared (narrow_kids g x) s) s)

-- ---- links in a row

-- the links from number t up to `end` lead to one child, and so many of them are narrow: some, or none
pub record RunOf (a : Areas) (n : ℕ) (f : List ℕ) (i t end child : ℕ) (narrows : Bool) : Type 0 where
  pub more : t < end
  pub most : end ≤ link_count a f i
  pub known : child < n
  pub times : ℕ
  pub some : narrows ≡ ltb 0 times
  pub kids : narrow_of (links_after a f i t) ≡ replicate times child ++ narrow_of (links_after a f i end)

-- ---- what the steps ask

-- an order of r of the n nodes, each once
pub record Ordered (a : Areas) (n r : ℕ) (w : List ℕ) : Type 0 where
  pub graph : Stands a n w
  pub some : 0 < r
  pub few : r ≤ a.nodes
  pub ids : ceiling (order_in a r w) ≤ n
  pub once : Once (order_in a r w)

-- ---- what the steps do

pub record SpottedAlong (a : Areas) (r : ℕ) (w w' : List ℕ) : Type 0 where
  pub kept : Kept a.spots a.waiting w w'
  pub spots : spots_in a w' ≡ spots_from (order_in a r w) 0 (spots_in a w)

pub record SpotsSet (a : Areas) (r : ℕ) (w w' : List ℕ) : Type 0 where
  pub kept : Kept a.spots a.waiting w w'
  pub spots : spots_in a w' ≡ spots_from (order_in a r w) 0 (replicate a.nodes 0)

pub record ClearedLinks (a : Areas) (n i : ℕ) (w w' : List ℕ) : Type 0 where
  pub kept : Kept a.spots a.waiting w w'
  pub spots : spots_in a w' ≡ cleared (narrow_kids (graph_on a n w) i) (spots_in a w)

pub record ClearedAlong (a : Areas) (n r : ℕ) (w w' : List ℕ) : Type 0 where
  pub kept : Kept a.spots a.waiting w w'
  pub spots : spots_in a w' ≡ cleared_all (graph_on a n w) (order_in a r w) (spots_in a w)

pub record Marked (a : Areas) (n r : ℕ) (w w' : List ℕ) : Type 0 where
  pub kept : Kept a.spots a.waiting w w'
  pub spots : spots_in a w' ≡ cleared_all (graph_on a n w) (order_in a r w) (spots_from (order_in a r w) 0 (replicate a.nodes 0))
