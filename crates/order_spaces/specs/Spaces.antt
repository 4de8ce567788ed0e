-- docs/RULES.md, 7.10 and 7.11, in the work memory: the number of each node's space, over an order of r nodes that stands there.
use Rattle.std.specs.Prelude.{ℕ, ◌≤◌, ◌<◌, ◌≡◌, List, get_or, eqb}
use Rattle.lists.specs.Lists.{pick}
use Rattle.regions.specs.Region.{ceiling, Kept}
use Rattle.model_orders.specs.Bag.{count}
use Rattle.model_orders.specs.Labels.{numbers}
use Rattle.model_orders.specs.Space.{space_of, Sorted}
use Rattle.work.specs.Views.{order_in, bosses_in, spaces_in}
use Rattle.work.specs.declared.Areas.{Areas}
use Rattle.order_graph.specs.Graph.{graph_on, Stands}
use Rattle.order_merge.specs.Bosses.{roots, Falls}
use Rattle.order_spaces_near.specs.Near.{Ordered}

-- ---- a number: bosses b, an order o, the numbers so far ns

-- the number of position t: the next one if it is its own boss, else that of its boss's node
abbrev pub number_by : List ℕ → List ℕ → List ℕ → ℕ → ℕ → ℕ
number_by b o ns t next = pick (eqb (get_or b t 0) t) next (get_or ns (get_or o (get_or b t 0) 0) 0)

-- ---- what the steps ask

pub record Bossed (a : Areas) (n r : ℕ) (w : List ℕ) : Type 0 where
  pub ordered : Ordered a n r w
  pub falls : Falls (bosses_in a r w)

pub record Numbering (a : Areas) (n r : ℕ) (w : List ℕ) : Type 0 where
  pub bossed : Bossed a n r w
  pub small : ceiling (spaces_in a w) ≤ r

-- ---- what the steps do

pub record NumberedAlong (a : Areas) (r : ℕ) (w w' : List ℕ) : Type 0 where
  pub kept : Kept a.spaces a.origins w w'
  pub small : ceiling (spaces_in a w') ≤ r
  pub numbers : (t : ℕ) → t < r → get_or (spaces_in a w') (get_or (order_in a r w) t 0) 0 ≡ get_or (numbers (roots (bosses_in a r w))) t 0

-- ---- the whole, by the model's definitions

-- an order from the root, parents before their children
pub record Spacing (a : Areas) (n r root : ℕ) (w : List ℕ) : Type 0 where
  pub graph : Stands a n w
  pub few : r ≤ a.nodes
  pub ids : ceiling (order_in a r w) ≤ n
  pub sorted : Sorted (graph_on a n w) (order_in a r w) root

-- the number of each node's space, and no word there more than there are nodes; the order stands, and all behind it but those numbers
pub record Spaced (a : Areas) (n r root : ℕ) (w w' : List ℕ) : Type 0 where
  pub between : List ℕ
  pub kept : Kept a.spots a.order w between
  pub only : Kept a.spaces a.origins between w'
  pub small : ceiling (spaces_in a w') ≤ r
  pub numbers : (x : ℕ) → 0 < count x (order_in a r w) → get_or (spaces_in a w') x 0 ≡ space_of (graph_on a n w) (order_in a r w) root x
