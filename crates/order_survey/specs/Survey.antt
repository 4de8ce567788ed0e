-- docs/RULES.md, 7.1 and 7.4, in the work memory. Once for a root: the line of the nodes that it reaches, parents before their children; how many
-- fields of those lead to each node; and the length of the table. Along such a line: the distances.
use Rattle.std.specs.Prelude.{ℕ, zero, suc, ◌+◌, ◌*◌, ◌≤◌, ◌<◌, min, ◌≡◌, List, [], ◌∷◌, ◌++◌, get_or, set, take, replicate, eqb}
use Rattle.regions.specs.Region.{ceiling, Kept}
use Rattle.lists.specs.Lists.{pick}
use Rattle.big_endian.specs.BigEndian.{capacity}
use Rattle.model_orders.specs.Object.{Link, widest}
use Rattle.model_orders.specs.Bag.{count}
use Rattle.model_orders.specs.Graph.{Graph, reached, Ranked, ParentsFirst}
use Rattle.model_orders.specs.Distance.{weight, Least, relax, relax_all, distances_by}
use Rattle.model_orders.specs.Table.{table_length}
use Rattle.work.specs.declared.Areas.{Areas}
use Rattle.work.specs.Views.{line_in, incoming_in, distances_in}
use Rattle.order_graph.specs.Graph.{graph_in, graph_on, links_after, link_count, most_nodes, most_node_links, most_weight, Stands, AtNode, Counted}

-- ---- the line, and the incoming fields

-- the line so far, and how many fields of the nodes in it lead to each node
pub record Lined : Type 0 where
  pub line : List ℕ
  pub incoming : List ℕ

unfoldable pub counted_all : List Link → List ℕ → List ℕ
counted_all [] cs = cs
counted_all (l ∷ ls) cs = counted_all ls (set cs l.child (get_or cs l.child 0 + 1))

abbrev pub joined : Graph → ℕ → Lined → Lined
joined g i s = record { line = s.line ++ (i ∷ []); incoming = counted_all (g.links i) s.incoming }

-- the nodes below i, the highest first: each that a field leads to joins the line
unfoldable pub lined : Graph → ℕ → Lined → Lined
lined g zero s = s
lined g (suc i) s = lined g i (pick (eqb (get_or s.incoming i 0) 0) s (joined g i s))

-- at first only the root counts as led to
abbrev pub unlined : ℕ → ℕ → Lined
unlined nodes root = record { line = []; incoming = set (replicate nodes 0) root 1 }

abbrev pub lined_of : Areas → ℕ → List ℕ → Lined
lined_of a r w = record { line = line_in a r w; incoming = incoming_in a w }

-- ---- what the steps ask and do

-- beyond any distance: a path has fewer links than there are nodes, at most most_nodes, 2^15, each of less than most_weight, 2^33
abbrev pub far_away : ℕ
far_away = 281474976710656

-- the fields of node i
pub record Counting (a : Areas) (n i : ℕ) (w : List ℕ) : Type 0 where
  pub node : AtNode a n i w
  pub small : ceiling (incoming_in a w) + most_node_links ≤ far_away

pub record CountedAll (a : Areas) (n i : ℕ) (w w' : List ℕ) : Type 0 where
  pub kept : Kept a.incoming a.distances w w'
  pub incoming : incoming_in a w' ≡ counted_all ((graph_on a n w).links i) (incoming_in a w)
  pub bound : ceiling (incoming_in a w') ≤ ceiling (incoming_in a w) + most_node_links

-- counts that leave room for those of all nodes
pub record Lining (a : Areas) (n root : ℕ) (w : List ℕ) : Type 0 where
  pub node : AtNode a n root w
  pub small : ceiling (incoming_in a w) + most_nodes * most_node_links ≤ far_away

-- r nodes stand in the line, which was found from s
pub record LineFound (a : Areas) (n root r : ℕ) (s : Lined) (w w' : List ℕ) : Type 0 where
  pub kept : Kept a.line a.distances w w'
  pub few : r ≤ a.nodes
  pub ids : ceiling (line_in a r w') ≤ n
  pub found : lined_of a r w' ≡ lined (graph_on a n w) (root + 1) s
  pub small : ceiling (incoming_in a w') ≤ ceiling s.incoming + most_nodes * most_node_links

-- the links from number t up to `end` lead to one child, and lower its distance as one link of this weight does
pub record RunOf (a : Areas) (n : ℕ) (f : List ℕ) (i t end child weigh : ℕ) : Type 0 where
  pub more : t < end
  pub most : end ≤ link_count a f i
  pub known : child < n
  pub light : weigh < most_weight
  pub lowers :
      (d : ℕ) (ds : List ℕ)
      → relax far_away (weight (graph_in a n f)) d (links_after a f i t) ds
      ≡ relax far_away (weight (graph_in a n f)) d (links_after a f i end) (set ds child (min (get_or ds child far_away) (d + weigh)))

-- the weight is that of a link of this width
pub record Narrows (a : Areas) (n : ℕ) (w : List ℕ) (i t end child width : ℕ) : Type 0 where
  pub run : RunOf a n (take a.keys w) i t end child (get_or w child 0 + capacity width)
  pub narrow : width ≤ widest

-- the links of node i, whose distance is d, taken up in the distances
pub record Lowering (a : Areas) (n i d : ℕ) (w : List ℕ) : Type 0 where
  pub node : AtNode a n i w
  pub near : d ≤ far_away

pub record Lowered (a : Areas) (n i d : ℕ) (w w' : List ℕ) : Type 0 where
  pub kept : Kept a.distances a.spaces w w'
  pub distances : distances_in a w' ≡ relax far_away (weight (graph_on a n w)) d ((graph_on a n w).links i) (distances_in a w)
  pub bound : ceiling (distances_in a w') ≤ ceiling (distances_in a w)

-- along a line of r nodes
pub record Along (a : Areas) (n r : ℕ) (w : List ℕ) : Type 0 where
  pub graph : Stands a n w
  pub few : r ≤ a.nodes
  pub ids : ceiling (line_in a r w) ≤ n

pub record LoweredAlong (a : Areas) (n r : ℕ) (w w' : List ℕ) : Type 0 where
  pub kept : Kept a.distances a.spaces w w'
  pub distances : distances_in a w' ≡ relax_all far_away (weight (graph_on a n w)) (graph_on a n w) (line_in a r w) (distances_in a w)
  pub near : ceiling (distances_in a w') ≤ far_away + 1

pub record DistancesSet (a : Areas) (n root r : ℕ) (w w' : List ℕ) : Type 0 where
  pub kept : Kept a.distances a.spaces w w'
  pub distances : distances_in a w' ≡ distances_by far_away (weight (graph_on a n w)) (graph_on a n w) (line_in a r w) a.nodes root
  pub near : ceiling (distances_in a w') ≤ far_away + 1

-- ---- the whole, by the model's definitions. What the orders lean on is that the nodes to place from the root are all there, and that children
-- rank below their parents

pub record Surveyed (a : Areas) (n root : ℕ) (nodes w : List ℕ) : Type 0 where
  pub graph : Stands a n w
  pub inside : root < n
  pub rank : ℕ → ℕ
  pub ranked : Ranked rank (graph_on a n w)
  pub low : rank root < most_nodes
  pub counted : Counted a n root nodes w

-- no count is past what all fields of all nodes come to
abbrev pub FewIncoming : Areas → List ℕ → Type 0
FewIncoming a w = ceiling (incoming_in a w) ≤ most_nodes * most_node_links + 2

pub record Measured (a : Areas) (n root length : ℕ) (w w' : List ℕ) : Type 0 where
  pub kept : Kept a.line a.distances w w'
  pub surveyed : Surveyed a n root (reached (graph_on a n w) root) w'
  pub size : length ≡ table_length (graph_on a n w) root
  pub small : FewIncoming a w'

-- ---- the distances, along any line of nodes from the root that has parents before their children

pub record Lines (a : Areas) (n root r : ℕ) (w : List ℕ) : Type 0 where
  pub surveyed : Surveyed a n root (line_in a r w) w
  pub few : r ≤ a.nodes
  pub ids : ceiling (line_in a r w) ≤ n
  pub first : ParentsFirst (graph_on a n w) (line_in a r w)

-- the least sum to each of the nodes, and no word of theirs is past `far_away`
pub record Distanced (a : Areas) (n root : ℕ) (nodes w : List ℕ) : Type 0 where
  pub sums : (c : ℕ) → 0 < count c nodes → Least (graph_on a n w) (weight (graph_on a n w)) root c (get_or (distances_in a w) c 0)
  pub near : ceiling (distances_in a w) ≤ far_away + 1

pub record DistancesFound (a : Areas) (n root r : ℕ) (w w' : List ℕ) : Type 0 where
  pub kept : Kept a.distances a.spaces w w'
  pub distanced : Distanced a n root (line_in a r w) w'
