-- docs/RULES.md, 7.9 and 7.13 to 7.17, in the work memory: what the orders come to, with copies made while the last one does not fit. The first n nodes are
-- objects.
use Rattle.std.specs.Prelude.{ℕ, ◌+◌, ◌-◌, ◌*◌, ◌≤◌, ◌<◌, ◌≡◌, List, Bool, false, length, get_or, eqb, ltb, Ok, Err}
use Rattle.lists.specs.Lists.{pick}
use Rattle.regions.specs.Region.{ceiling, Kept}
use Rattle.answer.specs.declared.Overflow.{Overflow}
use Rattle.model_orders.specs.Bag.{count}
use Rattle.model_orders.specs.Graph.{Graph, reached, Acyclic}
use Rattle.model_orders.specs.Space.{space_in}
use Rattle.model_orders.specs.Table.{Outcome, placed, overflow, place_of, table_length}
use Rattle.model_orders.specs.Copies.{ungrown, Arrangement, resolve, length_of}
use Rattle.work.specs.Packed.{packed_words}
use Rattle.work.specs.Views.{order_in, places_in, incoming_in, spaces_in, origin_in}
use Rattle.work.specs.declared.Areas.{Areas}
use Rattle.order_graph.specs.Graph.{graph_on, most_nodes, Stands, Taken, Parted, Owned, object_of}
use Rattle.order_survey.specs.Survey.{Surveyed, Distanced, FewIncoming}
use Rattle.order_place.specs.Place.{OrderIds}
use Rattle.order_fit.specs.Fit.{Look}
use Rattle.order_copies.specs.Copy.{child_in}
use Rattle.order_resolve.specs.declared.Objects.{Objects}
use Rattle.order_resolve.specs.declared.Arranged.{Arranged}

-- ---- what is asked

-- room for so many copies, each with as many links as the graph has
pub record CopyRoom (a : Areas) (n links copies : ℕ) : Type 0 where
  pub node-room : n + copies ≤ a.nodes
  pub copy-room : copies ≤ a.copies
  pub link-room : a.links + (links + copies * links) * packed_words ≤ a.keys

-- the objects' graph, surveyed from the root; its links are the first ones
pub record Arranging (a : Areas) (o : Objects) (w : List ℕ) : Type 0 where
  pub surveyed : Surveyed a o.nodes o.root (reached (graph_on a o.nodes w) o.root) w
  pub acyclic : Acyclic (graph_on a o.nodes w)
  pub size_is : o.size ≡ table_length (graph_on a o.nodes w) o.root
  pub taken : Taken a o.nodes o.links w
  pub parted : Parted a o.nodes w
  pub room : CopyRoom a o.nodes o.links o.copies
  pub small : FewIncoming a w

-- what is known besides once the kahn order has failed: the distances; once the shortest-distance order has: the spaces
abbrev pub Distances : Areas → ℕ → ℕ → List ℕ → Type 0
Distances a n root w = Distanced a n root (reached (graph_on a n w) root) w

pub record Spaces (a : Areas) (n root : ℕ) (w : List ℕ) : Type 0 where
  pub numbers : (i : ℕ) → 0 < count i (reached (graph_on a n w) root) → get_or (spaces_in a w) i 0 ≡ space_in (graph_on a n w) root i
  pub few : ceiling (spaces_in a w) ≤ most_nodes

-- ---- a link that does not fit

-- told of the object that has it
abbrev pub told_in : Areas → ℕ → List ℕ → Overflow → Overflow
told_in a n w u = record { parent = object_of (origin_in a n w u.parent.0); field = u.field; needed = u.needed }

-- a copy is left, and another link leads to its child
abbrev pub can_copy : Areas → ℕ → List ℕ → Overflow → ℕ → Bool
can_copy a nodes w u left = pick (eqb left 0) false (ltb 1 (get_or (incoming_in a w) (child_in a nodes w u.parent.0 u.field) 0))

-- ---- what is done

abbrev pub look_in : Outcome → Look
look_in (placed o) = Ok tt
look_in (overflow u) = Err u

-- order o of graph g, of r of the nodes, stands in the memory with its places
pub record PlacedIn (a : Areas) (g : Graph) (o : List ℕ) (nodes r : ℕ) (w : List ℕ) : Type 0 where
  pub ids : OrderIds a nodes r w
  pub order : order_in a r w ≡ o
  pub places : (i : ℕ) → 0 < count i o → get_or (places_in a w) i 0 ≡ place_of g o i

-- c came out, as r tells: its graph with the copies stands in the memory, and where every link fits its order does
pub record ArrangedIn (a : Areas) (n : ℕ) (c : Arrangement) (r : Arranged) (w : List ℕ) : Type 0 where
  pub graph : Stands a r.nodes w
  pub same : graph_on a r.nodes w ≡ c.grown.graph
  pub base : n ≤ r.nodes
  pub owned : Owned a n r.nodes w
  pub origins : (i : ℕ) → i < r.nodes → origin_in a n w i ≡ c.grown.origin i
  pub made : length c.grown.copies ≡ r.nodes - n
  pub length-is : r.length ≡ length_of c
  pub told : r.look ≡ look_in c.outcome
  pub fitting : (o : List ℕ) → c.outcome ≡ placed o → PlacedIn a c.grown.graph o r.nodes r.placed w

pub record Arranges (a : Areas) (n : ℕ) (c : Arrangement) (r : Arranged) (w w' : List ℕ) : Type 0 where
  pub kept : Kept 0 a.end w w'
  pub done : ArrangedIn a n c r w'

-- what is to come out by the order by spaces
abbrev pub by_spaces : ℕ → Graph → ℕ → ℕ → Arrangement
by_spaces copies g n root = resolve (space_in g root) root copies (ungrown g n root)
