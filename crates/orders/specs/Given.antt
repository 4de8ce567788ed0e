-- A test of a graph's words, which the checker computes.
use Rattle.std.specs.Prelude.{ℕ, zero, suc, ◌+◌, ◌*◌, ◌/◌, ◌<◌, ◌≡◌, List, [], ◌∷◌, ◌++◌, Bool, true, ◌&&◌, length, get_or, take, eqb, ltb, leb}
use Rattle.model_orders.specs.Object.{width_ok}
use Rattle.model_orders.specs.Words.{link_words}
use Rattle.model_orders.specs.Graph.{Acyclic}
use Rattle.work.specs.Areas.{areas_of, graph_words}
use Rattle.work.specs.Packed.{packed_words, most_half}
use Rattle.work.specs.declared.Areas.{Areas}
use Rattle.order_graph.specs.Graph.{graph_on, link_of, links_at, link_count, most_nodes, most_node_links, most_size, Stands}
use Rattle.orders.specs.declared.Graph.{Graph}

-- enough words for the largest of the graphs
abbrev pub space : ℕ
space = 96

-- two words in one, the first of both as the low half
abbrev pub packed : List ℕ → List ℕ
packed [] = []
packed (x ∷ []) = []
packed (x ∷ y ∷ ws) = (x + y * most_half) ∷ packed ws

-- the words of a node: its size, its first link, its count of links
abbrev pub node_words : ℕ
node_words = 3

abbrev pub all_below : ℕ → (ℕ → Bool) → Bool
all_below zero test = true
all_below (suc n) test = test n && all_below n test

abbrev pub tidy_link : Areas → List ℕ → ℕ → ℕ → Bool
tidy_link a f i t = width_ok (link_of a f i t).slot.width && ltb (link_of a f i t).child i

abbrev pub tidy_node : Areas → List ℕ → ℕ → Bool
tidy_node a f i =
    ltb (get_or f i 0) most_size
    && (leb (link_count a f i) most_node_links
    && (leb (links_at a f i + link_count a f i * packed_words) (length f)
    && all_below (link_count a f i) (tidy_link a f i)))

-- p nodes and k links, whose words are the whole list, with room for all areas in the work memory
abbrev pub given : ℕ → ℕ → List ℕ → Bool
given p k f =
    ltb 0 p && (leb p most_nodes && (eqb (length f) (graph_words p k) && (leb (areas_of p k 0).end space && all_below p (tidy_node (areas_of p k 0) f))))

-- the words of a named graph are those of a graph that can be shown
abbrev pub shown : Graph → Bool
shown g = given (length g.nodes.now / node_words) (length g.links.now / link_words) (g.nodes.now ++ packed g.links.now)

-- the words f stand in the memory from `at` on, and what was in front of them still does
pub record Loaded (f : List ℕ) (at : ℕ) (w w' : List ℕ) : Type 0 where
  pub long : length w' ≡ length w
  pub front : take (at + length f) w' ≡ take at w ++ f

-- a graph of as many nodes as the areas have room for; the last is the root
pub record Stood (a : Areas) (w : List ℕ) : Type 0 where
  pub graph : Stands a a.nodes w
  pub some : 0 < a.nodes
  pub falls : Acyclic (graph_on a a.nodes w)
