-- The graph in the first words of the work memory: sizes, first links, link counts, then the links, two words each. `f` is those words.
use Rattle.std.specs.Prelude.{ℕ, zero, suc, ◌+◌, ◌*◌, ◌-◌, ◌≤◌, ◌<◌, min, ◌≡◌, List, [], ◌∷◌, true, length, get_or, take, ltb}
use Rattle.lists.specs.Lists.{pick}
use Rattle.answer.specs.declared.ObjectId.{ObjectId}
use Rattle.model_orders.specs.Object.{Link, widest, width_ok}
use Rattle.model_orders.specs.Words.{link_of_words}
use Rattle.model_orders.specs.Graph.{Graph, waits, Rooted}
use Rattle.model_orders.specs.Distance.{weight}
use Rattle.work.specs.Areas.{Apart}
use Rattle.work.specs.Packed.{packed_words, packed_at}
use Rattle.work.specs.Views.{incoming_in, origin_in}
use Rattle.work.specs.declared.Areas.{Areas}
use Rattle.order_graph.specs.declared.Field.{Field}

-- the links whose words begin at index j, k of them
unfoldable pub links_from : List ℕ → ℕ → ℕ → List Link
links_from f j zero = []
links_from f j (suc k) = packed_at f j ∷ links_from f (j + packed_words) k

-- where the links of a node begin, and how many it has
abbrev pub links_at : Areas → List ℕ → ℕ → ℕ
links_at a f i = a.links + get_or f (a.firsts + i) 0 * packed_words

abbrev pub link_count : Areas → List ℕ → ℕ → ℕ
link_count a f i = get_or f (a.counts + i) 0

abbrev pub link_of : Areas → List ℕ → ℕ → ℕ → Link
link_of a f i t = packed_at f (links_at a f i + t * packed_words)

-- the links of node i from the one with number t on
abbrev pub links_after : Areas → List ℕ → ℕ → ℕ → List Link
links_after a f i t = links_from f (links_at a f i + t * packed_words) (link_count a f i - t)

-- n nodes; past them nothing
abbrev pub graph_in : Areas → ℕ → List ℕ → Graph
graph_in a n f = record { size = λ i. pick (ltb i n) (get_or f i 0) 0; links = λ i. pick (ltb i n) (links_after a f i 0) [] }

-- the graph of n nodes in front of the work memory w
abbrev pub graph_on : Areas → ℕ → List ℕ → Graph
graph_on a n w = graph_in a n (take a.keys w)

-- the id of object i
abbrev pub object_of : ℕ → ObjectId
object_of i = record { 0 = i }

-- ---- numbers that the arithmetic leans on

-- room for at most so many nodes: far more than the object limit can be
abbrev pub most_nodes : ℕ
most_nodes = 32768

-- a node has at most so many links: far more than the link limit can be
abbrev pub most_node_links : ℕ
most_node_links = 16777216

-- a size is less than this: what a word of the record store can hold
abbrev pub most_size : ℕ
most_size = 4294967296

-- a link weighs less than this: a size and the capacity of the widest field
abbrev pub most_weight : ℕ
most_weight = 8589934592

-- the links of node i lie in the graph's words, have a known width, and go to other nodes of the n
pub record TidyNode (a : Areas) (n : ℕ) (f : List ℕ) (i : ℕ) : Type 0 where
  pub few : link_count a f i ≤ most_node_links
  pub within : links_at a f i + link_count a f i * packed_words ≤ a.keys
  pub wide : (t : ℕ) → t < link_count a f i → width_ok (link_of a f i t).slot.width ≡ true
  pub known : (t : ℕ) → t < link_count a f i → (link_of a f i t).child < n

-- n nodes, with room for them
pub record Tidy (a : Areas) (n : ℕ) (f : List ℕ) : Type 0 where
  pub nodes : n ≤ a.nodes
  pub limit : a.nodes ≤ most_nodes
  pub light : (i : ℕ) → i < n → get_or f i 0 < most_size
  pub node : (i : ℕ) → i < n → TidyNode a n f i

-- the graph stands in front of the work memory w, which has all areas
pub record Stands (a : Areas) (n : ℕ) (w : List ℕ) : Type 0 where
  pub apart : Apart a
  pub long : a.end ≤ length w
  pub tidy : Tidy a n (take a.keys w)

-- the nodes to place from a root, and how many of their fields lead to each node
pub record Counted (a : Areas) (n root : ℕ) (nodes w : List ℕ) : Type 0 where
  pub rooted : Rooted (graph_on a n w) nodes root
  pub incoming : (c : ℕ) → get_or (incoming_in a w) c 0 ≡ waits (graph_on a n w) nodes c

-- the number of a node's first link
abbrev pub first_link : Areas → List ℕ → ℕ → ℕ
first_link a f i = get_or f (a.firsts + i) 0

-- the links of every node are among the first ones
abbrev pub Taken : Areas → ℕ → ℕ → List ℕ → Type 0
Taken a n links w = (i : ℕ) → i < n → first_link a (take a.keys w) i + link_count a (take a.keys w) i ≤ links

-- no two nodes have a link in common
abbrev pub Parted : Areas → ℕ → List ℕ → Type 0
Parted a n w =
    (i j s t : ℕ) → i < n → j < n → s < link_count a (take a.keys w) i → t < link_count a (take a.keys w) j
    → first_link a (take a.keys w) i + s ≡ first_link a (take a.keys w) j + t → i ≡ j

-- every node's object is one of the first n, and each copy's has a word
pub record Owned (a : Areas) (n nodes : ℕ) (w : List ℕ) : Type 0 where
  pub room : nodes ≤ n + a.copies
  pub object : (i : ℕ) → i < nodes → origin_in a n w i < n

-- what is asked to read the object of node i
pub record HasOrigin (a : Areas) (n i : ℕ) (w : List ℕ) : Type 0 where
  pub apart : Apart a
  pub long : a.end ≤ length w
  pub room : i < n + a.copies

-- ---- what is asked to read node i, and link t of it

pub record AtNode (a : Areas) (n i : ℕ) (w : List ℕ) : Type 0 where
  pub graph : Stands a n w
  pub inside : i < n

pub record AtLink (a : Areas) (n i t : ℕ) (w : List ℕ) : Type 0 where
  pub node : AtNode a n i w
  pub some : t < link_count a (take a.keys w) i

-- the same where the words of node i's links are known to begin at `from`
pub record FromLink (a : Areas) (n i t from : ℕ) (w : List ℕ) : Type 0 where
  pub link : AtLink a n i t w
  pub begins : from ≡ links_at a (take a.keys w) i

-- the link that a field was read as
abbrev pub link_by : Field → Link
link_by f = link_of_words f.at f.width f.inner f.child

-- l is link t of node i
pub record FieldOf (a : Areas) (n : ℕ) (f : List ℕ) (i t : ℕ) (l : Link) : Type 0 where
  pub is : l ≡ link_of a f i t
  pub narrow : l.slot.width ≤ widest
  pub known : l.child < n

-- its child and its weight
pub record EdgeOf (a : Areas) (n : ℕ) (f : List ℕ) (i t child weigh : ℕ) : Type 0 where
  pub child-is : child ≡ (link_of a f i t).child
  pub known : child < n
  pub weight_is : weigh ≡ weight (graph_in a n f) (link_of a f i t)
  pub light : weigh < most_weight

-- ---- links in a row

-- the links from number t up to `end` lead to one child, and the narrowest of them is of this width: one link, or a row and the link behind it
pub data Row (a : Areas) (n : ℕ) (f : List ℕ) (i t : ℕ) : (end child width : ℕ) → Type 0 where
  one : {end child width : ℕ} {l : Link} → FieldOf a n f i t l → end ≡ t + 1 → child ≡ l.child → width ≡ l.slot.width → Row a n f i t end child width
  more : {last end child least width : ℕ} {l : Link} → Row a n f i t last child least → FieldOf a n f i last l → end ≡ last + 1 → child ≡ l.child
      → width ≡ min least l.slot.width → Row a n f i t end child width

pub record RunFrom (a : Areas) (n : ℕ) (f : List ℕ) (i t end child width : ℕ) : Type 0 where
  pub some : t < end
  pub most : end ≤ link_count a f i
  pub known : child < n
  pub narrow : width ≤ widest
  pub row : Row a n f i t end child width
