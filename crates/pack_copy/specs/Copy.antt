-- docs/RULES.md, 5.8: the closed objects of a session, as pack reads them, as a graph in the work memory.
use Rattle.std.specs.Prelude.{ℕ, ◌+◌, ◌-◌, ◌*◌, ◌≤◌, ◌<◌, ◌≡◌, List, length, get_or}
use Rattle.regions.specs.Region.{Kept}
use Rattle.model_orders.specs.Graph.{graph_of, Acyclic}
use Rattle.model.specs.Judge.{most_copies}
use Rattle.layout.specs.Words.{object_limit, link_limit, links_at}
use Rattle.layout.specs.Spans.{closed_span}
use Rattle.layout.specs.Decode.{decode}
use Rattle.layout.specs.Known.{WordsRead}
use Rattle.layout.specs.declared.state.State.{State}
use Rattle.work.specs.Areas.{Apart}
use Rattle.work.specs.Packed.{packed_words, Halves}
use Rattle.work.specs.declared.Areas.{Areas}
use Rattle.order_graph.specs.Graph.{graph_on, Stands, Taken, Parted}

-- areas for as many objects and links as the session's limits allow, and for copies
pub record AreasFor (w : List ℕ) (a : Areas) : Type 0 where
  pub apart : Apart a
  pub few : a.copies ≤ most_copies
  pub nodes : a.nodes ≡ object_limit w + a.copies
  pub words : a.keys ≡ a.links + (link_limit w + a.copies * link_limit w) * packed_words

-- the closed objects' graph, of n nodes, stands in front of the work memory m
pub record Standing (b w : List ℕ) (a : Areas) (n : ℕ) (m : List ℕ) : Type 0 where
  pub graph : Stands a n m
  pub same : graph_on a n m ≡ graph_of (decode b w).closed
  pub falls : Acyclic (graph_on a n m)
  pub taken : Taken a n (link_limit w) m
  pub parted : Parted a n m

-- what the copy asks, of the record store alone
pub record Copyable (w : List ℕ) (s : State) (a : Areas) (m : List ℕ) : Type 0 where
  pub read : WordsRead w s
  pub areas : AreasFor w a
  pub long : a.end ≤ length m

-- closed object i's size, first link and link count, by where it lies
pub record NodeOf (w : List ℕ) (i size first count : ℕ) : Type 0 where
  pub size_is : size ≡ (closed_span w i).to - (closed_span w i).from
  pub first-is : first ≡ (closed_span w i).first
  pub count-is : count ≡ (closed_span w i).last - (closed_span w i).first

-- the words of the first n closed objects stand in m
abbrev pub NodesIn : Areas → ℕ → List ℕ → List ℕ → Type 0
NodesIn a n w m = (i : ℕ) → i < n → NodeOf w i (get_or m i 0) (get_or m (a.firsts + i) 0) (get_or m (a.counts + i) 0)

-- n words of m from j on are the words of w from i on, two in one
abbrev pub Packs : List ℕ → ℕ → List ℕ → ℕ → ℕ → Type 0
Packs w i m j n = (t : ℕ) → t < n → Halves (get_or w (i + t * 2) 0) (get_or w (i + t * 2 + 1) 0) (get_or m (j + t) 0)

-- the first n words of the links stand in m
abbrev pub LinksIn : Areas → ℕ → List ℕ → List ℕ → Type 0
LinksIn a n w m = Packs w (links_at w) m a.links n

-- m became m', and no other words change
pub record Copied (w : List ℕ) (s : State) (a : Areas) (m m' : List ℕ) : Type 0 where
  pub kept : Kept 0 a.keys m m'
  pub nodes : NodesIn a s.closed w m'
  pub links : LinksIn a (s.links * packed_words) w m'

-- ---- the two parts of the copy

pub record NodesCopied (a : Areas) (n : ℕ) (w m m' : List ℕ) : Type 0 where
  pub kept : Kept 0 a.links m m'
  pub node : NodesIn a n w m'

pub record LinksCopied (a : Areas) (n : ℕ) (w m m' : List ℕ) : Type 0 where
  pub kept : Kept a.links a.keys m m'
  pub words : LinksIn a n w m'
