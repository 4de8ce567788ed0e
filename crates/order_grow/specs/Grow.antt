-- docs/RULES.md, 7.14, in the work memory: the graph grown by one node, which is as another, and one link led elsewhere.
use Rattle.std.specs.Prelude.{ℕ, ◌+◌, ◌*◌, ◌≤◌, ◌<◌, ◌≡◌, List, get_or, set, take}
use Rattle.regions.specs.Region.{Kept, Copying}
use Rattle.model_orders.specs.Copies.{lead_to}
use Rattle.work.specs.Packed.{packed_words}
use Rattle.work.specs.declared.Areas.{Areas}
use Rattle.order_graph.specs.Graph.{links_at, link_of, link_count, Stands, AtNode, AtLink, Taken, Parted}

-- ---- a node appended

-- node j in the words f' is as node i in the words f
pub record NodeAs (a : Areas) (f f' : List ℕ) (i j : ℕ) : Type 0 where
  pub size_is : get_or f' j 0 ≡ get_or f i 0
  pub count-is : link_count a f' j ≡ link_count a f i
  pub link-is : (t : ℕ) → t < link_count a f i → link_of a f' j t ≡ link_of a f i t

pub record Appending (a : Areas) (nodes links x : ℕ) (w : List ℕ) : Type 0 where
  pub node : AtNode a nodes x w
  pub node-room : nodes < a.nodes
  pub taken : Taken a nodes links w
  pub parted : Parted a nodes w
  pub link-room : a.links + (links + link_count a (take a.keys w) x) * packed_words ≤ a.keys

-- the words of x's links stand behind those of all others
abbrev pub LinksCopied : Areas → ℕ → ℕ → List ℕ → List ℕ → Type 0
LinksCopied a links x w w' =
    let n = link_count a (take a.keys w) x * packed_words in
    Copying (links_at a (take a.keys w) x) (a.links + links * packed_words) n n w w'

-- the three words of node i
abbrev pub node_set : Areas → ℕ → ℕ → ℕ → ℕ → List ℕ → List ℕ
node_set a i size first count w = set (set (set w i size) (a.firsts + i) first) (a.counts + i) count

-- the new node is as x, and the others are as they were
pub record NodeAppended (a : Areas) (nodes links x links' : ℕ) (w w' : List ℕ) : Type 0 where
  pub kept : Kept 0 a.keys w w'
  pub graph : Stands a (nodes + 1) w'
  pub others : (i : ℕ) → i < nodes → NodeAs a (take a.keys w) (take a.keys w') i i
  pub copy : NodeAs a (take a.keys w) (take a.keys w') x nodes
  pub links-is : links' ≡ links + link_count a (take a.keys w) x
  pub taken : Taken a (nodes + 1) links' w'
  pub parted : Parted a (nodes + 1) w'

-- ---- a link led elsewhere

pub record Leading (a : Areas) (n p t y : ℕ) (w : List ℕ) : Type 0 where
  pub link : AtLink a n p t w
  pub parted : Parted a n w
  pub known : y < n

-- link t of node p leads to y, and everything else is as it was
pub record LinkLed (a : Areas) (n p t y : ℕ) (w w' : List ℕ) : Type 0 where
  pub kept : Kept a.links a.keys w w'
  pub graph : Stands a n w'
  pub others : (i : ℕ) → i < n → (i ≡ p → ⊥) → NodeAs a (take a.keys w) (take a.keys w') i i
  pub led : link_of a (take a.keys w') p t ≡ lead_to y (link_of a (take a.keys w) p t)
  pub rest : (s : ℕ) → s < link_count a (take a.keys w) p → (s ≡ t → ⊥) → link_of a (take a.keys w') p s ≡ link_of a (take a.keys w) p s
