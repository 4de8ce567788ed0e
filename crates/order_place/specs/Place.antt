-- docs/RULES.md, 7.2 to 7.4, in the work memory: from the root on the ready node of least key is placed, the longest ready of equal ones, until none is left.
use Rattle.std.specs.Prelude.{ℕ, ◌≤◌, ◌<◌, ◌≡◌, List, [], ◌∷◌}
use Rattle.regions.specs.Region.{region, ceiling, Kept}
use Rattle.model_orders.specs.Order.{order_of}
use Rattle.work.specs.declared.Areas.{Areas}
use Rattle.work.specs.Views.{waiting_in, order_in, incoming_in}
use Rattle.order_graph.specs.Graph.{Stands, graph_on, Counted}
use Rattle.order_release.specs.Release.{Arriving}
use Rattle.order_ready.specs.Ready.{Holds, SmallKeys}

-- ---- what is asked, and what comes of it

-- a root, and nodes to place from it
pub record Starting (a : Areas) (n root : ℕ) (w : List ℕ) : Type 0 where
  pub graph : Stands a n w
  pub inside : root < n
  pub nodes : List ℕ
  pub counted : Counted a n root nodes w

-- r nodes, all of the n
pub record OrderIds (a : Areas) (n r : ℕ) (w : List ℕ) : Type 0 where
  pub few : r ≤ a.nodes
  pub ids : ceiling (order_in a r w) ≤ n

-- the order by the keys. The counts say which nodes are to be placed, so that it is the order of any list of them
pub record OrderFound (a : Areas) (n root : ℕ) (key : ℕ → ℕ) (r : ℕ) (w w' : List ℕ) : Type 0 where
  pub kept : Kept a.waiting a.incoming w w'
  pub nodes : OrderIds a n r w'
  pub order : (nodes : List ℕ) → Counted a n root nodes w → order_in a r w' ≡ order_of key (graph_on a n w) nodes root

-- one key for all
abbrev pub same_key : ℕ → ℕ
same_key i = 0

-- ---- the start: every node waits for its incoming fields, and the root alone has become ready

pub record Begun (a : Areas) (at root : ℕ) (w w' : List ℕ) : Type 0 where
  pub kept : Kept a.waiting a.incoming w w'
  pub counts : waiting_in a w' ≡ incoming_in a w
  pub first : region at 1 w' ≡ root ∷ []

-- the same of the memory as it is then
pub record RootReady (a : Areas) (at n root : ℕ) (w : List ℕ) : Type 0 where
  pub start : Starting a n root w
  pub area : Arriving a at
  pub counts : waiting_in a w ≡ incoming_in a w
  pub first : region at 1 w ≡ root ∷ []

-- ---- the ready nodes in a heap: k are left of the m that became ready

-- the root alone became ready, and is in the heap
pub record RootInHeap (a : Areas) (n root : ℕ) (w : List ℕ) : Type 0 where
  pub ready : RootReady a a.arrived n root w
  pub small : SmallKeys a w
  pub holds : Holds a 1 1 (root ∷ []) w
