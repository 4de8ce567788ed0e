-- docs/RULES.md, 7.2, in the work memory: the links of a placed node taken off, and the nodes that become ready by it, one behind the other.
use Rattle.std.specs.Prelude.{ℕ, ◌+◌, ◌-◌, ◌≤◌, ◌<◌, ◌≡◌, List, [], ◌∷◌, ◌++◌, length, get_or, set, eqb}
use Rattle.regions.specs.Region.{region, ceiling, Kept}
use Rattle.lists.specs.Lists.{pick}
use Rattle.model_orders.specs.Object.{Link}
use Rattle.work.specs.Areas.{Apart}
use Rattle.work.specs.Views.{waiting_in}
use Rattle.work.specs.declared.Areas.{Areas}
use Rattle.order_graph.specs.Graph.{Stands, graph_on}

-- how many links each node waits for, and which nodes have come to wait for none, the longest ready first
pub record Arrivals : Type 0 where
  pub counts : List ℕ
  pub arrived : List ℕ

-- a parent of c is placed: one incoming link less, and c is ready if it was the last
abbrev pub released : ℕ → Arrivals → Arrivals
released c s =
    record { counts = set s.counts c (get_or s.counts c 0 - 1); arrived = pick (eqb (get_or s.counts c 0) 1) (s.arrived ++ (c ∷ [])) s.arrived }

unfoldable pub released_all : List Link → Arrivals → Arrivals
released_all [] s = s
released_all (l ∷ ls) s = released_all ls (released l.child s)

-- how many nodes wait for a parent
unfoldable pub waiting : List ℕ → ℕ
waiting [] = 0
waiting (x ∷ l) = pick (eqb x 0) 0 1 + waiting l

-- ---- in the work memory: m nodes have arrived in the area that begins at `at`

abbrev pub arrivals_of : Areas → ℕ → ℕ → List ℕ → Arrivals
arrivals_of a at m w = record { counts = waiting_in a w; arrived = region at m w }

-- an area of its own behind the counts
pub record Arriving (a : Areas) (at : ℕ) : Type 0 where
  pub apart : Apart a
  pub behind : a.arrived ≤ at
  pub before : at + a.nodes ≤ a.incoming

pub record Arrives (a : Areas) (at m m' : ℕ) (f : Arrivals → Arrivals) (w w' : List ℕ) : Type 0 where
  pub kept : Kept a.waiting (at + a.nodes) w w'
  pub arrivals : arrivals_of a at m' w' ≡ f (arrivals_of a at m w)

-- what is asked to take a link to c off
pub record Releasing (a : Areas) (at m c : ℕ) (w : List ℕ) : Type 0 where
  pub area : Arriving a at
  pub long : a.end ≤ length w
  pub inside : c < a.nodes
  pub room : waiting (waiting_in a w) + m ≤ a.nodes

-- the memory while m of n nodes have arrived
pub record Live (a : Areas) (at n m : ℕ) (w : List ℕ) : Type 0 where
  pub graph : Stands a n w
  pub area : Arriving a at
  pub ids : ceiling (region at m w) ≤ n
  pub room : waiting (waiting_in a w) + m ≤ a.nodes

pub record ReleasedAll (a : Areas) (at n i m m' : ℕ) (w w' : List ℕ) : Type 0 where
  pub done : Arrives a at m m' (released_all ((graph_on a n w).links i)) w w'
  pub live : Live a at n m' w'
  pub more : m ≤ m'
