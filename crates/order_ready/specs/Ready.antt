-- docs/RULES.md, 7.3 and 7.4, in the work memory: the ready nodes in a heap, by their keys and by when they became ready.
use Rattle.std.specs.Prelude.{ℕ, ◌+◌, ◌-◌, ◌≤◌, ◌<◌, ◌≡◌, List, ◌∷◌, ◌++◌, drop}
use Rattle.regions.specs.Region.{ceiling, Kept}
use Rattle.model_orders.specs.Bag.{without, least}
use Rattle.work.specs.declared.Areas.{Areas}
use Rattle.work.specs.Views.{keys_in, key_in, arrived_in, heap_in}
use Rattle.order_graph.specs.Graph.{Stands}
use Rattle.order_heap.specs.Heap.{Heaped}
use Rattle.order_heap.specs.Stamps.{Stamped}

-- ---- keys

-- a key is less than this, so that the number of an arrival has room below it in a word
abbrev pub most_key : ℕ
most_key = 562949953421312

abbrev pub SmallKeys : Areas → List ℕ → Type 0
SmallKeys a w = ceiling (keys_in a w) ≤ most_key

-- ---- the ready nodes in a heap: k are left of the m that became ready

-- they are `ready`, the longest ready first
pub record Holds (a : Areas) (m k : ℕ) (ready w : List ℕ) : Type 0 where
  pub heaped : Heaped (heap_in a k w)
  pub stamped : Stamped (key_in a w) (arrived_in a m w) ready (heap_in a k w)

pub record InHeap (a : Areas) (n m k : ℕ) (w : List ℕ) : Type 0 where
  pub graph : Stands a n w
  pub few : m ≤ a.nodes
  pub some : k ≤ m
  pub ids : ceiling (arrived_in a m w) ≤ n
  pub ready : List ℕ
  pub holds : Holds a m k ready w

-- i is taken out: the one of least key, the first of equals
pub record TookLeast (a : Areas) (n m k i : ℕ) (w w' : List ℕ) : Type 0 where
  pub kept : Kept a.heap a.order w w'
  pub known : i < n
  pub least : (r : ℕ) (rs : List ℕ) → Holds a m k (r ∷ rs) w → (i ≡ least (key_in a w) r rs) × Holds a m (k - 1) (without i (r ∷ rs)) w'

-- of m' nodes that have become ready, those from m on are not in the heap yet
pub record Pushing (a : Areas) (n m m' k : ℕ) (w : List ℕ) : Type 0 where
  pub graph : Stands a n w
  pub small : SmallKeys a w
  pub few : m' ≤ a.nodes
  pub more : m ≤ m'
  pub some : k ≤ m
  pub ids : ceiling (arrived_in a m' w) ≤ n
  pub heaped : Heaped (heap_in a k w)

-- then they are
pub record PushedAll (a : Areas) (m m' k : ℕ) (w w' : List ℕ) : Type 0 where
  pub kept : Kept a.heap a.order w w'
  pub heaped : Heaped (heap_in a (k + (m' - m)) w')
  pub held : (ready : List ℕ) → Holds a m k ready w → Holds a m' (k + (m' - m)) (ready ++ drop m (arrived_in a m' w)) w'
