-- What each area of the work memory w holds; of a list that grows, the first words.
use Rattle.std.specs.Prelude.{ℕ, ◌-◌, List, get_or, ltb}
use Rattle.lists.specs.Lists.{pick}
use Rattle.regions.specs.Region.{region}
use Rattle.work.specs.declared.Areas.{Areas}

-- each node's key, whatever it means
abbrev pub keys_in : Areas → List ℕ → List ℕ
keys_in a w = region a.keys a.nodes w

abbrev pub key_in : Areas → List ℕ → ℕ → ℕ
key_in a w i = get_or (keys_in a w) i 0

-- how many fields of nodes that are not placed yet lead to each node
abbrev pub waiting_in : Areas → List ℕ → List ℕ
waiting_in a w = region a.waiting a.nodes w

-- the m nodes that became ready, in that order
abbrev pub arrived_in : Areas → ℕ → List ℕ → List ℕ
arrived_in a m w = region a.arrived m w

-- the k numbers of the heap
abbrev pub heap_in : Areas → ℕ → List ℕ → List ℕ
heap_in a k w = region a.heap k w

-- the q placed nodes
abbrev pub order_in : Areas → ℕ → List ℕ → List ℕ
order_in a q w = region a.order q w

-- each placed node's place
abbrev pub places_in : Areas → List ℕ → List ℕ
places_in a w = region a.places a.nodes w

-- the r reached nodes, parents before their children
abbrev pub line_in : Areas → ℕ → List ℕ → List ℕ
line_in a r w = region a.line r w

-- how many fields of reached nodes lead to each node
abbrev pub incoming_in : Areas → List ℕ → List ℕ
incoming_in a w = region a.incoming a.nodes w

-- each reached node's distance from the root
abbrev pub distances_in : Areas → List ℕ → List ℕ
distances_in a w = region a.distances a.nodes w

-- the number of each node's space
abbrev pub spaces_in : Areas → List ℕ → List ℕ
spaces_in a w = region a.spaces a.nodes w

-- the object of each copy
abbrev pub origins_in : Areas → List ℕ → List ℕ
origins_in a w = region a.origins a.copies w

-- the object of node i: itself among the first n, which are the objects
abbrev pub origin_in : Areas → ℕ → List ℕ → ℕ → ℕ
origin_in a n w i = pick (ltb i n) i (get_or (origins_in a w) (i - n) 0)

-- ---- between two orders

-- each node's position in the order; in space 0 the root's, which is 0
abbrev pub spots_in : Areas → List ℕ → List ℕ
spots_in a w = region a.spots a.nodes w

-- the boss of each of r positions
abbrev pub bosses_in : Areas → ℕ → List ℕ → List ℕ
bosses_in a r w = region a.bosses r w
