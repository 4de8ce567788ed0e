-- What an offset is at least and at most. Widths that always fit: an offset is below the sum of the sizes, and that sum is no more than all the objects hold.
use mathlib.Core.Path.{◌≡◌}
use Prim.Native.Nat.{ℕ, zero, suc, ◌+◌, ◌≤◌, ◌<◌}
use mathlib.Core.List.{List, [], ◌∷◌, ◌++◌}
use mathlib.Core.Bool.{Bool, true, false}
use native.Mathlib.Omega.{arith}
use borrow.Author.Tests.{lt-ltb}
use lib.ListN.{take}
use lib.Dec.{eqb}
use Rattle.lists.specs.Lists.{pick, total}
use Rattle.big_endian.specs.BigEndian.{capacity, fits}
use Rattle.model_orders.specs.Bag.{count}
use Rattle.model_orders.specs.Object.{Link, Object, object_at, size_of}
use Rattle.model_orders.specs.Graph.{Graph, graph_of, kids, reach_down, reached, Closed, ParentsFirst}
use Rattle.model_orders.specs.Distance.{In}
use Rattle.model_orders.specs.Table.{place_of, offset, Fields}
use Rattle.model_orders.proofs.Before.{before-end, before-behind}
use Rattle.model_orders.proofs.Distances.{in-kids}
use Rattle.model_orders.proofs.Filled.{field_room}

-- ---- offsets

module _ (g : Graph) (o : List ℕ) (closed : Closed g o) (p : ℕ) (l : Link) (h : 0 < count p o) (i : In l (g.links p)) (some : 0 < g.size l.child) where
  pub offset-below : offset (place_of g o) p l < total g.size o
  unfolding offset Closed
  offset-below = omega (arith, before-end g.size o l.child (closed p l.child h (in-kids l (g.links p) i)))

  pub always-fits : (n : ℕ) → total g.size o ≤ n → n ≤ capacity l.slot.width → fits l.slot.width (offset (place_of g o) p l) ≡ true
  always-fits n a b = lt-ltb (offset (place_of g o) p l) (capacity l.slot.width) (omega (arith, offset-below))

-- a child lies past its parent's end, so past the field: an offset is at least its field's width
pub offset-least : (g : Graph) (o : List ℕ) → Fields g → ParentsFirst g o → (p : ℕ) (l : Link) → 0 < count p o → In l (g.links p) → l.slot.width ≤ offset (place_of g o) p l
unfolding offset Fields
offset-least g o fs first p l h i = omega (arith, before-behind g.size g o first p l.child h (in-kids l (g.links p) i), field_room 0 (g.size p) l (g.links p) (fs p) i)

-- ---- sizes

-- where there is no object, its size is 0
size-next : (os : List Object) (i : ℕ) → total size_of (take (suc i) os) ≡ total size_of (take i os) + size_of (object_at os i)
unfolding total
size-next [] zero = omega arith
size-next [] (suc i) = omega arith
size-next (o ∷ os) zero = omega arith
size-next (o ∷ os) (suc i) = omega (arith, size-next os i)

size-front : (os : List Object) (n : ℕ) → total size_of (take n os) ≤ total size_of os
unfolding total
size-front [] zero = omega arith
size-front [] (suc n) = omega arith
size-front (o ∷ os) zero = omega arith
size-front (o ∷ os) (suc n) = omega (arith, size-front os n)

down-held : (os : List Object) (n : ℕ) (marks : List ℕ) → total (graph_of os).size (reach_down (graph_of os) n marks) ≤ total size_of (take n os)
unfolding reach_down total
down-held os zero marks = omega arith
down-held os (suc i) marks = go (down-held os i marks) (down-held os i (kids (graph_of os) i ++ marks)) (eqb (count i marks) 0)
  where
    go : total (graph_of os).size (reach_down (graph_of os) i marks) ≤ total size_of (take i os)
        → total (graph_of os).size (reach_down (graph_of os) i (kids (graph_of os) i ++ marks)) ≤ total size_of (take i os)
        → (b : Bool) → total (graph_of os).size (pick b (reach_down (graph_of os) i marks) (i ∷ reach_down (graph_of os) i (kids (graph_of os) i ++ marks))) ≤ total size_of (take (suc i) os)
    go a b true = omega (arith, size-next os i)
    go a b false = omega (arith, size-next os i)

-- what a root reaches is no more than all the objects hold
pub reached-held : (os : List Object) (root : ℕ) → total (graph_of os).size (reached (graph_of os) root) ≤ total size_of os
unfolding reached
reached-held os root = omega (arith, down-held os (suc root) (root ∷ []), size-front os (suc root))
