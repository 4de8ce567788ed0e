-- The words of the heap lent as a slice of its own, and back.
use mathlib.Core.Path.{◌≡◌, ◌∙◌}
use Prim.Native.Nat.{ℕ, ◌+◌, ◌-◌, ◌≤◌, ◌<◌}
use mathlib.Core.List.{List}
use native.Mathlib.Omega.{arith}
use lib.ListN.{length, take, drop}
use lib.Seq.{take-take}
use Rattle.regions.specs.Region.{region, Kept}
use Rattle.regions.proofs.Laws.{region-length}
use Rattle.regions.proofs.Lent.{back, back-region, back-kept}
use Rattle.work.specs.declared.Areas.{Areas}
use Rattle.work.specs.Views.{heap_in}
use Rattle.order_graph.specs.Graph.{Stands}
use Rattle.order_heap.specs.Heap.{Heaped, Least, Added, Pushed, Popped}

-- the words of w from b to e
abbrev pub lent : ℕ → ℕ → List ℕ → List ℕ
lent b e w = region b (e - b) w

-- ---- the heap of k in the work memory

-- t is taken out
pub record PoppedIn (a : Areas) (k t : ℕ) (w w' : List ℕ) : Type 0 where
  pub kept : Kept a.heap a.order w w'
  pub least : Least t (heap_in a k w)
  pub heaped : Heaped (heap_in a (k - 1) w')
  pub bag : Added t (heap_in a (k - 1) w') (heap_in a k w)

-- t is put in
pub record PushedIn (a : Areas) (k t : ℕ) (w w' : List ℕ) : Type 0 where
  pub kept : Kept a.heap a.order w w'
  pub heaped : Heaped (heap_in a (k + 1) w')
  pub bag : Added t (heap_in a k w) (heap_in a (k + 1) w')

heap-whole : {a : Areas} {n : ℕ} {w : List ℕ} → Stands a n w → a.order - a.heap ≡ a.nodes
heap-whole g = omega (arith, g.apart)

pub lent-long : {a : Areas} {n : ℕ} {w : List ℕ} → Stands a n w → length (lent a.heap a.order w) ≡ a.nodes
lent-long {a} {n} {w} g = rw (heap-whole g) (region-length a.heap a.nodes w (omega (arith, g.apart, g.long)))

module _ {a : Areas} {n : ℕ} {w : List ℕ} (k : ℕ) (g : Stands a n w) (m : k ≤ a.nodes) where
  -- the heap's words are the first of the lent ones
  first : take k (lent a.heap a.order w) ≡ heap_in a k w
  first = take-take k (a.order - a.heap) (drop a.heap w) (omega arith)

  module _ (v : List ℕ) (l : length v ≡ length (lent a.heap a.order w)) where
    long : a.heap + a.nodes ≤ length w
    long = omega (arith, g.apart, g.long)

    returned-kept : Kept a.heap a.order w (back a.heap (a.order - a.heap) w v)
    returned-kept = let e : a.order ≡ a.heap + a.nodes = omega (arith, g.apart) in rw (heap-whole g, e) (back-kept a.heap a.nodes w v long (l ∙ lent-long g))

    returned-heap : (i : ℕ) → i ≤ a.nodes → heap_in a i (back a.heap (a.order - a.heap) w v) ≡ take i v
    returned-heap i few = rw (heap-whole g) (back-region a.heap a.nodes w v long (l ∙ lent-long g) i few)

  pub lent-popped : {t : ℕ} {v : List ℕ} → Popped k t (lent a.heap a.order w) v → PoppedIn a k t w (back a.heap (a.order - a.heap) w v)
  lent-popped {t} {v} s =
      let z = returned-heap v s.long (k - 1) (omega arith) in
      record { kept = returned-kept v s.long; least = rw first at s.least; heaped = rw z s.heaped; bag = rw z (rw first at s.bag) }

  pub lent-pushed : {t : ℕ} {v : List ℕ} → k < a.nodes → Pushed k t (lent a.heap a.order w) v → PushedIn a k t w (back a.heap (a.order - a.heap) w v)
  lent-pushed {t} {v} r s =
      let z = returned-heap v s.long (k + 1) (omega arith) in
      record { kept = returned-kept v s.long; heaped = rw z s.heaped; bag = rw z (rw first at s.bag) }
