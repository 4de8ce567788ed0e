-- The order stands while the words in front of it or behind it change; its nodes one by one.
use mathlib.Core.Path.{◌≡◌, sym, ap, ◌∙◌}
use Prim.Native.Nat.{ℕ, ◌+◌, ◌≤◌, ◌<◌}
use mathlib.Core.List.{List, [], ◌∷◌}
use native.Mathlib.Omega.{arith}
use lib.ListN.{length, get_or, drop, drop_of_length-le}
use Rattle.lists.proofs.Runs.{drop-first}
use Rattle.regions.specs.Region.{Kept}
use Rattle.regions.proofs.Laws.{region-length, region-at}
use Rattle.regions.proofs.Bounds.{ceiling-at}
use Rattle.regions.proofs.Frame.{kept-below, kept_above}
use Rattle.model_orders.specs.Space.{spot}
use Rattle.model_orders.proofs.Spots.{at-spot}
use Rattle.work.specs.Views.{order_in}
use Rattle.work.specs.declared.Areas.{Areas}
use Rattle.order_graph.proofs.Links.{stands-kept}
use Rattle.order_spaces_near.specs.Near.{Ordered}

module _ {a : Areas} {n r x y : ℕ} {w w' : List ℕ} (o : Ordered a n r w) (k : Kept x y w w') (h : a.keys ≤ x) where
  same-ordered : order_in a r w' ≡ order_in a r w → Ordered a n r w'
  same-ordered e = record { graph = stands-kept o.graph k h; some = o.some; few = o.few; ids = rw e o.ids; once = rw e o.once }

  module _ (l : y ≤ a.order) where
    pub order-kept : order_in a r w' ≡ order_in a r w
    order-kept = kept_above k a.order r l

    pub ordered-kept : Ordered a n r w'
    ordered-kept = same-ordered order-kept

  module _ (l : a.incoming ≤ x) where
    pub order-behind : order_in a r w' ≡ order_in a r w
    order-behind = kept-below k a.order r (omega (arith, o.graph.apart, o.few))

    pub ordered-behind : Ordered a n r w'
    ordered-behind = same-ordered order-behind

module _ {a : Areas} {n r : ℕ} {w : List ℕ} (o : Ordered a n r w) where
  pub order-long : length (order_in a r w) ≡ r
  order-long = region-length a.order r w (omega (arith, o.graph.apart, o.graph.long, o.few))

  module _ (t : ℕ) (h : t < r) where
    pub node-is : get_or w (a.order + t) 0 ≡ get_or (order_in a r w) t 0
    node-is = region-at a.order r w t h

    order-in : get_or (order_in a r w) t 0 < n
    order-in = omega (arith, o.ids, ceiling-at (order_in a r w) t (omega (arith, order-long)))

    pub node_in : get_or w (a.order + t) 0 < n
    node_in = omega (arith, node-is, order-in)

    pub order-rest : drop t (order_in a r w) ≡ get_or w (a.order + t) 0 ∷ drop (t + 1) (order_in a r w)
    order-rest = rw node-is (drop-first t (order_in a r w) (omega (arith, order-long)))

  pub order-done : (t : ℕ) → r ≤ t → drop t (order_in a r w) ≡ []
  order-done t h = drop_of_length-le (order_in a r w) {i = t} (omega (arith, order-long))

  -- another position has another node
  pub order_other : (j t : ℕ) → j < r → t < r → (j ≡ t → ⊥) → get_or (order_in a r w) j 0 ≡ get_or (order_in a r w) t 0 → ⊥
  order_other j t h i d e =
      d (sym (at-spot (order_in a r w) o.once j (omega (arith, order-long)))
      ∙ ap (spot (order_in a r w)) e
      ∙ at-spot (order_in a r w) o.once t (omega (arith, order-long)))
