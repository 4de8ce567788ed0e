-- The turns of the places: one node behind the other.
use mathlib.Core.Path.{◌≡◌, sym, ap, ◌∙◌}
use Prim.Native.Nat.{ℕ, ◌+◌, ◌*◌, ◌≤◌, ◌<◌}
use mathlib.Core.List.{List, [], ◌∷◌}
use native.Mathlib.Omega.{arith}
use lib.ListN.{length, get_or, set, take, drop, drop_of_length-le}
use Rattle.lists.proofs.Runs.{drop-first}
use Rattle.regions.specs.Region.{Kept}
use Rattle.regions.proofs.Laws.{region-length, region-at, region-in}
use Rattle.regions.proofs.Bounds.{ceiling-at}
use Rattle.regions.proofs.Frame.{kept_then, kept_set, kept_less, kept_above, kept_at}
use Rattle.work.specs.declared.Areas.{Areas}
use Rattle.work.specs.Views.{order_in, places_in}
use Rattle.order_graph.specs.Graph.{graph_on, most_size}
use Rattle.order_graph.proofs.Links.{size_in, stands-kept}
use Rattle.order_fit.specs.Fit.{places_from, Placing, PlacedAt}

module _ {a : Areas} {n r : ℕ} {w : List ℕ} (c : Placing a n r w) where
  pub order-long : length (order_in a r w) ≡ r
  order-long = region-length a.order r w (omega arith)

  -- a node of the order, as read
  pub node-read : (t : ℕ) → t < r → (get_or w (a.order + t) 0 < n) × (get_or w (a.order + t) 0 ≡ get_or (order_in a r w) t 0)
  node-read t h =
      let e = region-at a.order r w t h in
      (omega (arith, e, ceiling-at (order_in a r w) t (omega (arith, order-long))), e)

-- t nodes have their places, and the next begins at `at`
pub record Summing (a : Areas) (n r t at : ℕ) (w₀ w : List ℕ) : Type 0 where
  pub kept : Kept a.places a.order w₀ w
  pub small : at ≤ t * most_size
  pub left :
      places_from (graph_on a n w₀) (order_in a r w₀) 0 (places_in a w₀)
      ≡ places_from (graph_on a n w₀) (drop t (order_in a r w₀)) at (places_in a w)

module _ {a : Areas} {n r t at : ℕ} {w₀ w : List ℕ} (c : Placing a n r w₀) (s : Summing a n r t at w₀ w) where
  order-kept : order_in a r w ≡ order_in a r w₀
  order-kept = kept_above s.kept a.order r (omega arith)

  pub summing-placing : Placing a n r w
  summing-placing =
      record {
        graph = stands-kept c.graph s.kept (omega arith);
        nodes = record { few = c.nodes.few; ids = rw order-kept c.nodes.ids };
      }

  module _ {i : ℕ} (b : i < n) where
    size_is : get_or w i 0 ≡ get_or (take a.keys w₀) i 0
    size_is = kept_at (kept_less s.kept a.keys a.order (omega arith) (omega arith)) i (omega arith)

    pub size-light : get_or w i 0 < most_size
    size-light = omega (arith, size_is, c.graph.tidy.light i b)

    pub summing-next : i ≡ get_or (order_in a r w) t 0 → t < r → Summing a n r (t + 1) (at + get_or w i 0) w₀ (set w (a.places + i) at)
    unfolding places_from
    summing-next e h =
        let node : i ≡ get_or (order_in a r w₀) t 0 = e ∙ ap (λ (o : List ℕ). get_or o t 0) order-kept in
        let rest : drop t (order_in a r w₀) ≡ i ∷ drop (t + 1) (order_in a r w₀) =
        rw node (drop-first t (order_in a r w₀) (omega (arith, order-long c))) in
        record {
          kept = kept_then s.kept (kept_set a.places a.order w (a.places + i) at (omega arith) (omega arith));
          small = omega (arith, size-light);
          left =
              s.left
              ∙ rw (rest, places_from, size_in a n (take a.keys w₀) i b, ← size_is, region-in a.places a.nodes w i at (omega arith));
        }

  pub summing-all : r ≤ t → PlacedAt a n r w₀ w
  unfolding places_from
  summing-all h =
      let none : drop t (order_in a r w₀) ≡ [] = drop_of_length-le (order_in a r w₀) {i = t} (omega (arith, order-long c)) in
      record { kept = s.kept; places = sym (s.left ∙ rw (none, places_from)) }
