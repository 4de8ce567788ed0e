-- The orders one after the other: distances found along the kahn order, spaces over the shortest-distance order.
use mathlib.Core.Path.{◌≡◌, sym, ap, subst, ◌∙◌}
use Prim.Native.Nat.{ℕ, ◌≤◌}
use mathlib.Core.List.{List}
use native.Mathlib.Omega.{arith}
use lib.ListN.{get_or}
use Rattle.regions.specs.Region.{region, Kept}
use Rattle.regions.proofs.Frame.{kept_then, kept_less, kept-below, kept_above}
use Rattle.model_orders.specs.Graph.{Graph, reached}
use Rattle.model_orders.specs.Order.{order_by}
use Rattle.model_orders.specs.Distance.{kahn_order, distance_order}
use Rattle.model_orders.specs.Space.{space_in}
use Rattle.model_orders.specs.Table.{unfit}
use Rattle.model_orders.specs.Copies.{ungrown, Arrangement, try_order, arranged}
use Rattle.model_orders.proofs.Arrangements.{try-next, arranged-kahn}
use Rattle.model_orders.proofs.SameNodes.{distance-order}
use Rattle.work.specs.Views.{order_in, line_in, incoming_in, distances_in}
use Rattle.work.specs.declared.Areas.{Areas}
use Rattle.order_graph.specs.Graph.{graph_on}
use Rattle.order_graph.proofs.Links.{stands-kept}
use Rattle.order_survey.specs.Survey.{Lines, DistancesFound}
use Rattle.order_survey.proofs.Surveys.{surveyed-kept, surveyed-found, surveyed-same}
use mathlib.Core.Bool.{true, false}
use Rattle.std.specs.Result.{is_ok}
use Rattle.order_fit.specs.Fit.{Look}
use Rattle.order.specs.Try.{Tried}
use Rattle.order.specs.declared.By.TheVariants as By
use Rattle.order.proofs.Orders.{ordered-bag, ordered-sorted, ordered-lines}
use Rattle.order_spaces.specs.Spaces.{Spacing, Spaced}
use Rattle.order_resolve.specs.declared.Objects.{Objects}
use Rattle.order_resolve.specs.declared.Arranged.{Arranged}
use Rattle.order_resolve.specs.Resolve.{Arranging, Distances, Spaces, Arranges, by_spaces}
use Rattle.order_arrange.specs.Arrange.{by_later}
use Rattle.order_arrange.proofs.Fitting.{all_fit, some-over, told, fits-arranged, graph-kept, arranging-kept}

-- with something done before
arranges-kept : {a : Areas} {n from to : ℕ} {c : Arrangement} {r : Arranged} {w w₁ w₂ : List ℕ} → Kept from to w w₁ → to ≤ a.end → Arranges a n c r w₁ w₂ → Arranges a n c r w w₂
arranges-kept {a} k h d = record { kept = kept_then (kept_less k 0 a.end (omega arith) h) d.kept; done = d.done }

module _ {a : Areas} {o : Objects} {w : List ℕ} (c : Arranging a o w) where
  abbrev n : ℕ
  n = o.nodes

  abbrev root : ℕ
  root = o.root

  abbrev g : Graph
  g = graph_on a n w

  -- ---- the kahn order

  module _ {r : ℕ} {x : Look} {w₁ : List ℕ} (t : Tried a n root By.Readiness r x w w₁) where
    kahn-is : order_in a r w₁ ≡ kahn_order g root
    unfolding kahn_order order_by
    kahn-is = t.ordered.order (reached g root) c.surveyed.counted

    pub kahn-fits : is_ok x ≡ true → Arranges a n (arranged o.copies g n root) (told c t) w w₁
    kahn-fits e = let none = all_fit (unfit g (order_in a r w₁)) (rw t.found at e) in fits-arranged c t none (arranged-kahn o.copies g n root (rw (← kahn-is) none) ∙ rw kahn-is)

    pub kahn-lines : Lines a n root r w₁
    kahn-lines = ordered-lines c.surveyed t.ordered

    module _ {w₂ : List ℕ} (f : DistancesFound a n root r w₁ w₂) where
      kept₂ : Kept a.keys a.spaces w w₂
      kept₂ =
          let p = c.surveyed.graph.apart in
          kept_then (kept_less t.ordered.kept a.keys a.spaces (omega arith) (omega (arith, p)))
          (kept_less f.kept a.keys a.spaces (omega (arith, p)) (omega arith))

      counts₂ : incoming_in a w₂ ≡ incoming_in a w
      counts₂ =
          let p = c.surveyed.graph.apart in
          kept-below f.kept a.incoming a.nodes (omega (arith, p)) ∙ kept_above t.ordered.kept a.incoming a.nodes (omega arith)

      pub later-asks : Arranging a o w₂
      later-asks = arranging-kept c kept₂ (omega arith) (surveyed-found (surveyed-kept c.surveyed t.ordered.kept) f) counts₂

      pub later-near : Distances a n root w₂
      later-near =
          let words : line_in a r w₁ ≡ order_in a r w₁ = ap (λ (i : ℕ). region i r w₁) c.surveyed.graph.apart.line in
          record {
            sums = λ i h. f.distanced.sums i (rw (words, ← ordered-bag c.surveyed t.ordered i, ← graph-kept c kept₂ (omega arith)) h);
            near = f.distanced.near;
          }

      pub kahn-later : {r' : Arranged} {w₃ : List ℕ} → is_ok x ≡ false → Arranges a n (by_later o.copies (graph_on a n w₂) n root) r' w₂ w₃ → Arranges a n (arranged o.copies g n root) r' w w₃
      unfolding arranged
      kahn-later {r' = r'} {w₃ = w₃} e d =
          let over = rw kahn-is at (some-over (unfit g (order_in a r w₁)) (rw t.found at e)) in
          subst (λ u. Arranges a n u r' w w₃) (sym (try-next (ungrown g n root) (kahn_order g root) (unfit g (kahn_order g root)) (by_later o.copies g n root) over))
          (arranges-kept kept₂ (omega (arith, c.surveyed.graph.apart)) (rw (graph-kept c kept₂ (omega arith)) at d))

  -- ---- the shortest-distance order

  module _ (d : Distances a n root w) where
    module _ {r : ℕ} {x : Look} {w₁ : List ℕ} (t : Tried a n root By.Distance r x w w₁) where
      distance_is : order_in a r w₁ ≡ distance_order g root
      distance_is = t.ordered.order (reached g root) c.surveyed.counted ∙ distance-order g root c.acyclic (λ i. get_or (distances_in a w) i 0) d.sums

      pub distance-fits : is_ok x ≡ true → Arranges a n (by_later o.copies g n root) (told c t) w w₁
      unfolding try_order
      distance-fits e = let none = all_fit (unfit g (order_in a r w₁)) (rw t.found at e) in fits-arranged c t none (rw (← distance_is, none))

      graph₁ : graph_on a n w₁ ≡ g
      graph₁ = graph-kept c t.ordered.kept (omega arith)

      pub distance-spacing : Spacing a n r root w₁
      distance-spacing =
          record {
            graph = stands-kept c.surveyed.graph t.ordered.kept (omega arith);
            few = t.ordered.nodes.few;
            ids = t.ordered.nodes.ids;
            sorted = rw graph₁ (ordered-sorted c.surveyed t.ordered);
          }

      module _ {w₂ : List ℕ} (f : Spaced a n r root w₁ w₂) where
        kept₁ : Kept a.keys a.incoming w f.between
        kept₁ =
            let p = c.surveyed.graph.apart in
            kept_then t.ordered.kept (kept_less f.kept a.keys a.incoming (omega (arith, p)) (omega (arith, p)))

        space-kept : Kept a.keys a.origins w w₂
        space-kept =
            let p = c.surveyed.graph.apart in
            kept_then (kept_less kept₁ a.keys a.origins (omega arith) (omega (arith, p))) (kept_less f.only a.keys a.origins (omega (arith, p)) (omega arith))

        counts : incoming_in a w₂ ≡ incoming_in a w
        counts =
            let p = c.surveyed.graph.apart in
            kept-below f.only a.incoming a.nodes (omega (arith, p)) ∙ kept_above kept₁ a.incoming a.nodes (omega arith)

        pub spaces-asks : Arranging a o w₂
        spaces-asks = arranging-kept c space-kept (omega arith) (surveyed-same c.surveyed space-kept (omega arith) counts) counts

        graph₂ : graph_on a n w₂ ≡ g
        graph₂ = graph-kept c space-kept (omega arith)

        pub spaces-near : Distances a n root w₂
        spaces-near =
            let p = c.surveyed.graph.apart in
            let same : distances_in a w₂ ≡ distances_in a w = kept-below f.only a.distances a.nodes (omega (arith, p)) ∙ kept_above kept₁ a.distances a.nodes (omega (arith, p)) in
            record { sums = λ i h. rw (graph₂, same) (d.sums i (rw graph₂ at h)); near = rw same d.near }

        pub spaces-found : Spaces a n root w₂
        unfolding space_in
        spaces-found =
            record {
              numbers = λ i h. rw graph₂ (rw (graph₁, distance_is) at (f.numbers i (rw (← ordered-bag c.surveyed t.ordered i, ← graph₂) h)));
              few = omega (arith, f.small, t.ordered.nodes.few, c.surveyed.graph.tidy.limit);
            }

        pub distance-later : {r' : Arranged} {w₃ : List ℕ} → is_ok x ≡ false → Arranges a n (by_spaces o.copies (graph_on a n w₂) n root) r' w₂ w₃ → Arranges a n (by_later o.copies g n root) r' w w₃
        distance-later {r' = r'} {w₃ = w₃} e q =
            let over = rw distance_is at (some-over (unfit g (order_in a r w₁)) (rw t.found at e)) in
            subst (λ u. Arranges a n u r' w w₃) (sym (try-next (ungrown g n root) (distance_order g root) (unfit g (distance_order g root)) (by_spaces o.copies g n root) over))
            (arranges-kept space-kept (omega (arith, c.surveyed.graph.apart)) (rw graph₂ at q))
