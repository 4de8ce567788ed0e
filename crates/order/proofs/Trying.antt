-- An order tried: the parts joined.
use mathlib.Core.Path.{◌≡◌, ap, ◌∙◌}
use Prim.Native.Nat.{ℕ, ◌<◌}
use mathlib.Core.List.{List}
use native.Mathlib.Omega.{arith}
use lib.ListN.{length}
use Rattle.regions.proofs.Laws.{region-length}
use Rattle.regions.proofs.Frame.{kept_then, kept_less, kept_above}
use Rattle.model_orders.specs.Bag.{count}
use Rattle.model_orders.specs.Graph.{Graph, Rooted}
use Rattle.work.specs.Views.{order_in, places_in}
use Rattle.work.specs.declared.Areas.{Areas}
use Rattle.order_graph.specs.Graph.{graph_in, graph_on}
use Rattle.order_graph.proofs.Links.{front_kept, stands-kept}
use Rattle.order_graph.proofs.Nodes.{ceiling-in}
use Rattle.order_survey.specs.Survey.{Surveyed}
use Rattle.order_fit.specs.Fit.{Look, places_from, look, Placing, PlacedAt}
use Rattle.order.specs.Try.{Trying, Ordered, Tried}
use Rattle.order.specs.declared.By.{By}
use Rattle.order.proofs.Orders.{ordered-sorted}
use Rattle.order.proofs.Placed.{places-placed}
use Rattle.order.proofs.Looked.{look-unfit}

module _ {a : Areas} {n root : ℕ} {by : By} {w : List ℕ} (q : Trying a n root by w) {r : ℕ} {w₂ : List ℕ} (o : Ordered a n root by r w w₂) where
  abbrev t : Surveyed a n root q.nodes w
  t = q.surveyed

  abbrev g : Graph
  g = graph_on a n w

  abbrev order : List ℕ
  order = order_in a r w₂

  graph₂ : graph_on a n w₂ ≡ g
  graph₂ = ap (graph_in a n) (front_kept t.graph o.kept (omega arith))

  rooted : Rooted g order root
  rooted = (ordered-sorted t o).rooted

  pub try-placing : Placing a n r w₂
  try-placing = record { graph = stands-kept t.graph o.kept (omega arith); nodes = o.nodes }

  -- ---- its places, and the first link that does not fit

  module _ {w₃ : List ℕ} (s : PlacedAt a n r w₂ w₃) where
    graph₃ : graph_on a n w₃ ≡ g
    graph₃ = ap (graph_in a n) (front_kept try-placing.graph s.kept (omega arith)) ∙ graph₂

    same-order : order_in a r w₃ ≡ order
    same-order = kept_above s.kept a.order r (omega arith)

    pub try-look : Placing a n r w₃
    try-look =
        record {
          graph = stands-kept try-placing.graph s.kept (omega arith);
          nodes = record { few = o.nodes.few; ids = rw same-order o.nodes.ids };
        }

    places₃ : places_in a w₃ ≡ places_from g order 0 (places_in a w₂)
    places₃ = s.places ∙ rw graph₂

    inside : (c : ℕ) → 0 < count c order → c < length (places_in a w₂)
    inside c h =
        let p = try-placing.graph in
        omega (arith, ceiling-in order c h, o.nodes.ids, p.tidy.nodes, region-length a.places a.nodes w₂ (omega (arith, p.long, p.apart)))

    pub try-all : {x : Look} → x ≡ look (graph_on a n w₃) (places_in a w₃) (order_in a r w₃) → Tried a n root by r x w w₃
    try-all e =
        record {
          ordered =
              record {
                kept = kept_then o.kept (kept_less s.kept a.keys a.incoming (omega arith) (omega arith));
                nodes = try-look.nodes;
                order = λ l c. same-order ∙ o.order l c;
              };
          places = λ i h. rw (same-order, places₃) (places-placed g order (places_in a w₂) rooted.once inside i (rw same-order at h));
          found = e ∙ rw (graph₃, same-order, places₃, look-unfit g order (places_in a w₂) rooted.once inside rooted.closed);
        }
