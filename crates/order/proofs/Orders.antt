-- An order in the work memory has the nodes to place, each once, parents before their children.
use mathlib.Core.Path.{◌≡◌, sym, ap}
use Prim.Native.Nat.{ℕ}
use mathlib.Core.List.{List}
use native.Mathlib.Omega.{arith}
use Rattle.regions.specs.Region.{region}
use Rattle.model_orders.specs.Space.{Sorted}
use Rattle.model_orders.proofs.Orders.{order-counts}
use Rattle.model_orders.proofs.SameNodes.{SameBag}
use Rattle.model_orders.proofs.Spaces.{order-sorted}
use Rattle.work.specs.Views.{order_in, line_in}
use Rattle.work.specs.declared.Areas.{Areas}
use Rattle.order_graph.specs.Graph.{graph_on}
use Rattle.order_graph.proofs.Links.{front_kept}
use Rattle.order_graph.proofs.Nodes.{counted_same}
use Rattle.order_survey.specs.Survey.{Surveyed, Lines}
use Rattle.order_survey.proofs.Surveys.{surveyed-kept}
use Rattle.order.specs.Try.{key_by, Ordered}
use Rattle.order.specs.declared.By.{By}

module _ {a : Areas} {n root r : ℕ} {by : By} {nodes w w' : List ℕ} (t : Surveyed a n root nodes w) (o : Ordered a n root by r w w') where
  pub ordered-bag : SameBag nodes (order_in a r w')
  ordered-bag c = rw (o.order nodes t.counted) (sym (order-counts t.rank (key_by by a w) (graph_on a n w) t.ranked nodes root t.counted.rooted c))

  pub ordered-sorted : Sorted (graph_on a n w) (order_in a r w') root
  ordered-sorted = rw (o.order nodes t.counted) (order-sorted t.rank (key_by by a w) (graph_on a n w) t.ranked nodes root t.counted.rooted)

  -- it is a line to find distances along
  pub ordered-lines : Lines a n root r w'
  ordered-lines =
      let s = surveyed-kept t o.kept in
      let words : line_in a r w' ≡ order_in a r w' = ap (λ (i : ℕ). region i r w') t.graph.apart.line in
      record {
        surveyed = rw words (record {
          graph = s.graph;
          inside = s.inside;
          rank = s.rank;
          ranked = s.ranked;
          low = s.low;
          counted = counted_same s.counted (order_in a r w') ordered-bag;
        });
        few = o.nodes.few;
        ids = rw words o.nodes.ids;
        first = rw (words, front_kept t.graph o.kept (omega arith)) ordered-sorted.first;
      }
