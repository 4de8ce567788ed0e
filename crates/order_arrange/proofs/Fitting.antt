-- An order of the objects' graph in which every link fits, as it stands in the work memory; and what stands while the next one is tried.
use mathlib.Core.Path.{◌≡◌, refl, ap, ◌∙◌}
use Prim.Native.Nat.{ℕ, ◌≤◌}
use mathlib.Core.List.{List, [], ◌∷◌}
use native.Mathlib.Omega.{arith}
use borrow.Author.Tests.{lt-ltb}
use Rattle.regions.specs.Region.{Kept}
use Rattle.regions.proofs.Frame.{kept_less}
use Rattle.answer.specs.declared.Overflow.{Overflow}
use Rattle.model_orders.specs.Graph.{Graph, reached}
use Rattle.model_orders.specs.Table.{placed, unfit, table_length}
use Rattle.model_orders.specs.Copies.{ungrown, Arrangement, fitting}
use Rattle.work.specs.Views.{order_in, incoming_in}
use Rattle.work.specs.declared.Areas.{Areas}
use Rattle.order_graph.specs.Graph.{graph_in, graph_on}
use Rattle.order_graph.proofs.Links.{front_kept, stands-kept}
use Rattle.order_survey.specs.Survey.{Surveyed}
use mathlib.Core.Bool.{true, false}
use Rattle.std.specs.Result.{is_ok}
use Rattle.order_fit.specs.Fit.{Look}
use Rattle.order.specs.Try.{look_of, Tried}
use Rattle.order.specs.declared.By.{By}
use Rattle.order_resolve.specs.declared.Objects.{Objects}
use Rattle.order_resolve.specs.declared.Arranged.{Arranged}
use Rattle.order_resolve.specs.Resolve.{Arranging, Arranges}

-- ---- the look

pub all_fit : (us : List Overflow) → is_ok (look_of us) ≡ true → us ≡ []
all_fit [] e = refl
all_fit (u ∷ us) e = cc

pub some-over : (us : List Overflow) → is_ok (look_of us) ≡ false → us ≡ [] → ⊥
some-over [] e f = cc
some-over (v ∷ us) e f = cc

module _ {a : Areas} {o : Objects} {w : List ℕ} (c : Arranging a o w) where
  abbrev n : ℕ
  n = o.nodes

  abbrev root : ℕ
  root = o.root

  abbrev g : Graph
  g = graph_on a n w

  -- ---- an order that fits

  module _ {by : By} {r : ℕ} {x : Look} {w' : List ℕ} (t : Tried a n root by r x w w') where
    abbrev pub told : Arranged
    told = record { nodes = n; length = o.size; placed = r; look = x }

    same : graph_on a n w' ≡ g
    same = ap (graph_in a n) (front_kept c.surveyed.graph t.ordered.kept (omega arith))

    pub fits-arranged : {u : Arrangement} → unfit g (order_in a r w') ≡ [] → u ≡ fitting (ungrown g n root) (order_in a r w') → Arranges a n u told w w'
    unfolding table_length
    fits-arranged e f =
        rw f (record {
          kept = kept_less t.ordered.kept 0 a.end (omega arith) (omega (arith, c.surveyed.graph.apart));
          done = record {
            graph = stands-kept c.surveyed.graph t.ordered.kept (omega arith);
            same = same;
            base = omega arith;
            owned = record { room = omega arith; object = λ i h. rw (lt-ltb i n h) h };
            origins = λ i h. rw (lt-ltb i n h);
            made = omega arith;
            length-is = c.size_is;
            told = t.found ∙ rw e;
            fitting = λ o q. record {
              ids = t.ordered.nodes;
              order = placed_same q;
              places = rw (placed_same q) at t.places;
            };
          };
        })
      where
        placed_same : {o p : List ℕ} → placed o ≡ placed p → o ≡ p
        placed_same q = cc

  -- ---- the graph and its survey stand

  module _ {from to : ℕ} {w' : List ℕ} (k : Kept from to w w') (h : a.keys ≤ from) where
    pub graph-kept : graph_on a n w' ≡ g
    graph-kept = ap (graph_in a n) (front_kept c.surveyed.graph k h)

    pub arranging-kept : Surveyed a n root (reached g root) w' → incoming_in a w' ≡ incoming_in a w → Arranging a o w'
    arranging-kept s e =
        let front = front_kept c.surveyed.graph k h in
        record {
          surveyed = rw front s;
          acyclic = rw front c.acyclic;
          size_is = rw front c.size_is;
          taken = rw front c.taken;
          parted = rw front c.parted;
          room = c.room;
          small = rw e c.small;
        }
