-- The fields of a node, counted one by one.
use mathlib.Core.Path.{◌≡◌, sym, ◌∙◌}
use Prim.Native.Nat.{ℕ, ◌+◌, ◌≤◌, ◌<◌}
use mathlib.Core.List.{List}
use native.Mathlib.Omega.{arith}
use lib.ListN.{get_or, set, take, length}
use Rattle.regions.specs.Region.{ceiling, Kept}
use Rattle.regions.proofs.Laws.{region-length, region-at, region-in}
use Rattle.regions.proofs.Bounds.{ceiling-at, ceiling-bump}
use Rattle.regions.proofs.Frame.{kept-all, kept_then, kept_set}
use Rattle.work.specs.Views.{incoming_in}
use Rattle.work.specs.declared.Areas.{Areas}
use Rattle.model_orders.specs.Object.{Link}
use Rattle.order_graph.specs.Graph.{graph_on, links_after, link_count, FieldOf}
use Rattle.order_graph.proofs.Links.{links-in, links-read, links-none, front_kept}
use Rattle.order_survey.specs.Survey.{counted_all, far_away, Counting, CountedAll}

-- t fields of node i are counted
pub record Counts (a : Areas) (n i t : ℕ) (w₀ w : List ℕ) : Type 0 where
  pub some : t ≤ link_count a (take a.keys w₀) i
  pub kept : Kept a.incoming a.distances w₀ w
  pub left : counted_all ((graph_on a n w₀).links i) (incoming_in a w₀) ≡ counted_all (links_after a (take a.keys w₀) i t) (incoming_in a w)
  pub bound : ceiling (incoming_in a w) ≤ ceiling (incoming_in a w₀) + t

module _ {a : Areas} {n i : ℕ} {w₀ : List ℕ} (s : Counting a n i w₀) where
  pub counts-none : Counts a n i 0 w₀ w₀
  counts-none = record { some = omega arith; kept = kept-all; left = rw (links-in a n (take a.keys w₀) i s.node.inside); bound = omega arith }

  module _ {t : ℕ} {w : List ℕ} (f : Counts a n i t w₀ w) where
    front : take a.keys w ≡ take a.keys w₀
    front = front_kept s.node.graph f.kept (omega arith)

    -- a count leaves room for one more
    pub counts-room : (x : ℕ) → x < n → t < link_count a (take a.keys w₀) i → get_or w (a.incoming + x) 0 < far_away
    counts-room x b h =
        let e : length (incoming_in a w) ≡ a.nodes = region-length a.incoming a.nodes w (omega arith) in
        omega (arith, (s.node.graph.tidy.node i s.node.inside).few, region-at a.incoming a.nodes w x (omega arith), ceiling-at (incoming_in a w) x (omega arith))

    pub counts-next : {l : Link} → FieldOf a n (take a.keys w) i t l → t < link_count a (take a.keys w₀) i
        → Counts a n i (t + 1) w₀ (set w (a.incoming + l.child) (get_or w (a.incoming + l.child) 0 + 1))
    unfolding counted_all
    counts-next {l} e h =
        let x = l.child in
        let e₀ : FieldOf a n (take a.keys w₀) i t l = rw front at e in
        let r = region-at a.incoming a.nodes w x (omega arith) in
        let z = region-in a.incoming a.nodes w x (get_or (incoming_in a w) x 0 + 1) (omega arith) in
        rw r (record {
          some = omega arith;
          kept = kept_then f.kept (kept_set a.incoming a.distances w (a.incoming + x) _ (omega arith) (omega arith));
          left = f.left ∙ rw (links-read e₀ h, counted_all, z);
          bound = rw z (omega (arith, ceiling-bump (incoming_in a w) x));
        })

    pub counts_all : link_count a (take a.keys w₀) i ≤ t → CountedAll a n i w₀ w
    unfolding counted_all
    counts_all h =
        record {
          kept = f.kept;
          incoming = sym (f.left ∙ rw (links-none a (take a.keys w₀) i t h, counted_all));
          bound = omega (arith, (s.node.graph.tidy.node i s.node.inside).few);
        }
