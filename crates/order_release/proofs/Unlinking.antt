-- All links of a placed node taken off.
use mathlib.Core.Path.{◌≡◌, sym, ap, ◌∙◌}
use Prim.Native.Nat.{ℕ, ◌+◌, ◌≤◌, ◌<◌}
use mathlib.Core.List.{List}
use native.Mathlib.Omega.{arith}
use lib.ListN.{length, take}
use Rattle.regions.specs.Region.{region, ceiling, Kept}
use Rattle.regions.proofs.Laws.{region-length}
use Rattle.regions.proofs.Frame.{kept_then}
use Rattle.work.specs.declared.Areas.{Areas}
use Rattle.work.specs.Views.{waiting_in}
use Rattle.model_orders.specs.Object.{Link}
use Rattle.order_graph.specs.Graph.{graph_on, links_at, links_after, link_count, FromLink, FieldOf}
use Rattle.order_graph.proofs.Links.{links-read, links-none, front_kept, stands-kept, from-kept}
use Rattle.order_release.specs.Release.{Arrivals, released, released_all, waiting, arrivals_of, Arrives, Live, ReleasedAll}
use Rattle.order_release.proofs.Releasing.{released-same, released-ceiling}

-- t of the links of node i are taken off
pub record Unlinking (a : Areas) (at n i t m m' : ℕ) (w₀ w : List ℕ) : Type 0 where
  pub some : t ≤ link_count a (take a.keys w₀) i
  pub kept : Kept a.waiting (at + a.nodes) w₀ w
  pub left : released_all ((graph_on a n w₀).links i) (arrivals_of a at m w₀) ≡ released_all (links_after a (take a.keys w₀) i t) (arrivals_of a at m' w)
  pub same : waiting (waiting_in a w) + m' ≡ waiting (waiting_in a w₀) + m
  pub ids : ceiling (region at m' w) ≤ n
  pub more : m ≤ m'

module _ {a : Areas} {at n i m : ℕ} {w₀ : List ℕ} (v : Live a at n m w₀) (h : i < n) where
  abbrev front : List ℕ
  front = take a.keys w₀

  module _ {t m' : ℕ} {w : List ℕ} (s : Unlinking a at n i t m m' w₀ w) where
    front_same : take a.keys w ≡ front
    front_same = front_kept v.graph s.kept (omega (arith, v.area.apart))

    module _ (u : t < link_count a front i) where
      pub unlinking-link : {from : ℕ} → from ≡ links_at a front i → FromLink a n i t from w
      unlinking-link = from-kept (record { graph = v.graph; inside = h }) s.kept (omega (arith, v.area.apart)) u

      pub unlinking-next : {m'' : ℕ} {l : Link} {w' : List ℕ} → FieldOf a n (take a.keys w) i t l → Arrives a at m' m'' (released l.child) w w' → m' ≤ m'' → m'' ≤ a.nodes
          → Unlinking a at n i (t + 1) m m'' w₀ w'
      unfolding released_all
      unlinking-next {m''} {l} {w'} e z up few =
          let e₀ : FieldOf a n front i t l = rw front_same at e in
          let now = region-length at m' w (omega (arith, v.area, v.area.apart)) in
          let then = region-length at m'' w' (omega (arith, v.area, v.area.apart, z.kept.long)) in
          record {
            some = omega arith;
            kept = kept_then s.kept z.kept;
            left = s.left ∙ rw (links-read e₀ u, released_all, z.arrivals);
            same = omega (arith, released-same l.child (arrivals_of a at m' w), ap (λ (q : Arrivals). waiting q.counts + length q.arrived) z.arrivals);
            ids = omega (arith, released-ceiling l.child (arrivals_of a at m' w), ap (λ (q : Arrivals). ceiling q.arrived) z.arrivals);
            more = omega arith;
          }

    pub unlinking-all : link_count a front i ≤ t → ReleasedAll a at n i m m' w₀ w
    unfolding released_all
    unlinking-all u =
        record {
          done = record { kept = s.kept; arrivals = sym (s.left ∙ rw (links-none a front i t u, released_all)) };
          live =
              record {
                graph = stands-kept v.graph s.kept (omega (arith, v.area.apart));
                area = v.area;
                ids = s.ids;
                room = omega (arith, s.same, v.room);
              };
          more = s.more;
        }
