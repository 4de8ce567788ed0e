-- The start: each node waits for its incoming fields, and the root alone is ready.
use mathlib.Core.Path.{◌≡◌, sym, ◌∙◌}
use Prim.Native.Nat.{ℕ, zero, suc, ◌≤◌, ◌<◌}
use mathlib.Core.List.{List, [], ◌∷◌}
use mathlib.Core.Bool.{Bool, true, false}
use native.Mathlib.Omega.{arith}
use native.Mathlib.Nat.{add-zero}
use lib.ListN.{length, get_or, set}
use lib.Dec.{eqb}
use borrow.Author.Tests.{eq-eqb}
use Rattle.lists.specs.Lists.{pick}
use Rattle.regions.specs.Region.{ceiling, Kept, Copying}
use Rattle.regions.proofs.Laws.{region-length, region-over, region-push}
use Rattle.regions.proofs.Frame.{kept_then, kept_set, kept_less, kept-below, kept_above}
use Rattle.work.specs.declared.Areas.{Areas}
use Rattle.model_orders.specs.Order.{order_of}
use Rattle.work.specs.Areas.{Apart}
use Rattle.work.specs.Views.{keys_in, order_in, incoming_in}
use Rattle.order_graph.specs.Graph.{graph_on, Counted}
use Rattle.order_graph.proofs.Links.{front_kept, stands-kept}
use Rattle.order_graph.proofs.Nodes.{counted-kept}
use Rattle.order_release.specs.Release.{waiting, Arriving, Live}
use Rattle.order_place.specs.Place.{Starting, Begun, RootReady, OrderFound}

-- the keys lie in front of what is written
pub keys_kept : {a : Areas} {b : ℕ} {w₀ w : List ℕ} → Apart a → Kept a.waiting b w₀ w → keys_in a w ≡ keys_in a w₀
keys_kept {a} s k = kept-below k a.keys a.nodes (omega arith)

at_most : (b : Bool) → pick b 0 1 ≤ 1
at_most true = omega arith
at_most false = omega arith

waiting-most : (l : List ℕ) → waiting l ≤ length l
unfolding waiting
waiting-most [] = omega arith
waiting-most (x ∷ l) = omega (arith, at_most (eqb x 0), waiting-most l)

-- where one waits for none, not all wait
waiting-fewer : (l : List ℕ) (c : ℕ) → c < length l → get_or l c 0 ≡ 0 → waiting l < length l
unfolding waiting
waiting-fewer [] c h e = omega arith
waiting-fewer (x ∷ l) zero h e = rw (eq-eqb x 0 e) (omega (arith, waiting-most l))
waiting-fewer (x ∷ l) (suc c) h e = omega (arith, at_most (eqb x 0), waiting-fewer l c (omega arith) e)

-- ---- what is written behind the graph and in front of the counts

module _ {a : Areas} {n root from to : ℕ} {w w' : List ℕ} (s : Starting a n root w) (k : Kept from to w w') (h : a.keys ≤ from) (l : to ≤ a.incoming) where
  counts-kept : {nodes : List ℕ} → Counted a n root nodes w → Counted a n root nodes w'
  counts-kept c = counted-kept c s.graph k h (kept_above k a.incoming a.nodes l)

  pub starting-kept : Starting a n root w'
  starting-kept = record { graph = stands-kept s.graph k h; inside = s.inside; nodes = s.nodes; counted = counts-kept s.counted }

  -- an order found from there on is of the same graph
  pub found-order : {key : ℕ → ℕ} {r : ℕ} {w'' : List ℕ} → OrderFound a n root key r w' w'' → (nodes : List ℕ) → Counted a n root nodes w
      → order_in a r w'' ≡ order_of key (graph_on a n w) nodes root
  found-order o nodes c = rw (front_kept s.graph k h) at (o.order nodes (counts-kept c))

-- ---- the start

module _ {a : Areas} {at n root : ℕ} {w : List ℕ} (s : Starting a n root w) (h : Arriving a at) where
  pub begun : {w₁ : List ℕ} → Copying a.incoming a.waiting a.nodes a.nodes w w₁ → Begun a at root w (set w₁ at root)
  begun {w₁} z =
      record {
        kept =
            kept_then (kept_less z.kept a.waiting a.incoming (omega arith) (omega (arith, h.apart)))
            (kept_set a.waiting a.incoming w₁ at root (omega (arith, h.apart)) (omega (arith, s.graph.tidy)));
        counts = region-over a.waiting a.nodes w₁ at root (omega (arith, h.apart)) ∙ z.done;
        first = rw (add-zero at) at (region-push at 0 w₁ root (omega (arith, z.kept.long, s.graph, s.graph.tidy, h.apart)));
      }

  pub begun-ready : {w' : List ℕ} → Begun a at root w w' → RootReady a at n root w'
  begun-ready b =
      record {
        start = starting-kept s b.kept (omega (arith, h.apart)) (omega arith);
        area = h;
        counts = b.counts ∙ sym (kept_above b.kept a.incoming a.nodes (omega arith));
        first = b.first;
      }

-- an order found once that is written
pub found-kept : {a : Areas} {n root r : ℕ} {key : ℕ → ℕ} {w w' w'' : List ℕ} → Starting a n root w → Kept a.waiting a.incoming w w' → OrderFound a n root key r w' w''
    → OrderFound a n root key r w w''
found-kept s k o = record { kept = kept_then k o.kept; nodes = o.nodes; order = found-order s k (omega (arith, s.graph.apart)) (omega arith) o }

-- the two areas that nodes arrive in
pub in_order : {a : Areas} → Apart a → Arriving a a.order
in_order s = record { apart = s; behind = omega arith; before = omega arith }

pub in-arrived : {a : Areas} → Apart a → Arriving a a.arrived
in-arrived s = record { apart = s; behind = omega arith; before = omega arith }

pub root_live : {a : Areas} {at n root : ℕ} {w : List ℕ} → RootReady a at n root w → Live a at n 1 w
unfolding ceiling
root_live {a} {at} {n} {root} {w} r =
    let s = r.start in
    let long = region-length a.incoming a.nodes w (omega (arith, s.graph, s.graph.apart)) in
    let free : get_or (incoming_in a w) root 0 ≡ 0 = s.counted.incoming root ∙ s.counted.rooted.root-free in
    record {
      graph = s.graph;
      area = r.area;
      ids = rw r.first (omega (arith, s.inside));
      room = rw r.counts (omega (arith, long, waiting-fewer (incoming_in a w) root (omega (arith, long, s.inside, s.graph.tidy)) free));
    }
