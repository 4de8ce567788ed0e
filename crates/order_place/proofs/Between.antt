-- Between two turns in the work memory: m nodes have become ready, and q of them are placed.
use mathlib.Core.Path.{◌≡◌, refl, ap, ◌∙◌}
use Prim.Native.Nat.{ℕ, ◌≤◌}
use mathlib.Core.List.{List, [], ◌∷◌}
use native.Mathlib.Omega.{arith}
use lib.ListN.{get_or}
use Rattle.regions.specs.Region.{Kept}
use Rattle.regions.proofs.Frame.{kept-all}
use Rattle.work.specs.declared.Areas.{Areas}
use Rattle.work.specs.Views.{waiting_in, order_in}
use Rattle.model_orders.specs.Order.{order_of}
use Rattle.model_orders.proofs.SameNodes.{order-agree}
use Rattle.order_graph.specs.Graph.{graph_on, Counted}
use Rattle.order_graph.proofs.Nodes.{counted-bag}
use Rattle.order_release.specs.Release.{Live}
use Rattle.order_place.specs.Place.{RootReady}
use Rattle.order_place.proofs.Turns.{Turn, turn-first, turn_last}
use Rattle.order_place.proofs.Starting.{root_live}

pub record Between (key : ℕ → ℕ) (a : Areas) (at n root m q : ℕ) (ready w₀ w : List ℕ) : Type 0 where
  pub kept : Kept a.waiting a.incoming w₀ w
  pub live : Live a at n m w
  pub some : q ≤ m
  pub nodes : List ℕ
  pub counted : Counted a n root nodes w₀
  pub left : List ℕ
  pub turn : Turn key (graph_on a n w₀) nodes root (waiting_in a w) (order_in a q w) left ready

pub between_first : {a : Areas} {at n root : ℕ} {w : List ℕ} (key : ℕ → ℕ) → RootReady a at n root w → Between key a at n root 1 0 (root ∷ []) w w
between_first {w = w} key r =
    let s = r.start.counted in
    record {
      kept = kept-all;
      live = root_live r;
      some = omega arith;
      nodes = r.start.nodes;
      counted = s;
      left = r.start.nodes;
      turn = turn-first key _ s.rooted (λ c. ap (λ (cs : List ℕ). get_or cs c 0) r.counts ∙ s.incoming c);
    }

-- with none ready all is placed, and the counts tell which nodes those were
pub between-last : {key : ℕ → ℕ} {a : Areas} {at n root m q : ℕ} {w₀ w : List ℕ} → Between key a at n root m q [] w₀ w → (l : List ℕ) → Counted a n root l w₀
    → order_in a q w ≡ order_of key (graph_on a n w₀) l root
between-last {key} b l c = turn_last b.turn ∙ order-agree key key b.counted.rooted l (counted-bag b.counted c) (λ i h. refl)
