-- The order that comes of the keys.
use mathlib.Core.Path.{◌≡◌, ap, fun_ext, ◌∙◌}
use Prim.Native.Nat.{ℕ}
use mathlib.Core.List.{List}
use native.Mathlib.Omega.{arith}
use Rattle.regions.proofs.Frame.{kept_then, kept_less}
use Rattle.model_orders.specs.Order.{order_of}
use Rattle.work.specs.Views.{key_in}
use Rattle.work.specs.declared.Areas.{Areas}
use Rattle.order_graph.specs.Graph.{graph_on}
use Rattle.order_place.specs.Place.{same_key, Starting, OrderFound}
use Rattle.order_place.proofs.Starting.{starting-kept, found-order}
use Rattle.order.specs.Try.{Trying, Keyed, Ordered}
use Rattle.order.specs.declared.By.{By}

module _ {a : Areas} {n root : ℕ} {by : By} {w : List ℕ} (t : Trying a n root by w) where
  pub trying-starting : Starting a n root w
  trying-starting = record { graph = t.surveyed.graph; inside = t.surveyed.inside; nodes = t.nodes; counted = t.surveyed.counted }

  module _ {w₁ : List ℕ} (k : Keyed a by w w₁) where
    pub keyed-starting : Starting a n root w₁
    keyed-starting = starting-kept trying-starting k.kept (omega arith) (omega (arith, t.surveyed.graph.apart))

    pub keyed-order : {r : ℕ} {w₂ : List ℕ} → OrderFound a n root (key_in a w₁) r w₁ w₂ → Ordered a n root by r w w₂
    keyed-order o =
        let apart = t.surveyed.graph.apart in
        record {
          kept = kept_then (kept_less k.kept a.keys a.incoming (omega arith) (omega (arith, apart))) (kept_less o.kept a.keys a.incoming (omega (arith, apart)) (omega arith));
          nodes = o.nodes;
          order =
              λ nodes c. found-order trying-starting k.kept (omega arith) (omega (arith, apart)) o nodes c
              ∙ ap (λ (key : ℕ → ℕ). order_of key (graph_on a n w) nodes root) (fun_ext k.keys);
        }

pub turn-order : {a : Areas} {n root r : ℕ} {by : By} {w w₁ : List ℕ} → by ≡ By.Readiness → Trying a n root by w → OrderFound a n root same_key r w w₁ → Ordered a n root by r w w₁
turn-order {a} e t o =
    rw e
    (record { kept = kept_less o.kept a.keys a.incoming (omega (arith, t.surveyed.graph.apart)) (omega arith); nodes = o.nodes; order = o.order })
