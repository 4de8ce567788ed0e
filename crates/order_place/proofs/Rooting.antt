-- By keys: the root goes into the empty heap.
use mathlib.Core.Path.{◌≡◌, sym, ap, ◌∙◌}
use Prim.Native.Nat.{ℕ}
use mathlib.Core.List.{List, []}
use native.Mathlib.Omega.{arith}
use lib.ListN.{get_or}
use Rattle.regions.specs.Region.{ceiling, Kept}
use Rattle.regions.proofs.Frame.{kept_then, kept_less, kept-below, kept_above}
use Rattle.work.specs.Areas.{Apart}
use Rattle.work.specs.declared.Areas.{Areas}
use Rattle.work.specs.Views.{key_in}
use Rattle.order_heap.specs.Heap.{Heaped}
use Rattle.order_heap.proofs.Stamped.{stamped-none}
use Rattle.order_ready.specs.Ready.{SmallKeys, Pushing, PushedAll}
use Rattle.order_place.specs.Place.{Starting, Begun, RootReady, RootInHeap, OrderFound}
use Rattle.order_place.proofs.Starting.{keys_kept, starting-kept, found-kept, begun-ready, in-arrived}

heaped-none : Heaped []
heaped-none = record { above = λ i h. absurd (omega arith) }

module _ {a : Areas} {n root : ℕ} {w w₁ : List ℕ} (s : Starting a n root w) (k : SmallKeys a w) (b : Begun a a.arrived root w w₁) where
  abbrev apart : Apart a
  apart = s.graph.apart

  ready₁ : RootReady a a.arrived n root w₁
  ready₁ = begun-ready s (in-arrived apart) b

  small₁ : SmallKeys a w₁
  small₁ = rw (keys_kept apart b.kept) k

  pub root-pushing : Pushing a n 0 1 0 w₁
  unfolding ceiling
  root-pushing =
      record {
        graph = ready₁.start.graph;
        small = small₁;
        few = omega (arith, s.inside, s.graph.tidy);
        more = omega arith;
        some = omega arith;
        ids = rw b.first (omega (arith, s.inside));
        heaped = heaped-none;
      }

  module _ {w₂ : List ℕ} (p : PushedAll a 0 1 0 w₁ w₂) where
    kept₂ : Kept a.waiting a.incoming w₁ w₂
    kept₂ = kept_less p.kept a.waiting a.incoming (omega (arith, apart)) (omega (arith, apart))

    pub root-heap : RootInHeap a n root w₂
    root-heap =
        record {
          ready =
              record {
                start = starting-kept ready₁.start kept₂ (omega (arith, apart)) (omega arith);
                area = ready₁.area;
                counts =
                    kept-below p.kept a.waiting a.nodes (omega (arith, apart)) ∙ ready₁.counts
                    ∙ sym (kept_above p.kept a.incoming a.nodes (omega (arith, apart)));
                first = kept-below p.kept a.arrived 1 (omega (arith, apart, s.inside, s.graph.tidy)) ∙ b.first;
              };
          small = rw (keys_kept apart kept₂) small₁;
          holds = rw b.first at (p.held [] (record { heaped = heaped-none; stamped = stamped-none (key_in a w₁) }));
        }

    pub root-found : {r : ℕ} {w₃ : List ℕ} → OrderFound a n root (key_in a w₂) r w₂ w₃ → OrderFound a n root (key_in a w) r w w₃
    root-found {r} {w₃} o =
        let kept = kept_then b.kept kept₂ in
        let key : key_in a w₂ ≡ key_in a w = ap {B = ℕ → ℕ} (λ (ks : List ℕ) (i : ℕ). get_or ks i 0) (keys_kept apart kept) in
        found-kept s kept (rw key at o)
