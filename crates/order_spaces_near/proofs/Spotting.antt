-- The positions stored one by one.
use mathlib.Core.Path.{◌≡◌, sym, ◌∙◌}
use Prim.Native.Nat.{ℕ, ◌+◌, ◌≤◌, ◌<◌}
use mathlib.Core.List.{List}
use native.Mathlib.Omega.{arith}
use lib.ListN.{get_or, set, drop}
use Rattle.regions.specs.Region.{Kept, Filling}
use Rattle.regions.proofs.Laws.{region-in}
use Rattle.regions.proofs.Frame.{kept_then, kept_set, kept_less}
use Rattle.work.specs.Views.{order_in, spots_in}
use Rattle.work.specs.declared.Areas.{Areas}
use Rattle.order_spaces_near.specs.Near.{spots_from, Ordered, SpottedAlong, SpotsSet}
use Rattle.order_spaces_near.proofs.Frames.{ordered-kept, order-kept, node_in, order-rest, order-done}

-- t of them are stored
pub record Spotting (a : Areas) (r t : ℕ) (w₀ w : List ℕ) : Type 0 where
  pub some : t ≤ r
  pub kept : Kept a.spots a.waiting w₀ w
  pub left : spots_from (order_in a r w₀) 0 (spots_in a w₀) ≡ spots_from (drop t (order_in a r w₀)) t (spots_in a w)

module _ {a : Areas} {n r t : ℕ} {w₀ w : List ℕ} (o : Ordered a n r w₀) (s : Spotting a r t w₀ w) where
  module _ (h : t < r) where
    abbrev node : ℕ
    node = get_or w (a.order + t) 0

    now : Ordered a n r w
    now = ordered-kept o s.kept (omega arith) (omega arith)

    pub spotting-in : node < a.nodes
    spotting-in = omega (arith, node_in now t h, o.graph.tidy.nodes)

    pub spotting-next : Spotting a r (t + 1) w₀ (set w (a.spots + node) t)
    unfolding spots_from
    spotting-next =
        record {
          some = omega arith;
          kept = kept_then s.kept (kept_set a.spots a.waiting w (a.spots + node) t (omega arith) (omega (arith, spotting-in)));
          left =
              s.left
              ∙ rw (← order-kept o s.kept (omega arith) (omega arith), order-rest now t h, spots_from, region-in a.spots a.nodes w node t spotting-in);
        }

  pub spotting-all : r ≤ t → SpottedAlong a r w₀ w
  unfolding spots_from
  spotting-all h = record { kept = s.kept; spots = sym (s.left ∙ rw (order-done o t h, spots_from)) }

-- ---- from words that are all 0

module _ {a : Areas} {n r : ℕ} {w w₁ : List ℕ} (o : Ordered a n r w) (f : Filling a.spots a.nodes 0 a.nodes w w₁) where
  filled : Kept a.spots a.waiting w w₁
  filled = kept_less f.kept a.spots a.waiting (omega arith) (omega arith)

  pub spots-asks : Ordered a n r w₁
  spots-asks = ordered-kept o filled (omega arith) (omega arith)

  pub spots-set : {w₂ : List ℕ} → SpottedAlong a r w₁ w₂ → SpotsSet a r w w₂
  spots-set s = record { kept = kept_then filled s.kept; spots = s.spots ∙ rw (order-kept o filled (omega arith) (omega arith), f.done) }
