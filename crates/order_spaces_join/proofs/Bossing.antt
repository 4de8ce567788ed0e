-- The first bosses stored one by one, and the sets joined from them on.
use mathlib.Core.Path.{◌≡◌, sym, ap, ◌∙◌}
use Prim.Native.Nat.{ℕ, ◌+◌, ◌≤◌, ◌<◌}
use mathlib.Core.List.{List, map-append}
use native.Mathlib.Omega.{arith}
use native.Mathlib.Decide.{dec_le}
use lib.ListN.{length, get_or, set, length-map, get_or-eq_default}
use Rattle.regions.specs.Region.{Kept}
use Rattle.regions.proofs.Laws.{region-at, region-push, region-next}
use Rattle.regions.proofs.Frame.{kept_then, kept_set, kept-below}
use Rattle.model_orders.proofs.Spots.{map_at}
use Rattle.work.specs.Views.{order_in, spots_in, bosses_in}
use Rattle.work.specs.declared.Areas.{Areas}
use Rattle.order_graph.proofs.Links.{front_kept}
use Rattle.order_merge.specs.Bosses.{Falls}
use Rattle.order_spaces_near.specs.Near.{Ordered}
use Rattle.order_spaces_join.specs.Join.{own_bosses, Joining, Tying, BossesSet, TiedAlong, SetsJoined}
use Rattle.order_spaces_near.proofs.Frames.{ordered-kept, order-kept, order-long, node_in}

-- ---- the first bosses: t of them are stored

pub record Bossing (a : Areas) (r t : ℕ) (w₀ w : List ℕ) : Type 0 where
  pub some : t ≤ r
  pub kept : Kept a.bosses a.order w₀ w
  pub done : bosses_in a t w ≡ own_bosses (spots_in a w₀) (order_in a t w₀)

module _ {a : Areas} {n r t : ℕ} {w₀ w : List ℕ} (o : Ordered a n r w₀) (s : Bossing a r t w₀ w) where
  module _ (h : t < r) where
    abbrev node : ℕ
    node = get_or w (a.order + t) 0

    pub bossing-in : node < a.nodes
    bossing-in = omega (arith, node_in (ordered-kept o s.kept (omega arith) (omega arith)) t h, o.graph.tidy.nodes)

    pub bossing-next : Bossing a r (t + 1) w₀ (set w (a.bosses + t) (get_or w (a.spots + node) 0))
    bossing-next =
        let v = get_or w (a.spots + node) 0 in
        let x : node ≡ get_or w₀ (a.order + t) 0 =
        region-at a.order r w t h ∙ ap (λ (l : List ℕ). get_or l t 0) (order-kept o s.kept (omega arith) (omega arith)) ∙ sym (region-at a.order r w₀ t h) in
        let e : v ≡ get_or (spots_in a w₀) node 0 =
        region-at a.spots a.nodes w node bossing-in ∙ ap (λ (l : List ℕ). get_or l node 0) (kept-below s.kept a.spots a.nodes (omega arith)) in
        record {
          some = omega arith;
          kept = kept_then s.kept (kept_set a.bosses a.order w (a.bosses + t) v (omega arith) (omega (arith, o.few)));
          done =
              region-push a.bosses t w v (omega (arith, o.few, o.graph.long, s.kept.long))
              ∙ rw (s.done, e, x, region-next a.order t w₀ (omega (arith, o.few, o.graph.long)), map-append);
        }

-- ---- from the first bosses on

module _ {a : Areas} {n r : ℕ} {w w₁ : List ℕ} (s : Joining a n r w) (b : BossesSet a r w w₁) where
  own-falls : Falls (bosses_in a r w₁)
  own-falls = record { low = λ t. rw b.bosses (go t (dec_le r t)) }
    where
      long : length (order_in a r w) ≡ r
      long = order-long s.ordered

      go : (t : ℕ) → Dec (r ≤ t) → get_or (own_bosses (spots_in a w) (order_in a r w)) t 0 ≤ t
      go t (yes h) =
          let z : get_or (own_bosses (spots_in a w) (order_in a r w)) t 0 ≡ 0 = get_or-eq_default (own_bosses (spots_in a w) (order_in a r w)) 0 (rw length-map (omega (arith, h, long))) in
          omega (arith, z)
      go t (no h) = omega (arith, map_at (λ x. get_or (spots_in a w) x 0) (order_in a r w) t (omega (arith, long, h)), s.low t (omega (arith, h)))

  pub sets-tying : Tying a n r w₁
  sets-tying =
      record {
        ordered = ordered-kept s.ordered b.kept (omega arith) (omega arith);
        spots = rw (kept-below b.kept a.spots a.nodes (omega arith)) s.spots;
        falls = own-falls;
      }

  pub sets-joined : {w₂ : List ℕ} → TiedAlong a n r w₁ w₂ → SetsJoined a n r w w₂
  sets-joined t =
      record {
        kept = kept_then b.kept t.kept;
        falls = t.falls;
        labels =
            t.labels
            ∙ rw (
              b.bosses,
              front_kept s.ordered.graph b.kept (omega arith),
              kept-below b.kept a.spots a.nodes (omega arith),
              order-kept s.ordered b.kept (omega arith) (omega arith),
            );
      }
