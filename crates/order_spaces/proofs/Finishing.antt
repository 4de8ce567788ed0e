-- All steps one after the other give the numbers of the model's spaces.
use mathlib.Core.Path.{◌≡◌, ◌∙◌}
use Prim.Native.Nat.{ℕ, ◌+◌, ◌≤◌, ◌<◌, max}
use mathlib.Core.List.{List, [], ◌∷◌}
use mathlib.Core.Bool.{Bool, true, false}
use native.Mathlib.Omega.{arith}
use lib.ListN.{length, get_or, set, replicate}
use lib.Dec.{eqb}
use Rattle.lists.specs.Lists.{pick}
use Rattle.regions.specs.Region.{ceiling}
use Rattle.regions.proofs.Laws.{region-length}
use Rattle.regions.proofs.Bounds.{ceiling-at, ceiling-set, ceiling-replicate}
use Rattle.regions.proofs.Frame.{kept_then, kept_less}
use Rattle.model_orders.specs.Bag.{count}
use Rattle.model_orders.specs.Graph.{Graph}
use Rattle.model_orders.specs.Labels.{Settled}
use Rattle.model_orders.specs.Space.{narrow_kids, near, spot, labels}
use Rattle.model_orders.proofs.Spots.{map_at, spot_in, spot-at}
use Rattle.model_orders.proofs.Spaces.{own-settled}
use Rattle.work.specs.Views.{order_in, spots_in, bosses_in}
use Rattle.work.specs.declared.Areas.{Areas}
use Rattle.order_graph.specs.Graph.{graph_on}
use Rattle.order_graph.proofs.Links.{front_kept}
use Rattle.order_merge.specs.Bosses.{roots}
use Rattle.order_merge.proofs.Roots.{roots-settled}
use Rattle.order_spaces_near.specs.Near.{spots_from, cleared, cleared_all, Ordered, Marked}
use Rattle.order_spaces_join.specs.Join.{own_bosses, Joining, SetsJoined}
use Rattle.order_spaces.specs.Spaces.{Bossed, NumberedAlong, Spacing, Spaced}
use Rattle.order_spaces_near.proofs.Frames.{ordered-kept, order-kept}
use Rattle.order_spaces.proofs.Agree.{Shows, shows-near, own-agree, labels-agree}

-- ---- no stored position is past the order

spots-low : (l : List ℕ) (t : ℕ) (s : List ℕ) → ceiling (spots_from l t s) ≤ max (ceiling s) (t + length l)
unfolding spots_from
spots-low [] t s = omega arith
spots-low (x ∷ l) t s = omega (arith, spots-low l (t + 1) (set s x t), ceiling-set s x t)

cleared-low : (cs s : List ℕ) → ceiling (cleared cs s) ≤ max 1 (ceiling s)
unfolding cleared
cleared-low [] s = omega arith
cleared-low (c ∷ cs) s = omega (arith, cleared-low cs (set s c 0), ceiling-set s c 0)

all-low : (g : Graph) (l s : List ℕ) → ceiling (cleared_all g l s) ≤ max 1 (ceiling s)
unfolding cleared_all
all-low g [] s = omega arith
all-low g (x ∷ l) s = go (eqb (get_or s x 0) 0) (all-low g l (cleared (narrow_kids g x) s)) (all-low g l s)
  where
    go : (b : Bool) → ceiling (cleared_all g l (cleared (narrow_kids g x) s)) ≤ max 1 (ceiling (cleared (narrow_kids g x) s)) → ceiling (cleared_all g l s) ≤ max 1 (ceiling s)
        → ceiling (cleared_all g l (pick b (cleared (narrow_kids g x) s) s)) ≤ max 1 (ceiling s)
    go true i j = omega (arith, i, cleared-low (narrow_kids g x) s)
    go false i j = j

-- ---- the steps

module _ {a : Areas} {n r root : ℕ} {w : List ℕ} (s : Spacing a n r root w) where
  abbrev graph : Graph
  graph = graph_on a n w

  abbrev nodes : List ℕ
  nodes = order_in a r w

  nodes-long : length nodes ≡ r
  nodes-long = region-length a.order r w (omega (arith, s.graph.apart, s.graph.long, s.few))

  pub spacing-ordered : Ordered a n r w
  spacing-ordered =
      record {
        graph = s.graph;
        some = omega (arith, spot_in nodes root s.sorted.rooted.root_in, nodes-long);
        few = s.few;
        ids = s.ids;
        once = s.sorted.rooted.once;
      }

  inside : (c : ℕ) → 0 < count c nodes → c < a.nodes
  inside c h = omega (arith, s.ids, s.graph.tidy.nodes, ceiling-at nodes (spot nodes c) (spot_in nodes c h), spot-at nodes c h)

  module _ {w₁ : List ℕ} (m : Marked a n r w w₁) where
    shown : Shows nodes root a.nodes (spots_in a w₁) (near graph nodes root)
    shown = rw m.spots (shows-near graph nodes root a.nodes s.sorted inside)

    order₁ : order_in a r w₁ ≡ nodes
    order₁ = order-kept spacing-ordered m.kept (omega (arith, s.graph.apart)) (omega (arith, s.graph.apart))

    own : Settled (own_bosses (spots_in a w₁) nodes)
    own = rw (own-agree graph nodes root a.nodes s.sorted inside (spots_in a w₁) shown) (own-settled graph nodes root s.sorted)

    pub marked-joining : Joining a n r w₁
    marked-joining =
        record {
          ordered = ordered-kept spacing-ordered m.kept (omega (arith, s.graph.apart)) (omega (arith, s.graph.apart));
          spots =
              rw m.spots (omega (
                arith,
                all-low graph nodes (spots_from nodes 0 (replicate a.nodes 0)),
                spots-low nodes 0 (replicate a.nodes 0),
                ceiling-replicate a.nodes 0,
                nodes-long,
                spacing-ordered.some,
              ));
          low = λ t h. rw order₁ (omega (arith, own.low t, map_at (λ x. get_or (spots_in a w₁) x 0) nodes t (omega (arith, nodes-long))));
        }

    module _ {w₂ : List ℕ} (j : SetsJoined a n r w₁ w₂) where
      pub joined-bossed : Bossed a n r w₂
      joined-bossed =
          record { ordered = ordered-kept marked-joining.ordered j.kept (omega (arith, s.graph.apart)) (omega (arith, s.graph.apart)); falls = j.falls }

      order₂ : order_in a r w₂ ≡ nodes
      order₂ = order-kept marked-joining.ordered j.kept (omega (arith, s.graph.apart)) (omega (arith, s.graph.apart)) ∙ order₁

      labels-are : roots (bosses_in a r w₂) ≡ labels graph nodes root
      labels-are =
          j.labels
          ∙ rw (order₁, front_kept s.graph m.kept (omega (arith, s.graph.apart)), (roots-settled own).1)
          (labels-agree graph nodes root a.nodes s.sorted inside (spots_in a w₁) shown)

      pub spaced : {w₃ : List ℕ} → NumberedAlong a r w₂ w₃ → Spaced a n r root w w₃
      spaced c =
          let p = s.graph.apart in
          record {
            between = w₂;
            kept =
                kept_then (kept_less m.kept a.spots a.order (omega arith) (omega (arith, p)))
                (kept_less j.kept a.spots a.order (omega (arith, p)) (omega arith));
            only = c.kept;
            small = c.small;
            numbers = λ x h. rw (order₂, spot-at nodes x h, labels-are) at (c.numbers (spot nodes x) (omega (arith, spot_in nodes x h, nodes-long)));
          }
