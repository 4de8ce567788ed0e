-- The sets numbered one position after the other.
use mathlib.Core.Path.{◌≡◌, refl, sym, ap, ◌∙◌}
use Prim.Native.Nat.{ℕ, suc, ◌+◌, ◌≤◌, ◌<◌, max}
use mathlib.Core.List.{List}
use native.Mathlib.Omega.{arith}
use native.Mathlib.Decide.{dec_le}
use native.Mathlib.Numerals.{add-one}
use lib.ListN.{get_or, set}
use lib.Seq.{get_or-set_same, get_or-set_other}
use borrow.Author.Tests.{ne_eqb}
use Rattle.regions.specs.Region.{ceiling, Kept, Filling}
use Rattle.regions.proofs.Laws.{region-length, region-at, region-in}
use Rattle.regions.proofs.Bounds.{ceiling-set, ceiling-replicate}
use Rattle.regions.proofs.Frame.{kept-all, kept_then, kept_set, kept_less, kept-below}
use Rattle.model_orders.specs.Labels.{begun, Settled}
use Rattle.model_orders.proofs.Bags.{Same, same, other, same_or}
use Rattle.model_orders.proofs.Labels.{begun-own, begun-other, begun-low, begun-rises, number_at}
use Rattle.work.specs.Views.{order_in, bosses_in, spaces_in}
use Rattle.work.specs.declared.Areas.{Areas}
use Rattle.order_merge.specs.Bosses.{roots}
use Rattle.order_merge.proofs.Roots.{Rooted, rooted-settled, roots-rooted}
use Rattle.order_spaces_near.specs.Near.{Ordered}
use Rattle.order_spaces.specs.Spaces.{number_by, Bossed, Numbering, NumberedAlong}
use Rattle.order_spaces_near.proofs.Frames.{ordered-behind, order-behind, node-is, node_in, order_other}

-- ---- the number of one position

module _ {a : Areas} {n r t : ℕ} {w : List ℕ} (h : t < r) (s : Bossed a n r w) where
  abbrev boss : ℕ
  boss = get_or w (a.bosses + t) 0

  boss-is : boss ≡ get_or (bosses_in a r w) t 0
  boss-is = region-at a.bosses r w t h

  pub boss-low : boss ≤ t
  boss-low = omega (arith, boss-is, s.falls.low t)

  pub boss-node : get_or w (a.order + boss) 0 < a.nodes
  boss-node = omega (arith, node_in s.ordered boss (omega (arith, boss-low)), s.ordered.graph.tidy.nodes)

  pub number-old : (next : ℕ) → (boss ≡ t → ⊥) → get_or w (a.spaces + get_or w (a.order + boss) 0) 0 ≡ number_by (bosses_in a r w) (order_in a r w) (spaces_in a w) t next
  number-old next d =
      rw (ne_eqb (get_or (bosses_in a r w) t 0) t (λ e. d (boss-is ∙ e)), ← boss-is, ← node-is s.ordered boss (omega (arith, boss-low)))
      (region-at a.spaces a.nodes w (get_or w (a.order + boss) 0) boss-node)

-- ---- all: t of them are stored

pub record Counting (a : Areas) (r t next : ℕ) (w₀ w : List ℕ) : Type 0 where
  pub some : t ≤ r
  pub kept : Kept a.spaces a.origins w₀ w
  pub count : next ≡ begun (roots (bosses_in a r w₀)) t
  pub low : next ≤ t
  pub small : ceiling (spaces_in a w) ≤ r
  pub done :
      (j : ℕ) → j < t → get_or (spaces_in a w) (get_or (order_in a r w₀) j 0) 0 ≡ begun (roots (bosses_in a r w₀)) (get_or (roots (bosses_in a r w₀)) j 0)

module _ {a : Areas} {n r : ℕ} {w₀ : List ℕ} (s : Numbering a n r w₀) where
  abbrev bosses : List ℕ
  bosses = bosses_in a r w₀

  abbrev labels : List ℕ
  labels = roots bosses

  abbrev nodes : List ℕ
  nodes = order_in a r w₀

  rooted : Rooted bosses labels
  rooted = roots-rooted bosses s.bossed.falls

  settled : Settled labels
  settled = rooted-settled s.bossed.falls rooted

  pub counting-none : Counting a r 0 0 w₀ w₀
  unfolding begun
  counting-none = record { some = omega arith; kept = kept-all; count = refl; low = omega arith; small = s.small; done = λ j k. absurd (omega arith) }

  module _ {t next : ℕ} {w : List ℕ} (c : Counting a r t next w₀ w) where
    ordered : Ordered a n r w
    ordered = ordered-behind s.bossed.ordered c.kept (omega arith) (omega arith)

    bosses-are : bosses_in a r w ≡ bosses
    bosses-are = kept-below c.kept a.bosses r (omega arith)

    nodes-are : order_in a r w ≡ nodes
    nodes-are = order-behind s.bossed.ordered c.kept (omega arith) (omega arith)

    pub counting-asks : Bossed a n r w
    counting-asks = record { ordered = ordered; falls = rw bosses-are s.bossed.falls }

    module _ (h : t < r) where
      abbrev node : ℕ
      node = get_or w (a.order + t) 0

      pub counting-in : node < a.nodes
      counting-in = omega (arith, node_in ordered t h, s.bossed.ordered.graph.tidy.nodes)

      here : node ≡ get_or nodes t 0
      here = node-is ordered t h ∙ ap (λ (l : List ℕ). get_or l t 0) nodes-are

      module _ {v : ℕ} (e : v ≡ number_by (bosses_in a r w) (order_in a r w) (spaces_in a w) t next) where
        -- the number is that of the label
        value : v ≡ begun labels (get_or labels t 0)
        value = (rw (bosses-are, nodes-are) at e) ∙ go (same_or (get_or bosses t 0) t)
          where
            go : Same (get_or bosses t 0) t → number_by bosses nodes (spaces_in a w) t next ≡ begun labels (get_or labels t 0)
            go (same f b _) = rw b (c.count ∙ ap (begun labels) (sym (rooted.top t f)))
            go (other d b _) =
                rw b (c.done (get_or bosses t 0) (omega (arith, d, s.bossed.falls.low t)) ∙ ap (begun labels) (sym (rooted.up t)))

        stored : (next' : ℕ) → next' ≡ begun labels (t + 1) → Counting a r (t + 1) next' w₀ (set w (a.spaces + node) v)
        stored next' q =
            let z = region-in a.spaces a.nodes w node v counting-in in
            record {
              some = omega arith;
              kept = kept_then c.kept (kept_set a.spaces a.origins w (a.spaces + node) v (omega arith) (omega (arith, counting-in)));
              count = q;
              low = omega (arith, q, begun-low labels (t + 1));
              small = rw z (omega (arith, ceiling-set (spaces_in a w) node v, c.small, value, begun-low labels (get_or labels t 0), settled.low t));
              done = λ j i. rw z (go j i (same_or j t));
            }
          where
            go : (j : ℕ) → j < t + 1 → Same j t → get_or (set (spaces_in a w) node v) (get_or nodes j 0) 0 ≡ begun labels (get_or labels j 0)
            go j i (same f _ _) =
                rw (f, ← here)
                (get_or-set_same (spaces_in a w) node v 0 (omega (arith, counting-in, region-length a.spaces a.nodes w (omega (arith, ordered.graph.apart, ordered.graph.long)))) ∙ value)
            go j i (other d _ _) =
                get_or-set_other (spaces_in a w) node (get_or nodes j 0) v 0 (λ f. order_other s.bossed.ordered j t (omega (arith, d)) h d (f ∙ here))
                ∙ c.done j (omega (arith, d))

        -- a lower number is an earlier set's
        old : v < next → next ≡ begun labels (t + 1)
        old l = c.count ∙ rw add-one (sym (begun-other labels t (λ f. omega (arith, value, c.count, ap (begun labels) f))))

        own : next ≤ v → get_or labels t 0 ≡ t
        own l = go (same_or (get_or labels t 0) t)
          where
            go : Same (get_or labels t 0) t → get_or labels t 0 ≡ t
            go (same f _ _) = f
            go (other d _ _) = absurd (omega (arith, value, c.count, begun-rises labels (get_or labels t 0) t (settled.own t) (omega (arith, d, settled.low t))))

        new : next ≤ v → suc next ≡ begun labels (t + 1)
        new l = rw (add-one t) (ap suc c.count ∙ sym (begun-own labels t (own l)))

        pub counting-low : v ≤ t
        counting-low = omega (arith, value, begun-low labels (get_or labels t 0), settled.low t)

        pub counting-next : {next' : ℕ} → next' ≡ max next (v + 1) → Counting a r (t + 1) next' w₀ (set w (a.spaces + node) v)
        counting-next {next'} q = go (dec_le next v)
          where
            go : Dec (next ≤ v) → Counting a r (t + 1) next' w₀ (set w (a.spaces + node) v)
            go (yes l) = stored next' (omega (arith, q, new l, value, c.count, ap (begun labels) (own l)))
            go (no l) = stored next' (omega (arith, q, old (omega arith)))

    pub counting-all : r ≤ t → NumberedAlong a r w₀ w
    counting-all h = record { kept = c.kept; small = c.small; numbers = λ j i. c.done j (omega arith) ∙ sym (number_at labels j) }

-- ---- from words that are all 0

module _ {a : Areas} {n r : ℕ} {w w₁ : List ℕ} (s : Bossed a n r w) (f : Filling a.spaces a.nodes 0 a.nodes w w₁) where
  filled : Kept a.spaces a.origins w w₁
  filled = kept_less f.kept a.spaces a.origins (omega arith) (omega arith)

  bosses-same : bosses_in a r w₁ ≡ bosses_in a r w
  bosses-same = kept-below filled a.bosses r (omega arith)

  pub numbers-asks : Numbering a n r w₁
  numbers-asks =
      let z : ceiling (spaces_in a w₁) ≤ 1 = rw f.done (ceiling-replicate a.nodes 0) in
      record {
        bossed = record { ordered = ordered-behind s.ordered filled (omega arith) (omega arith); falls = rw bosses-same s.falls };
        small = omega (arith, z, s.ordered.some);
      }

  pub numbers-set : {w₂ : List ℕ} → NumberedAlong a r w₁ w₂ → NumberedAlong a r w w₂
  numbers-set c =
      record {
        kept = kept_then filled c.kept;
        small = c.small;
        numbers = rw (order-behind s.ordered filled (omega arith) (omega arith), bosses-same) at c.numbers;
      }
