-- The sets joined along a node's links, and along the order.
use mathlib.Core.Path.{◌≡◌, refl, sym, ap, ◌∙◌}
use Prim.Native.Nat.{ℕ, zero, suc, ◌+◌, ◌-◌, ◌≤◌, ◌<◌}
use mathlib.Core.List.{List, [], ◌∷◌, ◌++◌, map}
use mathlib.Core.Bool.{not}
use native.Mathlib.Omega.{arith}
use lib.ListN.{length, get_or, take, drop, replicate}
use lib.Dec.{eqb}
use borrow.Author.Tests.{eq-eqb, ne_eqb}
use Rattle.lists.specs.Lists.{pick}
use Rattle.regions.specs.Region.{Kept}
use Rattle.regions.proofs.Laws.{region-length, region-at}
use Rattle.regions.proofs.Bounds.{ceiling-at}
use Rattle.regions.proofs.Frame.{kept_then, kept_less, kept-below}
use Rattle.model_orders.specs.Object.{widest}
use Rattle.model_orders.specs.Labels.{merged, merge, join}
use Rattle.model_orders.specs.Space.{narrow_of, narrow_kids}
use Rattle.model_orders.proofs.Labels.{Merged, higher, stays, merged_or, join-joins}
use Rattle.work.specs.Views.{order_in, spots_in, bosses_in}
use Rattle.work.specs.declared.Areas.{Areas}
use Rattle.order_graph.specs.Graph.{graph_on, links_at, links_after, link_count, FromLink, RunFrom}
use Rattle.order_graph.proofs.Links.{front_kept, from-kept}
use Rattle.order_merge.specs.Bosses.{roots, Falls}
use Rattle.order_spaces_near.specs.Near.{RunOf}
use Rattle.order_spaces_join.specs.Join.{tied, tied_all, Tying, JoinedAt, TiedLinks, TiedAlong}
use Rattle.order_spaces_near.proofs.Frames.{ordered-kept, order-kept, node_in, order-rest, order-done}
use Rattle.order_spaces_near.proofs.Kids.{kids-none, run-kids, run-wide, run-narrow}

-- ---- what is asked stays while bosses change

tying-kept : {a : Areas} {n r : ℕ} {w w' : List ℕ} → Tying a n r w → Kept a.bosses a.order w w' → Falls (bosses_in a r w') → Tying a n r w'
tying-kept {a} s k f =
    record {
      ordered = ordered-kept s.ordered k (omega arith) (omega arith);
      spots = rw (kept-below k a.spots a.nodes (omega arith)) s.spots;
      falls = f;
    }

spot-low : {a : Areas} {n r x : ℕ} {w : List ℕ} → Tying a n r w → x < n → get_or (spots_in a w) x 0 < r
spot-low {a} {x = x} {w = w} s h =
    let o = s.ordered in
    let long = region-length a.spots a.nodes w (omega arith) in
    omega (arith, s.spots, ceiling-at (spots_in a w) x (omega (arith, long, o.graph.tidy.nodes)))

-- ---- a child that several links in a row lead to is joined once

merged-own : (x l : ℕ) → merged x x l ≡ l
merged-own x l = go (merged_or x x l)
  where
    go : Merged x x l → merged x x l ≡ l
    go (higher e q) = q ∙ omega arith
    go (stays _ q) = q

merge-own : (x : ℕ) (s : List ℕ) → merge x x s ≡ s
unfolding merge
merge-own x [] = refl
merge-own x (l ∷ s) = ap (λ (k : ℕ). k ∷ map (merged x x) s) (merged-own x l) ∙ ap (λ (m : List ℕ). l ∷ m) (merge-own x s)

join-again : (x y : ℕ) (s : List ℕ) → join x y (join x y s) ≡ join x y s
join-again x y s =
    let one : List ℕ = join x y s in
    ap (λ (k : ℕ). merge k (get_or one y 0) one) (join-joins x y s) ∙ merge-own (get_or one y 0) one

module _ (s : List ℕ) (x c : ℕ) (cs : List ℕ) where
  tied-near : get_or s c 0 ≡ 0 → (k : ℕ) (l : List ℕ) → tied s x (replicate k c ++ cs) l ≡ tied s x cs l
  unfolding tied
  tied-near z zero l = refl
  tied-near z (suc k) l =
      let none : pick (eqb (get_or s c 0) 0) l (join x (get_or s c 0) l) ≡ l = rw (eq-eqb (get_or s c 0) 0 z) in
      ap (tied s x (replicate k c ++ cs)) none ∙ tied-near z k l

  tied-once : (get_or s c 0 ≡ 0 → ⊥) → (k : ℕ) (l : List ℕ) → tied s x (replicate (suc k) c ++ cs) l ≡ tied s x cs (join x (get_or s c 0) l)
  unfolding tied
  tied-once d zero l = rw (ne_eqb (get_or s c 0) 0 d)
  tied-once d (suc k) l =
      let one : List ℕ = join x (get_or s c 0) l in
      let joined : pick (eqb (get_or s c 0) 0) l one ≡ one = rw (ne_eqb (get_or s c 0) 0 d) in
      ap (tied s x (replicate (suc k) c ++ cs)) joined ∙ tied-once d k one ∙ ap (tied s x cs) (join-again x (get_or s c 0) l)

-- ---- a node's links: t of them are done

pub record Turning (a : Areas) (n r i x t : ℕ) (w₀ w : List ℕ) : Type 0 where
  pub some : t ≤ link_count a (take a.keys w₀) i
  pub kept : Kept a.bosses a.order w₀ w
  pub falls : Falls (bosses_in a r w)
  pub left :
      tied (spots_in a w₀) x (narrow_kids (graph_on a n w₀) i) (roots (bosses_in a r w₀))
      ≡ tied (spots_in a w₀) x (narrow_of (links_after a (take a.keys w₀) i t)) (roots (bosses_in a r w))

module _ {a : Areas} {n r i x : ℕ} {w₀ : List ℕ} (h : i < n) (s : Tying a n r w₀) where
  module _ {t : ℕ} {w : List ℕ} (c : Turning a n r i x t w₀ w) where
    pub turning-link : {from : ℕ} → t < link_count a (take a.keys w₀) i → from ≡ links_at a (take a.keys w₀) i → FromLink a n i t from w
    turning-link l e = from-kept (record { graph = s.ordered.graph; inside = h }) c.kept (omega arith) l e

    module _ {end child width : ℕ} (k : RunFrom a n (take a.keys w) i t end child width) where
      run : RunFrom a n (take a.keys w₀) i t end child width
      run = rw (front_kept s.ordered.graph c.kept (omega arith)) at k

      abbrev here : RunOf a n (take a.keys w₀) i t end child (not (eqb width widest))
      here = run-kids run

      abbrev spot : ℕ
      spot = get_or w (a.spots + child) 0

      spot_is : spot ≡ get_or (spots_in a w₀) child 0
      spot_is =
          region-at a.spots a.nodes w child (omega (arith, here.known))
          ∙ ap (λ (m : List ℕ). get_or m child 0) (kept-below c.kept a.spots a.nodes (omega arith))

      pub turning-wide : width ≡ widest → Turning a n r i x end w₀ w
      turning-wide e = record { some = here.most; kept = c.kept; falls = c.falls; left = c.left ∙ rw (here.kids, run-wide run e) }

      -- a child in space 0 joins nothing
      pub turning-near : spot ≡ 0 → Turning a n r i x end w₀ w
      turning-near z =
          record {
            some = here.most;
            kept = c.kept;
            falls = c.falls;
            left = c.left ∙ rw here.kids (tied-near (spots_in a w₀) x child _ (sym spot_is ∙ z) here.times _);
          }

      pub turning-asks : x < r → (x < r) × (spot < r) × (a.bosses + r ≤ length w) × Falls (bosses_in a r w)
      turning-asks b =
          (b, omega (arith, spot_is, spot-low s here.known), omega (arith, s.ordered.few, s.ordered.graph.long, c.kept.long), c.falls)

      pub turning-join : {w' : List ℕ} → (width ≡ widest → ⊥) → (spot ≡ 0 → ⊥) → JoinedAt a.bosses r x spot w w' → Turning a n r i x end w₀ w'
      turning-join e d j =
          let often : here.times ≡ suc (here.times - 1) = omega (arith, run-narrow run e) in
          record {
            some = here.most;
            kept = kept_then c.kept (kept_less j.kept a.bosses a.order (omega arith) (omega (arith, s.ordered.few)));
            falls = j.falls;
            left =
                c.left
                ∙ rw (here.kids, often, tied-once (spots_in a w₀) x child _ (λ z. d (spot_is ∙ z)) (here.times - 1) (roots (bosses_in a r w)), ← spot_is, j.one);
          }

    pub turning-all : link_count a (take a.keys w₀) i ≤ t → TiedLinks a n r i x w₀ w
    unfolding tied
    turning-all l = record { kept = c.kept; falls = c.falls; labels = sym (c.left ∙ rw (kids-none a (take a.keys w₀) i t l, tied)) }

-- ---- the nodes of the order: t of them are done

pub record Along (a : Areas) (n r t : ℕ) (w₀ w : List ℕ) : Type 0 where
  pub some : t ≤ r
  pub kept : Kept a.bosses a.order w₀ w
  pub falls : Falls (bosses_in a r w)
  pub left :
      tied_all (graph_on a n w₀) (spots_in a w₀) (order_in a r w₀) (roots (bosses_in a r w₀))
      ≡ tied_all (graph_on a n w₀) (spots_in a w₀) (drop t (order_in a r w₀)) (roots (bosses_in a r w))

module _ {a : Areas} {n r : ℕ} {w₀ : List ℕ} (s : Tying a n r w₀) where
  module _ {t : ℕ} {w : List ℕ} (c : Along a n r t w₀ w) where
    module _ (h : t < r) where
      abbrev node : ℕ
      node = get_or w (a.order + t) 0

      abbrev at : ℕ
      at = get_or w (a.spots + node) 0

      pub along-asks : Tying a n r w
      along-asks = tying-kept s c.kept c.falls

      pub along-in : node < n
      along-in = node_in along-asks.ordered t h

      order-left : drop t (order_in a r w₀) ≡ node ∷ drop (t + 1) (order_in a r w₀)
      order-left = rw (← order-kept s.ordered c.kept (omega arith) (omega arith)) (order-rest along-asks.ordered t h)

      spots-are : spots_in a w ≡ spots_in a w₀
      spots-are = kept-below c.kept a.spots a.nodes (omega arith)

      at-is : at ≡ get_or (spots_in a w₀) node 0
      at-is =
          region-at a.spots a.nodes w node (omega (arith, along-in, s.ordered.graph.tidy.nodes)) ∙ ap (λ (l : List ℕ). get_or l node 0) spots-are

      pub along-low : at < r
      along-low = omega (arith, at-is, spot-low s along-in)

      pub along-skip : at ≡ 0 → Along a n r (t + 1) w₀ w
      unfolding tied_all
      along-skip z =
          record {
            some = omega arith;
            kept = c.kept;
            falls = c.falls;
            left = c.left ∙ rw (order-left, tied_all, eq-eqb (get_or (spots_in a w₀) node 0) 0 (sym at-is ∙ z));
          }

      pub along-next : {w' : List ℕ} → (at ≡ 0 → ⊥) → TiedLinks a n r node at w w' → Along a n r (t + 1) w₀ w'
      unfolding tied_all
      along-next d m =
          record {
            some = omega arith;
            kept = kept_then c.kept m.kept;
            falls = m.falls;
            left =
                c.left
                ∙ rw (
                  order-left,
                  tied_all,
                  ne_eqb (get_or (spots_in a w₀) node 0) 0 (λ z. d (at-is ∙ z)),
                  ← at-is,
                  m.labels,
                  spots-are,
                  front_kept s.ordered.graph c.kept (omega arith),
                );
          }

    pub along-all : r ≤ t → TiedAlong a n r w₀ w
    unfolding tied_all
    along-all h = record { kept = c.kept; falls = c.falls; labels = sym (c.left ∙ rw (order-done s.ordered t h, tied_all)) }
