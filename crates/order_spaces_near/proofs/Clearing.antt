-- Space 0 marked: along a node's links, and along the order.
use mathlib.Core.Path.{◌≡◌, refl, sym, ◌∙◌}
use Prim.Native.Nat.{ℕ, zero, suc, ◌+◌, ◌≤◌, ◌<◌}
use mathlib.Core.List.{List, [], ◌∷◌}
use native.Mathlib.Omega.{arith}
use lib.ListN.{get_or, set, take, drop}
use lib.Seq.{set-get_or}
use borrow.Author.Tests.{eq-eqb, ne_eqb}
use Rattle.regions.specs.Region.{Kept}
use Rattle.regions.proofs.Laws.{region-at, region-in}
use Rattle.regions.proofs.Frame.{kept_then, kept_set}
use Rattle.model_orders.specs.Object.{Link, widest}
use Rattle.model_orders.specs.Space.{narrow_of, narrow_kids}
use Rattle.work.specs.Views.{order_in, spots_in}
use Rattle.work.specs.declared.Areas.{Areas}
use Rattle.order_graph.specs.Graph.{graph_on, links_after, link_count, AtNode, FieldOf}
use Rattle.order_graph.proofs.Links.{front_kept}
use Rattle.order_spaces_near.specs.Near.{cleared, cleared_all, Ordered, SpotsSet, ClearedLinks, ClearedAlong, Marked}
use Rattle.order_spaces_near.proofs.Frames.{ordered-kept, order-kept, node_in, order-rest, order-done}
use Rattle.order_spaces_near.proofs.Kids.{kids-none, kid-narrow, kid-wide}

-- ---- a node's links: t of them are done

pub record Clearing (a : Areas) (n i t : ℕ) (w₀ w : List ℕ) : Type 0 where
  pub some : t ≤ link_count a (take a.keys w₀) i
  pub kept : Kept a.spots a.waiting w₀ w
  pub left : cleared (narrow_kids (graph_on a n w₀) i) (spots_in a w₀) ≡ cleared (narrow_of (links_after a (take a.keys w₀) i t)) (spots_in a w)
  pub own : get_or w (a.spots + i) 0 ≡ 0

zero-kept : (l : List ℕ) (k j : ℕ) → get_or l j 0 ≡ 0 → get_or (set l k 0) j 0 ≡ 0
zero-kept [] k j h = h
zero-kept (x ∷ l) zero zero h = refl
zero-kept (x ∷ l) zero (suc j) h = h
zero-kept (x ∷ l) (suc k) zero h = h
zero-kept (x ∷ l) (suc k) (suc j) h = zero-kept l k j h

module _ {a : Areas} {n i : ℕ} {w₀ : List ℕ} (s : AtNode a n i w₀) where
  module _ {t : ℕ} {w : List ℕ} (c : Clearing a n i t w₀ w) where
    module _ {l : Link} (r : FieldOf a n (take a.keys w) i t l) (h : t < link_count a (take a.keys w₀) i) where
      here : FieldOf a n (take a.keys w₀) i t l
      here = rw (front_kept s.graph c.kept (omega arith)) at r

      pub clearing-narrow : (l.slot.width ≡ widest → ⊥) → Clearing a n i (t + 1) w₀ (set w (a.spots + l.child) 0)
      unfolding cleared
      clearing-narrow d =
          record {
            some = omega arith;
            kept = kept_then c.kept (kept_set a.spots a.waiting w (a.spots + l.child) 0 (omega arith) (omega (arith, r.known)));
            left = c.left ∙ rw (kid-narrow here h d, cleared, region-in a.spots a.nodes w l.child 0 (omega (arith, r.known)));
            own = zero-kept w (a.spots + l.child) (a.spots + i) c.own;
          }

      -- for a link that is not narrow the node itself gets the position that it has
      pub clearing-wide : l.slot.width ≡ widest → Clearing a n i (t + 1) w₀ (set w (a.spots + i) 0)
      clearing-wide e =
          let same : set w (a.spots + i) 0 ≡ w = rw c.own at (set-get_or w (a.spots + i) 0) in
          rw same (record { some = omega arith; kept = c.kept; left = c.left ∙ rw (kid-wide here h e); own = c.own })

    pub clearing-all : link_count a (take a.keys w₀) i ≤ t → ClearedLinks a n i w₀ w
    unfolding cleared
    clearing-all h = record { kept = c.kept; spots = sym (c.left ∙ rw (kids-none a (take a.keys w₀) i t h, cleared)) }

-- ---- the nodes of the order: t of them are done

pub record Passing (a : Areas) (n r t : ℕ) (w₀ w : List ℕ) : Type 0 where
  pub some : t ≤ r
  pub kept : Kept a.spots a.waiting w₀ w
  pub left :
      cleared_all (graph_on a n w₀) (order_in a r w₀) (spots_in a w₀) ≡ cleared_all (graph_on a n w₀) (drop t (order_in a r w₀)) (spots_in a w)

module _ {a : Areas} {n r t : ℕ} {w₀ w : List ℕ} (o : Ordered a n r w₀) (s : Passing a n r t w₀ w) where
  module _ (h : t < r) where
    abbrev node : ℕ
    node = get_or w (a.order + t) 0

    now : Ordered a n r w
    now = ordered-kept o s.kept (omega arith) (omega arith)

    pub passing-in : node < n
    passing-in = node_in now t h

    pub passing-asks : AtNode a n node w
    passing-asks = record { graph = now.graph; inside = passing-in }

    order-left : drop t (order_in a r w₀) ≡ node ∷ drop (t + 1) (order_in a r w₀)
    order-left = rw (← order-kept o s.kept (omega arith) (omega arith)) (order-rest now t h)

    spot_is : get_or w (a.spots + node) 0 ≡ get_or (spots_in a w) node 0
    spot_is = region-at a.spots a.nodes w node (omega (arith, passing-in, o.graph.tidy.nodes))

    -- a node outside space 0 is passed over
    pub passing-skip : (get_or w (a.spots + node) 0 ≡ 0 → ⊥) → Passing a n r (t + 1) w₀ w
    unfolding cleared_all
    passing-skip d =
        record {
          some = omega arith;
          kept = s.kept;
          left = s.left ∙ rw (order-left, cleared_all, ne_eqb (get_or (spots_in a w) node 0) 0 (λ e. d (spot_is ∙ e)));
        }

    pub passing-next : {w' : List ℕ} → get_or w (a.spots + node) 0 ≡ 0 → ClearedLinks a n node w w' → Passing a n r (t + 1) w₀ w'
    unfolding cleared_all
    passing-next z m =
        record {
          some = omega arith;
          kept = kept_then s.kept m.kept;
          left =
              s.left
              ∙ rw (
                order-left,
                cleared_all,
                eq-eqb (get_or (spots_in a w) node 0) 0 (sym spot_is ∙ z),
                m.spots,
                front_kept o.graph s.kept (omega arith),
              );
        }

  pub passing-all : r ≤ t → ClearedAlong a n r w₀ w
  unfolding cleared_all
  passing-all h = record { kept = s.kept; spots = sym (s.left ∙ rw (order-done o t h, cleared_all)) }

-- ---- after the positions are stored

module _ {a : Areas} {n r : ℕ} {w w₁ : List ℕ} (o : Ordered a n r w) (s : SpotsSet a r w w₁) where
  pub marked-asks : Ordered a n r w₁
  marked-asks = ordered-kept o s.kept (omega arith) (omega arith)

  pub marked : {w₂ : List ℕ} → ClearedAlong a n r w₁ w₂ → Marked a n r w w₂
  marked c =
      record {
        kept = kept_then s.kept c.kept;
        spots = c.spots ∙ rw (front_kept o.graph s.kept (omega arith), order-kept o s.kept (omega arith) (omega arith), s.spots);
      }
