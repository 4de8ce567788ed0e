-- The distances lowered: along the links of a node, one by one or by runs to one child, and along the nodes of the line.
use mathlib.Core.Path.{◌≡◌, refl, sym, ap, ◌∙◌}
use Prim.Native.Nat.{ℕ, zero, suc, ◌+◌, ◌≤◌, ◌<◌, min}
use mathlib.Core.List.{List, [], ◌∷◌}
use native.Mathlib.Omega.{arith}
use native.Mathlib.Decide.{dec_le}
use lib.ListN.{get_or, set, take, drop, length, replicate}
use Rattle.regions.specs.Region.{ceiling, Kept, Filling}
use Rattle.regions.proofs.Laws.{region-length, region-at, region-in}
use Rattle.regions.proofs.Bounds.{ceiling-at, ceiling-least, ceiling-set, ceiling-replicate}
use Rattle.regions.proofs.Frame.{kept-all, kept_then, kept_set, kept_less, kept-below}
use Rattle.big_endian.specs.BigEndian.{capacity}
use Rattle.big_endian.proofs.Laws.{capacity-rises}
use Rattle.model_orders.specs.Object.{Link}
use Rattle.model_orders.specs.Distance.{weight, relax, relax_all, distances_by}
use Rattle.work.specs.Views.{line_in, distances_in}
use Rattle.work.specs.declared.Areas.{Areas}
use Rattle.order_graph.specs.Graph.{graph_on, most_weight, links_after, link_count, AtNode, AtLink, FieldOf, EdgeOf, Row, one, more, RunFrom}
use Rattle.order_graph.proofs.Links.{links-in, links-next, links-none, front_kept, stands-kept, edge-read}
use Rattle.order_survey.specs.Survey.{far_away, RunOf, Narrows, Lowering, Lowered, Along, LoweredAlong, DistancesSet}
use Rattle.order_survey.proofs.Nodes.{along-kept, line-inside, line-node, line-left, line-done}

-- within a list the value given for outside does not matter
pub get_or-inside : (l : List ℕ) (i d e : ℕ) → i < length l → get_or l i d ≡ get_or l i e
get_or-inside [] i d e h = absurd (omega arith)
get_or-inside (x ∷ l) zero d e h = refl
get_or-inside (x ∷ l) (suc i) d e h = get_or-inside l i d e (omega arith)

-- ---- links in a row to one child

-- a distance lowered twice
lower-again : (ds : List ℕ) (c x y : ℕ)
    → let once = set ds c (min (get_or ds c far_away) x) in
    set once c (min (get_or once c far_away) y) ≡ set ds c (min (get_or ds c far_away) (min x y))
lower-again [] c x y = refl
lower-again (z ∷ ds) zero x y = let e : min (min z x) y ≡ min z (min x y) = omega arith in rw e
lower-again (z ∷ ds) (suc c) x y = ap (λ (l : List ℕ). z ∷ l) (lower-again ds c x y)

module _ {a : Areas} {n i t x y : ℕ} {f : List ℕ} where
  run-one : EdgeOf a n f i t x y → t < link_count a f i → RunOf a n f i t (t + 1) x y
  unfolding relax
  run-one e h =
      record {
        more = omega arith;
        most = omega arith;
        known = e.known;
        light = e.light;
        lowers = λ d ds. rw (links-next a f i t h, relax, e.child-is, e.weight_is);
      }

  run-next : {end next more weigh : ℕ} → RunOf a n f i t end x y → EdgeOf a n f i end next more → next ≡ x → weigh ≡ min y more → end < link_count a f i
      → RunOf a n f i t (end + 1) x weigh
  unfolding relax
  run-next {end} {next} {more} {weigh} r e q m h =
      record {
        more = omega (arith, r.more);
        most = omega arith;
        known = r.known;
        light = omega (arith, r.light);
        lowers =
            λ d ds.
            let sum : min (d + y) (d + more) ≡ d + weigh = omega arith in
            r.lowers d ds ∙ rw (links-next a f i end h, relax, ← e.weight_is, ← e.child-is, q, lower-again ds x (d + y) (d + more), sum);
      }

capacity-min : (v w : ℕ) → capacity (min v w) ≡ min (capacity v) (capacity w)
capacity-min v w = go (dec_le v w)
  where
    go : Dec (v ≤ w) → capacity (min v w) ≡ min (capacity v) (capacity w)
    go (yes h) = let e : min v w ≡ v = omega arith in rw e (omega (arith, capacity-rises v w h))
    go (no h) = let e : min v w ≡ w = omega arith in rw e (omega (arith, capacity-rises w v (omega arith)))

-- by widths: the narrowest is the lightest
module _ {a : Areas} {n i t : ℕ} {w : List ℕ} where
  narrows-one : {l : Link} → AtLink a n i t w → FieldOf a n (take a.keys w) i t l → Narrows a n w i t (t + 1) l.child l.slot.width
  narrows-one s f = record { run = run-one (edge-read s f refl) s.some; narrow = f.narrow }

  narrows-next : {end child width least : ℕ} {l : Link} → Narrows a n w i t end child width → AtLink a n i end w → FieldOf a n (take a.keys w) i end l
      → l.child ≡ child → least ≡ min width l.slot.width → Narrows a n w i t (end + 1) child least
  narrows-next {end} {child} {width} {least} {l} r s f e q =
      let size : get_or w l.child 0 ≡ get_or w child 0 = rw e in
      let sum : get_or w child 0 + capacity least ≡ min (get_or w child 0 + capacity width) (get_or w l.child 0 + capacity l.slot.width) =
      rw q (omega (arith, capacity-min width l.slot.width)) in
      record { run = run-next r.run (edge-read s f refl) e sum s.some; narrow = omega (arith, r.narrow) }

  narrows-row : {end child width : ℕ} → AtNode a n i w → Row a n (take a.keys w) i t end child width → end ≤ link_count a (take a.keys w) i
      → Narrows a n w i t end child width
  narrows-row s (one f e c q) h = rw (e, c, q) (narrows-one (record { node = s; some = omega arith }) f)
  narrows-row s (more r f e c q) h =
      rw e (narrows-next (narrows-row s r (omega arith)) (record { node = s; some = omega arith }) f (sym c) q)

-- ---- the links of a node

-- t links of node i are taken up
pub record Lowers (a : Areas) (n i d t : ℕ) (w₀ w : List ℕ) : Type 0 where
  pub some : t ≤ link_count a (take a.keys w₀) i
  pub kept : Kept a.distances a.spaces w₀ w
  pub left :
      relax far_away (weight (graph_on a n w₀)) d ((graph_on a n w₀).links i) (distances_in a w₀)
      ≡ relax far_away (weight (graph_on a n w₀)) d (links_after a (take a.keys w₀) i t) (distances_in a w)
  pub bound : ceiling (distances_in a w) ≤ ceiling (distances_in a w₀)

module _ {a : Areas} {n i d : ℕ} {w₀ : List ℕ} (s : Lowering a n i d w₀) where
  pub lowers-none : Lowers a n i d 0 w₀ w₀
  lowers-none = record { some = omega arith; kept = kept-all; left = rw (links-in a n (take a.keys w₀) i s.node.inside); bound = omega arith }

  module _ {t : ℕ} {w : List ℕ} (f : Lowers a n i d t w₀ w) where
    front : take a.keys w ≡ take a.keys w₀
    front = front_kept s.node.graph f.kept (omega arith)

    lowers-run : {end x y v : ℕ} → RunOf a n (take a.keys w) i t end x y → v ≡ min (get_or w (a.distances + x) 0) (d + y)
        → Lowers a n i d end w₀ (set w (a.distances + x) v)
    lowers-run {end} {x} {y} {v} r q =
        let r₀ : RunOf a n (take a.keys w₀) i t end x y = rw front at r in
        let ds = distances_in a w in
        let long : length ds ≡ a.nodes = region-length a.distances a.nodes w (omega arith) in
        let near : v ≡ min (get_or ds x 0) (d + y) = q ∙ rw (region-at a.distances a.nodes w x (omega (arith, r.known))) in
        let far : v ≡ min (get_or ds x far_away) (d + y) = near ∙ rw (get_or-inside ds x 0 far_away (omega (arith, long, r.known))) in
        let z = region-in a.distances a.nodes w x v (omega (arith, r.known)) in
        record {
          some = r₀.most;
          kept = kept_then f.kept (kept_set a.distances a.spaces w (a.distances + x) v (omega arith) (omega (arith, r.known)));
          left = f.left ∙ r₀.lowers d ds ∙ rw (z, far);
          bound = rw (z, near) (omega (arith, ceiling-least ds x (d + y)));
        }

    lowers-narrows : {end x width : ℕ} → RunFrom a n (take a.keys w) i t end x width → Narrows a n w i t end x width
    lowers-narrows r = narrows-row (record { graph = stands-kept s.node.graph f.kept (omega arith); inside = s.node.inside }) r.row r.most

    -- a run weighs as much as any link
    pub lowers-light : {end x width room : ℕ} → RunFrom a n (take a.keys w) i t end x width → room ≡ capacity width → get_or w x 0 + room < most_weight
    lowers-light r e = rw e (lowers-narrows r).run.light

    pub lowers-next-run : {end x width room v : ℕ} → RunFrom a n (take a.keys w) i t end x width → room ≡ capacity width
        → v ≡ min (get_or w (a.distances + x) 0) (d + (get_or w x 0 + room)) → Lowers a n i d end w₀ (set w (a.distances + x) v)
    lowers-next-run r e q = lowers-run (lowers-narrows r).run (q ∙ rw e)

    pub lowers-next : {x y v : ℕ} → EdgeOf a n (take a.keys w) i t x y → v ≡ min (get_or w (a.distances + x) 0) (d + y)
        → t < link_count a (take a.keys w₀) i → Lowers a n i d (t + 1) w₀ (set w (a.distances + x) v)
    lowers-next e q h = lowers-run (run-one e (rw front h)) q

    pub lowers-all : link_count a (take a.keys w₀) i ≤ t → Lowered a n i d w₀ w
    unfolding relax
    lowers-all h = record {
      kept = f.kept;
      distances = sym (f.left ∙ rw (links-none a (take a.keys w₀) i t h, relax));
      bound = f.bound;
    }

-- ---- the nodes of the line

-- t nodes of the line are done
pub record Follows (a : Areas) (n r t : ℕ) (w₀ w : List ℕ) : Type 0 where
  pub some : t ≤ r
  pub kept : Kept a.distances a.spaces w₀ w
  pub left :
      relax_all far_away (weight (graph_on a n w₀)) (graph_on a n w₀) (line_in a r w₀) (distances_in a w₀)
      ≡ relax_all far_away (weight (graph_on a n w₀)) (graph_on a n w₀) (drop t (line_in a r w₀)) (distances_in a w)
  pub near : ceiling (distances_in a w) ≤ far_away + 1

module _ {a : Areas} {n r : ℕ} {w₀ : List ℕ} (s : Along a n r w₀) where
  module _ {t : ℕ} {w : List ℕ} (f : Follows a n r t w₀ w) where
    module _ (h : t < r) where
      abbrev node : ℕ
      node = get_or w (a.line + t) 0

      along : Along a n r w
      along = along-kept s f.kept

      pub follows-inside : node < n
      follows-inside = line-inside along h

      long : length (distances_in a w) ≡ a.nodes
      long = region-length a.distances a.nodes w (omega arith)

      pub follows-asks : Lowering a n node (get_or w (a.distances + node) 0) w
      follows-asks =
          record {
            node = line-node along h;
            near =
                omega (
                  arith,
                  long,
                  follows-inside,
                  region-at a.distances a.nodes w node (omega (arith, follows-inside)),
                  ceiling-at (distances_in a w) node (omega (arith, long, follows-inside)),
                );
          }

      pub follows_next : {w' : List ℕ} → Lowered a n node (get_or w (a.distances + node) 0) w w' → Follows a n r (t + 1) w₀ w'
      unfolding relax_all
      follows_next {w'} u =
          let line : drop t (line_in a r w₀) ≡ node ∷ drop (t + 1) (line_in a r w₀) = rw (← kept-below f.kept a.line r (omega arith)) (line-left along h) in
          let d : get_or w (a.distances + node) 0 ≡ get_or (distances_in a w) node far_away =
          region-at a.distances a.nodes w node (omega (arith, follows-inside))
          ∙ get_or-inside (distances_in a w) node 0 far_away (omega (arith, long, follows-inside)) in
          let front : take a.keys w ≡ take a.keys w₀ = front_kept s.graph f.kept (omega arith) in
          record {
            some = omega arith;
            kept = kept_then f.kept u.kept;
            left = f.left ∙ rw (line, relax_all, ← d, u.distances, front);
            near = omega arith;
          }

    pub follows-all : r ≤ t → LoweredAlong a n r w₀ w
    unfolding relax_all
    follows-all h = record { kept = f.kept; distances = sym (f.left ∙ rw (line-done s h, relax_all)); near = f.near }

-- ---- the start: the root's distance is 0, and every other is beyond any

module _ {a : Areas} {n root r : ℕ} {w w₁ : List ℕ} (s : Along a n r w) (h : root < n) (f : Filling a.distances a.nodes far_away a.nodes w w₁) where
  abbrev begun : List ℕ
  begun = set w₁ (a.distances + root) 0

  kept-begun : Kept a.distances a.spaces w begun
  kept-begun =
      kept_then (kept_less f.kept a.distances a.spaces (omega arith) (omega arith))
      (kept_set a.distances a.spaces w₁ (a.distances + root) 0 (omega arith) (omega arith))

  distances-begun : distances_in a begun ≡ set (replicate a.nodes far_away) root 0
  distances-begun = region-in a.distances a.nodes w₁ root 0 (omega arith) ∙ rw f.done

  pub begun-asks : Along a n r begun × (ceiling (distances_in a begun) ≤ far_away + 1)
  begun-asks =
      (along-kept s kept-begun, rw distances-begun (omega (arith, ceiling-set (replicate a.nodes far_away) root 0, ceiling-replicate a.nodes far_away)))

  pub begun-set : {w' : List ℕ} → LoweredAlong a n r begun w' → DistancesSet a n root r w w'
  unfolding distances_by
  begun-set u =
      record {
        kept = kept_then kept-begun u.kept;
        distances = u.distances ∙ rw (distances-begun, kept-below kept-begun a.line r (omega arith), front_kept s.graph kept-begun (omega arith));
        near = u.near;
      }
