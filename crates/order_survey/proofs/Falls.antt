-- The line, from the root down: its start, and its turns over the nodes.
use mathlib.Core.Path.{◌≡◌, refl, sym, ap, ◌∙◌}
use Prim.Native.Nat.{ℕ, suc, ◌+◌, ◌-◌, ◌*◌, ◌≤◌, ◌<◌}
use mathlib.Core.List.{List, [], ◌∷◌, ◌++◌}
use native.Mathlib.Omega.{arith}
use lib.ListN.{get_or, set, take, replicate}
use lib.Dec.{eqb}
use borrow.Author.Tests.{eq-eqb, ne_eqb}
use Rattle.lists.specs.Lists.{pick}
use Rattle.regions.specs.Region.{ceiling, Kept, Filling}
use Rattle.regions.proofs.Laws.{region-at, region-in, region-under, region-push}
use Rattle.regions.proofs.Bounds.{ceiling-set, ceiling-append, ceiling-replicate}
use Rattle.regions.proofs.Frame.{kept-all, kept_then, kept_set, kept_less, kept-below}
use Rattle.model_orders.specs.Graph.{Graph}
use Rattle.work.specs.Views.{line_in, incoming_in}
use Rattle.work.specs.declared.Areas.{Areas}
use Rattle.order_graph.specs.Graph.{graph_on, most_node_links, AtNode}
use Rattle.order_graph.proofs.Links.{front_kept, stands-kept}
use Rattle.order_survey.specs.Survey.{Lined, counted_all, joined, lined, unlined, lined_of, Counting, CountedAll, Lining, LineFound}

-- the nodes from i to the root are done, r of them stand in the line
pub record Falls (a : Areas) (n root i r : ℕ) (w₀ w : List ℕ) : Type 0 where
  pub room : r + i ≤ root + 1
  pub kept : Kept a.line a.distances w₀ w
  pub left : lined (graph_on a n w₀) (root + 1) (lined_of a 0 w₀) ≡ lined (graph_on a n w₀) i (lined_of a r w)
  pub ids : ceiling (line_in a r w) ≤ n
  pub small : ceiling (incoming_in a w) + i * most_node_links ≤ ceiling (incoming_in a w₀) + (root + 1) * most_node_links

lined-one : (g : Graph) (i : ℕ) (s : Lined) → 0 < i → lined g i s ≡ lined g (i - 1) (pick (eqb (get_or s.incoming (i - 1) 0) 0) s (joined g (i - 1) s))
unfolding lined
lined-one g i s h = let e : i ≡ suc (i - 1) = omega arith in rw (e, lined, ← e)

module _ {a : Areas} {n root : ℕ} {w₀ : List ℕ} (s : Lining a n root w₀) where
  pub falls-none : Falls a n root (root + 1) 0 w₀ w₀
  unfolding ceiling
  falls-none = record { room = omega arith; kept = kept-all; left = refl; ids = omega arith; small = omega arith }

  module _ {i r : ℕ} {w : List ℕ} (f : Falls a n root i r w₀ w) where
    module _ (h : 0 < i) where
      read : get_or w (a.incoming + (i - 1)) 0 ≡ get_or (incoming_in a w) (i - 1) 0
      read = region-at a.incoming a.nodes w (i - 1) (omega arith)

      -- a node that no field leads to is passed over
      pub falls-skip : get_or w (a.incoming + (i - 1)) 0 ≡ 0 → Falls a n root (i - 1) r w₀ w
      falls-skip z =
          record {
            room = omega arith;
            kept = f.kept;
            left = f.left ∙ lined-one _ i (lined_of a r w) h ∙ rw (eq-eqb _ _ (sym read ∙ z));
            ids = f.ids;
            small = omega arith;
          }

      -- any other joins the line
      abbrev stored : List ℕ
      stored = set w (a.line + r) (i - 1)

      kept-stored : Kept a.line a.distances w₀ stored
      kept-stored = kept_then f.kept (kept_set a.line a.distances w (a.line + r) (i - 1) (omega arith) (omega arith))

      front : take a.keys stored ≡ take a.keys w₀
      front = front_kept s.node.graph kept-stored (omega arith)

      same-counts : incoming_in a stored ≡ incoming_in a w
      same-counts = region-under a.incoming a.nodes w (a.line + r) (i - 1) (omega arith)

      pushed : line_in a (r + 1) stored ≡ line_in a r w ++ ((i - 1) ∷ [])
      pushed = region-push a.line r w (i - 1) (omega arith)

      pub falls-asks : Counting a n (i - 1) stored
      falls-asks =
          record {
            node = record { graph = stands-kept s.node.graph kept-stored (omega arith); inside = omega arith };
            small = rw same-counts (omega arith);
          }

      pub falls-next : {w' : List ℕ} → CountedAll a n (i - 1) stored w' → (get_or w (a.incoming + (i - 1)) 0 ≡ 0 → ⊥) → Falls a n root (i - 1) (r + 1) w₀ w'
      unfolding ceiling
      falls-next {w'} u z =
          let line : line_in a (r + 1) w' ≡ line_in a r w ++ ((i - 1) ∷ []) = kept-below u.kept a.line (r + 1) (omega arith) ∙ pushed in
          let counts : incoming_in a w' ≡ counted_all ((graph_on a n w₀).links (i - 1)) (incoming_in a w) = u.incoming ∙ rw (front, same-counts) in
          record {
            room = omega arith;
            kept = kept_then kept-stored (kept_less u.kept a.line a.distances (omega arith) (omega arith));
            left = f.left ∙ lined-one _ i (lined_of a r w) h ∙ rw (ne_eqb _ _ (λ q. z (read ∙ q)), line, counts);
            ids = rw line (omega (arith, ceiling-append (line_in a r w) ((i - 1) ∷ [])));
            small = omega (arith, ap ceiling same-counts);
          }

    pub falls-all : i ≤ 0 → LineFound a n root r (lined_of a 0 w₀) w₀ w
    unfolding lined
    falls-all h =
        let e : i ≡ 0 = omega arith in
        record { kept = f.kept; few = omega arith; ids = f.ids; found = sym (f.left ∙ rw (e, lined)); small = omega (arith, f.small, s.node.inside, s.node.graph.tidy) }

-- ---- the start: the root counts as led to

module _ {a : Areas} {n root : ℕ} {w w₁ : List ℕ} (s : AtNode a n root w) (f : Filling a.incoming a.nodes 0 a.nodes w w₁) where
  abbrev begun : List ℕ
  begun = set w₁ (a.incoming + root) 1

  kept-begun : Kept a.line a.distances w begun
  kept-begun =
      kept_then (kept_less f.kept a.line a.distances (omega arith) (omega arith))
      (kept_set a.line a.distances w₁ (a.incoming + root) 1 (omega arith) (omega arith))

  counts-begun : incoming_in a begun ≡ set (replicate a.nodes 0) root 1
  counts-begun = region-in a.incoming a.nodes w₁ root 1 (omega arith) ∙ rw f.done

  pub begun-lining : Lining a n root begun
  begun-lining =
      record {
        node = record { graph = stands-kept s.graph kept-begun (omega arith); inside = s.inside };
        small = rw counts-begun (omega (arith, ceiling-set (replicate a.nodes 0) root 1, ceiling-replicate a.nodes 0));
      }

  pub begun-found : {r : ℕ} {w' : List ℕ} → LineFound a n root r (lined_of a 0 begun) begun w' → LineFound a n root r (unlined a.nodes root) w w'
  begun-found u =
      record {
        kept = kept_then kept-begun u.kept;
        few = u.few;
        ids = u.ids;
        found = u.found ∙ rw (counts-begun, front_kept s.graph kept-begun (omega arith));
        small = rw counts-begun at u.small;
      }
