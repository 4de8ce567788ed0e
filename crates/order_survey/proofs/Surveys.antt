-- The steps of a survey joined, and what they found said by the model's definitions.
use mathlib.Core.Path.{◌≡◌, sym, ap, ◌∙◌}
use Prim.Native.Nat.{ℕ, ◌+◌, ◌≤◌, ◌<◌}
use mathlib.Core.List.{List}
use native.Mathlib.Omega.{arith}
use lib.ListN.{get_or, set, take, replicate}
use lib.Seq.{get_or-set_same, get_or-set_other}
use Rattle.lists.specs.Lists.{total}
use Rattle.regions.specs.Region.{Kept}
use Rattle.regions.proofs.Bounds.{ceiling-set, ceiling-replicate}
use Rattle.regions.proofs.Laws.{region-length, region-in, region-over}
use Rattle.regions.proofs.Frame.{kept_then, kept_set, kept-below, kept_above}
use Rattle.model_orders.specs.Bag.{one, count}
use Rattle.model_orders.specs.Graph.{Graph, waits, reached, Acyclic}
use Rattle.model_orders.specs.Table.{table_length}
use Rattle.model_orders.proofs.Bags.{Same, same, other, same_or}
use Rattle.model_orders.proofs.Reach.{reached-rooted}
use Rattle.work.specs.Views.{line_in, incoming_in}
use Rattle.work.specs.declared.Areas.{Areas}
use Rattle.order_graph.specs.Graph.{graph_on, Stands, AtNode}
use Rattle.order_graph.proofs.Links.{front_kept, stands-kept}
use Rattle.order_graph.proofs.Nodes.{ceiling-in, counted-kept}
use Rattle.order_survey.specs.Survey.{Lined, unlined, LineFound, Along, DistancesSet, Surveyed, Measured, Lines, Distanced, DistancesFound}
use Rattle.order_survey.proofs.Lines.{line-reached, incoming-waits}
use Rattle.order_survey.proofs.Distances.{tidy-light, sums-least}

module _ {a : Areas} {n root r : ℕ} {w w₁ : List ℕ} (s : AtNode a n root w) (f : LineFound a n root r (unlined a.nodes root) w w₁) where
  -- the root counts no more as led to
  abbrev cleared : List ℕ
  cleared = set w₁ (a.incoming + root) 0

  kept-cleared : Kept a.line a.distances w cleared
  kept-cleared = kept_then f.kept (kept_set a.line a.distances w₁ (a.incoming + root) 0 (omega arith) (omega arith))

  line-cleared : line_in a r cleared ≡ line_in a r w₁
  line-cleared = region-over a.line r w₁ (a.incoming + root) 0 (omega arith)

  pub cleared-along : Along a n r cleared
  cleared-along = record { graph = stands-kept s.graph kept-cleared (omega arith); few = f.few; ids = rw line-cleared f.ids }

  module _ (y : Acyclic (graph_on a n w)) where
    abbrev graph : Graph
    graph = graph_on a n w

    room : root < a.nodes
    room = omega arith

    front : take a.keys cleared ≡ take a.keys w
    front = front_kept s.graph kept-cleared (omega arith)

    line : line_in a r cleared ≡ reached graph root
    line = line-cleared ∙ ap (λ (t : Lined). t.line) f.found ∙ line-reached graph y a.nodes root room

    counted : (c : ℕ) → get_or (incoming_in a w₁) c 0 ≡ one c root + waits graph (reached graph root) c
    counted c = ap (λ (t : Lined). get_or t.incoming c 0) f.found ∙ incoming-waits graph y a.nodes root room c

    incoming : (c : ℕ) → get_or (incoming_in a cleared) c 0 ≡ waits graph (reached graph root) c
    incoming c = rw (region-in a.incoming a.nodes w₁ root 0 room) (go (same_or c root))
      where
        go : Same c root → get_or (set (incoming_in a w₁) root 0) c 0 ≡ waits graph (reached graph root) c
        go (same e _ _) =
            rw e (
            get_or-set_same (incoming_in a w₁) root 0 0 (rw (region-length a.incoming a.nodes w₁ (omega arith)) room)
            ∙ sym (reached-rooted graph root y).root-free
            )
        go (other k _ o) = get_or-set_other (incoming_in a w₁) root c 0 0 k ∙ counted c ∙ rw o (omega arith)

    pub survey-all : {long : ℕ} → long ≡ total (graph_on a n cleared).size (line_in a r cleared) → Measured a n root long w cleared
    unfolding table_length
    survey-all e =
        record {
          kept = kept-cleared;
          surveyed = record {
            graph = cleared-along.graph;
            inside = s.inside;
            rank = λ i. i;
            ranked = rw front y;
            low = omega arith;
            counted = record { rooted = rw front (reached-rooted graph root y); incoming = λ c. rw front (incoming c) };
          };
          size = e ∙ rw (front, line);
          small =
              rw (region-in a.incoming a.nodes w₁ root 0 room)
              (omega (arith, ceiling-set (incoming_in a w₁) root 0, f.small, ceiling-set (replicate a.nodes 0) root 1, ceiling-replicate a.nodes 0));
        }

-- ---- the distances along a line

module _ {a : Areas} {n root r : ℕ} {w : List ℕ} (s : Lines a n root r w) where
  pub lines-found : {w' : List ℕ} → DistancesSet a n root r w w' → DistancesFound a n root r w w'
  lines-found d =
      let t = s.surveyed in
      let inside : (c : ℕ) → 0 < count c (line_in a r w) → c < a.nodes = λ c h. omega (arith, ceiling-in (line_in a r w) c h) in
      record {
        kept = d.kept;
        distanced =
            record {
              sums = λ c h. rw (front_kept t.graph d.kept (omega arith), d.distances)
                  (sums-least (graph_on a n w) t.rank t.ranked (tidy-light t.graph.tidy) root t.low (line_in a r w) t.counted.rooted s.first a.nodes inside c h);
              near = d.near;
            };
      }

-- ---- what was found holds as long as the graph and the words found stand

pub surveyed-same : {a : Areas} {n root from to : ℕ} {nodes w w' : List ℕ} → Surveyed a n root nodes w → Kept from to w w' → a.keys ≤ from → incoming_in a w' ≡ incoming_in a w
    → Surveyed a n root nodes w'
surveyed-same s k h e =
    record {
      graph = stands-kept s.graph k h;
      inside = s.inside;
      rank = s.rank;
      ranked = rw (front_kept s.graph k h) s.ranked;
      low = s.low;
      counted = counted-kept s.counted s.graph k h e;
    }

-- orders that are tried change neither the graph nor anything from the incoming fields on
pub surveyed-kept : {a : Areas} {n root : ℕ} {nodes w w' : List ℕ} → Surveyed a n root nodes w → Kept a.keys a.incoming w w' → Surveyed a n root nodes w'
surveyed-kept {a} s k = surveyed-same s k (omega arith) (kept_above k a.incoming a.nodes (omega arith))

pub distanced-kept : {a : Areas} {n root : ℕ} {nodes w w' : List ℕ} → Stands a n w → Distanced a n root nodes w → Kept a.keys a.incoming w w' → Distanced a n root nodes w'
distanced-kept {a} g s k =
    let front = front_kept g k (omega arith) in
    let same = kept_above k a.distances a.nodes (omega arith) in
    record { sums = λ c h. rw (front, same) (s.sums c h); near = rw same s.near }

-- distances lie behind the survey
pub surveyed-found : {a : Areas} {n root r : ℕ} {nodes w w' : List ℕ} → Surveyed a n root nodes w → DistancesFound a n root r w w' → Surveyed a n root nodes w'
surveyed-found {a} s d = surveyed-same s d.kept (omega (arith, s.graph.apart)) (kept-below d.kept a.incoming a.nodes (omega (arith, s.graph.apart)))
