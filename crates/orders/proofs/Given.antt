-- What the test of a graph's words tells, and that the graph stands where they are loaded.
use mathlib.Core.Path.{◌≡◌, refl, ◌∙◌}
use Prim.Native.Nat.{ℕ, zero, suc, ◌+◌, ◌*◌, ◌≤◌, ◌<◌}
use mathlib.Core.List.{List, ◌++◌}
use mathlib.Core.Bool.{Bool, true, false, ◌&&◌}
use native.Mathlib.Omega.{arith}
use lib.ListN.{length, get_or, take, drop, length-append, length-drop}
use lib.Seq.{take-append_seam}
use lib.Dec.{eqb, ltb, leb}
use borrow.Author.Tests.{ltb-true, leb-true, eqb-true, eqb-false}
use Rattle.lists.proofs.Same.{and_left, and_right}
use Rattle.regions.proofs.Frame.{kept_then, kept_less, kept-below, kept_above}
use Rattle.model_orders.specs.Object.{width_ok}
use Rattle.model_orders.specs.Graph.{Ranked, Acyclic}
use Rattle.model_orders.proofs.Distances.{kid-link}
use Rattle.work.specs.Areas.{areas_of, graph_words, areas-apart}
use Rattle.work.specs.Packed.{packed_words}
use Rattle.work.specs.declared.Areas.{Areas}
use Rattle.order_graph.specs.Graph.{graph_in, link_of, links_at, link_count, most_nodes, most_node_links, most_size, Tidy, Stands}
use Rattle.order_graph.proofs.Links.{front_kept, stands-kept}
use Rattle.order_survey.specs.Survey.{Measured, Lines, DistancesFound}
use Rattle.order_survey.proofs.Distances.{node-links}
use Rattle.order_survey.proofs.Surveys.{surveyed-kept, surveyed-same, surveyed-found}
use Rattle.order_spaces.specs.Spaces.{Spacing, Spaced}
use Rattle.order.specs.Try.{Trying, Ordered}
use Rattle.order.specs.declared.By.{By}
use Rattle.order.proofs.Orders.{ordered-sorted, ordered-lines}
use Rattle.std.specs.List.{list_all}
use Rattle.std.proofs.lemmas.List.Folds.{list_all_at}
use Rattle.orders.specs.declared.Graph.{Graph}
use Rattle.orders.specs.Given.{space, shown, all_below, tidy_link, tidy_node, given, Loaded, Stood}

-- what is tested of all numbers below n holds of each
below_at : (n : ℕ) (test : ℕ → Bool) → all_below n test ≡ true → (i : ℕ) → i < n → test i ≡ true
below_at zero test e i h = absurd (omega arith)
below_at (suc n) test e i h = go (eqb i n) refl (below_at n test (and_right (test n) (all_below n test) e) i)
  where
    go : (b : Bool) → eqb i n ≡ b → (i < n → test i ≡ true) → test i ≡ true
    go true k rest = rw (eqb-true i n k) (and_left (test n) (all_below n test) e)
    go false k rest = rest (omega (arith, eqb-false i n k))

-- both of two tests
both : (a b : Bool) → (a && b) ≡ true → (a ≡ true) × (b ≡ true)
both a b e = (and_left a b e, and_right a b e)

-- the test of a node as facts
record Node (a : Areas) (f : List ℕ) (i : ℕ) : Type 0 where
  light : get_or f i 0 < most_size
  few : link_count a f i ≤ most_node_links
  within : links_at a f i + link_count a f i * packed_words ≤ length f
  wide : (t : ℕ) → t < link_count a f i → width_ok (link_of a f i t).slot.width ≡ true
  lower : (t : ℕ) → t < link_count a f i → (link_of a f i t).child < i

node-told : (a : Areas) (f : List ℕ) (i : ℕ) → tidy_node a f i ≡ true → Node a f i
node-told a f i e =
    let (light, e₁) = both (ltb (get_or f i 0) most_size) _ e in
    let (few, e₂) = both (leb (link_count a f i) most_node_links) _ e₁ in
    let (within, links) = both (leb (links_at a f i + link_count a f i * packed_words) (length f)) _ e₂ in
    let link : (t : ℕ) → t < link_count a f i → (width_ok (link_of a f i t).slot.width ≡ true) × (ltb (link_of a f i t).child i ≡ true) =
    λ t h. both (width_ok (link_of a f i t).slot.width) (ltb (link_of a f i t).child i) (below_at (link_count a f i) (tidy_link a f i) links t h) in
    record {
      light = ltb-true _ _ light;
      few = leb-true _ _ few;
      within = leb-true _ _ within;
      wide = λ t h. (link t h).0;
      lower = λ t h. ltb-true _ _ (link t h).1;
    }

-- the whole test as facts
pub record Told (p k : ℕ) (f : List ℕ) : Type 0 where
  pub some : 0 < p
  pub size : length f ≡ graph_words p k
  pub room : (areas_of p k 0).end ≤ space
  pub tidy : Tidy (areas_of p k 0) p f
  pub falls : Acyclic (graph_in (areas_of p k 0) p f)

pub told : (p k : ℕ) (f : List ℕ) → given p k f ≡ true → Told p k f
unfolding Ranked
told p k f e =
    let a = areas_of p k 0 in
    let (some, e₁) = both (ltb 0 p) _ e in
    let (limit, e₂) = both (leb p most_nodes) _ e₁ in
    let (size, e₃) = both (eqb (length f) (graph_words p k)) _ e₂ in
    let (room, nodes) = both (leb (areas_of p k 0).end space) _ e₃ in
    let node : (i : ℕ) → i < p → Node a f i = λ i h. node-told a f i (below_at p (tidy_node a f) nodes i h) in
    let words : length f ≡ graph_words p k = eqb-true _ _ size in
    record {
      some = ltb-true _ _ some;
      size = words;
      room = leb-true _ _ room;
      tidy =
          record {
            nodes = omega arith;
            limit = leb-true _ _ limit;
            light = λ i h. (node i h).light;
            node =
                λ i h.
                let n = node i h in
                record { few = n.few; within = omega (arith, words, n.within); wide = n.wide; known = λ t b. omega (arith, n.lower t b) };
          };
      falls =
          λ i c h.
          let l = kid-link c ((graph_in a p f).links i) h in
          rw l.2 (node-links a p f (λ m. m.child < i) i (λ b t d. (node i b).lower t d) l.0 l.1);
    }

pub loaded-stood : {p k : ℕ} {a : Areas} (x w : List ℕ) {y w₁ w₂ : List ℕ} → Told p k (x ++ y) → a ≡ areas_of p k 0 → space ≡ length w → w₁ ≡ x ++ drop (length x) w → Loaded y (length x) w₁ w₂ → Stood a w₂
loaded-stood {p} {k} {a} x w {y} {w₁} {w₂} s e h l m =
    let first : take (length x) w₁ ≡ x = rw l (take-append_seam x (drop (length x) w)) in
    let size : length x + length y ≡ graph_words p k = omega (arith, s.size, length-append x y) in
    let long : length w₁ ≡ length w = rw l (simp (length-append, length-drop) (omega (arith, s.room))) in
    let front : take (graph_words p k) w₂ ≡ x ++ y = rw (← size) (rw first at m.front) in
    rw e
    (record {
      graph = record { apart = areas-apart p k 0; long = omega (arith, s.room, m.long); tidy = rw front s.tidy };
      some = s.some;
      falls = rw front s.falls;
    })

-- ---- one order after the other

pub measured-trying : {a : Areas} {n root l : ℕ} {w w' : List ℕ} → Measured a n root l w w' → Trying a n root By.Readiness w'
measured-trying m = record { nodes = _; surveyed = m.surveyed; asked = tt }

-- the kahn order is a line to find the distances along
module _ {a : Areas} {n root r : ℕ} {w w' : List ℕ} (s : Trying a n root By.Readiness w) (o : Ordered a n root By.Readiness r w w') where
  pub kahn-lines : Lines a n root r w'
  kahn-lines = ordered-lines s.surveyed o

  pub near-trying : {w'' : List ℕ} → DistancesFound a n root r w' w'' → Trying a n root By.Distance w''
  near-trying d = record { nodes = s.nodes; surveyed = surveyed-found (surveyed-kept s.surveyed o.kept) d; asked = d.distanced.near }

-- the distance order is one to find the spaces over
module _ {a : Areas} {n root r : ℕ} {w w' : List ℕ} (s : Trying a n root By.Distance w) (o : Ordered a n root By.Distance r w w') where
  abbrev g : Stands a n w
  g = s.surveyed.graph

  pub distance-spacing : Spacing a n r root w'
  distance-spacing =
      record {
        graph = stands-kept g o.kept (omega arith);
        few = o.nodes.few;
        ids = o.nodes.ids;
        sorted = rw (front_kept g o.kept (omega arith)) (ordered-sorted s.surveyed o);
      }

  pub spaced-trying : {w'' : List ℕ} → Spaced a n r root w' w'' → Trying a n root By.Space w''
  spaced-trying f =
      let p = g.apart in
      let kept = kept_then o.kept (kept_less f.kept a.keys a.incoming (omega (arith, p)) (omega (arith, p))) in
      let t = surveyed-kept s.surveyed kept in
      let distances = kept-below f.only a.distances a.nodes (omega (arith, p)) ∙ kept_above kept a.distances a.nodes (omega (arith, p)) in
      record {
        nodes = s.nodes;
        surveyed = surveyed-same t f.only (omega (arith, p)) (kept-below f.only a.incoming a.nodes (omega (arith, p)));
        asked = (rw distances s.asked, omega (arith, f.small, o.nodes.few, g.tidy.limit));
      }

-- ---- the graphs of a table

pub record AllShown (gs : List Graph) : Type 0 where
  pub all : list_all shown gs ≡ true

pub shown-each : {gs : List Graph} → AllShown gs → (i : ℕ) (d : Graph) → i < length gs → shown (get_or gs i d) ≡ true
shown-each {gs} a i d h = go (shown (get_or gs i d)) refl
  where
    go : (b : Bool) → shown (get_or gs i d) ≡ b → b ≡ true
    go true k = refl
    go false k = let f = a.all in let e = list_all_at shown gs i d h k in cc
