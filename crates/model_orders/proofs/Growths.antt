-- What every graph with copies keeps: it is a graph to place from the same root, each node is as its object, and its sizes add up to those of
-- the objects and of the copies.
use mathlib.Core.Path.{◌≡◌, refl, ap, ◌∙◌}
use Prim.Native.Nat.{ℕ, suc, ◌+◌, ◌<◌}
use mathlib.Core.List.{List, [], ◌∷◌}
use native.Mathlib.Omega.{arith}
use native.Mathlib.Decide.{dec_le}
use lib.ListN.{length, get_or-eq_default}
use lib.Dec.{eqb}
use borrow.Author.Tests.{eq-eqb, ne_eqb}
use Rattle.lists.specs.Lists.{pick, total}
use Rattle.lists.proofs.Elements.{total-ones}
use Rattle.answer.specs.declared.Overflow.{Overflow}
use Rattle.model_orders.specs.Bag.{one, count}
use Rattle.model_orders.specs.Object.{Object, no_object, object_at}
use Rattle.model_orders.specs.Graph.{Graph, graph_of, kids_of, kids, waits, reached, Ranked, Acyclic, ParentsFirst, Rooted}
use Rattle.model_orders.specs.Distance.{distance_along, Least, weight, beyond}
use Rattle.model_orders.specs.Reading.{Reading, reading_at, readings, Reads}
use Rattle.model_orders.specs.Table.{Fields, Sized}
use Rattle.model_orders.specs.Copies.{copied, beside, Grown, ungrown, child_of, grow, content_in}
use Rattle.model_orders.proofs.Bags.{Same, same, other, same_or, Zero, none, some, zero_or, total-from}
use Rattle.model_orders.proofs.Reach.{reached-rooted, reached-first, reached-low}
use Rattle.model_orders.proofs.Distances.{distance_least, path-near}
use Rattle.model_orders.proofs.Readings.{readings-read}
use Rattle.model_orders.proofs.Beside.{total_ext, beside-total, beside-count}
use Rattle.model_orders.proofs.Redirects.{Field}
use Rattle.model_orders.proofs.Copies.{Copyable, Node, parent, copy, old, node_or, kids-less, child-placed, waits-new, copy-rooted, copy-first, copy-ranked, copy-sized, copy-linked, copy-fields, copy-reads}

-- objects as a session has them: n of them
pub record Base (g : Graph) (content : ℕ → List ℕ) (ρ : ℕ → Reading) (n : ℕ) : Type 0 where
  pub acyclic : Acyclic g
  pub low : (q c : ℕ) → 0 < count c (kids g q) → c < n
  pub fields : Fields g
  pub sized : Sized g content
  pub reads : Reads g content ρ

pub objects-base : (os : List Object) → Acyclic (graph_of os) → Fields (graph_of os) → Base (graph_of os) (λ i. (object_at os i).bytes) (reading_at (readings os)) (length os)
unfolding Ranked Sized kids_of count
objects-base os y f = record { acyclic = y; low = λ q c k. go q c k (dec_le (suc q) (length os)); fields = f; sized = λ i. refl; reads = readings-read os y }
  where
    go : (q c : ℕ) → 0 < count c (kids (graph_of os) q) → Dec (q < length os) → c < length os
    go q c k (yes m) = omega (arith, y q c k)
    go q c k (no m) = absurd (let e : object_at os q ≡ no_object = get_or-eq_default os no_object (omega (arith, m)) in let z = rw e at k in omega (arith, z))

-- a graph that has grown from g
pub record Grew (g : Graph) (root : ℕ) (w : Grown) : Type 0 where
  pub ranked : Ranked w.origin w.graph
  pub rooted : Rooted w.graph w.line root
  pub first : ParentsFirst w.graph w.line
  pub sizes : (i : ℕ) → w.graph.size i ≡ g.size (w.origin i)
  pub linked : (i : ℕ) → length (w.graph.links i) ≡ length (g.links (w.origin i))
  pub root-own : w.origin root ≡ root
  pub objects : (i : ℕ) → 0 < count i w.line → 0 < count (w.origin i) (reached g root)
  pub sum : (f : ℕ → ℕ) → total (λ i. f (w.origin i)) w.line ≡ total f (reached g root) + total f w.copies
  pub low : (q c : ℕ) → 0 < count c (kids w.graph q) → c < w.next
  pub ids : (c : ℕ) → 0 < count c w.line → c < w.next

-- its nodes read as their objects
pub record GrewReads (g : Graph) (content : ℕ → List ℕ) (ρ : ℕ → Reading) (root : ℕ) (w : Grown) : Type 0 where
  pub grew : Grew g root w
  pub fields : Fields w.graph
  pub reads : Reads w.graph (content_in content w) (λ i. ρ (w.origin i))

-- a reported link whose child is shared
pub record Curable (w : Grown) (u : Overflow) : Type 0 where
  pub placed : 0 < count u.parent.0 w.line
  pub has : Field u.field (w.graph.links u.parent.0)
  pub two : 1 < waits w.graph w.line (child_of w u)

pub ungrown-grew : {g : Graph} {n root : ℕ} → Acyclic g → ((q c : ℕ) → 0 < count c (kids g q) → c < n) → root < n → Grew g root (ungrown g n root)
unfolding total
ungrown-grew {g} {n} {root} y low h =
    record {
      ranked = y;
      rooted = reached-rooted g root y;
      first = reached-first g y root;
      sizes = λ i. refl;
      linked = λ i. refl;
      root-own = refl;
      objects = λ i k. k;
      sum = λ f. omega arith;
      low = low;
      ids = λ c k. omega (arith, reached-low g root c k);
    }

pub ungrown-reads : {g : Graph} {content : ℕ → List ℕ} {ρ : ℕ → Reading} {n root : ℕ} → Base g content ρ n → root < n → GrewReads g content ρ root (ungrown g n root)
ungrown-reads b h = record { grew = ungrown-grew b.acyclic b.low h; fields = b.fields; reads = b.reads }

module _ {g : Graph} {root : ℕ} where
  module _ {w : Grown} (v : Grew g root w) {u : Overflow} (k : Curable w u) where
    abbrev p : ℕ
    p = u.parent.0

    abbrev y : ℕ
    y = w.next

    pub copyable : Copyable w.graph p u.field y
    copyable = record { has = k.has; apart = λ e. omega (arith, v.ids p k.placed); fresh = λ q. go q (zero_or (count y (kids w.graph q))) }
      where
        go : (q : ℕ) → Zero (count y (kids w.graph q)) → count y (kids w.graph q) ≡ 0
        go q (none e _) = e
        go q (some e _) = absurd (omega (arith, v.low q y e))

    pub new-out : count y w.line ≡ 0
    new-out = go (zero_or (count y w.line))
      where
        go : Zero (count y w.line) → count y w.line ≡ 0
        go (none e _) = e
        go (some e _) = absurd (omega (arith, v.ids y e))

    pub child-here : 0 < count (child_of w u) w.line
    child-here = child-placed copyable v.rooted new-out k.placed

    -- how many fields lead to each node then
    pub grow-waits : (c : ℕ) → waits (grow u w).graph (grow u w).line c + one c (child_of w u) ≡ (waits w.graph w.line c + count c (kids w.graph (child_of w u))) + one c y
    unfolding grow
    grow-waits c = waits-new copyable v.rooted new-out k.placed c

    -- in any line of the nodes the copy may stand beside its original
    pub grow_first : (l : List ℕ) → ((c : ℕ) → count c l ≡ count c w.line) → ParentsFirst w.graph l → ParentsFirst (grow u w).graph (beside (child_of w u) y l)
    unfolding grow
    grow_first l e f = copy-first copyable l (e y ∙ new-out) (omega (arith, e (child_of w u), child-here)) f

    pub grow-counts : (l : List ℕ) → ((c : ℕ) → count c l ≡ count c w.line) → (c : ℕ) → count c (beside (child_of w u) y l) ≡ count c (grow u w).line
    unfolding grow
    grow-counts l e c =
        let x = child_of w u in
        omega (arith, e c, beside-count x y c l (omega (arith, e x, child-here)), beside-count x y c w.line child-here)

    pub grow-grew : Grew g root (grow u w)
    unfolding grow total
    grow-grew =
        record {
          ranked = copy-ranked copyable w.origin v.ranked;
          rooted = copy-rooted copyable v.rooted new-out k.placed k.two;
          first = copy-first copyable w.line new-out child-here v.first;
          sizes = copy-sized copyable g.size w.origin v.sizes;
          linked = copy-linked copyable (λ i. length (g.links i)) w.origin v.linked;
          root-own = rw (ne_eqb root y (λ e. omega (arith, v.ids root v.rooted.root_in))) v.root-own;
          objects = λ i h. object i h (same_or i y);
          sum =
              λ f. omega (
                arith,
                v.sum f,
                beside-total (child_of w u) y (λ i. f (from i)) w.line child-here,
                total_ext (λ i. f (from i)) (λ i. f (w.origin i)) w.line (λ i h. ap f (from_old i (λ e. omega (arith, rw e at h, new-out)))),
                ap f (from-copy y refl),
              );
          low = λ q c h. down q c h (same_or q y) (same_or c y);
          ids = λ c h. each c h (same_or c y);
        }
      where
        from : ℕ → ℕ
        from i = pick (eqb i y) (w.origin (child_of w u)) (w.origin i)

        from-copy : (i : ℕ) → i ≡ y → from i ≡ w.origin (child_of w u)
        from-copy i e = rw (eq-eqb i y e)

        from_old : (i : ℕ) → (i ≡ y → ⊥) → from i ≡ w.origin i
        from_old i n = rw (ne_eqb i y n)

        object : (i : ℕ) → 0 < count i (beside (child_of w u) y w.line) → Same i y → 0 < count (from i) (reached g root)
        object i h (same e _ _) = rw (from-copy i e) (v.objects (child_of w u) child-here)
        object i h (other n _ o) = rw (from_old i n) (v.objects i (omega (arith, beside-count (child_of w u) y i w.line child-here)))

        each : (c : ℕ) → 0 < count c (beside (child_of w u) y w.line) → Same c y → c < suc y
        each c h (same e _ _) = omega arith
        each c h (other _ _ o) = omega (arith, v.ids c (omega (arith, beside-count (child_of w u) y c w.line child-here)))

        down : (q c : ℕ) → 0 < count c (kids (copied w.graph p u.field (child_of w u) y) q) → Same q y → Same c y → c < suc y
        down q c h s (same e _ _) = omega arith
        down q c h (other n _ _) (other m _ _) = omega (arith, v.low q c (omega (arith, kids-less copyable q c n m)))
        down q c h (same e _ _) (other m _ _) = go (node_or copyable q)
          where
            go : Node copyable q → c < suc y
            go (parent _ n _ _) = absurd (n e)
            go (copy _ _ l _) = omega (arith, v.low (child_of w u) c (rw l at h))
            go (old _ n _ _) = absurd (n e)

  pub grow-reads : {content : ℕ → List ℕ} {ρ : ℕ → Reading} {w : Grown} → GrewReads g content ρ root w → {u : Overflow} → Curable w u → GrewReads g content ρ root (grow u w)
  unfolding grow
  grow-reads {content} {ρ} {w} v k =
      let c = copyable v.grew k in
      record { grew = grow-grew v.grew k; fields = copy-fields c v.fields; reads = copy-reads c content ρ w.origin v.reads }

-- ---- what follows

module _ {g : Graph} {root : ℕ} {w : Grown} (v : Grew g root w) where
  -- the sizes are those of the objects and of the copies
  pub grew-length : total w.graph.size w.line ≡ total g.size (reached g root) + total g.size w.copies
  grew-length = total_ext w.graph.size (λ i. g.size (w.origin i)) w.line (λ i h. v.sizes i) ∙ v.sum g.size

  -- and so are the links and the nodes
  pub grew-links : total (λ i. length (w.graph.links i)) w.line ≡ total (λ i. length (g.links i)) (reached g root) + total (λ i. length (g.links i)) w.copies
  grew-links =
      total_ext (λ i. length (w.graph.links i)) (λ i. length (g.links (w.origin i))) w.line (λ i h. v.linked i) ∙ v.sum (λ i. length (g.links i))

  pub grew-nodes : length w.line ≡ length (reached g root) + length w.copies
  grew-nodes = omega (arith, v.sum (λ i. 1), total-ones w.line, total-ones (reached g root), total-ones w.copies)

  -- distances along the line are the least sums
  pub along-least : (c : ℕ) → 0 < count c w.line → Least w.graph (weight w.graph) root c (distance_along w.graph w.line w.next root c)
  unfolding distance_along
  along-least c h =
      let g = w.graph in
      let o = w.line in
      distance_least (beyond (weight g) g o) (weight g) g o root v.rooted o (λ c. refl) v.first w.next v.ids w.origin v.ranked
      (path-near (weight g) g o root v.rooted o (λ c. refl) v.first) c h

  -- copies are of objects that the root reaches
  pub copies-reached : (c : ℕ) → 0 < count c w.copies → 0 < count c (reached g root)
  unfolding total count
  copies-reached c h =
      let t = total-from (λ i. one c (w.origin i)) w.line (omega (arith, v.sum (one c), count-total c w.copies)) in
      go t (same_or c (w.origin t.0))
    where
      count-total : (c : ℕ) (l : List ℕ) → total (one c) l ≡ count c l
      count-total c [] = refl
      count-total c (x ∷ l) = ap (λ (n : ℕ). one c x + n) (count-total c l)

      go : (t : (i : ℕ) × (0 < count i w.line) × (0 < one c (w.origin i))) → Same c (w.origin t.0) → 0 < count c (reached g root)
      go t (same e _ _) = rw e (v.objects t.0 t.1)
      go t (other _ _ o) = absurd (omega (arith, t.2))
