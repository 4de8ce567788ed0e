-- The sizes of the nodes in the line, summed one by one.
use mathlib.Core.Path.{◌≡◌, sym, ◌∙◌}
use Prim.Native.Nat.{ℕ, ◌+◌, ◌*◌, ◌≤◌, ◌<◌}
use mathlib.Core.List.{List, ◌∷◌}
use native.Mathlib.Omega.{arith}
use lib.ListN.{get_or, take, drop, length}
use lib.Seq.{get_or-take}
use Rattle.lists.specs.Lists.{total}
use Rattle.regions.specs.Region.{region}
use Rattle.work.specs.Views.{line_in}
use Rattle.work.specs.declared.Areas.{Areas}
use Rattle.order_graph.specs.Graph.{graph_on, most_size}
use Rattle.order_graph.proofs.Links.{size_in}
use Rattle.order_survey.specs.Survey.{Along}
use Rattle.order_survey.proofs.Nodes.{line_read, line_long, line_item, line-left, line-done}

-- the sizes of t nodes are summed
pub record Sums (a : Areas) (n r t sum : ℕ) (w : List ℕ) : Type 0 where
  pub some : t ≤ r
  pub small : sum ≤ t * most_size
  pub left : total (graph_on a n w).size (line_in a r w) ≡ sum + total (graph_on a n w).size (drop t (line_in a r w))

module _ {a : Areas} {n r t sum : ℕ} {w : List ℕ} (s : Along a n r w) (f : Sums a n r t sum w) where
  -- the node at place t, read from the line's words
  module _ (k : ℕ) (e : k ≡ r) (h : t < length (region a.line k w)) where
    abbrev node : ℕ
    node = get_or (region a.line k w) t 0

    in_line : t < r
    in_line = omega (arith, line_long s k e)

    node-left : drop t (line_in a r w) ≡ node ∷ drop (t + 1) (line_in a r w)
    node-left = rw e (line-left s in_line ∙ rw (line_read s in_line))

    size : get_or (take a.keys w) node 0 ≡ get_or w node 0
    size = get_or-take a.keys w node 0 (omega (arith, line_item s k t e h))

    pub sums-light : get_or w node 0 < most_size
    sums-light = omega (arith, size, s.graph.tidy.light node (line_item s k t e h))

    pub sums_next : Sums a n r (t + 1) (sum + get_or w node 0) w
    unfolding total
    sums_next =
        record {
          some = omega (arith, in_line);
          small = omega (arith, sums-light);
          left = f.left ∙ rw (node-left, total, size_in a n (take a.keys w) node (line_item s k t e h), size) (omega arith);
        }

  pub sums-all : (k : ℕ) → k ≡ r → length (region a.line k w) ≤ t → sum ≡ total (graph_on a n w).size (line_in a r w)
  unfolding total
  sums-all k e h = sym (f.left ∙ rw (line-done {t = t} s (omega (arith, line_long s k e)), total) (omega arith))
