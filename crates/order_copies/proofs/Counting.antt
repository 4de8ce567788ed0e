-- One field fewer leads to the original, one to the copy, and the copy's own fields to its children.
use mathlib.Core.Path.{◌≡◌, ◌∙◌}
use Prim.Native.Nat.{ℕ, ◌+◌, ◌-◌, ◌≤◌, ◌<◌}
use mathlib.Core.List.{List}
use native.Mathlib.Omega.{arith}
use lib.ListN.{length, get_or, set, take, length-set}
use lib.Seq.{get_or-set_same, get_or-set_other}
use Rattle.regions.specs.Region.{ceiling, Kept}
use Rattle.regions.proofs.Laws.{region-length, region-at, region-in}
use Rattle.regions.proofs.Bounds.{ceiling-at, ceiling-set, ceiling-bump}
use Rattle.regions.proofs.Frame.{kept_then, kept_set}
use Rattle.model_orders.specs.Bag.{one, count}
use Rattle.model_orders.specs.Graph.{kids}
use Rattle.model_orders.proofs.Bags.{Same, same, other, same_or}
use Rattle.model_orders.proofs.Distances.{kid-link}
use Rattle.work.specs.Views.{incoming_in}
use Rattle.work.specs.declared.Areas.{Areas}
use Rattle.order_graph.specs.Graph.{graph_on, Stands}
use Rattle.order_graph.proofs.Links.{front_kept, stands-kept}
use Rattle.order_survey.specs.Survey.{far_away, Counting, CountedAll}
use Rattle.order_survey.proofs.Distances.{node-links}
use Rattle.order_survey.proofs.Lines.{counted-one, counted-at}
use Rattle.order_copies.specs.Steps.{CountingCopy, CopyCounted}

-- the children of a node are nodes
kid-known : {a : Areas} {n : ℕ} {w : List ℕ} → Stands a n w → (i c : ℕ) → 0 < count c (kids (graph_on a n w) i) → c < n
kid-known {a} {n} {w} s i c h =
    let k = kid-link c ((graph_on a n w).links i) h in
    omega (arith, k.2, node-links a n (take a.keys w) (λ l. l.child < n) i (λ b t m. (s.tidy.node i b).known t m) k.0 k.1)

-- a count that falls by one
counted-less : (cs : List ℕ) (x c : ℕ) → x < length cs → 0 < get_or cs x 0 → get_or (set cs x (get_or cs x 0 - 1)) c 0 + one c x ≡ get_or cs c 0
counted-less cs x c h k = go (same_or c x)
  where
    go : Same c x → get_or (set cs x (get_or cs x 0 - 1)) c 0 + one c x ≡ get_or cs c 0
    go (same e _ o) = rw (o, e) (omega (arith, get_or-set_same cs x (get_or cs x 0 - 1) 0 h))
    go (other n _ o) = rw o (omega (arith, get_or-set_other cs x c (get_or cs x 0 - 1) 0 n))

module _ {a : Areas} {nodes x : ℕ} {w : List ℕ} (s : CountingCopy a nodes x w) where
  nodes-in : nodes < a.nodes
  nodes-in = omega (arith, s.graph.tidy.nodes)

  abbrev cs : List ℕ
  cs = incoming_in a w

  cs-long : length cs ≡ a.nodes
  cs-long = region-length a.incoming a.nodes w (omega (arith, s.graph.apart, s.graph.long))

  x-read : get_or w (a.incoming + x) 0 ≡ get_or cs x 0
  x-read = region-at a.incoming a.nodes w x (omega (arith, nodes-in, s.inside))

  -- one fewer at x
  abbrev w₁ : List ℕ
  w₁ = set w (a.incoming + x) (get_or w (a.incoming + x) 0 - 1)

  abbrev cs₁ : List ℕ
  cs₁ = set cs x (get_or cs x 0 - 1)

  first-counts : incoming_in a w₁ ≡ cs₁
  first-counts = region-in a.incoming a.nodes w x (get_or w (a.incoming + x) 0 - 1) (omega (arith, nodes-in, s.inside)) ∙ rw x-read

  copy_read : get_or w₁ (a.incoming + nodes) 0 ≡ get_or cs₁ nodes 0
  copy_read = region-at a.incoming a.nodes w₁ nodes nodes-in ∙ rw first-counts

  first_small : ceiling cs₁ ≤ ceiling cs
  first_small = omega (arith, ceiling-set cs x (get_or cs x 0 - 1), ceiling-at cs x (omega (arith, cs-long, nodes-in, s.inside)))

  pub counting-room : get_or w₁ (a.incoming + nodes) 0 < far_away
  counting-room = omega (arith, copy_read, first_small, s.small, ceiling-at cs₁ nodes (rw length-set (omega (arith, cs-long, nodes-in))))

  -- one more at the copy
  abbrev w₂ : List ℕ
  w₂ = set w₁ (a.incoming + nodes) (get_or w₁ (a.incoming + nodes) 0 + 1)

  abbrev cs₂ : List ℕ
  cs₂ = set cs₁ nodes (get_or cs₁ nodes 0 + 1)

  second-counts : incoming_in a w₂ ≡ cs₂
  second-counts = region-in a.incoming a.nodes w₁ nodes (get_or w₁ (a.incoming + nodes) 0 + 1) nodes-in ∙ rw (copy_read, first-counts)

  second-small : ceiling (incoming_in a w₂) ≤ ceiling cs + 1
  second-small = rw second-counts (omega (arith, ceiling-bump cs₁ nodes, first_small))

  second-kept : Kept a.incoming a.distances w w₂
  second-kept =
      let p = s.graph.apart in
      kept_then (kept_set a.incoming a.distances w (a.incoming + x) (get_or w (a.incoming + x) 0 - 1) (omega arith) (omega (arith, p, nodes-in, s.inside)))
      (kept_set a.incoming a.distances w₁ (a.incoming + nodes) (get_or w₁ (a.incoming + nodes) 0 + 1) (omega arith) (omega (arith, p, nodes-in)))

  pub counting-asks : Counting a (nodes + 1) nodes w₂
  counting-asks =
      record {
        node = record { graph = stands-kept s.graph second-kept (omega (arith, s.graph.apart)); inside = omega arith };
        small = omega (arith, second-small, s.small);
      }

  pub counting-all : {w' : List ℕ} → CountedAll a (nodes + 1) nodes w₂ w' → CopyCounted a nodes x w w'
  counting-all {w'} d =
      let front = front_kept s.graph second-kept (omega (arith, s.graph.apart)) in
      let ls = (graph_on a (nodes + 1) w).links nodes in
      let in-range : (c : ℕ) → 0 < count c (kids (graph_on a (nodes + 1) w) nodes) → c < length cs₂ =
      λ c h. rw (length-set, length-set) (omega (arith, cs-long, nodes-in, kid-known s.graph nodes c h)) in
      record {
        kept = kept_then second-kept d.kept;
        incoming =
            λ c. rw (d.incoming, front, second-counts) (omega (
              arith,
              counted-at ls cs₂ in-range c,
              counted-one cs₁ nodes c (rw length-set (omega (arith, cs-long, nodes-in))),
              counted-less cs x c (omega (arith, cs-long, nodes-in, s.inside)) s.led,
            ));
        small = omega (arith, d.bound, second-small);
      }
