-- The words of a new copy's space and object.
use mathlib.Core.Path.{◌≡◌, ◌∙◌}
use Prim.Native.Nat.{ℕ, ◌+◌, ◌-◌, ◌≤◌, ◌<◌}
use mathlib.Core.List.{List}
use native.Mathlib.Omega.{arith}
use native.Mathlib.Decide.{ℕ_discrete, dec_le}
use borrow.Author.Tests.{lt-ltb, le-ltb}
use lib.ListN.{length, get_or, set}
use lib.Seq.{get_or-set_same, get_or-set_other}
use Rattle.regions.proofs.Laws.{region-length, region-at, region-in, region-under, region-over}
use Rattle.regions.proofs.Frame.{kept_then, kept_set}
use Rattle.work.specs.Views.{spaces_in, origins_in, origin_in}
use Rattle.work.specs.declared.Areas.{Areas}
use Rattle.order_graph.specs.Graph.{Owned}
use Rattle.order_copies.specs.Steps.{Noting, CopyNoted}

-- ---- a copy noted

module _ {a : Areas} {n nodes x : ℕ} {w : List ℕ} (s : Noting a n nodes x w) where
  module _ {v : ℕ} (e : v ≡ origin_in a n w x) where
    abbrev w₁ : List ℕ
    w₁ = set w (a.origins + (nodes - n)) v

    abbrev w₂ : List ℕ
    w₂ = set w₁ (a.spaces + nodes) (get_or w₁ (a.spaces + x) 0)

    nodes-in : nodes < a.nodes
    nodes-in = omega (arith, s.graph.tidy.nodes)

    spaces-same : spaces_in a w₁ ≡ spaces_in a w
    spaces-same = region-over a.spaces a.nodes w (a.origins + (nodes - n)) v (omega (arith, s.graph.apart))

    pub noted : CopyNoted a n nodes x w w₂
    noted =
        let p = s.graph.apart in
        record {
          kept =
              kept_then (kept_set a.spaces a.end w (a.origins + (nodes - n)) v (omega (arith, p)) (omega (arith, p, s.copy-room)))
              (kept_set a.spaces a.end w₁ (a.spaces + nodes) (get_or w₁ (a.spaces + x) 0) (omega arith) (omega (arith, p, nodes-in)));
          spaces =
              region-in a.spaces a.nodes w₁ nodes (get_or w₁ (a.spaces + x) 0) nodes-in
              ∙ rw (region-at a.spaces a.nodes w₁ x (omega (arith, nodes-in, s.inside)), spaces-same);
          origins =
              region-under a.origins a.copies w₁ (a.spaces + nodes) (get_or w₁ (a.spaces + x) 0) (omega (arith, p, nodes-in))
              ∙ region-in a.origins a.copies w (nodes - n) v s.copy-room ∙ rw e;
        }

-- ---- the objects of all nodes, with the copy's

module _ {a : Areas} {n nodes x : ℕ} {w w' : List ℕ} (s : Noting a n nodes x w) (d : CopyNoted a n nodes x w w') where
  origins-long : length (origins_in a w) ≡ a.copies
  origins-long = region-length a.origins a.copies w (omega (arith, s.graph.apart, s.graph.long))

  pub noted-origin : origin_in a n w' nodes ≡ origin_in a n w x
  noted-origin =
      rw (le-ltb nodes n s.base, d.origins) (get_or-set_same (origins_in a w) (nodes - n) (origin_in a n w x) 0 (omega (arith, origins-long, s.copy-room)))

  pub noted-others : (i : ℕ) → i < nodes → origin_in a n w' i ≡ origin_in a n w i
  noted-others i h = go (dec_le n i)
    where
      go : Dec (n ≤ i) → origin_in a n w' i ≡ origin_in a n w i
      go (yes b) = rw (le-ltb i n b, d.origins) (get_or-set_other (origins_in a w) (nodes - n) (i - n) (origin_in a n w x) 0 (λ e. omega arith))
      go (no b) = rw (lt-ltb i n (omega arith))

  pub noted-owned : Owned a n nodes w → Owned a n (nodes + 1) w'
  noted-owned o = record { room = omega (arith, s.base, s.copy-room); object = λ i h. go i h (ℕ_discrete i nodes) }
    where
      go : (i : ℕ) → i < nodes + 1 → Dec (i ≡ nodes) → origin_in a n w' i < n
      go i h (yes e) = rw (e, noted-origin) (o.object x s.inside)
      go i h (no b) = rw (noted-others i (omega arith)) (o.object i (omega arith))
