-- The turns of the two copies: one node's words, one word of the links.
use mathlib.Core.Path.{◌≡◌, refl, ap, ◌∙◌}
use Prim.Native.Nat.{ℕ, ◌+◌, ◌-◌, ◌*◌, ◌≤◌, ◌<◌}
use mathlib.Core.List.{List}
use native.Mathlib.Omega.{arith}
use lib.ListN.{length, get_or, set, length-set}
use lib.Seq.{get_or-set_same, get_or-set_other}
use Rattle.regions.specs.Region.{Kept}
use Rattle.regions.proofs.Frame.{kept_then, kept_set}
use Rattle.layout.specs.Words.{link_limit, links_at}
use Rattle.layout.specs.Spans.{closed_span, Lies}
use Rattle.layout.specs.declared.span.Span.{Span}
use Rattle.layout.specs.declared.state.State.{State}
use Rattle.steps.proofs.Tables.{below_more}
use Rattle.work.specs.Areas.{Apart}
use Rattle.work.specs.Packed.{packed_words, Halves}
use Rattle.work.specs.declared.Areas.{Areas}
use Rattle.pack_copy.specs.Copy.{Copyable, NodeOf, NodesCopied, LinksCopied}

-- the words of node n, by where it lies
pub node-read : {w : List ℕ} {n : ℕ} {o : Span} → Lies w (closed_span w n) o → NodeOf w n (o.to - o.from) o.first (o.last - o.first)
node-read l = rw l.is (record { size_is = refl; first-is = refl; count-is = refl })

-- the three stores of a turn
module _ (a : Areas) (n size first count : ℕ) (m : List ℕ) where
  abbrev node-set : List ℕ
  node-set = set (set (set m n size) (a.firsts + n) first) (a.counts + n) count

  node-other : (j : ℕ) → (j ≡ n → ⊥) → (j ≡ a.firsts + n → ⊥) → (j ≡ a.counts + n → ⊥) → get_or node-set j 0 ≡ get_or m j 0
  node-other j x y z =
      get_or-set_other (set (set m n size) (a.firsts + n) first) (a.counts + n) j count 0 z
      ∙ get_or-set_other (set m n size) (a.firsts + n) j first 0 y
      ∙ get_or-set_other m n j size 0 x

  module _ (s : Apart a) (h : n < a.nodes) where
    node_kept : Kept 0 a.links m node-set
    node_kept =
        kept_then (kept_set 0 a.links m n size (omega arith) (omega arith))
        (kept_then (kept_set 0 a.links (set m n size) (a.firsts + n) first (omega arith) (omega arith))
        (kept_set 0 a.links (set (set m n size) (a.firsts + n) first) (a.counts + n) count (omega arith) (omega arith)))

    module _ (room : a.links ≤ length m) where
      node-size : get_or node-set n 0 ≡ size
      node-size =
          get_or-set_other (set (set m n size) (a.firsts + n) first) (a.counts + n) n count 0 (omega arith)
          ∙ get_or-set_other (set m n size) (a.firsts + n) n first 0 (omega arith)
          ∙ get_or-set_same m n size 0 (omega arith)

      node-first : get_or node-set (a.firsts + n) 0 ≡ first
      node-first =
          get_or-set_other (set (set m n size) (a.firsts + n) first) (a.counts + n) (a.firsts + n) count 0 (omega arith)
          ∙ get_or-set_same (set m n size) (a.firsts + n) first 0 (omega (arith, length-set m n size))

      node-count : get_or node-set (a.counts + n) 0 ≡ count
      node-count = get_or-set_same (set (set m n size) (a.firsts + n) first) (a.counts + n) count 0 (simp length-set (omega arith))

module _ {a : Areas} {s : State} {w m₀ : List ℕ} (c : Copyable w s a m₀) where
  node_in : {n : ℕ} → n < s.closed → n < a.nodes
  node_in h = omega (arith, ap (λ (x : State). x.objects) c.read.is, c.areas.nodes, c.read.bounds.closed)

  link-in : {n : ℕ} → n < s.links * packed_words → n < link_limit w * packed_words
  link-in h = rw (ap (λ (x : State). x.links) c.read.is) at h

  pub nodes-next : {n size first count : ℕ} {m : List ℕ} → n < s.closed → NodeOf w n size first count → NodesCopied a n w m₀ m
      → NodesCopied a (n + 1) w m₀ (set (set (set m n size) (a.firsts + n) first) (a.counts + n) count)
  nodes-next {n} {size} {first} {count} {m} k o t =
      let h = node_in k in
      let m' : List ℕ = node-set a n size first count m in
      let same = node-other a n size first count m in
      let long : a.links ≤ length m = omega (arith, t.kept.long, c.areas.apart.keys, c.areas.apart, c.long) in
      let new = node-size a n size first count m c.areas.apart h long in
      let new_first = node-first a n size first count m c.areas.apart h long in
      let new_count = node-count a n size first count m c.areas.apart h long in
      record {
        kept = kept_then t.kept (node_kept a n size first count m c.areas.apart h);
        node =
            λ i k.
            below_more (λ i. NodeOf w i (get_or m' i 0) (get_or m' (a.firsts + i) 0) (get_or m' (a.counts + i) 0)) n
            (λ i k.
            let old = same i (omega arith) (omega arith) (omega arith) in
            let old_first = same (a.firsts + i) (omega arith) (omega arith) (omega arith) in
            let old_count = same (a.counts + i) (omega arith) (omega arith) (omega arith) in
            rw (old, old_first, old_count) (t.node i k))
            (rw (new, new_first, new_count) o) i (omega arith);
      }

  pub links-next : {n v : ℕ} {m : List ℕ} → n < s.links * packed_words → Halves (get_or w (links_at w + n * 2) 0) (get_or w (links_at w + n * 2 + 1) 0) v
      → LinksCopied a n w m₀ m → LinksCopied a (n + 1) w m₀ (set m (a.links + n) v)
  links-next {n} {v} {m} k e t =
      let h = link-in k in
      let m' : List ℕ = set m (a.links + n) v in
      let new : get_or m' (a.links + n) 0 ≡ v = get_or-set_same m (a.links + n) v 0 (omega (arith, h, t.kept.long, c.areas.words, c.areas.apart, c.long)) in
      record {
        kept = kept_then t.kept (kept_set a.links a.keys m (a.links + n) v (omega arith) (omega (arith, h, c.areas.words)));
        words =
            λ i b.
            below_more (λ i. Halves (get_or w (links_at w + i * 2) 0) (get_or w (links_at w + i * 2 + 1) 0) (get_or m' (a.links + i) 0)) n
            (λ i b. rw (get_or-set_other m (a.links + n) (a.links + i) v 0 (omega arith)) (t.words i b))
            (rw new e) i (omega arith);
      }
