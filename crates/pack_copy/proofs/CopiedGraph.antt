-- Copied nodes and links are the graph of the closed objects.
use mathlib.Core.Path.{◌≡◌, sym, ap, ◌∙◌, fun_ext}
use Prim.Native.Nat.{ℕ, ◌+◌, ◌-◌, ◌*◌, ◌≤◌, ◌<◌}
use native.Mathlib.Nat.{add-zero, sub-zero}
use mathlib.Core.List.{List}
use native.Mathlib.Omega.{arith}
use native.Mathlib.Decide.{dec_le}
use borrow.Author.Tests.{lt-ltb, le-ltb}
use lib.ListN.{length, get_or, take}
use lib.Seq.{get_or-take}
use Rattle.lists.proofs.Runs.{length_part}
use Rattle.regions.specs.Region.{Kept}
use Rattle.regions.proofs.Frame.{kept_then, kept_less, kept_at}
use Rattle.model_orders.specs.Graph.{graph_of}
use Rattle.layout.specs.Words.{link_limit, closed_count, link_begins_at, link_words}
use Rattle.layout.specs.Words as records
use Rattle.layout.specs.Decode.{closed_at, decode}
use Rattle.layout.specs.Decode as store
use Rattle.layout.specs.Known.{Sound, Read}
use Rattle.layout.specs.declared.state.State.{State}
use Rattle.layout.proofs.Facts.{sound-known}
use Rattle.layout.proofs.Links.{link-words}
use Rattle.work.specs.Areas.{Apart}
use Rattle.work.specs.Packed.{packed_words}
use Rattle.work.specs.declared.Areas.{Areas}
use Rattle.order_graph.specs.Graph.{links_from, links_at, link_count, graph_in, graph_on, TidyNode, Stands}
use Rattle.pack_copy.specs.Copy.{AreasFor, Standing, NodeOf, NodesIn, Packs, LinksIn, NodesCopied, LinksCopied, Copyable, Copied}
use Rattle.steps.proofs.Tallies.{closed-at}
use Rattle.steps.proofs.Formed.{closed-right}
use Rattle.pack_copy.proofs.ClosedObjects.{entries, links-fall, closed-past, packs-from, links-packed, fields-right, sound-acyclic}

module _ {a : Areas} {b w m m₂ : List ℕ} (s : Sound b w) (f : AreasFor w a) (room : a.end ≤ length m) (kept : Kept 0 a.keys m m₂)
    (ns : NodesIn a (closed_count w) w m₂) (ls : LinksIn a (link_limit w * packed_words) w m₂) where
  -- the memory's first words
  abbrev front : List ℕ
  front = take a.keys m₂

  long : length m₂ ≡ length m
  long = kept.long

  node-word : (j : ℕ) → j < a.links → get_or front j 0 ≡ get_or m₂ j 0
  node-word j h = get_or-take a.keys m₂ j 0 (omega arith)

  node-words : (i : ℕ) → i < closed_count w → NodeOf w i (get_or front i 0) (get_or front (a.firsts + i) 0) (get_or front (a.counts + i) 0)
  node-words i h =
      rw (node-word i (omega arith), node-word (a.firsts + i) (omega arith), node-word (a.counts + i) (omega arith)) (ns i h)

  link-word : (t : ℕ) → t < link_limit w * packed_words → get_or front (a.links + t) 0 ≡ get_or m₂ (a.links + t) 0
  link-word t h = get_or-take a.keys m₂ (a.links + t) 0 (omega (arith, f.words))

  links-same : (from to : ℕ) → from ≤ to → to ≤ link_limit w → links_from front (a.links + from * packed_words) (to - from) ≡ store.links_from w from to
  links-same from to h k =
      let x : records.links_at w + from * packed_words * 2 ≡ records.links_at w + from * link_words = omega arith in
      let n : (to - from) * link_words ≡ records.links_at w + to * link_words - (records.links_at w + from * link_words) = omega arith in
      let packs : Packs w (records.links_at w) front a.links (link_limit w * packed_words) = λ t b. rw (link-word t b) (ls t b) in
      links-packed w front (to - from) (records.links_at w + from * link_words) (a.links + from * packed_words) (omega (arith, s.head.room)) (rw x at (packs-from w front (records.links_at w) a.links (from * packed_words) ((to - from) * packed_words) (λ t b. packs t (omega arith))))
      ∙ rw (n, link-words w from to k)

  node-links : (i : ℕ) → i < closed_count w → links_from front (links_at a front i) (link_count a front i) ≡ (closed_at b w i).links
  node-links i h =
      let o = node-words i h in
      let e = entries s i h in
      rw (o.first-is, o.count-is) (links-same (get_or w (link_begins_at w + i + 1) 0) (get_or w (link_begins_at w + i) 0) e.link_order e.link_inside)

  tidy-node : (i : ℕ) → i < closed_count w → TidyNode a (closed_count w) front i
  tidy-node i h =
      let o = node-words i h in
      let e = entries s i h in
      let right = fields-right i 0 (closed_at b w i).bytes front (link_count a front i) (links_at a front i) (rw (node-links i h) (closed-right s i h)) in
      record {
        few = omega arith;
        within = omega arith;
        wide = λ t k. (right t k).wide;
        known = λ t k. omega (arith, (right t k).lower);
      }

  -- node i of both graphs
  record SameNode (i : ℕ) : Type 0 where
    size : (graph_in a (closed_count w) front).size i ≡ (graph_of (decode b w).closed).size i
    links : (graph_in a (closed_count w) front).links i ≡ (graph_of (decode b w).closed).links i

  same-node : (i : ℕ) → SameNode i
  unfolding decode
  same-node i = go (dec_le (closed_count w) i)
    where
      go : Dec (closed_count w ≤ i) → SameNode i
      go (yes h) = let e = closed-past b w (closed_count w) i h in let t = le-ltb i (closed_count w) h in record { size = rw (t, e); links = rw (t, e) }
      go (no n) =
          let h : i < closed_count w = omega arith in
          let e = closed-at b w (closed_count w) i h in
          let t = lt-ltb i (closed_count w) h in
          record {
            size = rw (t, e) ((node-words i h).size_is ∙ sym (length_part _ _ b (entries s i h).inside));
            links = rw (t, e, add-zero (links_at a front i), sub-zero (link_count a front i)) (node-links i h);
          }

  same : graph_on a (closed_count w) m₂ ≡ graph_of (decode b w).closed
  same = λ k. record { size = fun_ext (λ i. (same-node i).size) k; links = fun_ext (λ i. (same-node i).links) k }

  stands : Stands a (closed_count w) m₂
  stands = record {
    apart = f.apart;
    long = omega (arith, long);
    tidy = record {
      nodes = omega arith;
      limit = omega arith;
      light = λ i h. let o = node-words i h in let e = entries s i h in omega arith;
      node = tidy-node;
    };
  }

  graph-stands : Standing b w a (closed_count w) m₂
  graph-stands =
      record {
        graph = stands;
        same = same;
        falls = rw same (sound-acyclic s);
        taken = λ i h. let o = node-words i h in let e = entries s i h in omega arith;
        parted = λ i j s t h k b d e. go i j s t h k b d e (dec_le i j) (dec_le j i);
      }
    where
      apart : (i j s t : ℕ) → i < closed_count w → j < closed_count w → s < link_count a front i → t < link_count a front j → i < j
          → get_or front (a.firsts + i) 0 + s ≡ get_or front (a.firsts + j) 0 + t → ⊥
      apart i j s' t h k b d l e =
          let o = node-words i h in
          let p = node-words j k in
          let z : link_begins_at w + (i + 1 + (j - (i + 1))) ≡ link_begins_at w + j = omega arith in
          let y : link_begins_at w + (i + 1) ≡ link_begins_at w + i + 1 = omega arith in
          let f = rw (z, y) at (links-fall s (i + 1) (j - (i + 1)) (omega arith)) in
          absurd (omega (arith, o.first-is, o.count-is, p.first-is, p.count-is, f))

      go : (i j s t : ℕ) → i < closed_count w → j < closed_count w → s < link_count a front i → t < link_count a front j
          → get_or front (a.firsts + i) 0 + s ≡ get_or front (a.firsts + j) 0 + t → Dec (i ≤ j) → Dec (j ≤ i) → i ≡ j
      go i j s t h k b d e (yes x) (yes y) = omega arith
      go i j s t h k b d e (yes x) (no y) = absurd (apart i j s t h k b d (omega (arith, y)) e)
      go i j s t h k b d e (no x) y = absurd (apart j i t s k h d b (omega (arith, x)) (sym e))

-- what was copied is the graph of the closed objects
pub graph-copied : {a : Areas} {b w m m' : List ℕ} {s : State} → Read b w s → AreasFor w a → a.end ≤ length m → Copied w s a m m' → Standing b w a s.closed m'
graph-copied r f long c =
    rw r.closed_is (graph-stands (sound-known r) f long c.kept (rw r.closed_is at c.nodes) (rw r.links_is at c.links))

-- both parts
pub all-copied : {a : Areas} {w m m₁ m₂ : List ℕ} {s : State} → Copyable w s a m → NodesCopied a s.closed w m m₁
    → LinksCopied a (s.links * packed_words) w m₁ m₂ → Copied w s a m m₂
all-copied {a} {w} {m} {m₁} {m₂} {s} c ns ls = record {
  kept = kept_then (kept_less ns.kept 0 a.keys (omega arith) (omega arith)) (kept_less ls.kept 0 a.keys (omega arith) (omega arith));
  nodes = λ i h. rw (same i (omega (arith, few, apart)), same (a.firsts + i) (omega (arith, few, apart)), same (a.counts + i) (omega (arith, few, apart))) (ns.node i h);
  links = ls.words;
}
  where
    apart : Apart a
    apart = c.areas.apart

    few : s.closed ≤ a.nodes
    few = omega (arith, ap (λ (x : State). x.objects) c.read.is, c.areas.nodes, c.read.bounds.closed)

    same : (j : ℕ) → j < a.links → get_or m₂ j 0 ≡ get_or m₁ j 0
    same j h = kept_at ls.kept j h ∙ get_or-take a.links m₁ j 0 h
