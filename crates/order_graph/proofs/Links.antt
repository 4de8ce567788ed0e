-- A link's weight, read from the whole memory; and a node's links one by one.
use mathlib.Core.Path.{◌≡◌, sym, ap, ◌∙◌}
use Prim.Native.Nat.{ℕ, suc, ◌+◌, ◌-◌, ◌*◌, ◌≤◌, ◌<◌}
use mathlib.Core.List.{List, [], ◌∷◌}
use native.Mathlib.Omega.{arith}
use lib.ListN.{get_or, take}
use lib.Seq.{get_or-take}
use borrow.Author.Tests.{lt-ltb}
use Rattle.big_endian.specs.BigEndian.{capacity}
use Rattle.big_endian.proofs.Laws.{capacity-rises}
use Rattle.model_orders.specs.Object.{Link, widest}
use Rattle.model_orders.specs.Distance.{weight}
use Rattle.regions.specs.Region.{Kept}
use Rattle.regions.proofs.Frame.{kept_less}
use Rattle.work.specs.Packed.{packed_words}
use Rattle.work.specs.declared.Areas.{Areas}
use Rattle.order_graph.specs.Graph.{graph_in, link_of, links_at, links_from, links_after, link_count, Stands, AtNode, AtLink, FromLink, FieldOf, EdgeOf}

-- a child and its link's weight
module _ {a : Areas} {n i t : ℕ} {w : List ℕ} (s : AtLink a n i t w) where
  abbrev g : ℕ
  g = a.keys

  pub edge-read : {l : Link} {room : ℕ} → FieldOf a n (take g w) i t l → room ≡ capacity l.slot.width → EdgeOf a n (take g w) i t l.child (get_or w l.child 0 + room)
  edge-read {l} {room} f e =
      let d = s.node.graph.tidy in
      let b : l.child < n = f.known in
      let size : get_or (take g w) l.child 0 ≡ get_or w l.child 0 = get_or-take g w l.child 0 (omega arith) in
      let weighs : get_or w l.child 0 + room ≡ weight (graph_in a n (take g w)) l = rw (lt-ltb l.child n b, size, e) in
      record {
        child-is = ap (λ (k : Link). k.child) f.is;
        known = b;
        weight_is = weighs ∙ ap (weight (graph_in a n (take g w))) f.is;
        light = omega (arith, d.light l.child b, capacity-rises l.slot.width widest f.narrow);
      }

-- the graph stands, and is the same, while nothing in front changes
module _ {a : Areas} {n x y : ℕ} {w₀ w : List ℕ} (s : Stands a n w₀) (k : Kept x y w₀ w) (h : a.keys ≤ x) where
  pub front_kept : take a.keys w ≡ take a.keys w₀
  front_kept = (kept_less k a.keys y h (omega arith)).front

  pub stands-kept : Stands a n w
  stands-kept = record { apart = s.apart; long = omega arith; tidy = rw front_kept s.tidy }

pub link-kept : {a : Areas} {n i t x y : ℕ} {w₀ w : List ℕ} → AtNode a n i w₀ → Kept x y w₀ w → a.keys ≤ x → t < link_count a (take a.keys w₀) i → AtLink a n i t w
link-kept s k h b = record { node = record { graph = stands-kept s.graph k h; inside = s.inside }; some = rw (front_kept s.graph k h) b }

pub from-kept : {a : Areas} {n i t from x y : ℕ} {w₀ w : List ℕ} → AtNode a n i w₀ → Kept x y w₀ w → a.keys ≤ x → t < link_count a (take a.keys w₀) i
    → from ≡ links_at a (take a.keys w₀) i → FromLink a n i t from w
from-kept s k h b e = record { link = link-kept s k h b; begins = rw (front_kept s.graph k h) e }

-- ---- the nodes of the graph, and a node's links one by one

pub size_in : (a : Areas) (n : ℕ) (f : List ℕ) (i : ℕ) → i < n → (graph_in a n f).size i ≡ get_or f i 0
size_in a n f i h = rw (lt-ltb i n h)

pub links-in : (a : Areas) (n : ℕ) (f : List ℕ) (i : ℕ) → i < n → (graph_in a n f).links i ≡ links_after a f i 0
links-in a n f i h = rw (lt-ltb i n h)

pub links-next : (a : Areas) (f : List ℕ) (i t : ℕ) → t < link_count a f i → links_after a f i t ≡ link_of a f i t ∷ links_after a f i (t + 1)
unfolding links_from
links-next a f i t h =
    let e : link_count a f i - t ≡ suc (link_count a f i - (t + 1)) = omega arith in
    let z : links_at a f i + t * packed_words + packed_words ≡ links_at a f i + (t + 1) * packed_words = omega arith in
    rw (e, links_from, z)

-- the links from one on that was read
pub links-read : {a : Areas} {n : ℕ} {f : List ℕ} {i t : ℕ} {l : Link} → FieldOf a n f i t l → t < link_count a f i → links_after a f i t ≡ l ∷ links_after a f i (t + 1)
links-read {a} {n} {f} {i} {t} r h = links-next a f i t h ∙ ap (λ (k : Link). k ∷ links_after a f i (t + 1)) (sym r.is)

pub links-none : (a : Areas) (f : List ℕ) (i t : ℕ) → link_count a f i ≤ t → links_after a f i t ≡ []
unfolding links_from
links-none a f i t h = let e : link_count a f i - t ≡ 0 = omega arith in rw (e, links_from)
