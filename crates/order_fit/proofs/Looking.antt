-- The look for the first link that does not fit: one link, and one node, at a time.
use mathlib.Core.Path.{◌≡◌, ap₂, ◌∙◌}
use Prim.Native.Nat.{ℕ, ◌+◌, ◌-◌, ◌≤◌, ◌<◌}
use mathlib.Core.List.{List, ◌∷◌}
use native.Mathlib.Omega.{arith}
use lib.ListN.{length, get_or, take, drop, drop_of_length-le}
use borrow.Author.Tests.{lt-ltb, le-ltb}
use Rattle.lists.proofs.Runs.{drop-first}
use Rattle.regions.proofs.Laws.{region-at}
use Rattle.answer.specs.declared.Overflow.{Overflow}
use Rattle.big_endian.specs.BigEndian.{capacity}
use Rattle.model_orders.specs.Object.{Link}
use Rattle.model_orders.specs.Table.{offset}
use Rattle.work.specs.declared.Areas.{Areas}
use Rattle.work.specs.Views.{order_in, places_in}
use Rattle.order_graph.specs.Graph.{graph_on, links_after, link_count, object_of, link_by, AtNode, FieldOf}
use Rattle.order_graph.specs.declared.Field.{Field}
use Rattle.order_graph.proofs.Links.{links-read, links-none}
use Rattle.order_fit.specs.Fit.{Look, or_else, offset_by, look_links, look, Placing}
use Rattle.std.specs.Prelude.{Ok, Err}
use Rattle.order_fit.proofs.Summing.{order-long}

-- two places are read, and the offset is the one less the other and the inner start
pub offset_read : {a : Areas} {n i : ℕ} {w : List ℕ} → AtNode a n i w → (f : Field) → f.child < n
    → get_or w (a.places + f.child) 0 - get_or w (a.places + i) 0 - f.inner ≡ offset_by (places_in a w) i (link_by f)
unfolding offset
offset_read {a} {n} {i} {w} s f h =
    ap₂ (λ (c o : ℕ). c - o - f.inner) (region-at a.places a.nodes w f.child (omega arith)) (region-at a.places a.nodes w i (omega arith))

-- t links of node i fit
pub record Looking (a : Areas) (n i t : ℕ) (w : List ℕ) : Type 0 where
  pub left : look_links (places_in a w) i ((graph_on a n w).links i) ≡ look_links (places_in a w) i (links_after a (take a.keys w) i t)

module _ {a : Areas} {n i : ℕ} {w : List ℕ} (m : AtNode a n i w) where
  abbrev front : List ℕ
  front = take a.keys w

  abbrev places : List ℕ
  places = places_in a w

  module _ {t : ℕ} (s : Looking a n i t w) where
    module _ {l : Link} {needed room : ℕ} (h : t < link_count a front i) (r : FieldOf a n front i t l)
        (e : needed ≡ offset_by places i l) (q : room ≡ capacity l.slot.width) where
      pub looking-next : needed < room → Looking a n i (t + 1) w
      unfolding look_links
      looking-next k =
          record {
            left = s.left ∙ rw (links-read r h, look_links, ← e, ← q, lt-ltb needed room k);
          }

      pub looking-stop : room ≤ needed → look_links places i ((graph_on a n w).links i) ≡ Err (record { parent = object_of i; field = l.slot.at; needed = needed })
      unfolding look_links
      looking-stop k = s.left ∙ rw (links-read r h, look_links, ← e, ← q, le-ltb needed room k)

    pub looking-all : link_count a front i ≤ t → look_links places i ((graph_on a n w).links i) ≡ Ok tt
    unfolding look_links
    looking-all h = s.left ∙ rw (links-none a front i t h, look_links)

-- the links of t nodes fit
pub record Seeking (a : Areas) (n r t : ℕ) (w : List ℕ) : Type 0 where
  pub left : look (graph_on a n w) (places_in a w) (order_in a r w) ≡ look (graph_on a n w) (places_in a w) (drop t (order_in a r w))

module _ {a : Areas} {n r t : ℕ} {w : List ℕ} (c : Placing a n r w) (s : Seeking a n r t w) where
  abbrev answer : Look
  answer = look (graph_on a n w) (places_in a w) (order_in a r w)

  module _ {i : ℕ} {u : Look} (h : t < r) (e : i ≡ get_or (order_in a r w) t 0) (l : u ≡ look_links (places_in a w) i ((graph_on a n w).links i)) where
    seeking-one : answer ≡ or_else u (look (graph_on a n w) (places_in a w) (drop (t + 1) (order_in a r w)))
    unfolding look
    seeking-one =
        let here : drop t (order_in a r w) ≡ i ∷ drop (t + 1) (order_in a r w) = rw e (drop-first t (order_in a r w) (omega (arith, order-long c))) in
        s.left ∙ rw (here, look, ← l)

    pub seeking-next : u ≡ Ok tt → Seeking a n r (t + 1) w
    seeking-next z = record { left = seeking-one ∙ rw z }

    pub seeking-stop : {o : Overflow} → u ≡ Err o → answer ≡ Err o
    seeking-stop z = seeking-one ∙ rw z

  pub seeking-all : r ≤ t → answer ≡ Ok tt
  unfolding look
  seeking-all h =
      let m : length (order_in a r w) ≤ t = omega (arith, order-long c) in
      s.left ∙ rw (drop_of_length-le (order_in a r w) {i = t} m, look)
