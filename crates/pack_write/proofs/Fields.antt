-- The fields of an object, written one at a time.
use mathlib.Core.Path.{◌≡◌, ◌∙◌}
use Prim.Native.Nat.{ℕ, ◌+◌, ◌≤◌, ◌<◌}
use mathlib.Core.List.{List, ◌∷◌}
use lib.ListN.{length, take}
use Rattle.lists.specs.Lists.{over}
use Rattle.lists.proofs.Over.{length_over}
use Rattle.big_endian.specs.BigEndian.{big_endian}
use Rattle.big_endian.proofs.Laws.{length-big}
use Rattle.model_orders.specs.Object.{Link}
use Rattle.model_orders.specs.Table.{filled, FieldsIn}
use Rattle.work.specs.Views.{places_in}
use Rattle.work.specs.declared.Areas.{Areas}
use Rattle.order_graph.specs.Graph.{graph_on, links_after, link_count, AtNode, FieldOf}
use Rattle.order_graph.proofs.Links.{links-read, links-none}
use Rattle.order_fit.specs.Fit.{offset_by}

-- d₀ has become d: t fields of node i are written
pub record Fields (a : Areas) (n i t : ℕ) (w d₀ d : List ℕ) : Type 0 where
  pub long : length d ≡ length d₀
  pub from : ℕ
  pub inside : FieldsIn from (length d₀) (links_after a (take a.keys w) i t)
  pub left :
      filled (offset_by (places_in a w) i) (links_after a (take a.keys w) i t) d ≡ filled (offset_by (places_in a w) i) ((graph_on a n w).links i) d₀

module _ {a : Areas} {n i : ℕ} {w : List ℕ} (m : AtNode a n i w) where
  abbrev front : List ℕ
  front = take a.keys w

  module _ {d₀ : List ℕ} where
    module _ {t : ℕ} {d : List ℕ} {l : Link} (s : Fields a n i t w d₀ d) (h : t < link_count a front i) (r : FieldOf a n front i t l) where
      next : links_after a front i t ≡ l ∷ links_after a front i (t + 1)
      next = links-read r h

      pub field-inside : l.slot.at + l.slot.width ≤ length d
      unfolding FieldsIn
      field-inside = rw s.long (rw (next, FieldsIn) at s.inside).0.inside

      module _ {o : ℕ} {d' : List ℕ} (e : o ≡ offset_by (places_in a w) i l) (q : d' ≡ over l.slot.at (big_endian l.slot.width o) d) where
        pub fields-next : Fields a n i (t + 1) w d₀ d'
        unfolding FieldsIn filled
        fields-next =
            record {
              long = rw q (length_over l.slot.at _ d (rw length-big field-inside) ∙ s.long);
              from = l.slot.at + l.slot.width;
              inside = (rw (next, FieldsIn) at s.inside).1;
              left = rw (q, e) (rw (next, filled) at s.left);
            }

    pub fields-all : {t : ℕ} {d : List ℕ} → Fields a n i t w d₀ d → link_count a front i ≤ t → d ≡ filled (offset_by (places_in a w) i) ((graph_on a n w).links i) d₀
    unfolding filled
    fields-all {t} s h = rw (links-none a front i t h, filled) at s.left
