-- The links of a node, looked through one by one for the field at a place.
use mathlib.Core.Path.{◌≡◌, sym, ap, ◌∙◌}
use Prim.Native.Nat.{ℕ, ◌+◌, ◌≤◌, ◌<◌}
use mathlib.Core.List.{List, [], ◌∷◌}
use native.Mathlib.Omega.{arith}
use native.Mathlib.Decide.{ℕ_discrete, dec_le}
use lib.ListN.{get_or, take}
use Rattle.regions.proofs.Laws.{region-at}
use Rattle.model_orders.specs.Object.{Link}
use Rattle.model_orders.specs.Distance.{In, here, there}
use Rattle.work.specs.Views.{incoming_in}
use Rattle.work.specs.declared.Areas.{Areas}
use Rattle.order_graph.specs.Graph.{link_of, link_count, links_after, AtLink, FieldOf}
use Rattle.order_graph.proofs.Links.{links-read, links-none}
use Rattle.order_copies.specs.Copy.{FieldAt, AtField, child_in}
use Rattle.order_copies.specs.Steps.{LinkFound}
use Rattle.order_copies.proofs.Firsts.{found-child}

-- the field is that of a link from t on
pub record Seeking (a : Areas) (p at t : ℕ) (w : List ℕ) : Type 0 where
  pub left : FieldAt at (links_after a (take a.keys w) p t)
  pub earlier : (s : ℕ) → s < t → (link_of a (take a.keys w) p s).slot.at ≡ at → ⊥

no_field : (at : ℕ) → FieldAt at [] → ⊥
no_field at s = elim s.of [ ]

field-later : (at : ℕ) (m : Link) (ls : List Link) → (m.slot.at ≡ at → ⊥) → FieldAt at (m ∷ ls) → FieldAt at ls
field-later at m ls n s = go s.of
  where
    go : In s.link (m ∷ ls) → FieldAt at ls
    go (here e) = absurd (n (sym (ap (λ (l : Link). l.slot.at) e) ∙ s.at-is))
    go (there i) = record { link = s.link; of = i; at-is = s.at-is }

module _ {a : Areas} {n p at : ℕ} {w : List ℕ} (s : AtField a n p at w) where
  abbrev f : List ℕ
  f = take a.keys w

  module _ {t : ℕ} (k : Seeking a p at t w) where
    some : t < link_count a f p
    some = go (dec_le (link_count a f p) t)
      where
        go : Dec (link_count a f p ≤ t) → t < link_count a f p
        go (yes h) = absurd (no_field at (rw (links-none a f p t h) at k.left))
        go (no h) = omega arith

    pub seeking-asks : AtLink a n p t w
    seeking-asks = record { node = s.node; some = some }

    module _ {l : Link} (r : FieldOf a n f p t l) where
      at-is : (link_of a f p t).slot.at ≡ l.slot.at
      at-is = ap (λ (m : Link). m.slot.at) (sym r.is)

      pub seeking-found : l.slot.at ≡ at → LinkFound a n p at t w
      seeking-found e = record { link = seeking-asks; there = at-is ∙ e; earlier = k.earlier }

      pub seeking-next : (l.slot.at ≡ at → ⊥) → Seeking a p at (t + 1) w
      seeking-next h = record { left = field-later at l _ h (rw (links-read r some) at k.left); earlier = λ i b e. go i b e (ℕ_discrete i t) }
        where
          go : (i : ℕ) → i < t + 1 → (link_of a f p i).slot.at ≡ at → Dec (i ≡ t) → ⊥
          go i b e (yes q) = h (sym at-is ∙ ap (λ (j : ℕ). (link_of a f p j).slot.at) (sym q) ∙ e)
          go i b e (no q) = k.earlier i (omega arith) e

-- how many fields lead to its child
pub shared-read : {a : Areas} {n p at t : ℕ} {w : List ℕ} {l : Link} → LinkFound a n p at t w → FieldOf a n (take a.keys w) p t l
    → get_or w (a.incoming + l.child) 0 ≡ get_or (incoming_in a w) (child_in a n w p at) 0
shared-read {a} {n} {p} {at} {t} {w} {l} s r =
    region-at a.incoming a.nodes w l.child (omega (arith, r.known, s.link.node.graph.tidy.nodes))
    ∙ ap (λ (c : ℕ). get_or (incoming_in a w) c 0) (found-child s r)
