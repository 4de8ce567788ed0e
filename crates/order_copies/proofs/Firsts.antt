-- The first link of a node whose field is at a place, and that link led elsewhere.
use mathlib.Core.Path.{◌≡◌, sym, ap, ap₂, ◌∙◌}
use Prim.Native.Nat.{ℕ, zero, suc, ◌+◌, ◌<◌}
use mathlib.Core.List.{List, ◌∷◌}
use native.Mathlib.Omega.{arith}
use lib.ListN.{take}
use lib.Dec.{eqb}
use mathlib.Core.Bool.{true, false}
use borrow.Author.Tests.{eq-eqb, ne_eqb}
use Rattle.model_orders.specs.Object.{Link}
use Rattle.model_orders.specs.Copies.{lead_to, redirect, child_at}
use Rattle.work.specs.Packed.{packed_words, packed_at}
use Rattle.work.specs.declared.Areas.{Areas}
use Rattle.order_graph.specs.Graph.{links_from, links_at, link_of, link_count, links_after, FieldOf}
use Rattle.order_graph.proofs.Links.{links-in}
use Rattle.order_copies.specs.Copy.{child_in}
use Rattle.order_copies.specs.Steps.{LinkFound}
use Rattle.order_grow.proofs.Alike.{nth, kid, nth-first, nth-next, links-each, after-all}

-- link t of k
record First (f : List ℕ) (at j k t : ℕ) : Type 0 where
  some : t < k
  there : (nth f j t).slot.at ≡ at
  earlier : (s : ℕ) → s < t → (nth f j s).slot.at ≡ at → ⊥

abbrev pub place : Link → ℕ
place l = l.slot.at

first-here : {f : List ℕ} {at j k : ℕ} → First f at j k 0 → eqb (packed_at f j).slot.at at ≡ true
first-here {f} {at} {j} s = eq-eqb _ _ (sym (ap place (nth-first f j)) ∙ s.there)

first-other : {f : List ℕ} {at j k t : ℕ} → First f at j k (suc t) → eqb (packed_at f j).slot.at at ≡ false
first-other {f} {at} {j} s = ne_eqb _ _ (λ e. s.earlier 0 (omega arith) (ap place (nth-first f j) ∙ e))

first-later : {f : List ℕ} {at j k t : ℕ} → First f at j (suc k) (suc t) → First f at (j + packed_words) k t
first-later {f} {at} {j} {k} {t} s =
    record {
      some = omega (arith, s.some);
      there = ap place (sym (nth-next f j t)) ∙ s.there;
      earlier = λ i m e. s.earlier (suc i) (omega arith) (ap place (nth-next f j i) ∙ e);
    }

child-from : (f : List ℕ) (at t k j : ℕ) → First f at j k t → child_at at (links_from f j k) ≡ (nth f j t).child
unfolding links_from child_at
child-from f at t zero j s = absurd (omega (arith, s.some))
child-from f at zero (suc k) j s = rw (first-here s) (sym (ap kid (nth-first f j)))
child-from f at (suc t) (suc k) j s = rw (first-other s) (child-from f at t k (j + packed_words) (first-later s) ∙ sym (ap kid (nth-next f j t)))

-- f' has the same links from j' on, but for link t, which leads to y
redirect-from : (f f' : List ℕ) (at y t k j j' : ℕ) → First f at j k t → nth f' j' t ≡ lead_to y (nth f j t)
    → ((s : ℕ) → s < k → (s ≡ t → ⊥) → nth f' j' s ≡ nth f j s) → links_from f' j' k ≡ redirect at y (links_from f j k)
unfolding links_from redirect
redirect-from f f' at y t zero j j' s l h = absurd (omega (arith, s.some))
redirect-from f f' at y zero (suc k) j j' s l h =
    rw (first-here s)
    (ap₂ (λ (l : Link) (ls : List Link). l ∷ ls) (sym (nth-first f' j') ∙ l ∙ ap (lead_to y) (nth-first f j))
    (links-each f f' k (j + packed_words) (j' + packed_words) (λ i m. sym (nth-next f' j' i) ∙ h (suc i) (omega arith) (λ e. omega arith) ∙ nth-next f j i)))
redirect-from f f' at y (suc t) (suc k) j j' s l h =
    rw (first-other s)
    (ap₂ (λ (l : Link) (ls : List Link). l ∷ ls) (sym (nth-first f' j') ∙ h 0 (omega arith) (λ e. omega arith) ∙ nth-first f j)
    (redirect-from f f' at y t k (j + packed_words) (j' + packed_words) (first-later s) (sym (nth-next f' j' t) ∙ l ∙ ap (lead_to y) (nth-next f j t))
    (λ i m n. sym (nth-next f' j' i) ∙ h (suc i) (omega arith) (λ e. n (omega arith)) ∙ nth-next f j i)))

-- link t is the first of node p whose field is at this place
module _ {a : Areas} {n p at t : ℕ} {w : List ℕ} (s : LinkFound a n p at t w) where
  abbrev f : List ℕ
  f = take a.keys w

  first : First f at (links_at a f p) (link_count a f p) t
  first = record { some = s.link.some; there = s.there; earlier = s.earlier }

  pub child-at : child_at at (links_after a f p 0) ≡ (link_of a f p t).child
  child-at = rw (after-all a f p) (child-from f at t (link_count a f p) (links_at a f p) first)

  pub links-led : (f' : List ℕ) (y : ℕ) → link_count a f' p ≡ link_count a f p → link_of a f' p t ≡ lead_to y (link_of a f p t)
      → ((s : ℕ) → s < link_count a f p → (s ≡ t → ⊥) → link_of a f' p s ≡ link_of a f p s) → links_after a f' p 0 ≡ redirect at y (links_after a f p 0)
  links-led f' y e l h =
      rw (after-all a f' p, after-all a f p, e) (redirect-from f f' at y t (link_count a f p) (links_at a f p) (links_at a f' p) first l h)

  -- its child, as the graph has it
  pub found-child : {l : Link} → FieldOf a n f p t l → l.child ≡ child_in a n w p at
  found-child r = ap kid r.is ∙ sym (ap (child_at at) (links-in a n f p s.link.node.inside) ∙ child-at)
