-- A reported overflow is that of a field of a placed node.
use mathlib.Core.Path.{◌≡◌, refl, ap, sym, subst, ◌∙◌}
use Prim.Native.Nat.{ℕ, ◌<◌}
use mathlib.Core.List.{List, [], ◌∷◌, ◌++◌}
use mathlib.Core.Bool.{Bool, true, false}
use native.Mathlib.Omega.{arith}
use Rattle.lists.specs.Lists.{pick}
use Rattle.answer.specs.declared.Overflow.{Overflow}
use Rattle.big_endian.specs.BigEndian.{fits}
use Rattle.model_orders.specs.Bag.{count}
use Rattle.model_orders.specs.Object.{Link}
use Rattle.model_orders.specs.Graph.{Graph}
use Rattle.model_orders.specs.Table.{place_of, offset, unfit_links, unfit_from, unfit}
use Rattle.model_orders.proofs.Bags.{count-here}
use Rattle.model_orders.proofs.Redirects.{Field, this, later}

pub record Reported (g : Graph) (o : List ℕ) (u : Overflow) : Type 0 where
  pub placed : 0 < count u.parent.0 o
  pub has : Field u.field (g.links u.parent.0)

links-head : (place : ℕ → ℕ) (p : ℕ) (ls : List Link) (u : Overflow) (us : List Overflow) → unfit_links place p ls ≡ u ∷ us → (u.parent.0 ≡ p) × Field u.field ls
unfolding unfit_links
links-head place p [] u us e = absurd (let z : ◌≡◌ {A = ℕ} 0 1 = cc in omega arith)
links-head place p (l ∷ ls) u us e = go (links-head place p ls u us) (fits l.slot.width (offset place p l)) e
  where
    own : Overflow
    own = record { parent = record { 0 = p }; field = l.slot.at; needed = offset place p l }

    go : (unfit_links place p ls ≡ u ∷ us → (u.parent.0 ≡ p) × Field u.field ls) → (b : Bool) → pick b (unfit_links place p ls) (own ∷ unfit_links place p ls) ≡ u ∷ us
        → (u.parent.0 ≡ p) × Field u.field (l ∷ ls)
    go i true z = let r = i z in (r.0, later r.1)
    go i false z = let q : own ≡ u = cc in (ap (λ (v : Overflow). v.parent.0) (sym q), this (ap (λ (v : Overflow). v.field) q))

from-head : (g : Graph) (place : ℕ → ℕ) (o : List ℕ) (u : Overflow) (us : List Overflow) → unfit_from g place o ≡ u ∷ us → Reported g o u
unfolding unfit_from count
from-head g place [] u us e = absurd (let z : ◌≡◌ {A = ℕ} 0 1 = cc in omega arith)
from-head g place (x ∷ o) u us e = go (unfit_links place x (g.links x)) refl (from-head g place o u us) e
  where
    go : (vs : List Overflow) → unfit_links place x (g.links x) ≡ vs → (unfit_from g place o ≡ u ∷ us → Reported g o u) → vs ++ unfit_from g place o ≡ u ∷ us → Reported g (x ∷ o) u
    go [] f i z = let r = i z in record { placed = omega (arith, r.placed); has = r.has }
    go (v ∷ vs) f i z =
        let q : v ≡ u = cc in
        let r = links-head place x (g.links x) u vs (f ∙ ap (λ (t : Overflow). t ∷ vs) q) in
        record { placed = subst (λ (m : ℕ). 0 < count m (x ∷ o)) (sym r.0) (count-here x o); has = rw r.0 r.1 }

pub unfit-head : (g : Graph) (o : List ℕ) (u : Overflow) (us : List Overflow) → unfit g o ≡ u ∷ us → Reported g o u
unfit-head g o u us e = from-head g (place_of g o) o u us e
