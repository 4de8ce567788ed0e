-- Fields that no order can fill: a child lies past its parent's end, so an offset is at least the parent's size less the inner start.
use mathlib.Core.Path.{◌≡◌, refl, sym, ◌∙◌}
use Prim.Native.Nat.{ℕ, ◌<◌}
use mathlib.Core.List.{List, [], ◌∷◌}
use mathlib.Core.Bool.{Bool, true, false, false≢true}
use native.Mathlib.Omega.{arith}
use borrow.Author.Tests.{leb-true, le-ltb}
use Rattle.big_endian.specs.BigEndian.{capacity, fits}
use Rattle.model_orders.specs.Bag.{count}
use Rattle.model_orders.specs.Object.{Link, hopeless, any_hopeless, slots_of}
use Rattle.model_orders.specs.Graph.{Graph, ParentsFirst}
use Rattle.model_orders.specs.Distance.{In, here, there}
use Rattle.model_orders.specs.Table.{place_of, offset, unfit}
use Rattle.model_orders.proofs.Before.{before-behind}
use Rattle.model_orders.proofs.Distances.{in-kids}
use Rattle.model_orders.proofs.Tables.{objects-fit}

-- none of them is hopeless where no one is
pub hopes-all : (n : ℕ) (ls : List Link) → ((l : Link) → In l ls → hopeless n l.slot ≡ false) → any_hopeless n (slots_of ls) ≡ false
unfolding any_hopeless
hopes-all n [] h = refl
hopes-all n (l ∷ ls) h = rw (h l (here refl)) (hopes-all n ls (λ m i. h m (there i)))

module _ (g : Graph) (o : List ℕ) (first : ParentsFirst g o) (p : ℕ) (h : 0 < count p o) where
  -- a hopeless link fits in no order that has parents first
  pub hopeless-unfit : (l : Link) → In l (g.links p) → hopeless (g.size p) l.slot ≡ true → fits l.slot.width (offset (place_of g o) p l) ≡ false
  unfolding offset
  hopeless-unfit l i e =
      le-ltb (offset (place_of g o) p l) (capacity l.slot.width)
      (omega (arith, leb-true, before-behind g.size g o first p l.child h (in-kids l (g.links p) i)))

  -- what packs is never hopeless
  pub fit-hopes : unfit g o ≡ [] → any_hopeless (g.size p) (slots_of (g.links p)) ≡ false
  fit-hopes e = hopes-all (g.size p) (g.links p) (λ l i. go l i (hopeless (g.size p) l.slot) refl)
    where
      go : (l : Link) → In l (g.links p) → (b : Bool) → hopeless (g.size p) l.slot ≡ b → b ≡ false
      go l i true f = absurd (false≢true (sym (hopeless-unfit l i f) ∙ objects-fit g (place_of g o) o p h e l i))
      go l i false f = refl

  -- so an object with such a field packs in no order
  pub hopeless-packs-not : any_hopeless (g.size p) (slots_of (g.links p)) ≡ true → unfit g o ≡ [] → ⊥
  hopeless-packs-not e f = false≢true (sym (fit-hopes f) ∙ e)
