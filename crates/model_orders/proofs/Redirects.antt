-- One link of an object led to another child.
use mathlib.Core.Path.{◌≡◌, refl, ap, sym, subst}
use Prim.Native.Nat.{ℕ, suc, ◌+◌, ◌<◌}
use mathlib.Core.List.{List, [], ◌∷◌}
use mathlib.Core.Bool.{Bool, true, false}
use native.Mathlib.Omega.{arith}
use lib.ListN.{length}
use lib.Dec.{eqb}
use Rattle.lists.specs.Lists.{pick}
use Rattle.model_orders.specs.Bag.{one, count}
use Rattle.model_orders.specs.Object.{Link}
use Rattle.model_orders.specs.Graph.{kids_of}
use Rattle.model_orders.specs.Reading.{Reading, field, read_links}
use Rattle.model_orders.specs.Table.{FieldsIn}
use Rattle.model_orders.proofs.Bags.{Same, same, other, same_or, one_same}
use Rattle.model_orders.specs.Copies.{lead_to, redirect, child_at}

-- there is a field at this place
pub data Field (at : ℕ) : List Link → Type 0 where
  this : {l : Link} {ls : List Link} → l.slot.at ≡ at → Field at (l ∷ ls)
  later : {l : Link} {ls : List Link} → Field at ls → Field at (l ∷ ls)

field-later : {at : ℕ} {l : Link} {ls : List Link} → (l.slot.at ≡ at → ⊥) → Field at (l ∷ ls) → Field at ls
field-later n (this e) = absurd (n e)
field-later n (later f) = f

module _ (at : ℕ) where
  pub child-in : (ls : List Link) → Field at ls → 0 < count (child_at at ls) (kids_of ls)
  unfolding child_at kids_of count
  child-in [] f = elim f [ ]
  child-in (l ∷ ls) f = go (same_or l.slot.at at) (child-in ls)
    where
      go : Same l.slot.at at → (Field at ls → 0 < count (child_at at ls) (kids_of ls)) → 0 < count (pick (eqb l.slot.at at) l.child (child_at at ls)) (l.child ∷ kids_of ls)
      go (same _ b _) i = rw b (omega (arith, one_same l.child))
      go (other n b _) i =
          let o : 0 < one (child_at at ls) l.child + count (child_at at ls) (kids_of ls) = omega (arith, i (field-later n f)) in
          subst (λ (t : Bool). 0 < count (pick t l.child (child_at at ls)) (l.child ∷ kids_of ls)) (sym b) o

  pub redirect-count : (y : ℕ) (ls : List Link) → Field at ls → (c : ℕ) → count c (kids_of (redirect at y ls)) + one c (child_at at ls) ≡ count c (kids_of ls) + one c y
  unfolding redirect child_at kids_of count
  redirect-count y [] f c = elim f [ ]
  redirect-count y (l ∷ ls) f c = go (same_or l.slot.at at) (redirect-count y ls)
    where
      go : Same l.slot.at at → (Field at ls → (c : ℕ) → count c (kids_of (redirect at y ls)) + one c (child_at at ls) ≡ count c (kids_of ls) + one c y)
          → count c (kids_of (pick (eqb l.slot.at at) (lead_to y l ∷ ls) (l ∷ redirect at y ls))) + one c (pick (eqb l.slot.at at) l.child (child_at at ls))
          ≡ (one c l.child + count c (kids_of ls)) + one c y
      go (same _ b _) i = rw b (omega arith)
      go (other n b _) i = rw b (omega (arith, i (field-later n f) c))

  pub redirect-length : (y : ℕ) (ls : List Link) → length (redirect at y ls) ≡ length ls
  unfolding redirect
  redirect-length y [] = refl
  redirect-length y (l ∷ ls) = go (eqb l.slot.at at) (redirect-length y ls)
    where
      go : (b : Bool) → length (redirect at y ls) ≡ length ls → length (pick b (lead_to y l ∷ ls) (l ∷ redirect at y ls)) ≡ suc (length ls)
      go true i = refl
      go false i = ap suc i

  pub redirect-fields : (y from n : ℕ) (ls : List Link) → FieldsIn from n ls → FieldsIn from n (redirect at y ls)
  unfolding redirect FieldsIn
  redirect-fields y from n [] h = tt
  redirect-fields y from n (l ∷ ls) h = go (eqb l.slot.at at) (redirect-fields y (l.slot.at + l.slot.width) n ls h.1)
    where
      go : (b : Bool) → FieldsIn (l.slot.at + l.slot.width) n (redirect at y ls) → FieldsIn from n (pick b (lead_to y l ∷ ls) (l ∷ redirect at y ls))
      go true i = h
      go false i = (h.0, i)

  -- where the new child reads as the old one
  pub redirect-read : (y : ℕ) (ρ : ℕ → Reading) (ls : List Link) → ρ y ≡ ρ (child_at at ls) → (b : List ℕ) → read_links ρ (redirect at y ls) b ≡ read_links ρ ls b
  unfolding redirect child_at read_links
  redirect-read y ρ [] e b = refl
  redirect-read y ρ (l ∷ ls) e b = go (eqb l.slot.at at) (redirect-read y ρ ls) e
    where
      go : (t : Bool) → (ρ y ≡ ρ (child_at at ls) → (b : List ℕ) → read_links ρ (redirect at y ls) b ≡ read_links ρ ls b)
          → ρ y ≡ ρ (pick t l.child (child_at at ls))
          → read_links ρ (pick t (lead_to y l ∷ ls) (l ∷ redirect at y ls)) b ≡ field l.slot (ρ l.child) (read_links ρ ls b)
      go true i e = ap (λ (r : Reading). field l.slot r (read_links ρ ls b)) e
      go false i e = ap (field l.slot (ρ l.child)) (i e b)
