-- To be of one space is an equivalence.
use mathlib.Core.Path.{◌≡◌, refl, sym}
use Prim.Native.Nat.{ℕ}
use mathlib.Core.List.{List}
use Rattle.model_orders.specs.Graph.{Graph}
use Rattle.model_orders.specs.Space.{Near, Joined, alone, down, up, Together, within, joined}

module _ (g : Graph) (o : List ℕ) (root : ℕ) where
  joined-on : {x y z : ℕ} → Joined g o root x y → Joined g o root y z → Joined g o root x z
  joined-on j (alone e) = rw e at j
  joined-on j (down k t) = down (joined-on j k) t
  joined-on j (up k t) = up (joined-on j k) t

  joined_back : {x y : ℕ} → Joined g o root x y → Joined g o root y x
  joined_back (alone e) = alone (sym e)
  joined_back (down j t) = joined-on (up (alone refl) t) (joined_back j)
  joined_back (up j t) = joined-on (down (alone refl) t) (joined_back j)

  -- one of space 0 is joined with none but itself
  near-alone : {x y : ℕ} → Joined g o root x y → Near g root x → x ≡ y
  near-alone (alone e) n = e
  near-alone (down j t) n = absurd (t.far (rw (near-alone j n) at n))
  near-alone (up j t) n = absurd (t.away (rw (near-alone j n) at n))

  near-with : {x y : ℕ} → Joined g o root x y → Near g root x → Near g root y
  near-with j n = rw (near-alone j n) at n

  pub together-on : {x y z : ℕ} → Together g o root x y → Together g o root y z → Together g o root x z
  together-on (within a b) (within c d) = within a d
  together-on (within a b) (joined k) = within a (near-with k b)
  together-on (joined j) (within c d) = within (near-with (joined_back j) c) d
  together-on (joined j) (joined k) = joined (joined-on j k)

  pub together-back : {x y : ℕ} → Together g o root x y → Together g o root y x
  together-back (within a b) = within b a
  together-back (joined j) = joined (joined_back j)

  pub together-near : {x y : ℕ} → Together g o root x y → Near g root y → Near g root x
  together-near (within a b) n = a
  together-near (joined j) n = near-with (joined_back j) n

  pub together-joined : {x y : ℕ} → Together g o root x y → (Near g root x → ⊥) → Joined g o root x y
  together-joined (within a b) h = absurd (h a)
  together-joined (joined j) h = j
