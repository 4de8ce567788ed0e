-- The first link found not to fit is the model's.
use mathlib.Core.Path.{◌≡◌, refl}
use Prim.Native.Nat.{ℕ, ◌<◌}
use mathlib.Core.List.{List, [], ◌∷◌, ◌++◌}
use mathlib.Core.Bool.{Bool, true, false}
use native.Mathlib.Omega.{arith}
use lib.ListN.{length, get_or}
use Rattle.lists.specs.Lists.{pick}
use Rattle.big_endian.specs.BigEndian.{fits}
use Rattle.answer.specs.declared.Overflow.{Overflow}
use Rattle.model_orders.specs.Bag.{count}
use Rattle.model_orders.specs.Object.{Link}
use Rattle.model_orders.specs.Graph.{Graph, kids_of, Closed, Once}
use Rattle.model_orders.specs.Table.{place_of, offset, unfit_links, unfit_from, unfit}
use Rattle.model_orders.proofs.Bags.{one_same}
use Rattle.order_fit.specs.Fit.{places_from, or_else, offset_by, look_links, look}
use Rattle.std.specs.Prelude.{Err}
use Rattle.order.specs.Try.{look_of}
use Rattle.order.proofs.Placed.{places-placed}

look-join : (a b : List Overflow) → look_of (a ++ b) ≡ or_else (look_of a) (look_of b)
look-join [] b = refl
look-join (u ∷ a) b = refl

-- places that agree on the objects of an order
module _ (ps : List ℕ) (place : ℕ → ℕ) (o : List ℕ) (agree : (i : ℕ) → 0 < count i o → get_or ps i 0 ≡ place i) where
  look-links : (x : ℕ) → 0 < count x o → (ls : List Link) → ((c : ℕ) → 0 < count c (kids_of ls) → 0 < count c o) → look_links ps x ls ≡ look_of (unfit_links place x ls)
  unfolding look_links unfit_links kids_of count
  look-links x h [] k = refl
  look-links x h (l ∷ ls) k = rw needed (go (fits l.slot.width (offset place x l)) (look-links x h ls (λ c m. k c (omega arith))))
    where
      needed : offset_by ps x l ≡ offset place x l
      needed = unfold offset in rw (agree x h, agree l.child (k l.child (omega (arith, one_same l.child))))

      over : Overflow
      over = record { parent = record { 0 = x }; field = l.slot.at; needed = offset place x l }

      go : (b : Bool) → look_links ps x ls ≡ look_of (unfit_links place x ls) → pick b (look_links ps x ls) (Err over) ≡ look_of (pick b (unfit_links place x ls) (over ∷ unfit_links place x ls))
      go true e = e
      go false e = refl

  look-from : (g : Graph) → Closed g o → (m : List ℕ) → ((x : ℕ) → 0 < count x m → 0 < count x o) → look g ps m ≡ look_of (unfit_from g place m)
  unfolding look unfit_from Closed count
  look-from g z [] h = refl
  look-from g z (x ∷ m) h =
      let k = h x (omega (arith, one_same x)) in
      rw (look-links x k (g.links x) (λ c b. z x c k b), look-from g z m (λ c b. h c (omega arith)), look-join)

pub look-unfit : (g : Graph) (o ps : List ℕ) → Once o → ((c : ℕ) → 0 < count c o → c < length ps) → Closed g o → look g (places_from g o 0 ps) o ≡ look_of (unfit g o)
look-unfit g o ps a b z = look-from (places_from g o 0 ps) (place_of g o) o (places-placed g o ps a b) g z o (λ x h. h)
