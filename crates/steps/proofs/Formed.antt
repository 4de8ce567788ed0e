-- The closed objects of sound stores: children have lower ids, fields are in order, apart and inside, and an order can fill them.
use mathlib.Core.Path.{◌≡◌}
use Prim.Native.Nat.{ℕ, zero, suc, ◌+◌, ◌<◌}
use mathlib.Core.List.{List, [], ◌∷◌}
use mathlib.Core.Bool.{true, false, not}
use native.Mathlib.Omega.{arith}
use borrow.Author.Tests.{not-true}
use lib.ListN.{length}
use Rattle.lists.proofs.Same.{and_left, and_right}
use Rattle.lists.proofs.Elements.{at_snoc}
use Rattle.model_orders.specs.Bag.{count}
use Rattle.model_orders.specs.Object.{Link, no_object, object_at, hopeless_object}
use Rattle.model_orders.specs.Graph.{graph_of, kids_of}
use Rattle.model_orders.specs.Table.{FieldsIn, Fields}
use Rattle.model_orders.proofs.Bags.{Same, same, other, same_or}
use Rattle.model.proofs.Growth.{Formed, formed-none}
use Rattle.layout.specs.Tables.{for_all}
use Rattle.layout.specs.Fields.{fields_ok, object_ok, closed_ok}
use Rattle.layout.specs.Words.{closed_count}
use Rattle.layout.specs.Decode.{closed_at, closed_to, decode}
use Rattle.layout.specs.Sound.{sound}
use Rattle.layout.specs.Known.{Sound}
use Rattle.layout.proofs.Facts.{sound-facts, sound-of}
use Rattle.steps.proofs.Tables.{for_all-at}
use Rattle.steps.proofs.Fields.{first_field, other-fields}
use Rattle.steps.proofs.Tallies.{length-closed, closed-at}

module _ (kids : ℕ) (bs : List ℕ) where
  fields_in : (from : ℕ) (ls : List Link) → fields_ok kids from bs ls ≡ true → FieldsIn from (length bs) ls
  unfolding FieldsIn
  fields_in from [] h = tt
  fields_in from (l ∷ ls) h =
      let f = first_field kids from bs l ls h in
      (f.room, fields_in (l.slot.at + l.slot.width) ls (other-fields kids from bs l ls h))

  pub fields-low : (from : ℕ) (ls : List Link) → fields_ok kids from bs ls ≡ true → (c : ℕ) → 0 < count c (kids_of ls) → c < kids
  unfolding kids_of count
  fields-low from [] h c k = absurd (omega arith)
  fields-low from (l ∷ ls) h c k = go (same_or c l.child) (fields-low (l.slot.at + l.slot.width) ls (other-fields kids from bs l ls h) c)
    where
      go : Same c l.child → (0 < count c (kids_of ls) → c < kids) → c < kids
      go (same e _ _) r = rw e (first_field kids from bs l ls h).known
      go (other _ _ z) r = r (omega arith)

-- the first n
closed-formed : (b w : List ℕ) (n : ℕ) → for_all (λ i. closed_ok i (closed_at b w i)) n ≡ true → (i : ℕ) → Formed i (object_at (closed_to b w n) i)
unfolding closed_to for_all
closed-formed b w zero h i = formed-none i
closed-formed b w (suc n) h i =
    let o = closed_at b w n in
    let here = and_left (object_ok n o) _ (and_left (closed_ok n o) _ h) in
    at_snoc Formed (closed_to b w n) o no_object (λ j k. closed-formed b w n (and_right (closed_ok n o) _ h) j)
    (rw (length-closed b w n) record { low = fields-low n o.bytes 0 o.links here; inside = fields_in n o.bytes 0 o.links here }) i

pub sound-formed : (b w : List ℕ) → sound b w ≡ true → (i : ℕ) → Formed i (object_at (decode b w).closed i)
unfolding decode
sound-formed b w h = closed-formed b w (closed_count w) (sound-facts b w h).closed

-- each one's bytes and links, and its fields inside them

pub decoded-at : (b w : List ℕ) (i : ℕ) → i < closed_count w → object_at (decode b w).closed i ≡ closed_at b w i
unfolding decode
decoded-at b w i h = closed-at b w (closed_count w) i h

pub sound-fields : {b w : List ℕ} → Sound b w → Fields (graph_of (decode b w).closed)
unfolding Fields
sound-fields {b} {w} s i = (sound-formed b w (sound-of s) i).inside

-- each one's fields are right, and an order can fill them
module _ {b w : List ℕ} (s : Sound b w) (i : ℕ) (h : i < closed_count w) where
  both : closed_ok i (closed_at b w i) ≡ true
  both = for_all-at (λ j. closed_ok j (closed_at b w j)) (closed_count w) s.closed i h

  pub closed-right : object_ok i (closed_at b w i) ≡ true
  closed-right = and_left _ (not (hopeless_object (closed_at b w i))) both

  pub closed-hopes : hopeless_object (closed_at b w i) ≡ false
  closed-hopes = not-true _ (and_right (object_ok i (closed_at b w i)) _ both)
