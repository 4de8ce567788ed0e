-- An object's fields stay right when bytes are put, a link is appended, and more objects are closed.
use mathlib.Core.Path.{◌≡◌, refl, ◌∙◌}
use Prim.Native.Nat.{ℕ, ◌+◌, ◌-◌, ◌≤◌, ◌<◌}
use native.Mathlib.Nat.{le_refl}
use mathlib.Core.List.{List, [], ◌∷◌, ◌++◌}
use mathlib.Core.Bool.{true}
use native.Mathlib.Omega.{arith}
use borrow.Author.Tests.{leb-true, ltb-true}
use lib.ListN.{length, replicate, get_or, length-append, length-replicate, get_or-replicate, get_or-append}
use lib.Seq.{get_or-append-add}
use Rattle.lists.specs.Lists.{holds}
use Rattle.lists.proofs.Holds.{holds_at}
use Rattle.lists.proofs.Same.{and_left, and_right}
use Rattle.lists.proofs.Frames.{zeros-in, zeros_of}
use Rattle.model_orders.specs.Object.{Link, Object, no_object, size_of, slot_ok, with_bytes, new_slot, new_link, with_link}
use Rattle.model_orders.specs.Table.{SlotIn}
use Rattle.model_orders.proofs.Slots.{slot-start}
use Rattle.model_orders.proofs.Filled.{slot-room}
use Rattle.layout.specs.Fields.{field_tests, fields_ok, object_ok}
use Rattle.layout.proofs.FieldTests.{field-bytes}

-- what a right field's tests say
pub record Field (kids from : ℕ) (bs : List ℕ) (l : Link) : Type 0 where
  pub room : SlotIn from (length bs) l.slot
  pub right : slot_ok l.slot ≡ true
  pub known : l.child < kids
  pub null : (i : ℕ) → l.slot.at ≤ i → i < l.slot.at + l.slot.width → get_or bs i 0 ≡ 0

module _ (kids from : ℕ) (bs : List ℕ) (l : Link) (ls : List Link) where
  pub first_field : fields_ok kids from bs (l ∷ ls) ≡ true → Field kids from bs l
  unfolding fields_ok field_tests
  first_field h =
      let at = holds_at (field_tests kids from bs l) (and_left (holds (field_tests kids from bs l)) (fields_ok kids (l.slot.at + l.slot.width) bs ls) h) in
      record {
        room = record { after = leb-true _ _ (at 0); inside = leb-true _ _ (at 2); start = slot-start l.slot (at 1) };
        right = at 1;
        known = ltb-true _ _ (at 3);
        null = zeros-in l.slot.at (l.slot.at + l.slot.width) bs (at 4);
      }

  pub other-fields : fields_ok kids from bs (l ∷ ls) ≡ true → fields_ok kids (l.slot.at + l.slot.width) bs ls ≡ true
  unfolding fields_ok
  other-fields h = and_right (holds (field_tests kids from bs l)) (fields_ok kids (l.slot.at + l.slot.width) bs ls) h

  fields-of : Field kids from bs l → fields_ok kids (l.slot.at + l.slot.width) bs ls ≡ true → fields_ok kids from bs (l ∷ ls) ≡ true
  unfolding fields_ok
  fields-of f h =
      rw (← field-bytes kids from bs l f.room.after f.right f.room.inside f.known, zeros_of l.slot.at (l.slot.at + l.slot.width) bs f.room.inside f.null, h)

-- bytes that begin as others do, and no fewer closed objects
module _ (kids more : ℕ) (bs cs : List ℕ) (k : kids ≤ more) (longer : length bs ≤ length cs) (same : (i : ℕ) → i < length bs → get_or cs i 0 ≡ get_or bs i 0) where
  field-kept : (from : ℕ) (l : Link) → Field kids from bs l → Field more from cs l
  field-kept from l f = record {
    room = slot-room f.room from (length cs) (le_refl from) longer;
    right = f.right;
    known = omega (arith, f.known);
    null = λ i a b. same i (omega (arith, f.room.inside)) ∙ f.null i a b;
  }

  fields-kept : (from : ℕ) (ls : List Link) → fields_ok kids from bs ls ≡ true → fields_ok more from cs ls ≡ true
  unfolding fields_ok
  fields-kept from [] h = refl
  fields-kept from (l ∷ ls) h =
      fields-of more from cs l ls (field-kept from l (first_field kids from bs l ls h)) (fields-kept (l.slot.at + l.slot.width) ls (other-fields kids from bs l ls h))

  -- and a field behind them
  fields-last : (from : ℕ) (ls : List Link) (m : Link) → from ≤ length bs → fields_ok kids from bs ls ≡ true → Field more (length bs) cs m
      → fields_ok more from cs (ls ++ (m ∷ [])) ≡ true
  unfolding fields_ok
  fields-last from [] m a h f =
      fields-of more from cs m []
      (record { room = slot-room f.room from (length cs) a (le_refl (length cs)); right = f.right; known = f.known; null = f.null }) refl
  fields-last from (l ∷ ls) m a h f =
      let g = first_field kids from bs l ls h in
      fields-of more from cs l (ls ++ (m ∷ [])) (field-kept from l g) (fields-last (l.slot.at + l.slot.width) ls m g.room.inside (other-fields kids from bs l ls h) f)

-- ---- objects

pub ok-none : (kids : ℕ) → object_ok kids no_object ≡ true
unfolding fields_ok
ok-none kids = refl

module _ (kids : ℕ) (o : Object) (h : object_ok kids o ≡ true) where
  pub ok-more : (more : ℕ) → kids ≤ more → object_ok more o ≡ true
  ok-more more k = fields-kept kids more o.bytes o.bytes k (le_refl _) (λ i b. refl) 0 o.links h

  pub ok-put : (vs : List ℕ) → object_ok kids (with_bytes vs o) ≡ true
  ok-put vs =
      fields-kept kids kids o.bytes (o.bytes ++ vs) (le_refl kids) (omega (arith, length-append o.bytes vs))
      (λ i b. get_or-append o.bytes vs 0 i b) 0 o.links h

  pub ok-link : (width child inner : ℕ) → slot_ok (new_slot (size_of o) width inner) ≡ true → child < kids → object_ok kids (with_link width child inner o) ≡ true
  ok-link width child inner a b =
      let n : ℕ = length o.bytes in
      let zs : List ℕ = replicate width 0 in
      let e = length-append o.bytes zs in
      let f : length zs ≡ width = length-replicate width 0 in
      fields-last kids kids o.bytes (o.bytes ++ zs) (le_refl kids) (omega arith) (λ i c. get_or-append o.bytes zs 0 i c) 0 o.links
      (new_link width child inner o) (omega arith) h
      (record {
        room = record { after = le_refl n; inside = omega arith; start = slot-start (new_slot n width inner) a };
        right = a;
        known = b;
        null = λ i c d. let m : i ≡ n + (i - n) = omega arith in rw (m, get_or-append-add o.bytes zs (i - n) 0) (get_or-replicate width (i - n) 0 0 (omega arith));
      })
