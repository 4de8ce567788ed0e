-- An open object that grows: its reading, its children and its fields after bytes or a link are appended.
use mathlib.Core.Path.{◌≡◌, refl, ap}
use Prim.Native.Nat.{ℕ, ◌+◌, ◌≤◌, ◌<◌}
use native.Mathlib.Nat.{le_refl}
use mathlib.Core.List.{List, [], ◌∷◌, ◌++◌}
use native.Mathlib.Omega.{arith}
use lib.ListN.{length, length-append, length-replicate}
use Rattle.lists.specs.Lists.{total}
use Rattle.lists.proofs.Elements.{total-append}
use Rattle.model_orders.specs.Bag.{one, count}
use Rattle.model_orders.specs.Object.{Link, Object, no_object, size_of, link_count, with_bytes, new_link, with_link, slots_of, hopeless_object}
use Rattle.model_orders.specs.Graph.{kids_of}
use Rattle.model_orders.specs.Table.{SlotIn, FieldsIn}
use Rattle.model_orders.specs.Reading.{Reading, reading_size, field_count, slots_in, hopeless_reading, read_links, reading_at, read_object, readings_from, readings}
use Rattle.model.specs.History.{put_on, field_on, link_on}
use Rattle.model_orders.proofs.Bags.{Same, same, other, same_or}
use Rattle.model_orders.proofs.Filled.{slot-room}
use Rattle.model_orders.proofs.Tables.{read-bytes}

-- ---- readings

put-links : (ρ : ℕ → Reading) (ls : List Link) (b vs : List ℕ) → read_links ρ ls (b ++ vs) ≡ put_on vs (read_links ρ ls b)
unfolding read_links put_on
put-links ρ [] b vs = refl
put-links ρ (l ∷ ls) b vs = rw (put-links ρ ls b vs)

field-links : (ρ : ℕ → Reading) (ls : List Link) (l : Link) (b : List ℕ) → read_links ρ (ls ++ (l ∷ [])) b ≡ field_on l.slot (ρ l.child) (read_links ρ ls b)
unfolding read_links field_on
field-links ρ [] l b = refl
field-links ρ (k ∷ ls) l b = rw (field-links ρ ls l b)

count-links : (ρ : ℕ → Reading) (ls : List Link) (b : List ℕ) → field_count (read_links ρ ls b) ≡ length ls
unfolding read_links field_count
count-links ρ [] b = refl
count-links ρ (l ∷ ls) b = omega (arith, count-links ρ ls b)

slots-links : (ρ : ℕ → Reading) (ls : List Link) (b : List ℕ) → slots_in (read_links ρ ls b) ≡ slots_of ls
unfolding read_links slots_in
slots-links ρ [] b = refl
slots-links ρ (l ∷ ls) b = rw (slots-links ρ ls b)

module _ (rs : List Reading) (o : Object) where
  pub read-size : reading_size (read_object rs o) ≡ size_of o
  read-size = ap length (read-bytes (reading_at rs) o.links o.bytes)

  pub read_count : field_count (read_object rs o) ≡ link_count o
  read_count = count-links (reading_at rs) o.links o.bytes

  pub read-hopeless : hopeless_reading (read_object rs o) ≡ hopeless_object o
  read-hopeless = rw (read-size, slots-links (reading_at rs) o.links o.bytes)

  pub read-put : (vs : List ℕ) → read_object rs (with_bytes vs o) ≡ put_on vs (read_object rs o)
  read-put vs = put-links (reading_at rs) o.links o.bytes vs

  pub read-link : (w id i : ℕ) → read_object rs (with_link w id i o) ≡ link_on w i (reading_at rs id) (read_object rs o)
  read-link w id i = rw (put-links, field-links, read-size)

-- what readings have of their objects adds up the same
module _ (f : Reading → ℕ) (k : Object → ℕ) (e : (rs : List Reading) (o : Object) → f (read_object rs o) ≡ k o) where
  total-readings_from : (rs : List Reading) (os : List Object) → total f (readings_from rs os) ≡ total f rs + total k os
  unfolding readings_from total
  total-readings_from rs [] = omega arith
  total-readings_from rs (o ∷ os) = omega (arith, total-readings_from (rs ++ (read_object rs o ∷ [])) os, total-append f rs (read_object rs o ∷ []), e rs o)

  pub total-readings : (os : List Object) → total f (readings os) ≡ total k os
  unfolding readings total
  total-readings os = omega (arith, total-readings_from [] os)

-- ---- children and fields

-- an object's children have ids below n; its fields are in order, apart and inside it
pub record Formed (n : ℕ) (o : Object) : Type 0 where
  pub low : (c : ℕ) → 0 < count c (kids_of o.links) → c < n
  pub inside : FieldsIn 0 (size_of o) o.links

kids-snoc : (c : ℕ) (ls : List Link) (l : Link) → count c (kids_of (ls ++ (l ∷ []))) ≡ count c (kids_of ls) + one c l.child
unfolding kids_of count
kids-snoc c [] l = omega arith
kids-snoc c (k ∷ ls) l = omega (arith, kids-snoc c ls l)

pub fields-room : (from n m : ℕ) (ls : List Link) → n ≤ m → FieldsIn from n ls → FieldsIn from m ls
unfolding FieldsIn
fields-room from n m [] h f = tt
fields-room from n m (l ∷ ls) h f = (slot-room f.0 from m (le_refl from) h, fields-room (l.slot.at + l.slot.width) n m ls h f.1)

-- a last field behind all the bytes
fields_snoc : (from n k : ℕ) (ls : List Link) (m : Link) → from ≤ n → n ≤ k → FieldsIn from n ls → SlotIn n k m.slot → FieldsIn from k (ls ++ (m ∷ []))
unfolding FieldsIn
fields_snoc from n k [] m a b f s = (slot-room s from k a (le_refl k), tt)
fields_snoc from n k (l ∷ ls) m a b f s =
    (slot-room f.0 from k (le_refl from) b, fields_snoc (l.slot.at + l.slot.width) n k ls m f.0.inside b f.1 s)

pub formed-none : (n : ℕ) → Formed n no_object
unfolding kids_of count FieldsIn
formed-none n = record { low = λ c h. absurd (omega arith); inside = tt }

module _ {n : ℕ} {o : Object} (f : Formed n o) where
  pub formed-more : (m : ℕ) → n ≤ m → Formed m o
  formed-more m h = record { low = λ c k. omega (arith, f.low c k); inside = f.inside }

  pub formed-put : (vs : List ℕ) → Formed n (with_bytes vs o)
  formed-put vs = record {
    low = f.low;
    inside = fields-room 0 (size_of o) (length (o.bytes ++ vs)) o.links (omega (arith, length-append o.bytes vs)) f.inside;
  }

  pub formed-link : (w id i : ℕ) → id < n → i ≤ size_of o → Formed n (with_link w id i o)
  formed-link w id i h b = record {
    low = λ c k. go c k (same_or c id);
    inside = rw (length-append, length-replicate)
        (fields_snoc 0 (size_of o) (size_of o + w) o.links (new_link w id i o) (omega arith) (omega arith) f.inside (record { after = le_refl (size_of o); inside = le_refl (size_of o + w); start = b }));
  }
    where
      go : (c : ℕ) → 0 < count c (kids_of (with_link w id i o).links) → Same c id → c < n
      go c k (same e _ _) = omega arith
      go c k (other _ _ z) = f.low c (omega (arith, kids-snoc c o.links (new_link w id i o)))
