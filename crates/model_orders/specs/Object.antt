-- docs/RULES.md, section 2: an object is a run of bytes with links; each link has an offset field among the bytes.
use Rattle.std.specs.Prelude.{ℕ, ◌-◌, List, [], ◌∷◌, ◌++◌, map, Bool, false, ◌&&◌, ◌||◌, length, get_or, replicate, eqb, leb}
use Rattle.lists.specs.Lists.{same_list}
use Rattle.big_endian.specs.BigEndian.{capacity}

-- a field: its place in its object, its width in bytes, and its inner start: the place in its object that its offset counts from
pub record Slot : Type 0 where
  pub at : ℕ
  pub width : ℕ
  pub inner : ℕ

-- a field and the child's id
pub record Link : Type 0 where
  pub slot : Slot
  pub child : ℕ

pub record Object : Type 0 where
  pub bytes : List ℕ
  pub links : List Link

abbrev pub no_object : Object
no_object = record { bytes = []; links = [] }

-- ids are the indexes of a list of objects
abbrev pub object_at : List Object → ℕ → Object
object_at os i = get_or os i no_object

abbrev pub size_of : Object → ℕ
size_of o = length o.bytes

abbrev pub link_count : Object → ℕ
link_count o = length o.links

-- how many bytes a field has at least and at most
abbrev pub narrowest : ℕ
narrowest = 2

abbrev pub widest : ℕ
widest = 4

-- the widths that a field may have
abbrev pub width_ok : ℕ → Bool
width_ok w = leb narrowest w && leb w widest

-- and an inner start that is not past the field
abbrev pub slot_ok : Slot → Bool
slot_ok s = width_ok s.width && leb s.inner s.at

-- bytes appended
abbrev pub with_bytes : List ℕ → Object → Object
with_bytes vs o = record { bytes = o.bytes ++ vs; links = o.links }

-- the field that stands behind n bytes
abbrev pub new_slot : ℕ → ℕ → ℕ → Slot
new_slot n w i = record { at = n; width = w; inner = i }

-- a link to c whose field stands behind the bytes
abbrev pub new_link : ℕ → ℕ → ℕ → Object → Link
new_link w c i o = record { slot = new_slot (size_of o) w i; child = c }

-- a link appended, and with it its own field of zero bytes
abbrev pub with_link : ℕ → ℕ → ℕ → Object → Object
with_link w c i o = record { bytes = o.bytes ++ replicate w 0; links = o.links ++ (new_link w c i o ∷ []) }

-- no order can fill the field of an object of n bytes: its child lies past the object's end
abbrev pub hopeless : ℕ → Slot → Bool
hopeless n s = leb (capacity s.width) (n - s.inner)

-- one of them
unfoldable pub any_hopeless : ℕ → List Slot → Bool
any_hopeless n [] = false
any_hopeless n (s ∷ ss) = hopeless n s || any_hopeless n ss

abbrev pub slots_of : List Link → List Slot
slots_of ls = map (λ (l : Link). l.slot) ls

abbrev pub hopeless_object : Object → Bool
hopeless_object o = any_hopeless (size_of o) (slots_of o.links)

-- the comparison at closing: the same bytes and the same links, children by id
abbrev pub same_slot : Slot → Slot → Bool
same_slot s t = eqb s.at t.at && (eqb s.width t.width && eqb s.inner t.inner)

abbrev pub same_link : Link → Link → Bool
same_link l m = same_slot l.slot m.slot && eqb l.child m.child

abbrev pub same_object : Object → Object → Bool
same_object o p = same_list eqb o.bytes p.bytes && same_list same_link o.links p.links
