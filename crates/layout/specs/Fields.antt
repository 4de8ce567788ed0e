-- docs/RULES.md, 4.7, 4.8 and 4.10: when an object's fields are right, and when they can be filled.
use Rattle.std.specs.Prelude.{ℕ, ◌+◌, List, [], ◌∷◌, Bool, true, not, ◌&&◌, length, leb, ltb}
use Rattle.lists.specs.Lists.{part, holds, zeros}
use Rattle.model_orders.specs.Object.{Slot, Link, Object, slot_ok, hopeless_object}

-- a field at or past `from`, of a width and an inner start that it may have, inside the bytes, to a child below `kids`, its bytes zero
unfoldable pub field_tests : ℕ → ℕ → List ℕ → Link → List Bool
field_tests kids from bs l =
    leb from l.slot.at
    ∷ slot_ok l.slot
    ∷ leb (l.slot.at + l.slot.width) (length bs)
    ∷ ltb l.child kids
    ∷ zeros (part l.slot.at (l.slot.at + l.slot.width) bs)
    ∷ []

-- fields rising and apart
unfoldable pub fields_ok : ℕ → ℕ → List ℕ → List Link → Bool
fields_ok kids from bs [] = true
fields_ok kids from bs (l ∷ ls) = holds (field_tests kids from bs l) && fields_ok kids (l.slot.at + l.slot.width) bs ls

abbrev pub object_ok : ℕ → Object → Bool
object_ok kids o = fields_ok kids 0 o.bytes o.links

-- closed, it has no field that no order can fill
abbrev pub closed_ok : ℕ → Object → Bool
closed_ok kids o = object_ok kids o && not (hopeless_object o)

-- every width and every inner start is one that a field may have
unfoldable pub slots_ok : List Slot → Bool
slots_ok [] = true
slots_ok (s ∷ ss) = slot_ok s && slots_ok ss
