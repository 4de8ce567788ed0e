-- docs/RULES.md, 2.2 and 2.9, and 22 and 23 of section 9: fields that a link may have and fields that it may not, and objects at the edge of what can be filled, each by one claim over a list of them.
use Rattle.std.specs.Prelude.{ℕ, List, [], ◌∷◌, Bool}
use Rattle.model_orders.specs.Object.{Slot, new_slot, any_hopeless}

-- ---- the fields that a link may have

-- the widths up to one past the widest, and one whose last byte alone is a width; inner starts before, at and past the field
abbrev pub fields : List Slot
fields =
    new_slot 0 0 0
    ∷ new_slot 0 1 0
    ∷ new_slot 0 2 0
    ∷ new_slot 0 3 0
    ∷ new_slot 0 4 0
    ∷ new_slot 0 5 0
    ∷ new_slot 0 258 0
    ∷ new_slot 4 2 3
    ∷ new_slot 4 2 4
    ∷ new_slot 4 2 5
    ∷ []

-- ---- the edge of what can be filled

-- an object's size and its fields
pub record Edge : Type 0 where
  pub size : ℕ
  pub slots : List Slot

abbrev pub edge : ℕ → List Slot → Edge
edge n ss = record { size = n; slots = ss }

abbrev pub edge_hopeless : Edge → Bool
edge_hopeless e = any_hopeless e.size e.slots

abbrev pub edges : List Edge
edges =
    edge 65535 (new_slot 0 2 0 ∷ [])
    ∷ edge 65536 (new_slot 0 2 0 ∷ [])
    ∷ edge 65537 (new_slot 0 2 0 ∷ [])
    ∷ edge 65545 (new_slot 10 2 10 ∷ [])
    ∷ edge 65546 (new_slot 10 2 10 ∷ [])
    ∷ edge 16777215 (new_slot 0 3 0 ∷ [])
    ∷ []
