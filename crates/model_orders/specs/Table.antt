-- docs/RULES.md, 7.5 to 7.8: places, offsets, what does not fit, and the table's bytes.
use Rattle.std.specs.Prelude.{ℕ, ◌+◌, ◌-◌, ◌≤◌, ◌≡◌, List, [], ◌∷◌, ◌++◌, length, eqb}
use Rattle.lists.specs.Lists.{pick, total, over}
use Rattle.answer.specs.declared.Overflow.{Overflow}
use Rattle.big_endian.specs.BigEndian.{fits, big_endian}
use Rattle.model_orders.specs.Object.{Slot, Link}
use Rattle.model_orders.specs.Graph.{Graph, reached}

-- the sum of f over those before x in an order
unfoldable pub before : (ℕ → ℕ) → List ℕ → ℕ → ℕ
before f [] x = 0
before f (y ∷ o) x = pick (eqb x y) 0 (f y + before f o x)

-- where an object begins
abbrev pub place_of : Graph → List ℕ → ℕ → ℕ
place_of g o x = before g.size o x

-- from the field's inner start in the object that has it; `place` gives each object's
unfoldable pub offset : (ℕ → ℕ) → ℕ → Link → ℕ
offset place p l = place l.child - place p - l.slot.inner

-- ---- the links that do not fit, in placing order and then by rising field

unfoldable pub unfit_links : (ℕ → ℕ) → ℕ → List Link → List Overflow
unfit_links place p [] = []
unfit_links place p (l ∷ ls) =
    pick (fits l.slot.width (offset place p l)) (unfit_links place p ls)
    (record { parent = record { 0 = p }; field = l.slot.at; needed = offset place p l } ∷ unfit_links place p ls)

unfoldable pub unfit_from : Graph → (ℕ → ℕ) → List ℕ → List Overflow
unfit_from g place [] = []
unfit_from g place (x ∷ o) = unfit_links place x (g.links x) ++ unfit_from g place o

abbrev pub unfit : Graph → List ℕ → List Overflow
unfit g o = unfit_from g (place_of g o) o

-- ---- what comes of the orders: one in which every link fits, or the last one's first overflow

pub data Outcome : Type 0 where
  placed : List ℕ → Outcome
  overflow : Overflow → Outcome

-- ---- the table

-- without copies, known before any order
unfoldable pub table_length : Graph → ℕ → ℕ
table_length g root = total g.size (reached g root)

-- bytes with the fields filled
unfoldable pub filled : (Link → ℕ) → List Link → List ℕ → List ℕ
filled off [] bs = bs
filled off (l ∷ ls) bs = filled off ls (over l.slot.at (big_endian l.slot.width (off l)) bs)

-- `content` gives each object's bytes
unfoldable pub object_bytes : Graph → (ℕ → List ℕ) → (ℕ → ℕ) → ℕ → List ℕ
object_bytes g content place i = filled (offset place i) (g.links i) (content i)

unfoldable pub table_from : Graph → (ℕ → List ℕ) → (ℕ → ℕ) → List ℕ → List ℕ
table_from g content place [] = []
table_from g content place (x ∷ o) = object_bytes g content place x ++ table_from g content place o

unfoldable pub table_of : Graph → (ℕ → List ℕ) → List ℕ → List ℕ
table_of g content o = table_from g content (place_of g o) o

-- ---- what the laws of tables ask

-- a field from `from` on, inside n bytes, its inner start not past it
pub record SlotIn (from n : ℕ) (s : Slot) : Type 0 where
  pub after : from ≤ s.at
  pub inside : s.at + s.width ≤ n
  pub start : s.inner ≤ s.at

-- fields in rising order, apart
unfoldable pub FieldsIn : ℕ → ℕ → List Link → Type 0
FieldsIn from n [] = Unit {0}
FieldsIn from n (l ∷ ls) = SlotIn from n l.slot × FieldsIn (l.slot.at + l.slot.width) n ls

unfoldable pub Fields : Graph → Type 0
Fields g = (i : ℕ) → FieldsIn 0 (g.size i) (g.links i)

unfoldable pub Sized : Graph → (ℕ → List ℕ) → Type 0
Sized g content = (i : ℕ) → length (content i) ≡ g.size i
