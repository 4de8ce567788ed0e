-- docs/RULES.md, 2.6 to 2.8 and 8.8: the reading of an object, what it is for a table to show one, and how long it then is.
use Rattle.std.specs.Prelude.{ℕ, ◌+◌, ◌≤◌, ◌<◌, ◌≡◌, Bool, false, ◌&&◌, ◌||◌, ◌⊎◌, length, get_or, eqb}
use mathlib.Core.List.{List, [], ◌∷◌, ◌++◌, Memᴰ}
use Rattle.lists.specs.Lists.{pick, part, same_list, total}
use Rattle.big_endian.specs.BigEndian.{read_big}
use Rattle.model_orders.specs.Object.{Slot, Link, Object, any_hopeless, same_slot}
use Rattle.model_orders.specs.Graph.{Graph}

-- an object's fields in order, each its slot and its child's reading; and last the object's bytes
pub data Reading : Type 0 where
  bytes : List ℕ → Reading
  field : Slot → Reading → Reading → Reading

unfoldable pub bytes_of : Reading → List ℕ
bytes_of (bytes b) = b
bytes_of (field s c r) = bytes_of r

-- its own bytes, fields included, and none of a child's
abbrev pub reading_size : Reading → ℕ
reading_size r = length (bytes_of r)

unfoldable pub field_count : Reading → ℕ
field_count (bytes b) = 0
field_count (field s c r) = 1 + field_count r

-- its fields' slots
unfoldable pub slots_in : Reading → List Slot
slots_in (bytes b) = []
slots_in (field s c r) = s ∷ slots_in r

-- one of them can be filled in no order
abbrev pub hopeless_reading : Reading → Bool
hopeless_reading r = any_hopeless (reading_size r) (slots_in r)

unfoldable pub same_reading : Reading → Reading → Bool
same_reading (bytes a) (bytes b) = same_list eqb a b
same_reading (bytes a) (field s c r) = false
same_reading (field s c r) (bytes b) = false
same_reading (field s c r) (field u d q) = same_slot s u && (same_reading c d && same_reading r q)

-- ---- the readings of objects

-- links over bytes, given the readings by id
unfoldable pub read_links : (ℕ → Reading) → List Link → List ℕ → Reading
read_links ρ [] b = bytes b
read_links ρ (l ∷ ls) b = field l.slot (ρ l.child) (read_links ρ ls b)

abbrev pub reading_at : List Reading → ℕ → Reading
reading_at rs i = get_or rs i (bytes [])

-- an object's reading, given those of the closed objects
abbrev pub read_object : List Reading → Object → Reading
read_object rs o = read_links (reading_at rs) o.links o.bytes

-- the readings of closed objects, each given those before it
unfoldable pub readings_from : List Reading → List Object → List Reading
readings_from rs [] = rs
readings_from rs (o ∷ os) = readings_from (rs ++ (read_object rs o ∷ [])) os

unfoldable pub readings : List Object → List Reading
readings os = readings_from [] os

-- ρ reads a graph whose objects hold `content`
unfoldable pub Reads : Graph → (ℕ → List ℕ) → (ℕ → Reading) → Type 0
Reads g content ρ = (i : ℕ) → ρ i ≡ read_links ρ (g.links i) (content i)

-- ---- what a table shows

-- place k of an object is in none of its fields
unfoldable pub Outside : ℕ → Reading → Type 0
Outside k (bytes b) = Unit {0}
Outside k (field s c r) = ((k < s.at) ⊎ (s.at + s.width ≤ k)) × Outside k r

-- an object's own bytes lie in the table from place p on, and agree outside its fields
pub record Own (t : List ℕ) (p : ℕ) (r : Reading) : Type 0 where
  pub room : p + reading_size r ≤ length t
  pub agree : (k : ℕ) → k < reading_size r → Outside k r → get_or t (p + k) 0 ≡ get_or (bytes_of r) k 0

-- where a field of the object at p leads
abbrev pub target : List ℕ → ℕ → Slot → ℕ
target t p s = p + s.inner + read_big (part (p + s.at) (p + s.at + s.width) t)

-- every field of the object at p lies in the table and leads to what shows its child
unfoldable pub FieldsShow : List ℕ → ℕ → Reading → Type 0
FieldsShow t p (bytes b) = Unit {0}
FieldsShow t p (field s c r) = (p + s.at + s.width ≤ length t) × Own t (target t p s) c × FieldsShow t (target t p s) c × FieldsShow t p r

abbrev pub Shows : List ℕ → ℕ → Reading → Type 0
Shows t p r = Own t p r × FieldsShow t p r

-- every field of an object, and below it, has a width
unfoldable pub Wide : Reading → Type 0
Wide (bytes b) = Unit {0}
Wide (field s c r) = (0 < s.width) × Wide c × Wide r

-- no field of the object at p, or below it, holds 0
unfoldable pub Apart : List ℕ → ℕ → Reading → Type 0
Apart t p (bytes b) = Unit {0}
Apart t p (field s c r) = (read_big (part (p + s.at) (p + s.at + s.width) t) ≡ 0 → ⊥) × Apart t (target t p s) c × Apart t p r

-- ---- the different readings among one and all those below it

unfoldable pub below : Reading → List Reading
below (bytes b) = []
below (field s c r) = (c ∷ below c) ++ below r

unfoldable pub among : Reading → List Reading → Bool
among r [] = false
among r (s ∷ l) = same_reading r s || among r l

unfoldable pub different : List Reading → List Reading
different [] = []
different (r ∷ l) = pick (among r l) (different l) (r ∷ different l)

-- the length of a table: that of the different readings among the root's and those below it, and that of the copies made, which are among them too;
-- and how many objects it has
pub record Lengthened (root : Reading) (size copies placed : ℕ) : Type 0 where
  pub made : List Reading
  pub each : (r : Reading) → Memᴰ r made → Memᴰ r (root ∷ below root)
  pub count : length made ≡ copies
  pub sum : size ≡ total reading_size (different (root ∷ below root)) + total reading_size made
  pub objects : placed ≡ length (different (root ∷ below root)) + copies
