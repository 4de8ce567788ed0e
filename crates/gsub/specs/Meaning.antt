-- docs/RULES.md, 11.9: the reading of a table by the OpenType specification: its bytes with zeros for its offsets, and the reading of the table that each offset leads to.
use Rattle.std.specs.Prelude.{ℕ, zero, suc, ◌+◌, List, [], ◌∷◌, ◌++◌, replicate}
use Rattle.lists.specs.Lists.{part}
use Rattle.model_orders.specs.Object.{new_slot}
use Rattle.model_orders.specs.Reading.{Reading, bytes, field}
use Rattle.gsub.specs.declared.Scope.{Scope}
use Rattle.gsub.specs.declared.Kind.{Kind}
use Rattle.gsub.specs.declared.Kind.TheVariants.{Header}
use Rattle.gsub.specs.declared.Field.{Field}
use Rattle.gsub.specs.Tables.{fields_at}
use Rattle.gsub.specs.Ops.{Act, keep, follow, refuse, value_at, act}

unfoldable pub act_bytes : List ℕ → ℕ → ℕ → Act → List ℕ
act_bytes b at w keep = part at (at + w) b
act_bytes b at w (follow k) = replicate w 0
act_bytes b at w refuse = []

-- the bytes of fields from a on of the table at p
unfoldable pub own_bytes : List ℕ → ℕ → ℕ → List Field → List ℕ
own_bytes b p a [] = []
own_bytes b p a (f ∷ fs) = act_bytes b (p + a) f.width (act b (p + a) f) ++ own_bytes b p (a + f.width) fs

-- an offset in front of what follows
unfoldable pub act_reading : (Kind → ℕ → Reading) → List ℕ → ℕ → ℕ → ℕ → Act → Reading → Reading
act_reading child b p a w keep r = r
act_reading child b p a w (follow k) r = field (new_slot a w 0) (child k (p + value_at b (p + a) w)) r
act_reading child b p a w refuse r = r

-- the fields from a on, over the bytes of all
unfoldable pub fields_reading : (ℕ → Kind → ℕ → Reading) → List ℕ → ℕ → ℕ → List Field → List ℕ → Reading
fields_reading child b p a [] whole = bytes whole
fields_reading child b p a (f ∷ fs) whole = act_reading (child a) b p a f.width (act b (p + a) f) (fields_reading child b p (a + f.width) fs whole)

-- the table of kind k at p, given its children's readings
abbrev pub reading_by : (ℕ → Kind → ℕ → Reading) → List ℕ → Kind → ℕ → Reading
reading_by child b k p = fields_reading child b p 0 (fields_at b k p) (own_bytes b p 0 (fields_at b k p))

-- at most n tables deep
unfoldable pub table_reading : ℕ → List ℕ → Kind → ℕ → Reading
table_reading zero b k p = bytes []
table_reading (suc n) b k p = reading_by (λ a. table_reading n b) b k p

-- Header, LookupList, Lookup, Extension, a subtable, a set, a rule: none lies deeper
abbrev pub deepest : ℕ
deepest = 7

abbrev pub gsub_reading : Scope → List ℕ → Reading
gsub_reading s b = table_reading deepest b (Header s) 0
