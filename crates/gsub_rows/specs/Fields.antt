-- The field of a number in a table, how far a table's place may lie, and which tables a mode is for.
use Rattle.std.specs.Prelude.{◌≡◌, ℕ, ◌+◌, ◌≤◌, ◌<◌, ◌^◌, List, length, get_or, Option, Some, None}
use Rattle.big_endian.specs.BigEndian.{capacity}
use Rattle.gsub.specs.declared.Scope.{Scope}
use Rattle.gsub.specs.declared.Kind.{Kind}
use Rattle.gsub.specs.declared.Kind.TheVariants.{Lookup}
use Rattle.gsub.specs.declared.Mode.{Mode}
use Rattle.gsub.specs.declared.Field.{Field}
use Rattle.gsub.specs.Tables.{uint16}

-- a slice ends below 2 ^ 63, and an offset of four bytes leads no further than this
abbrev pub farthest : ℕ
farthest = 2 ^ 63 + 2 ^ 32

abbrev pub most_width : ℕ
most_width = 4

pub record Narrow (f : Field) : Type 0 where
  pub some : 2 ≤ f.width
  pub most : f.width ≤ most_width

-- the field of number i of a list, or that there is none
unfoldable pub Found : List Field → ℕ → Option Field → Type 0
Found fs i (Some f) = (i < length fs) × (get_or fs i uint16 ≡ f) × Narrow f
Found fs i None = length fs ≤ i

-- only a Lookup is promoted
pub record IsLookup (k : Kind) : Type 0 where
  pub scope : Scope
  pub same : k ≡ Lookup scope

-- a new Extension's type is a number of two bytes
unfoldable pub Fits : Mode → Kind → Type 0
Fits Mode.Plain k = Unit {0}
Fits (Mode.Last n) k = Unit {0}
Fits Mode.Promoted k = IsLookup k
Fits (Mode.New type) k = type < capacity 2
