-- docs/RULES.md, 11.2: a table's fields: what each may hold, and runs of them that stand as often as a number of the table says.
use Rattle.std.specs.Prelude.{ℕ, zero, suc, ◌+◌, ◌-◌, ◌*◌, ◌/◌, ◌%◌, List, [], ◌∷◌, ◌++◌, Bool, eqb}
use Rattle.lists.specs.Lists.{pick}
use Rattle.gsub.specs.declared.Kind.{Kind}
use Rattle.gsub.specs.declared.Rule.TheVariants.{Any, Only, To, ToOrNull, ToFeature}
use Rattle.gsub.specs.declared.Field.{Field}

-- ---- fields

abbrev pub uint16 : Field
uint16 = record { width = 2; rule = Any }

abbrev pub uint24 : Field
uint24 = record { width = 3; rule = Any }

abbrev pub tag : Field
tag = record { width = 4; rule = Any }

-- a version, a format or a type; or an offset that must be NULL
abbrev pub is : ℕ → Field
is v = record { width = 2; rule = Only v }

abbrev pub offset16 : Kind → Field
offset16 k = record { width = 2; rule = To k }

abbrev pub offset32 : Kind → Field
offset32 k = record { width = 4; rule = To k }

abbrev pub offset16_or_null : Kind → Field
offset16_or_null k = record { width = 2; rule = ToOrNull k }

abbrev pub offset32_or_null : Kind → Field
offset32_or_null k = record { width = 4; rule = ToOrNull k }

-- behind a feature's tag
abbrev pub feature_offset : Field
feature_offset = record { width = 2; rule = ToFeature }

-- ---- runs

-- how often a run of fields stands there: once; as often as the number at a place of the table says, less so many; as the number just before the
-- run says, less so many; once where lookupFlag has USE_MARK_FILTERING_SET, else not at all
pub data Times : Type 0 where
  once : Times
  count : ℕ → ℕ → Times
  before : ℕ → Times
  marked : Times

pub record Run : Type 0 where
  pub by : Times
  pub each : List Field

abbrev pub one : List Field → Run
one fs = record { by = once; each = fs }

-- as often as the number just before says
abbrev pub many : List Field → Run
many fs = record { by = before 0; each = fs }

-- and one fewer: the first stands elsewhere
abbrev pub fewer : List Field → Run
fewer fs = record { by = before 1; each = fs }

-- as often as the number at a place says, less so many
abbrev pub by_count : ℕ → ℕ → List Field → Run
by_count at less fs = record { by = count at less; each = fs }

abbrev pub if_marked : List Field → Run
if_marked fs = record { by = marked; each = fs }

abbrev pub Shape : Type 0
Shape = List Run

-- ---- a table's fields, by the numbers that stand in it: word i is the one from its byte i on

unfoldable pub times : ℕ → List Field → List Field
times zero r = []
times (suc n) r = r ++ times n r

unfoldable pub size : List Field → ℕ
size [] = 0
size (f ∷ fs) = f.width + size fs

-- lookupFlag bit 0x0010
abbrev pub mark_filtering : ℕ → Bool
mark_filtering flag = eqb (flag / 16 % 2) 1

-- how often the fields of a run from a on stand there
unfoldable pub often : (ℕ → ℕ) → ℕ → Times → ℕ
often word a once = 1
often word a (count at less) = word at - less
often word a (before less) = word (a - 2) - less
often word a marked = pick (mark_filtering (word 2)) 1 0

-- runs one after another, from a on
unfoldable pub laid : (ℕ → ℕ) → ℕ → List Run → List Field
laid word a [] = []
laid word a (r ∷ rs) = let n = often word a r.by in times n r.each ++ laid word (a + n * size r.each) rs
