-- What the rows of the code stand for: the tables.
use Rattle.std.specs.Prelude.{◌≡◌, ℕ, ◌*◌, ◌<◌, ◌≤◌, List, [], ◌∷◌, map, Bool, true, ◌&&◌, length, eqb, leb}
use Rattle.std.specs.Borrow.{Bor}
use Rattle.gsub.specs.declared.Kind.{Kind}
use Rattle.gsub.specs.declared.Field.{Field}
use Rattle.gsub.specs.Tables.{once, count, before, marked, Shape, size, only, by_first, by_second, by_number, formats, shape}
use Rattle.gsub.specs.Tables as tables
use Rattle.gsub_rows.specs.declared.runs.Times.{Times}
use Rattle.gsub_rows.specs.declared.runs.Times.TheVariants.{Once, Count, Before, Marked}
use Rattle.gsub_rows.specs.declared.runs.Run.{Run}
use Rattle.gsub_rows.specs.declared.runs.Formats.{Formats}
use Rattle.gsub_rows.specs.declared.runs.Formats.TheVariants.{Only, ByFirst, BySecond}
use Rattle.gsub_rows.specs.Fields.{most_width}

-- ---- a run, a row, rows

abbrev pub as_times : Times → tables.Times
as_times Once = once
as_times (Count from fewer) = count from fewer
as_times (Before fewer) = before fewer
as_times Marked = marked

abbrev pub run_of : Run → tables.Run
run_of r = record { by = as_times r.by; each = r.each.now }

abbrev pub shape_of : List Run → Shape
shape_of row = map run_of row

abbrev pub shapes_of : List (Bor (List Run)) → List Shape
shapes_of rows = map (λ r. shape_of r.now) rows

-- ---- rows that fit the code's numbers

abbrev pub most_fields : ℕ
most_fields = 6

abbrev pub most_runs : ℕ
most_runs = 8

abbrev pub most_size : ℕ
most_size = most_fields * most_width

abbrev pub narrow : List Field → Bool
narrow [] = true
narrow (f ∷ fs) = (leb 2 f.width && leb f.width most_width) && narrow fs

-- a run's fields are few, and their size is its own
abbrev pub right_run : Run → Bool
right_run r = leb (length r.each.now) most_fields && (narrow r.each.now && (eqb (size r.each.now) r.size && leb r.size most_size))

abbrev pub right_runs : List Run → Bool
right_runs [] = true
right_runs (r ∷ rs) = right_run r && right_runs rs

abbrev pub right_rows : List (Bor (List Run)) → Bool
right_rows [] = true
right_rows (r ∷ rs) = (leb (length r.now) most_runs && right_runs r.now) && right_rows rs

pub record RightRow (row : List Run) : Type 0 where
  pub runs : length row ≤ most_runs
  pub right : right_runs row ≡ true

pub record RightRows (rows : List (Bor (List Run))) : Type 0 where
  pub some : 0 < length rows
  pub right : right_rows rows ≡ true

-- ---- which rows are whose

pub record HasShape (s : Shape) (row : List Run) : Type 0 where
  pub same : shape_of row ≡ s
  pub fits : RightRow row

-- the row of a table of kind k whose first two numbers are these
abbrev pub RowOf : Kind → ℕ → ℕ → List Run → Type 0
RowOf k first second row = HasShape (shape k first second) row

-- the rows of the tables of kind k, in the order of its formats
abbrev pub RowsOf : Kind → Formats → Type 0
RowsOf k (Only row) = (only (shape_of row.now) ≡ formats k) × RightRow row.now
RowsOf k (ByFirst rows) = (by_first (shapes_of rows.now) ≡ formats k) × RightRows rows.now
RowsOf k (BySecond from rows) = (by_second from (shapes_of rows.now) ≡ formats k) × RightRows rows.now
