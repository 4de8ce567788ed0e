-- The loop over a row's runs: the field of the number that is left, in the runs that are left, is the one that is looked for.
use mathlib.Core.Path.{◌≡◌}
use Prim.Native.Nat.{ℕ, zero, suc, ◌+◌, ◌-◌, ◌*◌, ◌%◌, ◌≤◌, ◌<◌}
use mathlib.Core.List.{List, ◌∷◌, ◌++◌}
use native.Mathlib.Omega.{arith}
use native.Mathlib.Nat.{add-zero, mod-lt, mul-zero, mul-le-mul_left}
use lib.ListN.{length, get_or, drop}
use Rattle.std.proofs.lemmas.List.{get_or_default}
use Rattle.big_endian.specs.BigEndian.{capacity}
use Rattle.gsub.specs.declared.Kind.{Kind}
use Rattle.gsub.specs.declared.Field.{Field}
use Rattle.gsub.specs.Tables.{uint16, word_at, often, laid, times, fields_of, fields_at}
use Rattle.std.specs.Prelude.{Option, Some, None}
use Rattle.gsub_rows.specs.declared.runs.Run.{Run}
use Rattle.gsub_rows.specs.Rows.{as_times, run_of, shape_of, most_fields, most_size, RightRow, RowOf}
use Rattle.gsub_rows.specs.Fields.{Found}
use Rattle.gsub_rows.proofs.Laid.{found_here, found-later}
use Rattle.gsub_rows.proofs.Right.{narrow-at, RightRun, right-run, shape-next, shape-end}

-- the most that a run adds to a place
abbrev most_added : ℕ
most_added = capacity 2 * most_size

pub record Looking (word : ℕ → ℕ) (row : List Run) (index run at left : ℕ) : Type 0 where
  pub leads : (x : Option Field) → Found (laid word at (shape_of (drop run row))) left x → Found (laid word 0 (shape_of row)) index x
  pub near : at ≤ run * most_added

-- ---- a run as the code has read it: its fields stand there n times

pub record RunRead (word : ℕ → ℕ) (row : List Run) (run at : ℕ) (r : Run) (n : ℕ) : Type 0 where
  pub right : RightRun r
  pub next : shape_of (drop run row) ≡ run_of r ∷ shape_of (drop (run + 1) row)
  pub times-are : n ≡ often word at (as_times r.by)
  pub few : n < capacity 2

pub run-read : {word : ℕ → ℕ} {row : List Run} {run at n : ℕ} (d : Run) → RightRow row → run < length row → (n ≡ often word at (as_times (get_or row run d).by)) × (n < capacity 2)
    → RunRead word row run at (get_or row run d) n
run-read {row = row} {run} d g h t = record { right = right-run g run d h; next = shape-next row run d h; times-are = t.0; few = t.1 }

module _ {word : ℕ → ℕ} {row : List Run} {run at n : ℕ} {r : Run} (g : RunRead word row run at r n) where
  abbrev fs : List Field
  fs = r.each.now

  pub mul-fits : n * length fs ≤ capacity 2 * most_fields
  mul-fits = omega (arith, g.few, mul-le-mul_left {m = length fs} {n = most_fields} n g.right.few)

  pub size_fits : n * r.size ≤ most_added
  size_fits = omega (arith, g.few, mul-le-mul_left {m = r.size} {n = most_size} n g.right.small)

  -- its fields, and those behind it
  fields_laid : laid word at (shape_of (drop run row)) ≡ times n fs ++ laid word (at + n * r.size) (shape_of (drop (run + 1) row))
  unfolding laid
  fields_laid = rw (g.next, ← g.times-are, g.right.sized)

  pub looked-on : {index left : ℕ} → Looking word row index run at left → n * length fs ≤ left → Looking word row index (run + 1) (at + n * r.size) (left - n * length fs)
  looked-on {left = left} l k = record {
    leads = λ x f. l.leads x (rw fields_laid (found-later n fs _ left k x f));
    near = omega (arith, l.near, size_fits);
  }

  pub some-fields : {left : ℕ} → left < n * length fs → 0 < length fs
  some-fields = go (length fs)
    where
      go : (k : ℕ) {left : ℕ} → left < n * k → 0 < k
      go zero h = absurd (omega (arith, mul-zero n))
      go (suc k) h = omega arith

  pub look-here : {index left : ℕ} (d : Field) → Looking word row index run at left → left < n * length fs → Found (laid word 0 (shape_of row)) index (Some (get_or fs (left % length fs) d))
  look-here {left = left} d l k =
      let j = left % length fs in
      let within : j < length fs = mod-lt left (some-fields k) in
      l.leads (Some (get_or fs j d)) (rw fields_laid (found_here n fs _ left k (get_or_default fs j uint16 d within) (narrow-at fs j d within g.right.thin)))

-- ---- no run is left

pub look-end : {word : ℕ → ℕ} {row : List Run} {index run at left : ℕ} → Looking word row index run at left → length row ≤ run → Found (laid word 0 (shape_of row)) index None
unfolding laid Found
look-end {row = row} {run = run} l h = l.leads None (rw (shape-end row run h) (omega arith))

-- ---- a table's row

pub row-found : (b : List ℕ) (k : Kind) (p index : ℕ) {first second : ℕ} {row : List Run} (x : Option Field) → first ≡ word_at b p → second ≡ word_at b (p + 2) → RowOf k first second row
    → Found (laid (λ i. word_at b (p + i)) 0 (shape_of row)) index x → Found (fields_at b k p) index x
unfolding fields_of
row-found b k p index x e s r h = rw (add-zero p, ← e, ← s, ← r.same) h
