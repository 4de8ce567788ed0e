-- The runs of a row that fits: each, and those from one on.
use mathlib.Core.Path.{◌≡◌, ap, ◌∙◌}
use Prim.Native.Nat.{ℕ, zero, suc, ◌+◌, ◌≤◌, ◌<◌}
use mathlib.Core.List.{List, [], ◌∷◌}
use mathlib.Core.Bool.{true, ◌&&◌}
use native.Mathlib.Omega.{arith}
use native.Mathlib.Numerals.{add-one}
use borrow.Author.Tests.{leb-true, eqb-true}
use lib.Dec.{eqb, leb}
use lib.ListN.{length, get_or, drop, drop_of_length-le}
use lib.Seq.{drop-cons}
use Rattle.lists.proofs.Same.{and_left, and_right}
use Rattle.gsub.specs.declared.Field.{Field}
use Rattle.gsub.specs.Tables.{size}
use Rattle.gsub_rows.specs.declared.runs.Run.{Run}
use Rattle.gsub_rows.specs.Fields.{most_width, Narrow}
use Rattle.gsub_rows.specs.Rows.{run_of, shape_of, most_fields, most_size, narrow, right_run, right_runs, RightRow}

pub narrow-at : (fs : List Field) (j : ℕ) (d : Field) → j < length fs → narrow fs ≡ true → Narrow (get_or fs j d)
narrow-at [] j d h t = absurd (omega arith)
narrow-at (f ∷ fs) zero d h t =
    let u = and_left (leb 2 f.width && leb f.width most_width) (narrow fs) t in
    record { some = leb-true 2 f.width (and_left (leb 2 f.width) _ u); most = leb-true f.width most_width (and_right (leb 2 f.width) _ u) }
narrow-at (f ∷ fs) (suc j) d h t = narrow-at fs j d (omega arith) (and_right (leb 2 f.width && leb f.width most_width) (narrow fs) t)

pub record RightRun (r : Run) : Type 0 where
  pub few : length r.each.now ≤ most_fields
  pub thin : narrow r.each.now ≡ true
  pub sized : size r.each.now ≡ r.size
  pub small : r.size ≤ most_size

run-facts : (r : Run) → right_run r ≡ true → RightRun r
run-facts r t =
    let a = leb (length r.each.now) most_fields in
    let b = narrow r.each.now in
    let c = eqb (size r.each.now) r.size in
    let u = and_right a _ t in
    let v = and_right b _ u in
    record {
      few = leb-true (length r.each.now) most_fields (and_left a _ t);
      thin = and_left b _ u;
      sized = eqb-true (size r.each.now) r.size (and_left c _ v);
      small = leb-true r.size most_size (and_right c _ v);
    }

runs-at : (row : List Run) (i : ℕ) (d : Run) → i < length row → right_runs row ≡ true → right_run (get_or row i d) ≡ true
runs-at [] i d h t = absurd (omega arith)
runs-at (r ∷ rs) zero d h t = and_left (right_run r) (right_runs rs) t
runs-at (r ∷ rs) (suc i) d h t = runs-at rs i d (omega arith) (and_right (right_run r) (right_runs rs) t)

pub right-run : {row : List Run} (g : RightRow row) (i : ℕ) (d : Run) → i < length row → RightRun (get_or row i d)
right-run {row} g i d h = run-facts (get_or row i d) (runs-at row i d h g.right)

pub shape-next : (row : List Run) (i : ℕ) (d : Run) → i < length row → shape_of (drop i row) ≡ run_of (get_or row i d) ∷ shape_of (drop (i + 1) row)
shape-next row i d h =
    let e : drop i row ≡ get_or row i d ∷ drop (i + 1) row = drop-cons row i d h ∙ rw (← add-one i) in
    ap shape_of e

pub shape-end : (row : List Run) (i : ℕ) → length row ≤ i → shape_of (drop i row) ≡ []
shape-end row i h = rw (drop_of_length-le row {i = i} h)
