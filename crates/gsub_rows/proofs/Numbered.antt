-- The row that a number chooses of several.
use mathlib.Core.Path.{◌≡◌, refl, sym, ap, ◌∙◌}
use Prim.Native.Nat.{ℕ, zero, suc, ◌+◌, ◌-◌, ◌≤◌, ◌<◌}
use mathlib.Core.List.{List, [], ◌∷◌}
use mathlib.Core.Bool.{true, ◌&&◌}
use native.Mathlib.Omega.{arith}
use borrow.Author.Tests.{eq-eqb, ne_eqb, leb-true}
use Rattle.std.specs.Borrow.{Bor}
use Rattle.std.specs.Prelude.{min, Option, Some, None}
use Rattle.std.specs.Option.{SomeIff, unwrap_or}
use native.Mathlib.Decide.{dec_le}
use lib.Dec.{leb}
use lib.ListN.{length, get_or, length-map, get_or-map}
use Rattle.lists.proofs.Same.{and_left, and_right}
use Rattle.gsub.specs.Tables.{Shape, by_number}
use Rattle.gsub_rows.specs.declared.runs.Run.{Run}
use Rattle.gsub_rows.specs.Rows.{shape_of, shapes_of, most_runs, right_runs, right_rows, RightRow, RightRows, HasShape}

-- the number of a shape but the last
number_at : (ss : List Shape) (n i j : ℕ) → n ≡ i + j → j + 1 < length ss → by_number n i ss ≡ get_or ss j []
unfolding by_number
number_at [] n i j e h = absurd (omega arith)
number_at (s ∷ []) n i j e h = absurd (omega arith)
number_at (s ∷ t ∷ ss) n i zero e h = rw (eq-eqb n i (omega arith))
number_at (s ∷ t ∷ ss) n i (suc j) e h = rw (ne_eqb n i (λ z. omega arith), number_at (t ∷ ss) n (i + 1) j (omega arith) (omega arith))

-- every other number
number_past : (ss : List Shape) (n i : ℕ) → 0 < length ss → (i ≤ n → i + (length ss - 1) ≤ n) → by_number n i ss ≡ get_or ss (length ss - 1) []
unfolding by_number
number_past [] n i h past = absurd (omega arith)
number_past (s ∷ []) n i h past = refl
number_past (s ∷ t ∷ ss) n i h past =
    let e : length (s ∷ t ∷ ss) - 1 ≡ suc (length (t ∷ ss) - 1) = omega arith in
    rw (ne_eqb n i (λ z. omega arith)) (number_past (t ∷ ss) n (i + 1) (omega arith) (λ l. omega arith) ∙ sym (ap (λ k. get_or (s ∷ t ∷ ss) k []) e))

right-at : (rows : List (Bor (List Run))) (i : ℕ) (d : Bor (List Run)) → i < length rows → right_rows rows ≡ true → RightRow (get_or rows i d).now
right-at [] i d h t = absurd (omega arith)
right-at (r ∷ rs) zero d h t =
    let u = and_left (leb (length r.now) most_runs && right_runs r.now) (right_rows rs) t in
    record { runs = leb-true (length r.now) most_runs (and_left (leb (length r.now) most_runs) _ u); right = and_right (leb (length r.now) most_runs) _ u }
right-at (r ∷ rs) (suc i) d h t = right-at rs i d (omega arith) (and_right (leb (length r.now) most_runs && right_runs r.now) (right_rows rs) t)

-- a row's shape stands where the row stands
shape_at : (rows : List (Bor (List Run))) (i : ℕ) (d : Bor (List Run)) → shape_of d.now ≡ [] → shape_of (get_or rows i d).now ≡ get_or (shapes_of rows) i []
shape_at rows i d e = sym (ap (get_or (shapes_of rows) i) (sym e) ∙ get_or-map (λ r. shape_of r.now) rows i d)

here : (rows : List (Bor (List Run))) (n from i : ℕ) (d : Bor (List Run)) → RightRows rows → shape_of d.now ≡ [] → i < length rows → by_number n from (shapes_of rows) ≡ get_or (shapes_of rows) i []
    → HasShape (by_number n from (shapes_of rows)) (get_or rows i d).now
here rows n from i d g e h k = record { same = shape_at rows i d e ∙ sym k; fits = right-at rows i d h g.right }

-- as the code finds its index
pub numbered : (rows : List (Bor (List Run))) (n from : ℕ) (d : Bor (List Run)) → RightRows rows → shape_of d.now ≡ [] → (o : Option ℕ) → SomeIff o (from ≤ n) (n - from) → {j i : ℕ} → j ≡ unwrap_or o (length rows - 1) → i ≡ min j (length rows - 1)
    → HasShape (by_number n from (shapes_of rows)) (get_or rows i d).now
numbered rows n from d g e None s {j} {i} f h =
    let long = length-map rows (λ r. shape_of r.now) in
    let some = g.some in
    let same : i ≡ length rows - 1 = omega arith in
    here rows n from i d g e (omega arith) (number_past (shapes_of rows) n from (omega arith) (λ l. absurd (s l)) ∙ ap (λ k. get_or (shapes_of rows) k []) (omega arith))
numbered rows n from d g e (Some x) s {j} {i} f h =
    let long = length-map rows (λ r. shape_of r.now) in
    let some = g.some in
    let within : i < length rows = omega arith in
    let go : Dec (length rows - 1 ≤ x) → by_number n from (shapes_of rows) ≡ get_or (shapes_of rows) i [] =
    λ d. elim d [ yes l ↦ number_past (shapes_of rows) n from (omega arith) (λ z. omega arith) ∙ ap (λ k. get_or (shapes_of rows) k []) (omega arith) | no l ↦ number_at (shapes_of rows) n from i (omega arith) (omega arith) ] in
    here rows n from i d g e within (go (dec_le (length rows - 1) x))
