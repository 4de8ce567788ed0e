-- Which fields a table has in each mode, by each way through the code.
use mathlib.Core.Path.{◌≡◌}
use Prim.Native.Nat.{ℕ, ◌+◌}
use mathlib.Core.List.{List, [], ◌∷◌}
use mathlib.Core.Bool.{Bool, true, false}
use native.Mathlib.Nat.{add-zero}
use native.Mathlib.Omega.{arith}
use lib.Dec.{eqb}
use Rattle.lists.specs.Lists.{pick}
use Rattle.gsub.specs.declared.Scope.{Scope}
use Rattle.gsub.specs.declared.Scope.TheVariants.{Single, Whole}
use Rattle.gsub.specs.declared.Kind.{Kind}
use Rattle.gsub.specs.declared.Kind.TheVariants.{Lookup}
use Rattle.gsub.specs.Tables.{Shape, lookup_of, word_at, by_number, formats, shape, fields_of, fields_at, laid, often, times, size}
use Rattle.gsub.proofs.Changed.{changed, same_word}
use Rattle.gsub_rows.specs.declared.runs.Run.{Run}
use Rattle.std.specs.Prelude.{Option}
use Rattle.gsub.specs.declared.Field.{Field}
use Rattle.gsub_rows.specs.Fields.{Found, IsLookup}
use Rattle.gsub_rows.specs.Rows.{shape_of, RowOf}

-- ---- what holds of all of a table's shapes holds of the one that is chosen

abbrev pub Every : (Shape → Type 0) → List Shape → Type 0
Every P [] = Unit {0}
Every P (s ∷ ss) = P s × Every P ss

pub chosen-one : (P : Shape → Type 0) (n i : ℕ) (s : Shape) (ss : List Shape) → P s → Every P ss → P (by_number n i (s ∷ ss))
unfolding by_number
chosen-one P n i s [] h hs = h
chosen-one P n i s (t ∷ ss) h hs = go (eqb n i) (chosen-one P n (i + 1) t ss hs.0 hs.1)
  where
    go : (x : Bool) → P (by_number n (i + 1) (t ∷ ss)) → P (pick x s (by_number n (i + 1) (t ∷ ss)))
    go true k = h
    go false k = k

-- ---- a promoted Lookup

module _ (b : List ℕ) (p : ℕ) where
  -- its fields hang on no byte of its type but by its shape
  abbrev Alike : Shape → Type 0
  Alike s = laid (λ i. word_at b (p + i)) 0 s ≡ laid (λ i. word_at (changed b p) (p + i)) 0 s

  alike_of : (type : ℕ) (k : Kind) → Alike (lookup_of type k)
  unfolding laid often times size
  alike_of type k = rw (same_word b p (p + 2) (omega arith), same_word b p (p + 4) (omega arith))

  alike : (s : Scope) (first second : ℕ) → Alike (shape (Lookup s) first second)
  unfolding formats
  alike Single first second = chosen-one Alike first 1 _ _ (alike_of 1 _) (alike_of 7 _, tt)
  alike Whole first second =
      chosen-one Alike first 1 _ _ (alike_of 1 _) (alike_of 2 _, (alike_of 3 _, (alike_of 4 _, (alike_of 5 _, (alike_of 6 _, (alike_of 7 _, (alike_of 8 _, tt)))))))

  pub found-promoted : {kind : Kind} (index : ℕ) (x : Option Field) {first second : ℕ} {row : List Run} → IsLookup kind → first ≡ word_at (changed b p) p → second ≡ word_at b (p + 2) → RowOf kind first second row
      → Found (laid (λ i. word_at b (p + i)) 0 (shape_of row)) index x → Found (fields_at (changed b p) kind p) index x
  unfolding fields_of
  found-promoted index x {first} {second} k e s r h =
      let g = rw (r.same, k.same, alike k.scope first second) at h in
      rw (k.same, add-zero p, ← e, same_word b p (p + 2) (omega arith), ← s) g
