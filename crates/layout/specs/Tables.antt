-- docs/RULES.md, 4.5 and 4.6: tests of a table's neighbours, by one recursion from the front.
use Rattle.std.specs.Prelude.{ℕ, zero, suc, ◌+◌, List, [], ◌∷◌, Bool, true, ◌&&◌, leb}

-- each entry passes the test with the one before it, the first with `a`
unfoldable pub chain : (ℕ → ℕ → Bool) → ℕ → List ℕ → Bool
chain test a [] = true
chain test a (x ∷ l) = test a x && chain test x l

unfoldable pub chained : (ℕ → ℕ → Bool) → List ℕ → Bool
chained test [] = true
chained test (a ∷ l) = chain test a l

-- no entry is below the one before it
abbrev pub rises : List ℕ → Bool
rises l = chained (λ a x. leb a x) l

-- each entry is at least `by` below the one before it
abbrev pub falls : ℕ → List ℕ → Bool
falls by l = chained (λ a x. leb (x + by) a) l

-- every index below n passes
unfoldable pub for_all : (ℕ → Bool) → ℕ → Bool
for_all test zero = true
for_all test (suc i) = test i && for_all test i
