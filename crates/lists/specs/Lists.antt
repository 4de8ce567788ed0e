-- Lists as the contracts speak of them: parts, writing over, tests.
use Rattle.std.specs.Prelude.{ℕ, suc, ◌+◌, ◌-◌, List, [], ◌∷◌, ◌++◌, Bool, true, false, ◌&&◌, length, take, drop, eqb}

-- the first where the test holds, else the second
abbrev pub pick {ℓ} : {X : Type ℓ} → Bool → X → X → X
pick true a b = a
pick false a b = b

-- from index a up to index e
abbrev pub part : ℕ → ℕ → List ℕ → List ℕ
part a e l = take (e - a) (drop a l)

-- vs written over l from index i on
unfoldable pub over : ℕ → List ℕ → List ℕ → List ℕ
over i vs l = take i l ++ (vs ++ drop (i + length vs) l)

-- every test holds
unfoldable pub holds : List Bool → Bool
holds [] = true
holds (t ∷ ts) = t && holds ts

-- every number is 0
unfoldable pub zeros : List ℕ → Bool
zeros [] = true
zeros (x ∷ l) = eqb x 0 && zeros l

-- as long as each other, and the same at every place
unfoldable pub same_list : {A : Type 0} → (A → A → Bool) → List A → List A → Bool
same_list same [] [] = true
same_list same [] (y ∷ m) = false
same_list same (x ∷ l) [] = false
same_list same (x ∷ l) (y ∷ m) = same x y && same_list same l m

-- the sum of f over a list
unfoldable pub total : {A : Type 0} → (A → ℕ) → List A → ℕ
total f [] = 0
total f (x ∷ l) = f x + total f l

-- the first index that passes the test; the length where none does
unfoldable pub first_that : {A : Type 0} → (A → Bool) → List A → ℕ
first_that test [] = 0
first_that test (x ∷ l) = pick (test x) 0 (suc (first_that test l))

-- each exactly where the other
pub record Exactly (A B : Type 0) : Type 0 where
  pub only : A → B
  pub when : B → A
