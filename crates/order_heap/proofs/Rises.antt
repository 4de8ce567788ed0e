-- Laws of `Rises`: one more at the end, one taken out, what stands before and behind it.
use Prim.Native.Nat.{ℕ, ◌+◌, ◌≤◌, ◌<◌}
use mathlib.Core.List.{List, [], ◌∷◌, ◌++◌}
use native.Mathlib.Omega.{arith}
use Rattle.lists.proofs.Elements.{Each, none, more, each-then}
use Rattle.order_heap.specs.Stamps.{Rises, end, next}

pub rises-each : {a b : ℕ} {js : List ℕ} → Rises a js b → Each (λ i. (a ≤ i) × (i < b)) js
rises-each end = none
rises-each (next h k r) = more (h, k) (each-then (λ i p. (omega (arith, p.0), p.1)) (rises-each r))

-- the next number at the end
pub rises-more : {a b : ℕ} {js : List ℕ} → a ≤ b → Rises a js b → Rises a (js ++ (b ∷ [])) (b + 1)
rises-more {b = b} h end = next {b = b + 1} h (omega arith) end
rises-more {b = b} h (next k m r) = next {b = b + 1} k (omega arith) (rises-more (omega arith) r)

rises-from : {a c b : ℕ} {js : List ℕ} → c ≤ a → Rises a js b → Rises c js b
rises-from h end = end
rises-from {c = c} h (next {j = j} k m r) = next {a = c} {j = j} (omega arith) m r

module _ {b : ℕ} (j : ℕ) (after : List ℕ) where
  rises-low : (before : List ℕ) {a : ℕ} → Rises a (before ++ (j ∷ after)) b → a ≤ j
  rises-low [] (next h k r) = h
  rises-low (i ∷ before) (next h k r) = omega (arith, rises-low before r)

  pub rises-before : (before : List ℕ) {a : ℕ} → Rises a (before ++ (j ∷ after)) b → Each (λ i. i < j) before
  rises-before [] r = none
  rises-before (i ∷ before) (next h k r) = let l : i < j = omega (arith, rises-low before r) in more l (rises-before before r)

  pub rises-after : (before : List ℕ) {a : ℕ} → Rises a (before ++ (j ∷ after)) b → (j < b) × Each (λ i. (j < i) × (i < b)) after
  rises-after [] (next h k r) = (k, each-then (λ i p. (omega (arith, p.0), p.1)) (rises-each r))
  rises-after (i ∷ before) (next h k r) = rises-after before r

  pub rises-without : (before : List ℕ) {a : ℕ} → Rises a (before ++ (j ∷ after)) b → Rises a (before ++ after) b
  rises-without [] (next h k r) = rises-from (omega arith) r
  rises-without (i ∷ before) (next h k r) = next h k (rises-without before r)
