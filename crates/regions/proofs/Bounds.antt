-- Laws of `ceiling`.
use mathlib.Core.Path.{◌≡◌}
use Prim.Native.Nat.{ℕ, zero, suc, ◌+◌, ◌≤◌, ◌<◌, max, min}
use mathlib.Core.List.{List, [], ◌∷◌, ◌++◌}
use native.Mathlib.Omega.{arith}
use lib.ListN.{length, get_or, set, take, drop, replicate}
use Rattle.regions.specs.Region.{ceiling}

pub ceiling-at : (l : List ℕ) (i : ℕ) → i < length l → get_or l i 0 < ceiling l
unfolding ceiling
ceiling-at [] i h = omega arith
ceiling-at (x ∷ l) zero h = omega arith
ceiling-at (x ∷ l) (suc i) h = omega (arith, ceiling-at l i (omega arith))

-- a bound of each element is one of all
pub ceiling-each : (l : List ℕ) (b : ℕ) → ((i : ℕ) → i < length l → get_or l i 0 < b) → ceiling l ≤ b
unfolding ceiling
ceiling-each [] b h = omega arith
ceiling-each (x ∷ l) b h = omega (arith, h 0 (omega arith), ceiling-each l b (λ i k. h (suc i) (omega arith)))

pub ceiling-set : (l : List ℕ) (i v : ℕ) → ceiling (set l i v) ≤ max (v + 1) (ceiling l)
unfolding ceiling
ceiling-set [] i v = omega arith
ceiling-set (x ∷ l) zero v = omega arith
ceiling-set (x ∷ l) (suc i) v = omega (arith, ceiling-set l i v)

pub ceiling-append : (a b : List ℕ) → ceiling (a ++ b) ≡ max (ceiling a) (ceiling b)
unfolding ceiling
ceiling-append [] b = omega arith
ceiling-append (x ∷ a) b = omega (arith, ceiling-append a b)

-- a count that goes up by one, a value that only falls
pub ceiling-bump : (l : List ℕ) (i : ℕ) → ceiling (set l i (get_or l i 0 + 1)) ≤ ceiling l + 1
unfolding ceiling
ceiling-bump [] i = omega arith
ceiling-bump (x ∷ l) zero = omega arith
ceiling-bump (x ∷ l) (suc i) = omega (arith, ceiling-bump l i)

pub ceiling-least : (l : List ℕ) (i v : ℕ) → ceiling (set l i (min (get_or l i 0) v)) ≤ ceiling l
unfolding ceiling
ceiling-least [] i v = omega arith
ceiling-least (x ∷ l) zero v = omega arith
ceiling-least (x ∷ l) (suc i) v = omega (arith, ceiling-least l i v)

pub ceiling-take : (n : ℕ) (l : List ℕ) → ceiling (take n l) ≤ ceiling l
unfolding ceiling
ceiling-take zero l = omega arith
ceiling-take (suc n) [] = omega arith
ceiling-take (suc n) (x ∷ l) = omega (arith, ceiling-take n l)

pub ceiling-drop : (n : ℕ) (l : List ℕ) → ceiling (drop n l) ≤ ceiling l
unfolding ceiling
ceiling-drop zero l = omega arith
ceiling-drop (suc n) [] = omega arith
ceiling-drop (suc n) (x ∷ l) = omega (arith, ceiling-drop n l)

pub ceiling-replicate : (n v : ℕ) → ceiling (replicate n v) ≤ v + 1
unfolding ceiling
ceiling-replicate zero v = omega arith
ceiling-replicate (suc n) v = omega (arith, ceiling-replicate n v)
