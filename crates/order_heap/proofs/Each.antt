-- What holds of each element: of a list's parts, of two facts together, and by the bag of what the elements are sent to.
use Prim.Native.Nat.{ℕ, ◌≤◌, ◌<◌}
use mathlib.Core.List.{List, [], ◌∷◌, ◌++◌, map}
use native.Mathlib.Omega.{arith}
use Rattle.lists.proofs.Elements.{Each, none, more}
use Rattle.model_orders.specs.Bag.{count}
use Rattle.model_orders.proofs.Bags.{one_same}

pub each-front : {P : ℕ → Type 0} (a b : List ℕ) → Each P (a ++ b) → Each P a
each-front [] b s = none
each-front (x ∷ a) b (more p s) = more p (each-front a b s)

pub each-behind : {P : ℕ → Type 0} (a b : List ℕ) (j : ℕ) → Each P (a ++ (j ∷ b)) → Each P b
each-behind [] b j (more p s) = s
each-behind (x ∷ a) b j (more p s) = each-behind a b j s

pub each_both : {P Q R : ℕ → Type 0} {l : List ℕ} → ((x : ℕ) → P x → Q x → R x) → Each P l → Each Q l → Each R l
each_both h none none = none
each_both h (more {x = x} p ps) (more q qs) = more (h x p q) (each_both h ps qs)

-- a bound of the bag bounds each
pub bound-each : (f : ℕ → ℕ) (t : ℕ) (js : List ℕ) → ((x : ℕ) → 0 < count x (map f js) → t ≤ x) → Each (λ i. t ≤ f i) js
unfolding count
bound-each f t [] h = none
bound-each f t (j ∷ js) h = more (h (f j) (omega (arith, one_same (f j)))) (bound-each f t js (λ x k. h x (omega arith)))
