-- A list of tests by its elements.
use mathlib.Core.Path.{◌≡◌, refl, sym}
use Prim.Native.Nat.{ℕ, zero, suc}
use mathlib.Core.List.{List, [], ◌∷◌}
use mathlib.Core.Bool.{Bool, true, false, false≢true}
use lib.ListN.{get_or}
use Rattle.lists.specs.Lists.{holds}

pub holds_at : (ts : List Bool) → holds ts ≡ true → (i : ℕ) → get_or ts i true ≡ true
unfolding holds
holds_at [] h i = refl
holds_at (false ∷ ts) h i = absurd (false≢true h)
holds_at (true ∷ ts) h zero = refl
holds_at (true ∷ ts) h (suc i) = holds_at ts h i

pub holds_not : (ts : List Bool) (i : ℕ) → get_or ts i true ≡ false → holds ts ≡ false
unfolding holds
holds_not [] i h = h
holds_not (false ∷ ts) i h = refl
holds_not (true ∷ ts) zero h = absurd (false≢true (sym h))
holds_not (true ∷ ts) (suc i) h = holds_not ts i h
