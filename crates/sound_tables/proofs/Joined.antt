-- Tests that the code joins one by one.
use mathlib.Core.Path.{◌≡◌}
use mathlib.Core.List.{[], ◌∷◌}
use mathlib.Core.Bool.{Bool, ◌&&◌, and_assoc, and-true}
use Rattle.lists.specs.Lists.{holds}

pub limits-joined : (a b c d e f g : Bool) → (a && b && c && d && e && f && g) ≡ (holds (a ∷ b ∷ c ∷ d ∷ e ∷ []) && f && g)
unfolding holds
limits-joined a b c d e f g = simp (and_assoc, and-true)
