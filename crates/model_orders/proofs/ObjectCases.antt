-- The fields that a link may have, and the objects at the edge of what can be filled: each by one claim over its list, which the checker computes.
use mathlib.Core.Path.{◌≡◌, refl}
use mathlib.Core.List.{[], ◌∷◌, map}
use mathlib.Core.Bool.{true, false}
use Rattle.model_orders.specs.Object.{slot_ok, any_hopeless}
use Rattle.model_orders.specs.ObjectCases.{fields, edge_hopeless, edges}

pub fields-right : map slot_ok fields ≡ false ∷ false ∷ true ∷ true ∷ true ∷ false ∷ false ∷ true ∷ true ∷ false ∷ []
fields-right = refl

pub hopeless-right : map edge_hopeless edges ≡ false ∷ true ∷ true ∷ false ∷ true ∷ false ∷ []
unfolding any_hopeless
hopeless-right = refl
