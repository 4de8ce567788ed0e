-- A table that shows the root's reading and has each child behind its parent, and yet leads nowhere: all its fields are 0.
use mathlib.Core.Path.{◌≡◌, refl}
use Prim.Native.Nat.{ℕ, ◌<◌}
use mathlib.Core.List.{List, [], ◌∷◌}
use native.Mathlib.Omega.{arith}
use Rattle.big_endian.specs.BigEndian.{read_from}
use Rattle.model_orders.specs.Bag.{one, count}
use Rattle.model_orders.specs.Object.{Link, Object}
use Rattle.model_orders.specs.Graph.{Graph, graph_of}
use Rattle.model_orders.specs.Distance.{In, here}
use Rattle.model_orders.specs.Table.{before, place_of}
use Rattle.model_orders.specs.Reading.{Reading, target}
use Rattle.model_orders.specs.Laid.{LaidOut}

abbrev leaf : Object
leaf = record { bytes = 0 ∷ 0 ∷ []; links = [] }

abbrev to_leaf : Link
to_leaf = record { slot = record { at = 0; width = 2; inner = 0 }; child = 0 }

abbrev parent : Object
parent = record { bytes = 0 ∷ 0 ∷ []; links = to_leaf ∷ [] }

abbrev g : Graph
g = graph_of (leaf ∷ parent ∷ [])

abbrev order : List ℕ
order = 1 ∷ 0 ∷ []

abbrev table : List ℕ
table = 0 ∷ 0 ∷ 0 ∷ 0 ∷ []

-- the field leads to the parent itself
itself : target table (place_of g order 1) to_leaf.slot ≡ 0
unfolding before read_from
itself = refl

child-place : place_of g order to_leaf.child ≡ 2
unfolding before
child-place = refl

root_in : 0 < count 1 order
unfolding count one
root_in = omega arith

pub zero-table-refused : {ρ : ℕ → Reading} → LaidOut g order 1 ρ order table → ⊥
zero-table-refused l = omega (arith, itself, child-place, l.leads 1 to_leaf root_in (here refl))
