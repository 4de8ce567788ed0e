-- The places stored along an order are the model's.
use mathlib.Core.Path.{◌≡◌, refl, ◌∙◌}
use Prim.Native.Nat.{ℕ, ◌+◌, ◌<◌}
use mathlib.Core.List.{List, [], ◌∷◌}
use native.Mathlib.Omega.{arith}
use lib.ListN.{length, get_or, set, length-set}
use lib.Seq.{get_or-set_same, get_or-set_other}
use Rattle.model_orders.specs.Bag.{count}
use Rattle.model_orders.specs.Graph.{Graph, Once}
use Rattle.model_orders.specs.Table.{place_of}
use Rattle.model_orders.proofs.Bags.{Same, same, other, same_or, one_same, one-eq}
use Rattle.model_orders.proofs.Before.{before_here, before-next}
use Rattle.order_fit.specs.Fit.{places_from}

module _ (g : Graph) where
  places-other : (o : List ℕ) (at : ℕ) (ps : List ℕ) (i : ℕ) → count i o ≡ 0 → get_or (places_from g o at ps) i 0 ≡ get_or ps i 0
  unfolding places_from count
  places-other [] at ps i h = refl
  places-other (x ∷ o) at ps i h = places-other o (at + g.size x) (set ps x at) i (omega arith) ∙ get_or-set_other ps x i at 0 (λ e. omega (arith, one-eq i x e))

  places-from : (o : List ℕ) (at : ℕ) (ps : List ℕ) → Once o → ((c : ℕ) → 0 < count c o → c < length ps) → (i : ℕ) → 0 < count i o
      → get_or (places_from g o at ps) i 0 ≡ at + place_of g o i
  unfolding places_from count Once
  places-from [] at ps a b i h = absurd (omega arith)
  places-from (x ∷ o) at ps a b i h =
      go (places-from o (at + g.size x) (set ps x at) (λ c. omega (arith, a c)) (λ c k. rw length-set (b c (omega arith))) i) (same_or i x)
    where
      go : (0 < count i o → get_or (places_from g o (at + g.size x) (set ps x at)) i 0 ≡ at + g.size x + place_of g o i) → Same i x
          → get_or (places_from g o (at + g.size x) (set ps x at)) i 0 ≡ at + place_of g (x ∷ o) i
      go r (same e _ _) =
          rw e (omega (arith, places-other o (at + g.size x) (set ps x at) x (omega (arith, a x, one_same x)), get_or-set_same ps x at 0 (b x (omega (arith, one_same x))), before_here g.size x o))
      go r (other n _ z) = omega (arith, r (omega arith), before-next g.size x o i n)

  pub places-placed : (o ps : List ℕ) → Once o → ((c : ℕ) → 0 < count c o → c < length ps) → (i : ℕ) → 0 < count i o → get_or (places_from g o 0 ps) i 0 ≡ place_of g o i
  places-placed o ps a b i h = omega (arith, places-from o 0 ps a b i h)
