-- What a renaming carries over: distances, the orders, spaces and their numbers, what does not fit, the copies and the table.
use mathlib.Core.Path.{◌≡◌, refl}
use Prim.Native.Nat.{ℕ, ◌<◌}
use mathlib.Core.List.{List, [], ◌∷◌}
use Rattle.answer.specs.declared.Overflow.{Overflow}
use Rattle.model_orders.specs.Graph.{Graph, reached}
use Rattle.model_orders.specs.Order.{order_by}
use Rattle.model_orders.specs.Distance.{distance, kahn_order, distance_order}
use Rattle.model_orders.specs.Space.{space_in}
use Rattle.model_orders.specs.Table.{unfit}
use Rattle.model_orders.specs.Copies.{ungrown, Arrangement, arranged}
use Rattle.model_orders.proofs.Distances.{distance-is-least}
use Rattle.model_orders.proofs.Growths.{Grew, ungrown-grew}
use Rattle.model_orders.proofs.Arrangements.{some-unfit, arranged-kahn, arranged-distance, arranged-space}
use Rattle.model_renaming.specs.Renaming.{All2, nil, Numbered, Renames, SameEnd, tables, overflows}
use Rattle.model_renaming.proofs.Renaming.{all2-then, Unfits, none, more, unfit-rel}
use Rattle.model_renaming.proofs.Pairs.{Paired, order-paired, least-paired}
use Rattle.model_renaming.proofs.SpacePairs.{spot-rel, spaces-rel}
use Rattle.model_renaming.proofs.Reached.{reached-paired}
use Rattle.model_renaming.proofs.Looks.{Twins, placed_same, resolve_same}

module _ {g h : Graph} {n n' root root' : ℕ} (o : Numbered g n) (o' : Numbered h n') (low : root < n) (low' : root' < n') where
  grew : Grew g root (ungrown g n root)
  grew = ungrown-grew o.acyclic o.low low

  grew' : Grew h root' (ungrown h n' root')
  grew' = ungrown-grew o'.acyclic o'.low low'

  module _ {R : ℕ → ℕ → Type 0} (q : Paired g h (reached g root) (reached h root') root root' R) where
    order_same : (key key' : ℕ → ℕ) → ((c c' : ℕ) → R c c' → key c ≡ key' c') → All2 R (order_by key g root) (order_by key' h root')
    unfolding order_by
    order_same key key' e = order-paired q grew.rooted grew'.rooted key key' e

    pub kahn-same : All2 R (kahn_order g root) (kahn_order h root')
    unfolding kahn_order
    kahn-same = order_same (λ i. 0) (λ i. 0) (λ c c' r. refl)

    pub distance-same : (c c' : ℕ) → R c c' → distance g root c ≡ distance h root' c'
    distance-same c c' r =
        least-paired q c c' _ _ r (distance-is-least g root o.acyclic c (q.left c c' r)) (distance-is-least h root' o'.acyclic c' (q.right c c' r))

    pub distances-same : All2 R (distance_order g root) (distance_order h root')
    unfolding distance_order
    distances-same = order_same (distance g root) (distance h root') distance-same

    pub space-same : (c c' : ℕ) → R c c' → space_in g root c ≡ space_in h root' c'
    unfolding space_in
    space-same c c' r = rw (spaces-rel q.renames distances-same q.roots, spot-rel q.renames distances-same r)

    module _ {content content' : ℕ → List ℕ} (contents : (i j : ℕ) → R i j → content i ≡ content' j) (k : ℕ) where
      begun : Twins R root root' (ungrown g n root) (ungrown h n' root') R
      begun = record { paired = q; origins = λ a b r. r; copies = nil }

      paired_same : SameEnd R content content' (arranged k g n root) (arranged k h n' root')
      paired_same =
          go (unfit g (kahn_order g root)) refl (unfit h (kahn_order h root')) refl (unfit-rel q.renames kahn-same)
          (unfit g (distance_order g root)) refl (unfit h (distance_order h root')) refl (unfit-rel q.renames distances-same)
        where
          go : (us : List Overflow) → unfit g (kahn_order g root) ≡ us → (vs : List Overflow) → unfit h (kahn_order h root') ≡ vs → Unfits R us vs
              → (ws : List Overflow) → unfit g (distance_order g root) ≡ ws → (xs : List Overflow) → unfit h (distance_order h root') ≡ xs → Unfits R ws xs
              → SameEnd R content content' (arranged k g n root) (arranged k h n' root')
          go [] a (_ ∷ _) b x13 ws c xs d t = elim x13 [ ]
          go (_ ∷ _) a [] b x10 ws c xs d t = elim x10 [ ]
          go (_ ∷ _) a (_ ∷ _) b (more _ _) [] c (_ ∷ _) d t = elim t [ ]
          go (_ ∷ _) a (_ ∷ _) b (more _ _) (_ ∷ _) c [] d t = elim t [ ]
          go [] a [] b none ws c xs d t = rw (arranged-kahn k g n root a, arranged-kahn k h n' root' b) (placed_same contents begun kahn-same)
          go (_ ∷ _) a (_ ∷ _) b (more _ _) [] c [] d none =
              rw (arranged-distance k g n root (some-unfit a) c, arranged-distance k h n' root' (some-unfit b) d) (placed_same contents begun distances-same)
          go (_ ∷ _) a (_ ∷ _) b (more _ _) (_ ∷ _) c (_ ∷ _) d (more _ _) =
              rw (
                arranged-space k g n root (record { kahn = some-unfit a; distance = some-unfit c }),
                arranged-space k h n' root' (record { kahn = some-unfit b; distance = some-unfit d }),
              )
              (resolve_same contents (space_in g root) (space_in h root') space-same k (ungrown g n root) (ungrown h n' root') R begun grew grew')

-- pairs that are pairs of another kind
end-then : {R S : ℕ → ℕ → Type 0} {content content' : ℕ → List ℕ} {c d : Arrangement} → ((a b : ℕ) → R a b → S a b) → SameEnd R content content' c d → SameEnd S content content' c d
end-then f (tables p q e n a) = tables p q e n (all2-then f a)
end-then f (overflows {u = u} {v = v} p q e a) =
    overflows p q (record { parent = f u.parent.0 v.parent.0 e.parent; field = e.field; needed = e.needed }) (all2-then f a)

-- the look from paired roots ends alike
pub renamed-same : {g h : Graph} {n n' : ℕ} → Numbered g n → Numbered h n' → {R : ℕ → ℕ → Type 0} → Renames g h R
    → {content content' : ℕ → List ℕ} → ((i j : ℕ) → R i j → content i ≡ content' j)
    → {root root' : ℕ} → R root root' → root < n → root' < n' → (copies : ℕ) → SameEnd R content content' (arranged copies g n root) (arranged copies h n' root')
renamed-same o o' m contents r low low' copies =
    end-then (λ a b s. s.pair) (paired_same o o' low low' (reached-paired o.acyclic o'.acyclic m r) (λ i j s. contents i j s.pair) copies)
