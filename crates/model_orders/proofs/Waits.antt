-- How many fields still lead to an object.
use mathlib.Core.Path.{◌≡◌}
use Prim.Native.Nat.{ℕ, ◌+◌, ◌≤◌, ◌<◌}
use mathlib.Core.List.{List}
use native.Mathlib.Omega.{arith}
use Rattle.lists.specs.Lists.{total}
use Rattle.model_orders.specs.Bag.{count, without}
use Rattle.model_orders.specs.Graph.{Graph, kids, waits, Ranked, Once}
use Rattle.model_orders.proofs.Bags.{Zero, none, some, zero_or, total-without, total-part, total-bag, total-from}

pub waits-without : (g : Graph) (x c : ℕ) (l : List ℕ) → 0 < count x l → waits g (without x l) c + count c (kids g x) ≡ waits g l c
unfolding waits
waits-without g x c l h = total-without (λ p. count c (kids g p)) x l h

pub waits-part : (g : Graph) (p c : ℕ) (l : List ℕ) → 0 < count p l → count c (kids g p) ≤ waits g l c
unfolding waits
waits-part g p c l h = total-part (λ p. count c (kids g p)) p l h

pub waits-bag : (g : Graph) (l m : List ℕ) → ((c : ℕ) → count c l ≡ count c m) → (c : ℕ) → waits g l c ≡ waits g m c
unfolding waits
waits-bag g l m h c = total-bag (λ p. count c (kids g p)) l m h

-- nothing that ranks no higher leads to c
pub waits-low : (rank : ℕ → ℕ) (g : Graph) (l : List ℕ) (c : ℕ) → Ranked rank g → ((p : ℕ) → 0 < count p l → rank p ≤ rank c) → waits g l c ≡ 0
unfolding waits Ranked
waits-low rank g l c y h = go (zero_or (total (λ p. count c (kids g p)) l))
  where
    go : Zero (total (λ p. count c (kids g p)) l) → total (λ p. count c (kids g p)) l ≡ 0
    go (none e _) = e
    go (some z _) = let r = total-from (λ p. count c (kids g p)) l z in absurd (omega (arith, y r.0 c r.2, h r.0 r.1))

-- nothing left leads to c exactly when all its parents are placed
module _ (g : Graph) (nodes placed left : List ℕ) (split : (p : ℕ) → count p placed + count p left ≡ count p nodes) (once : Once nodes) (c : ℕ) where
  pub parents-placed : waits g left c ≡ 0 → (p : ℕ) → 0 < count p nodes → 0 < count c (kids g p) → 0 < count p placed
  parents-placed w p h k = go (zero_or (count p left))
    where
      go : Zero (count p left) → 0 < count p placed
      go (none e _) = omega (arith, split p)
      go (some e _) = absurd (omega (arith, waits-part g p c left e))

  pub placed-ready : ((p : ℕ) → 0 < count p nodes → 0 < count c (kids g p) → 0 < count p placed) → waits g left c ≡ 0
  unfolding waits Once
  placed-ready h = go (zero_or (total (λ p. count c (kids g p)) left))
    where
      go : Zero (total (λ p. count c (kids g p)) left) → total (λ p. count c (kids g p)) left ≡ 0
      go (none e _) = e
      go (some z _) =
          let r = total-from (λ p. count c (kids g p)) left z in
          absurd (omega (arith, split r.0, once r.0, r.1, h r.0 (omega (arith, split r.0, r.1)) r.2))
