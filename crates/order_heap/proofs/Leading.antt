-- The node of least key, the first of equals, by what stands before it and behind it.
use mathlib.Core.Path.{◌≡◌, refl, ap, ◌∙◌}
use Prim.Native.Nat.{ℕ, ◌≤◌, ◌<◌}
use mathlib.Core.List.{List, ◌∷◌, ◌++◌, map}
use mathlib.Core.Bool.{Bool, true, false}
use native.Mathlib.Omega.{arith}
use lib.Dec.{ltb}
use borrow.Author.Tests.{eq-eqb, ne_eqb, lt-ltb, le-ltb}
use Rattle.lists.specs.Lists.{pick}
use Rattle.lists.proofs.Elements.{Each, none, more}
use Rattle.model_orders.specs.Bag.{without, least}

pub without-first : (x : ℕ) (l : List ℕ) → without x (x ∷ l) ≡ l
unfolding without
without-first x l = rw (eq-eqb x x refl)

module _ (key node : ℕ → ℕ) (j : ℕ) where
  abbrev Behind : ℕ → Type 0
  Behind i = key (node j) < key (node i)

  abbrev NoLess : ℕ → Type 0
  NoLess i = key (node j) ≤ key (node i)

  least_stays : {b : List ℕ} → Each NoLess b → least key (node j) (map node b) ≡ node j
  unfolding least
  least_stays none = refl
  least_stays (more {x = i} {l = b} h hs) = ap (λ (t : Bool). least key (pick t (node i) (node j)) (map node b)) (le-ltb (key (node i)) (key (node j)) h) ∙ least_stays hs

  least-comes : (z : ℕ) {a b : List ℕ} → key (node j) < key z → Each Behind a → Each NoLess b → least key z (map node (a ++ (j ∷ b))) ≡ node j
  unfolding least
  least-comes z {b = b} h none s = ap (λ (t : Bool). least key (pick t (node j) z) (map node b)) (lt-ltb (key (node j)) (key z) h) ∙ least_stays s
  least-comes z {b = b} h (more {x = i} {l = a} f fs) s = go (ltb (key (node i)) (key z)) (least-comes (node i) f fs s) (least-comes z h fs s)
    where
      go : (t : Bool) → least key (node i) (map node (a ++ (j ∷ b))) ≡ node j → least key z (map node (a ++ (j ∷ b))) ≡ node j
          → least key (pick t (node i) z) (map node (a ++ (j ∷ b))) ≡ node j
      go true p q = p
      go false p q = q

  -- those before have a greater key, those behind no less
  pub least-found : {a b : List ℕ} (r : ℕ) (rs : List ℕ) → r ∷ rs ≡ map node (a ++ (j ∷ b)) → Each Behind a → Each NoLess b → least key r rs ≡ node j
  least-found {b = b} r rs e none s = let p : r ≡ node j = cc in let q : rs ≡ map node b = cc in rw (p, q) (least_stays s)
  least-found {b = b} r rs e (more {x = i} {l = a} f fs) s =
      let p : r ≡ node i = cc in
      let q : rs ≡ map node (a ++ (j ∷ b)) = cc in
      rw (p, q) (least-comes (node i) f fs s)

  -- it is the first of its node
  pub without-found : {a : List ℕ} (b : List ℕ) → Each Behind a → without (node j) (map node (a ++ (j ∷ b))) ≡ map node (a ++ b)
  unfolding without
  without-found b none = without-first (node j) (map node b)
  without-found b (more {x = i} {l = a} f fs) =
      rw (ne_eqb (node j) (node i) (λ e. let z : key (node j) ≡ key (node i) = ap key e in omega arith)) (ap (λ (l : List ℕ). node i ∷ l) (without-found b fs))
