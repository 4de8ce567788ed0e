-- Orders that are paired one by one have the same spaces, by place.
use mathlib.Core.Path.{◌≡◌, refl, ap, ap₂}
use Prim.Native.Nat.{ℕ}
use mathlib.Core.List.{List, ◌∷◌, ◌++◌, map}
use mathlib.Core.Bool.{Bool, true, false, not}
use lib.Dec.{eqb}
use Rattle.lists.specs.Lists.{pick, first_that}
use Rattle.model_orders.specs.Bag.{count}
use Rattle.model_orders.specs.Object.{Slot, Link, widest}
use Rattle.model_orders.specs.Graph.{Graph}
use Rattle.model_orders.specs.Labels.{numbers}
use Rattle.model_orders.specs.Space.{narrow, narrow_of, narrow_kids, near_from, near, spot, own_label, join_kids, join_all, labels_by, spaces}
use Rattle.model_renaming.specs.Renaming.{All2, nil, cons, SameLinks, Renames}
use Rattle.model_renaming.proofs.Renaming.{all2-append, count-rel}

module _ {g h : Graph} {R : ℕ → ℕ → Type 0} (n : Renames g h R) where
  narrow-rel : {ls ms : List Link} → SameLinks R ls ms → All2 R (narrow_of ls) (narrow_of ms)
  unfolding narrow_of narrow
  narrow-rel SameLinks.nil = nil
  narrow-rel (SameLinks.cons {l = l} {m = m} {ls = ls} {ms = ms} a r s) = rw (ap (λ (z : Slot). z.width) a) (go (not (eqb m.slot.width widest)) (narrow-rel s))
    where
      go : (b : Bool) → All2 R (narrow_of ls) (narrow_of ms) → All2 R (pick b (l.child ∷ narrow_of ls) (narrow_of ls)) (pick b (m.child ∷ narrow_of ms) (narrow_of ms))
      go true i = cons r i
      go false i = i

  near-from : {o o' m m' : List ℕ} → All2 R o o' → All2 R m m' → All2 R (near_from g o m) (near_from h o' m')
  unfolding near_from
  near-from nil t = t
  near-from {m = m} {m' = m'} (cons {a = p} {b = p'} r s) t = near-from s (rw (count-rel n r t) (go (eqb (count p' m') 0)))
    where
      go : (b : Bool) → All2 R (pick b m (narrow_kids g p ++ m)) (pick b m' (narrow_kids h p' ++ m'))
      go true = t
      go false = all2-append (narrow-rel (n.links p p' r)) t

  near-rel : {o o' : List ℕ} {root root' : ℕ} → All2 R o o' → R root root' → All2 R (near g o root) (near h o' root')
  unfolding near
  near-rel t r = near-from t (cons r nil)

  pub spot-rel : {o o' : List ℕ} {x x' : ℕ} → All2 R o o' → R x x' → spot o x ≡ spot o' x'
  unfolding spot first_that
  spot-rel nil r = refl
  spot-rel {x = x} {x' = x'} (cons {a = y} {b = y'} s t) r = rw (n.ids x x' y y' r s, spot-rel t r)

  module _ {o o' m m' : List ℕ} (t : All2 R o o') (k : All2 R m m') where
    own-rel : {x x' : ℕ} → R x x' → own_label o m x ≡ own_label o' m' x'
    own-rel r = rw (count-rel n r k, spot-rel t r)

    own-map : {l l' : List ℕ} → All2 R l l' → map (own_label o m) l ≡ map (own_label o' m') l'
    own-map nil = refl
    own-map (cons r s) = ap₂ ◌∷◌ (own-rel r) (own-map s)

    kids-rel : {p p' : ℕ} → R p p' → {cs cs' : List ℕ} → All2 R cs cs' → (s : List ℕ) → join_kids o m p cs s ≡ join_kids o' m' p' cs' s
    unfolding join_kids
    kids-rel r nil s = refl
    kids-rel r (cons c cs) s = rw (count-rel n c k, spot-rel t r, spot-rel t c) (kids-rel r cs _)

    all-rel : {ps ps' : List ℕ} → All2 R ps ps' → (s : List ℕ) → join_all g o m ps s ≡ join_all h o' m' ps' s
    unfolding join_all
    all-rel nil s = refl
    all-rel (cons {a = p} {b = p'} r ps) s = rw (count-rel n r k, kids-rel r (narrow-rel (n.links p p' r)) s) (all-rel ps _)

    labels-rel : labels_by g o m ≡ labels_by h o' m'
    unfolding labels_by
    labels-rel = rw (own-map t) (all-rel t _)

  pub spaces-rel : {o o' : List ℕ} {root root' : ℕ} → All2 R o o' → R root root' → spaces g o root ≡ spaces h o' root'
  spaces-rel t r = ap numbers (labels-rel t (near-rel t r))
