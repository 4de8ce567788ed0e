-- Space 0, marked in one pass along an order, is what narrow links alone lead to from the root.
use mathlib.Core.Path.{◌≡◌, refl, sym, ap, ◌∙◌}
use Prim.Native.Nat.{ℕ, ◌≤◌, ◌<◌}
use mathlib.Core.List.{List, [], ◌∷◌, ◌++◌}
use mathlib.Core.Bool.{Bool, true, false, true≢false}
use native.Mathlib.Omega.{arith}
use lib.Dec.{eqb}
use Rattle.lists.specs.Lists.{pick, total}
use Rattle.model_orders.specs.Object.{Link}
use Rattle.model_orders.specs.Bag.{count}
use Rattle.model_orders.specs.Graph.{Graph, kids, kids_of, waits, Closed, ParentsFirst}
use Rattle.model_orders.specs.Distance.{In, here, there}
use Rattle.model_orders.specs.Space.{narrow, Narrow, Near, first, along, narrow_of, narrow_kids, near_from, near, Sorted}
use Rattle.model_orders.proofs.Bags.{Same, same, other, same_or, Zero, none, some, zero_or, one_same, one-eq, count-append}

-- ---- narrow links

-- the children of the rest, and before them the child of the first if its link is narrow
pub data Next (l : Link) (ls : List Link) : Type 0 where
  taken : narrow l ≡ true → narrow_of (l ∷ ls) ≡ l.child ∷ narrow_of ls → Next l ls
  passed : narrow l ≡ false → narrow_of (l ∷ ls) ≡ narrow_of ls → Next l ls

pub next_or : (l : Link) (ls : List Link) → Next l ls
unfolding narrow_of
next_or l ls = go (narrow l) refl
  where
    go : (b : Bool) → narrow l ≡ b → Next l ls
    go true e = taken e (rw e)
    go false e = passed e (rw e)

link-narrow : (l : Link) (ls : List Link) → In l ls → narrow l ≡ true → 0 < count l.child (narrow_of ls)
unfolding count
link-narrow l [] x'' h = elim x'' [ ]
link-narrow l (m ∷ ls) (here e) h = go (next_or m ls)
  where
    go : Next m ls → 0 < count l.child (narrow_of (m ∷ ls))
    go (taken _ f) = rw f (omega (arith, one-eq l.child m.child (ap (λ (x : Link). x.child) e)))
    go (passed n _) = absurd (true≢false (sym h ∙ ap narrow e ∙ n))
link-narrow l (m ∷ ls) (there i) h = go (link-narrow l ls i h) (next_or m ls)
  where
    go : 0 < count l.child (narrow_of ls) → Next m ls → 0 < count l.child (narrow_of (m ∷ ls))
    go r (taken _ f) = rw f (omega arith)
    go r (passed _ f) = rw f r

narrow-link : (c : ℕ) (ls : List Link) → 0 < count c (narrow_of ls) → (l : Link) × In l ls × (narrow l ≡ true) × (c ≡ l.child)
unfolding count
narrow-link c [] h = absurd (unfold narrow_of in omega arith)
narrow-link c (m ∷ ls) h = go (narrow-link c ls) (next_or m ls) (same_or c m.child)
  where
    go : (0 < count c (narrow_of ls) → (l : Link) × In l ls × (narrow l ≡ true) × (c ≡ l.child)) → Next m ls → Same c m.child
        → (l : Link) × In l (m ∷ ls) × (narrow l ≡ true) × (c ≡ l.child)
    go r (passed _ f) t = let s = r (rw f at h) in (s.0, there s.1, s.2, s.3)
    go r (taken n _) (same e _ _) = (m, here refl, n, e)
    go r (taken _ f) (other _ _ z) = let j = rw f at h in let s = r (omega (arith, j)) in (s.0, there s.1, s.2, s.3)

narrow-kids : (c : ℕ) (ls : List Link) → count c (narrow_of ls) ≤ count c (kids_of ls)
unfolding kids_of count
narrow-kids c [] = unfold narrow_of in omega arith
narrow-kids c (m ∷ ls) = go (narrow-kids c ls) (next_or m ls)
  where
    go : count c (narrow_of ls) ≤ count c (kids_of ls) → Next m ls → count c (narrow_of (m ∷ ls)) ≤ count c (m.child ∷ kids_of ls)
    go r (taken _ f) = rw f (omega arith)
    go r (passed _ f) = rw f (omega arith)

module _ (g : Graph) where
  pub narrow-counted : {x y : ℕ} → Narrow g x y → 0 < count y (narrow_kids g x)
  narrow-counted {x} n = rw n.child (link-narrow n.link (g.links x) n.of n.narrows)

  pub counted-narrow : (x y : ℕ) → 0 < count y (narrow_kids g x) → Narrow g x y
  counted-narrow x y h = let r = narrow-link y (g.links x) h in record { link = r.0; of = r.1; narrows = r.2; child = r.3 }

  pub narrow-kid : (x y : ℕ) → 0 < count y (narrow_kids g x) → 0 < count y (kids g x)
  narrow-kid x y h = omega (arith, narrow-kids y (g.links x))

  -- ---- one pass

  near-more : (c : ℕ) (o m : List ℕ) → count c m ≤ count c (near_from g o m)
  unfolding near_from
  near-more c [] m = omega arith
  near-more c (p ∷ o) m = go (near-more c o) (zero_or (count p m))
    where
      go : ((m : List ℕ) → count c m ≤ count c (near_from g o m)) → Zero (count p m)
          → count c m ≤ count c (near_from g o (pick (eqb (count p m) 0) m (narrow_kids g p ++ m)))
      go r (none _ b) = rw b (r m)
      go r (some _ b) = rw b (omega (arith, r (narrow_kids g p ++ m), count-append c (narrow_kids g p) m))

  -- one to which nothing of the order leads is marked only if it was
  near-other : (c : ℕ) (o : List ℕ) → waits g o c ≡ 0 → (m : List ℕ) → count c (near_from g o m) ≡ count c m
  unfolding near_from waits total
  near-other c [] h m = refl
  near-other c (p ∷ o) h m = go (near-other c o (omega arith)) (zero_or (count p m))
    where
      go : ((m : List ℕ) → count c (near_from g o m) ≡ count c m) → Zero (count p m)
          → count c (near_from g o (pick (eqb (count p m) 0) m (narrow_kids g p ++ m))) ≡ count c m
      go r (none _ b) = rw b (r m)
      go r (some _ b) = rw b (omega (arith, r (narrow_kids g p ++ m), count-append c (narrow_kids g p) m, narrow-kids c (g.links p)))

  near-kids : (p c : ℕ) (o : List ℕ) → ParentsFirst g o → 0 < count p o → 0 < count c (narrow_kids g p) → (m : List ℕ) → 0 < count p (near_from g o m) → 0 < count c (near_from g o m)
  unfolding near_from ParentsFirst count
  near-kids p c [] f h k m i = omega arith
  near-kids p c (x ∷ o) f h k m i = go (near-kids p c o f.1) (same_or p x)
    where
      was : p ≡ x → count p (near_from g (x ∷ o) m) ≡ count p m
      was e = near-other p (x ∷ o) (rw e f.0) m

      go : (0 < count p o → 0 < count c (narrow_kids g p) → (m : List ℕ) → 0 < count p (near_from g o m) → 0 < count c (near_from g o m)) → Same p x
          → 0 < count c (near_from g o (pick (eqb (count x m) 0) m (narrow_kids g x ++ m)))
      go r (other _ _ z) = r (omega arith) k _ i
      go r (same e _ _) = cut (zero_or (count x m))
        where
          cut : Zero (count x m) → 0 < count c (near_from g o (pick (eqb (count x m) 0) m (narrow_kids g x ++ m)))
          cut (none z _) = absurd (omega (arith, was e, i, ap (λ (y : ℕ). count y m) e))
          cut (some _ b) = rw b (omega (arith, near-more c o (narrow_kids g x ++ m), count-append c (narrow_kids g x) m, rw e at k))

  near-sound : (root : ℕ) (o m : List ℕ) → ((c : ℕ) → 0 < count c m → Near g root c) → (c : ℕ) → 0 < count c (near_from g o m) → Near g root c
  unfolding near_from
  near-sound root [] m w = w
  near-sound root (p ∷ o) m w = go (near-sound root o) (zero_or (count p m))
    where
      go : ((m : List ℕ) → ((c : ℕ) → 0 < count c m → Near g root c) → (c : ℕ) → 0 < count c (near_from g o m) → Near g root c) → Zero (count p m)
          → (c : ℕ) → 0 < count c (near_from g o (pick (eqb (count p m) 0) m (narrow_kids g p ++ m))) → Near g root c
      go r (none _ b) c = rw b (r m w c)
      go r (some z b) c = rw b (r (narrow_kids g p ++ m) (λ d k. cut d k (zero_or (count d (narrow_kids g p)))) c)
        where
          cut : (d : ℕ) → 0 < count d (narrow_kids g p ++ m) → Zero (count d (narrow_kids g p)) → Near g root d
          cut d k (none y _) = w d (omega (arith, count-append d (narrow_kids g p) m))
          cut d k (some y _) = along (w p z) (counted-narrow p d y)

-- ---- a node is in space 0 exactly if a path of narrow links leads to it from the root

pub counted-near : (g : Graph) (o : List ℕ) (root c : ℕ) → 0 < count c (near g o root) → Near g root c
unfolding near count
counted-near g o root c h = near-sound g root o (root ∷ []) (λ d k. only d k (same_or d root)) c h
  where
    only : (d : ℕ) → 0 < count d (root ∷ []) → Same d root → Near g root d
    only d k (same e _ _) = first e
    only d k (other _ _ z) = absurd (omega arith)

module _ (g : Graph) (o : List ℕ) (root : ℕ) (s : Sorted g o root) where
  pub near-placed : {c : ℕ} → Near g root c → 0 < count c o
  unfolding Closed
  near-placed (first e) = rw e s.rooted.root_in
  near-placed (along {p = p} {c = c} n l) = s.rooted.closed p c (near-placed n) (narrow-kid g p c (narrow-counted g l))

  pub near-counted : {c : ℕ} → Near g root c → 0 < count c (near g o root)
  unfolding near count
  near-counted (first e) = rw e (omega (arith, near-more g root o (root ∷ []), one_same root))
  near-counted (along {p = p} {c = c} n l) =
      near-kids g p c o s.first (near-placed n) (narrow-counted g l) (root ∷ []) (near-counted n)
