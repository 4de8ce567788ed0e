-- What the words hold is what the model's definitions say, over an order that has parents before children.
use mathlib.Core.Path.{◌≡◌, refl, sym, ap, ◌∙◌}
use Prim.Native.Nat.{ℕ, suc, ◌+◌, ◌<◌}
use mathlib.Core.List.{List, [], ◌∷◌, ◌++◌, map}
use mathlib.Core.Bool.{true, false}
use native.Mathlib.Omega.{arith}
use lib.ListN.{length, get_or, set, replicate, length-set, length-replicate}
use lib.Seq.{get_or-set_same, get_or-set_other}
use lib.Dec.{eqb}
use borrow.Author.Tests.{eq-eqb, ne_eqb}
use Rattle.lists.specs.Lists.{pick, first_that}
use Rattle.model_orders.specs.Bag.{one, count}
use Rattle.model_orders.specs.Graph.{Graph, Once, Closed}
use Rattle.model_orders.specs.Space.{narrow_kids, near_from, near, spot, own_label, join_kids, join_all, labels_by, labels, Sorted}
use Rattle.model_orders.proofs.Bags.{Same, same, other, same_or, Zero, none, some, zero_or, one_same, one-eq, count-append}
use Rattle.model_orders.proofs.Spots.{spot-at}
use Rattle.model_orders.proofs.Near.{narrow-kid}
use Rattle.model_orders.proofs.Spaces.{root-first}
use Rattle.order_spaces_near.specs.Near.{spots_from, cleared, cleared_all}
use Rattle.order_spaces_join.specs.Join.{tied, tied_all, own_bosses}

-- ---- positions stored one by one

spots-length : (l : List ℕ) (t : ℕ) (s : List ℕ) → length (spots_from l t s) ≡ length s
unfolding spots_from
spots-length [] t s = refl
spots-length (x ∷ l) t s = spots-length l (t + 1) (set s x t) ∙ length-set s x t

spots-other : (l : List ℕ) (t : ℕ) (s : List ℕ) (c : ℕ) → count c l ≡ 0 → get_or (spots_from l t s) c 0 ≡ get_or s c 0
unfolding spots_from count
spots-other [] t s c h = refl
spots-other (x ∷ l) t s c h = spots-other l (t + 1) (set s x t) c (omega arith) ∙ get_or-set_other s x c t 0 (λ e. omega (arith, one-eq c x e))

spots-from : (l : List ℕ) (t : ℕ) (s : List ℕ) → Once l → (c : ℕ) → c < length s → 0 < count c l → get_or (spots_from l t s) c 0 ≡ t + spot l c
unfolding spots_from count Once spot first_that
spots-from [] t s u c h k = absurd (omega arith)
spots-from (x ∷ l) t s u c h k =
    go (spots-from l (t + 1) (set s x t) (λ d. omega (arith, u d)) c (rw length-set h)) (same_or c x)
  where
    go : (0 < count c l → get_or (spots_from l (t + 1) (set s x t)) c 0 ≡ t + 1 + first_that (eqb c) l) → Same c x
        → get_or (spots_from l (t + 1) (set s x t)) c 0 ≡ t + pick (eqb c x) 0 (suc (first_that (eqb c) l))
    go r (same e b _) =
        rw (e, eq-eqb x x refl)
        (omega (arith, spots-other l (t + 1) (set s x t) x (omega (arith, u x, one_same x)), get_or-set_same s x t 0 (rw e at h)))
    go r (other _ b z) = rw b (omega (arith, r (omega arith)))

-- ---- a word for each of p nodes shows its own label, where m is space 0 so far

pub record Shows (o : List ℕ) (root p : ℕ) (f m : List ℕ) : Type 0 where
  pub long : length f ≡ p
  pub own : (c : ℕ) → 0 < count c o → get_or f c 0 ≡ own_label o m c
  pub root_in : 0 < count root m

-- 0 in space 0, else the position
pub data Shown (o f m : List ℕ) (c : ℕ) : Type 0 where
  inside : eqb (count c m) 0 ≡ false → eqb (get_or f c 0) 0 ≡ true → Shown o f m c
  outside : eqb (count c m) 0 ≡ true → eqb (get_or f c 0) 0 ≡ false → get_or f c 0 ≡ spot o c → Shown o f m c

module _ (g : Graph) (o : List ℕ) (root p : ℕ) (s : Sorted g o root) (h : (c : ℕ) → 0 < count c o → c < p) where
  -- only the root stands at position 0
  root-spot : (c : ℕ) → 0 < count c o → spot o c ≡ 0 → c ≡ root
  root-spot c k e = sym (spot-at o c k) ∙ ap (λ (t : ℕ). get_or o t 0) e ∙ root-first g o root s

  spot-root : spot o root ≡ 0
  unfolding spot first_that count
  spot-root = go o (root-first g o root s) s.rooted.root_in
    where
      go : (l : List ℕ) → get_or l 0 0 ≡ root → 0 < count root l → first_that (eqb root) l ≡ 0
      go [] e k = refl
      go (x ∷ l) e k = rw (eq-eqb root x (sym e))

  shown_or : {f m : List ℕ} → Shows o root p f m → (c : ℕ) → 0 < count c o → Shown o f m c
  shown_or {f} {m} t c k = go (zero_or (count c m))
    where
      go : Zero (count c m) → Shown o f m c
      go (some _ b) = inside b (eq-eqb (get_or f c 0) 0 (t.own c k ∙ rw b))
      go (none z b) =
          let e : get_or f c 0 ≡ spot o c = t.own c k ∙ rw b in
          outside b (ne_eqb (get_or f c 0) 0 (λ q. omega (arith, z, t.root_in, ap (λ (x : ℕ). count x m) (root-spot c k (sym e ∙ q))))) e

  -- one more
  shows-one : {f m : List ℕ} → Shows o root p f m → (x : ℕ) → x < p → Shows o root p (set f x 0) (x ∷ m)
  unfolding count
  shows-one {f} {m} t x l =
      record {
        long = length-set f x 0 ∙ t.long;
        own = λ c k. go c k (same_or c x);
        root_in = omega (arith, t.root_in);
      }
    where
      go : (c : ℕ) → 0 < count c o → Same c x → get_or (set f x 0) c 0 ≡ pick (eqb (one c x + count c m) 0) (spot o c) 0
      go c k (same e _ _) =
          rw (e, get_or-set_same f x 0 0 (omega (arith, t.long)), ne_eqb (one x x + count x m) 0 (λ z. omega (arith, one_same x)))
      go c k (other d _ z) = let q : one c x + count c m ≡ count c m = omega arith in rw (get_or-set_other f x c 0 0 d, q) (t.own c k)

  shows-bag : {f m l : List ℕ} → Shows o root p f m → ((c : ℕ) → count c m ≡ count c l) → Shows o root p f l
  shows-bag t e = record { long = t.long; own = λ c k. t.own c k ∙ rw (e c); root_in = omega (arith, t.root_in, e root) }

  shows-cleared : (cs : List ℕ) → ((c : ℕ) → 0 < count c cs → c < p) → {f m : List ℕ} → Shows o root p f m → Shows o root p (cleared cs f) (cs ++ m)
  unfolding cleared count
  shows-cleared [] l t = t
  shows-cleared (x ∷ cs) l {f} {m} t =
      shows-bag (shows-cleared cs (λ c k. l c (omega arith)) (shows-one t x (l x (omega (arith, one_same x)))))
      (λ c. omega (arith, count-append c cs (x ∷ m), count-append c cs m))

  kid-placed : (x c : ℕ) → 0 < count x o → 0 < count c (narrow_kids g x) → 0 < count c o
  unfolding Closed
  kid-placed x c i k = s.rooted.closed x c i (narrow-kid g x c k)

  shows-all : (l : List ℕ) → ((x : ℕ) → 0 < count x l → 0 < count x o) → {f m : List ℕ} → Shows o root p f m → Shows o root p (cleared_all g l f) (near_from g l m)
  unfolding cleared_all near_from count
  shows-all [] i t = t
  shows-all (x ∷ l) i {f} {m} t = shows-all l (λ y k. i y (omega arith)) (go (shown_or t x here))
    where
      here : 0 < count x o
      here = i x (omega (arith, one_same x))

      go : Shown o f m x → Shows o root p (pick (eqb (get_or f x 0) 0) (cleared (narrow_kids g x) f) f) (pick (eqb (count x m) 0) m (narrow_kids g x ++ m))
      go (outside a b _) = rw (a, b) t
      go (inside a b) = rw (a, b) (shows-cleared (narrow_kids g x) (λ c k. h c (kid-placed x c here k)) t)

  shows-start : Shows o root p (spots_from o 0 (replicate p 0)) (root ∷ [])
  unfolding count
  shows-start =
      record {
        long = spots-length o 0 (replicate p 0) ∙ length-replicate p 0;
        own = λ c k. omega (arith, spots-from o 0 (replicate p 0) s.rooted.once c (rw length-replicate (h c k)) k) ∙ go c (same_or c root);
        root_in = omega (arith, one_same root);
      }
    where
      go : (c : ℕ) → Same c root → spot o c ≡ pick (eqb (one c root + 0) 0) (spot o c) 0
      go c (same e _ z) = rw (ne_eqb (one c root + 0) 0 (λ q. omega arith), e) spot-root
      go c (other _ _ z) = rw (eq-eqb (one c root + 0) 0 (omega arith))

  pub shows-near : Shows o root p (cleared_all g o (spots_from o 0 (replicate p 0))) (near g o root)
  unfolding near
  shows-near = shows-all o (λ x k. k) shows-start

  -- ---- the joins, by the words

  module _ (f : List ℕ) (t : Shows o root p f (near g o root)) where
    kids-agree : (x : ℕ) (cs : List ℕ) → ((c : ℕ) → 0 < count c cs → 0 < count c o) → (l : List ℕ) → tied f (spot o x) cs l ≡ join_kids o (near g o root) x cs l
    unfolding tied join_kids count
    kids-agree x [] w l = refl
    kids-agree x (c ∷ cs) w l = go (kids-agree x cs (λ d j. w d (omega arith))) (shown_or t c (w c (omega (arith, one_same c))))
      where
        go : ((l : List ℕ) → tied f (spot o x) cs l ≡ join_kids o (near g o root) x cs l) → Shown o f (near g o root) c
            → tied f (spot o x) (c ∷ cs) l ≡ join_kids o (near g o root) x (c ∷ cs) l
        go r (inside a b) = rw (tied, join_kids, a, b) (r l)
        go r (outside a b e) = rw (tied, join_kids, a, b, e) (r _)

    all-agree : (ps : List ℕ) → ((x : ℕ) → 0 < count x ps → 0 < count x o) → (l : List ℕ) → tied_all g f ps l ≡ join_all g o (near g o root) ps l
    unfolding tied_all join_all count
    all-agree [] w l = refl
    all-agree (x ∷ ps) w l = go (all-agree ps (λ d j. w d (omega arith))) (shown_or t x here)
      where
        here : 0 < count x o
        here = w x (omega (arith, one_same x))

        go : ((l : List ℕ) → tied_all g f ps l ≡ join_all g o (near g o root) ps l) → Shown o f (near g o root) x
            → tied_all g f (x ∷ ps) l ≡ join_all g o (near g o root) (x ∷ ps) l
        go r (inside a b) = rw (tied_all, join_all, a, b) (r l)
        go r (outside a b e) = rw (tied_all, join_all, a, b, e, kids-agree x (narrow_kids g x) (λ c k. kid-placed x c here k) l) (r _)

    own-each : (l : List ℕ) → ((x : ℕ) → 0 < count x l → 0 < count x o) → own_bosses f l ≡ map (own_label o (near g o root)) l
    unfolding count
    own-each [] w = refl
    own-each (x ∷ l) w = rw (t.own x (w x (omega (arith, one_same x))), own-each l (λ y k. w y (omega arith)))

    pub own-agree : own_bosses f o ≡ map (own_label o (near g o root)) o
    own-agree = own-each o (λ x k. k)

    pub labels-agree : tied_all g f o (own_bosses f o) ≡ labels g o root
    unfolding labels_by
    labels-agree = rw own-agree (all-agree o (λ x k. k) (map (own_label o (near g o root)) o))
