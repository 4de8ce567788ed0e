-- Laws of bags of ids.
use mathlib.Core.Path.{◌≡◌, refl, sym, ap, ◌∙◌}
use Prim.Native.Nat.{ℕ, zero, suc, ◌+◌, ◌-◌, ◌≤◌, ◌<◌}
use mathlib.Core.List.{List, [], ◌∷◌, ◌++◌, append_assoc, append-nil}
use mathlib.Core.Bool.{Bool, true, false}
use native.Mathlib.Omega.{arith}
use native.Mathlib.Decide.{ℕ_discrete, dec_le}
use lib.ListN.{length}
use lib.Dec.{eqb}
use borrow.Author.Tests.{eq-eqb, ne_eqb, ltb-true, ltb-false}
use Rattle.lists.specs.Lists.{pick, total}
use Rattle.lists.proofs.Elements.{total-ones}
use Rattle.model_orders.specs.Bag.{one, count, without, zeros_of, last_once, leads, least, FirstLeast}

pub one_same : (x : ℕ) → one x x ≡ 1
unfolding one
one_same x = rw (eq-eqb x x refl)

pub one-eq : (x y : ℕ) → x ≡ y → one x y ≡ 1
one-eq x y e = rw e (one_same y)

pub one-other : (x y : ℕ) → (x ≡ y → ⊥) → one x y ≡ 0
unfolding one
one-other x y h = rw (ne_eqb x y h)

-- an id is the same or another
pub data Same (x y : ℕ) : Type 0 where
  same : x ≡ y → eqb x y ≡ true → one x y ≡ 1 → Same x y
  other : (x ≡ y → ⊥) → eqb x y ≡ false → one x y ≡ 0 → Same x y

pub same_or : (x y : ℕ) → Same x y
same_or x y = go (ℕ_discrete x y)
  where
    go : Dec (x ≡ y) → Same x y
    go (yes e) = same e (eq-eqb x y e) (one-eq x y e)
    go (no h) = other h (ne_eqb x y h) (one-other x y h)

pub data Zero (n : ℕ) : Type 0 where
  none : n ≡ 0 → eqb n 0 ≡ true → Zero n
  some : 0 < n → eqb n 0 ≡ false → Zero n

pub zero_or : (n : ℕ) → Zero n
zero_or zero = none refl (eq-eqb 0 0 refl)
zero_or (suc n) = some (omega arith) (ne_eqb (suc n) 0 (λ e. omega arith))

pub count-here : (x : ℕ) (l : List ℕ) → 0 < count x (x ∷ l)
unfolding count
count-here x l = omega (arith, one_same x)

pub count-append : (x : ℕ) (a b : List ℕ) → count x (a ++ b) ≡ count x a + count x b
unfolding count
count-append x [] b = omega arith
count-append x (y ∷ a) b = omega (arith, count-append x a b)

pub count-without : (x y : ℕ) (l : List ℕ) → count x (without y l) ≡ count x l - one x y
unfolding count without
count-without x y [] = omega arith
count-without x y (z ∷ l) = go (count-without x y l) (same_or y z) (same_or x y)
  where
    go : count x (without y l) ≡ count x l - one x y → Same y z → Same x y → count x (pick (eqb y z) l (z ∷ without y l)) ≡ (one x z + count x l) - one x y
    go i (same e b _) s = rw (b, e) (omega arith)
    go i (other h b _) (same e _ o) = rw b (omega (arith, one-other x z (λ f. h (sym e ∙ f))))
    go i (other h b _) (other _ _ o) = rw b (omega arith)

pub length_without : (y : ℕ) (l : List ℕ) → 0 < count y l → length (without y l) + 1 ≡ length l
unfolding count without
length_without y [] h = omega arith
length_without y (z ∷ l) h = go (length_without y l) (same_or y z)
  where
    go : (0 < count y l → length (without y l) + 1 ≡ length l) → Same y z → length (pick (eqb y z) l (z ∷ without y l)) + 1 ≡ suc (length l)
    go i (same e b _) = rw b (omega arith)
    go i (other k b o) = rw b (omega (arith, i (omega arith)))

pub total-without : (f : ℕ → ℕ) (y : ℕ) (l : List ℕ) → 0 < count y l → total f (without y l) + f y ≡ total f l
unfolding count without total
total-without f y [] h = omega arith
total-without f y (z ∷ l) h = go (total-without f y l) (same_or y z)
  where
    go : (0 < count y l → total f (without y l) + f y ≡ total f l) → Same y z → total f (pick (eqb y z) l (z ∷ without y l)) + f y ≡ f z + total f l
    go i (same e b _) = rw (b, e) (omega arith)
    go i (other k b o) = rw b (omega (arith, i (omega arith)))

-- a summand is no more than the sum
pub total-part : (f : ℕ → ℕ) (y : ℕ) (l : List ℕ) → 0 < count y l → f y ≤ total f l
total-part f y l h = omega (arith, total-without f y l h)

pub count-zeros_of : (f : ℕ → ℕ) (x : ℕ) (l : List ℕ) → count x (zeros_of f l) ≡ pick (eqb (f x) 0) (count x l) 0
unfolding count zeros_of
count-zeros_of f x [] = go (eqb (f x) 0)
  where
    go : (b : Bool) → ◌≡◌ {A = ℕ} 0 (pick b 0 0)
    go true = refl
    go false = refl
count-zeros_of f x (y ∷ l) = go (count-zeros_of f x l) (same_or x y) (zero_or (f x)) (zero_or (f y))
  where
    go : count x (zeros_of f l) ≡ pick (eqb (f x) 0) (count x l) 0 → Same x y → Zero (f x) → Zero (f y)
        → count x (pick (eqb (f y) 0) (y ∷ zeros_of f l) (zeros_of f l)) ≡ pick (eqb (f x) 0) (one x y + count x l) 0
    go i s (none _ a) (none _ b) = rw (a, b, i, a)
    go i (same e _ _) (none a _) (some b _) = absurd (let z : f x ≡ f y = ap f e in omega arith)
    go i (other _ _ o) (none _ a) (some _ b) = rw (a, b, i, a, o) (omega arith)
    go i (same e _ _) (some a _) (none b _) = absurd (let z : f x ≡ f y = ap f e in omega arith)
    go i (other _ _ o) (some _ a) (none _ b) = rw (a, b, i, a, o) (omega arith)
    go i s (some _ a) (some _ b) = rw (a, b, i, a)

pub count-last_once : (x : ℕ) (l : List ℕ) → count x (last_once l) ≡ pick (eqb (count x l) 0) 0 1
unfolding count last_once
count-last_once x [] = refl
count-last_once x (y ∷ l) = go (count-last_once x l) (same_or x y) (zero_or (count y l))
  where
    go : count x (last_once l) ≡ pick (eqb (count x l) 0) 0 1 → Same x y → Zero (count y l)
        → count x (pick (eqb (count y l) 0) (y ∷ last_once l) (last_once l)) ≡ pick (eqb (one x y + count x l) 0) 0 1
    go i (same e _ o) (none a b) = rw (b, i, o, e, b, ne_eqb (1 + count y l) 0 (λ z. omega arith)) (omega arith)
    go i (same e _ o) (some a b) = rw (b, i, o, e, b, ne_eqb (1 + count y l) 0 (λ z. omega arith))
    go i (other _ _ o) (none a b) = let z : 0 + count x l ≡ count x l = omega arith in rw (b, i, o, z) (omega arith)
    go i (other _ _ o) (some a b) = let z : 0 + count x l ≡ count x l = omega arith in rw (b, i, o, z)

pub least-in : (key : ℕ → ℕ) (b : ℕ) (l : List ℕ) → 0 < count (least key b l) (b ∷ l)
unfolding count least
least-in key b [] = omega (arith, one_same b)
least-in key b (x ∷ l) = go (leads key x b) (least-in key x l) (least-in key b l)
  where
    go : (t : Bool) → 0 < one (least key x l) x + count (least key x l) l → 0 < one (least key b l) b + count (least key b l) l
        → 0 < one (least key (pick t x b) l) b + (one (least key (pick t x b) l) x + count (least key (pick t x b) l) l)
    go true i j = omega arith
    go false i j = omega arith

-- `front` and `middle` are gone by, before the best and after it
least-from : (key : ℕ → ℕ) (whole front : List ℕ) (best : ℕ) (middle l : List ℕ) → whole ≡ front ++ (best ∷ (middle ++ l))
    → ((y : ℕ) → 0 < count y front → key best < key y) → ((y : ℕ) → 0 < count y middle → key best ≤ key y) → FirstLeast key whole (least key best l)
unfolding least count
least-from key whole front best middle [] e a b = record { front = front; back = middle; split = rw append-nil at e; above = a; least = b }
least-from key whole front best middle (x ∷ l) e a b = go (leads key x best) refl
    (λ h. least-from key whole (front ++ (best ∷ middle)) x [] l (e ∙ sym (append_assoc front (best ∷ middle) (x ∷ l)))
    (λ y k. higher h y k (zero_or (count y front)) (same_or y best)) (λ y k. absurd (omega arith)))
    (λ h. least-from key whole front best (middle ++ (x ∷ [])) l (rw append_assoc e) a (λ y k. later h y k (same_or y x)))
  where
    higher : key x < key best → (y : ℕ) → 0 < count y (front ++ (best ∷ middle)) → Zero (count y front) → Same y best → key x < key y
    higher h y k (some z _) s = omega (arith, a y z)
    higher h y k (none _ _) (same f _ _) = rw f h
    higher h y k (none z _) (other _ _ n) = omega (arith, b y (omega (arith, count-append y front (best ∷ middle))))

    later : key best ≤ key x → (y : ℕ) → 0 < count y (middle ++ (x ∷ [])) → Same y x → key best ≤ key y
    later h y k (same f _ _) = rw f h
    later h y k (other _ _ n) = b y (omega (arith, count-append y middle (x ∷ [])))

    go : (t : Bool) → leads key x best ≡ t → (key x < key best → FirstLeast key whole (least key x l)) → (key best ≤ key x → FirstLeast key whole (least key best l))
        → FirstLeast key whole (least key (pick t x best) l)
    go true f i j = i (omega (arith, ltb-true))
    go false f i j = j (omega (arith, ltb-false))

-- the least is of least key, and the first of those
pub least_first : (key : ℕ → ℕ) (best : ℕ) (l : List ℕ) → FirstLeast key (best ∷ l) (least key best l)
unfolding count
least_first key best l = least-from key (best ∷ l) [] best [] l refl (λ y k. absurd (omega arith)) (λ y k. absurd (omega arith))

-- sums over equal bags are equal
pub total-bag : (f : ℕ → ℕ) (l m : List ℕ) → ((c : ℕ) → count c l ≡ count c m) → total f l ≡ total f m
unfolding total count
total-bag f [] [] h = refl
total-bag f [] (y ∷ m) h = absurd (omega (arith, h y, one_same y))
total-bag f (x ∷ l) m h =
    let k : 0 < count x m = omega (arith, h x, one_same x) in
    omega (arith, total-without f x m k, total-bag f l (without x m) (λ c. omega (arith, count-without c x m, h c)))

-- and they are as long as each other
pub bag-long : (l m : List ℕ) → ((c : ℕ) → count c l ≡ count c m) → length l ≡ length m
bag-long l m h = sym (total-ones l) ∙ total-bag (λ x. 1) l m h ∙ total-ones m

pub one-part : (c x : ℕ) (l : List ℕ) → 0 < count x l → one c x ≤ count c l
one-part c x l h = cut (same_or c x)
  where
    cut : Same c x → one c x ≤ count c l
    cut (same e _ o) = rw (o, e) h
    cut (other _ _ o) = omega arith

-- a sum that is not 0 has a summand that is not
pub total-from : (f : ℕ → ℕ) (l : List ℕ) → 0 < total f l → (p : ℕ) × (0 < count p l) × (0 < f p)
unfolding total count
total-from f [] h = absurd (omega arith)
total-from f (x ∷ l) h = go (zero_or (f x)) (total-from f l)
  where
    go : Zero (f x) → (0 < total f l → (p : ℕ) × (0 < count p l) × (0 < f p)) → (p : ℕ) × (0 < one p x + count p l) × (0 < f p)
    go (none a _) i = let r = i (omega arith) in (r.0, omega (arith, r.1), r.2)
    go (some a _) i = (x, omega (arith, one_same x), a)

-- one of highest rank
pub record Top (rank : ℕ → ℕ) (l : List ℕ) (m : ℕ) : Type 0 where
  pub inside : 0 < count m l
  pub above : (c : ℕ) → 0 < count c l → rank c ≤ rank m

pub top_of : (rank : ℕ → ℕ) (b : ℕ) (l : List ℕ) → (m : ℕ) × Top rank (b ∷ l) m
unfolding count
top_of rank b [] = (b, record { inside = omega (arith, one_same b); above = λ c h. only c h (same_or c b) })
  where
    only : (c : ℕ) → 0 < one c b + 0 → Same c b → rank c ≤ rank b
    only c h (same e _ _) = rw e (omega arith)
    only c h (other _ _ o) = absurd (omega arith)
top_of rank b (x ∷ l) = go (top_of rank x l)
  where
    go : ((m : ℕ) × Top rank (x ∷ l) m) → (m : ℕ) × Top rank (b ∷ x ∷ l) m
    go t = cut (dec_le (rank b) (rank t.0))
      where
        cut : Dec (rank b ≤ rank t.0) → (m : ℕ) × Top rank (b ∷ x ∷ l) m
        cut (yes h) = (t.0, record { inside = omega (arith, t.1.inside); above = λ c k. low c k (same_or c b) })
          where
            low : (c : ℕ) → 0 < one c b + (one c x + count c l) → Same c b → rank c ≤ rank t.0
            low c k (same e _ _) = rw e h
            low c k (other _ _ o) = t.1.above c (omega arith)
        cut (no h) = (b, record { inside = omega (arith, one_same b); above = λ c k. low c k (same_or c b) })
          where
            low : (c : ℕ) → 0 < one c b + (one c x + count c l) → Same c b → rank c ≤ rank b
            low c k (same e _ _) = rw e (omega arith)
            low c k (other _ _ o) = omega (arith, t.1.above c (omega arith))
