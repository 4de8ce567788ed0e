-- Sets of positions: labels stay the earliest positions, and joining two sets makes those two one and no others.
use mathlib.Core.Path.{◌≡◌, refl, sym, ap, ◌∙◌}
use Prim.Native.Nat.{ℕ, zero, suc, ◌+◌, ◌-◌, ◌≤◌, ◌<◌, min, max}
use mathlib.Core.List.{List, map}
use native.Mathlib.Omega.{arith}
use native.Mathlib.Decide.{dec_le}
use lib.ListN.{length, get_or, length-map, get_or-map}
use lib.Dec.{eqb}
use borrow.Author.Tests.{eq-eqb, ne_eqb}
use Rattle.lists.specs.Lists.{pick}
use Rattle.model_orders.specs.Labels.{merged, merge, join, begun, numbers, Settled}
use Rattle.model_orders.proofs.Bags.{Same, same, other, same_or}

-- ---- one label

-- the higher becomes the lower, another stays
pub data Merged (x y l : ℕ) : Type 0 where
  higher : l ≡ max x y → merged x y l ≡ min x y → Merged x y l
  stays : (l ≡ max x y → ⊥) → merged x y l ≡ l → Merged x y l

pub merged_or : (x y l : ℕ) → Merged x y l
unfolding merged
merged_or x y l = go (same_or l (max x y))
  where
    go : Same l (max x y) → Merged x y l
    go (same e b _) = higher e (rw b)
    go (other h b _) = stays h (rw b)

merged-zero : (x y : ℕ) → merged x y 0 ≡ 0
merged-zero x y = go (merged_or x y 0)
  where
    go : Merged x y 0 → merged x y 0 ≡ 0
    go (higher e f) = f ∙ omega arith
    go (stays _ f) = f

-- both become the lower
merged-left : (x y : ℕ) → merged x y x ≡ min x y
merged-left x y = go (merged_or x y x)
  where
    go : Merged x y x → merged x y x ≡ min x y
    go (higher e f) = f
    go (stays h f) = f ∙ omega (arith, h)

merged-right : (x y : ℕ) → merged x y y ≡ min x y
merged-right x y = go (merged_or x y y)
  where
    go : Merged x y y → merged x y y ≡ min x y
    go (higher e f) = f
    go (stays h f) = f ∙ omega (arith, h)

merged-low : (x y l : ℕ) → merged x y l ≤ l
merged-low x y l = go (merged_or x y l)
  where
    go : Merged x y l → merged x y l ≤ l
    go (higher e f) = omega arith
    go (stays _ f) = omega arith

-- ---- all labels

pub merge-length : (x y : ℕ) (s : List ℕ) → length (merge x y s) ≡ length s
unfolding merge
merge-length x y s = length-map s (merged x y)

pub merge-at : (x y : ℕ) (s : List ℕ) (i : ℕ) → get_or (merge x y s) i 0 ≡ merged x y (get_or s i 0)
unfolding merge
merge-at x y s i = ap (λ (d : ℕ). get_or (map (merged x y) s) i d) (sym (merged-zero x y)) ∙ get_or-map (merged x y) s i 0

-- ---- labels are the earliest positions

pub merged-min : (x y : ℕ) → merged x y (min x y) ≡ min x y
merged-min x y = go (merged_or x y (min x y))
  where
    go : Merged x y (min x y) → merged x y (min x y) ≡ min x y
    go (higher _ f) = f
    go (stays _ f) = f

pub merged-max : (x y : ℕ) → merged x y (max x y) ≡ min x y
merged-max x y = go (merged_or x y (max x y))
  where
    go : Merged x y (max x y) → merged x y (max x y) ≡ min x y
    go (higher _ f) = f
    go (stays d _) = absurd (d refl)

pub own-min : (x y : ℕ) (s : List ℕ) → get_or s x 0 ≡ x → get_or s y 0 ≡ y → get_or s (min x y) 0 ≡ min x y
own-min x y s e f = go (dec_le x y)
  where
    go : Dec (x ≤ y) → get_or s (min x y) 0 ≡ min x y
    go (yes h) = let m : min x y ≡ x = omega arith in rw m e
    go (no h) = let m : min x y ≡ y = omega arith in rw m f

pub own-max : (x y : ℕ) (s : List ℕ) → get_or s x 0 ≡ x → get_or s y 0 ≡ y → get_or s (max x y) 0 ≡ max x y
own-max x y s e f = go (dec_le x y)
  where
    go : Dec (x ≤ y) → get_or s (max x y) 0 ≡ max x y
    go (yes h) = let m : max x y ≡ y = omega arith in rw m f
    go (no h) = let m : max x y ≡ x = omega arith in rw m e

pub join-settled : (a b : ℕ) (s : List ℕ) → Settled s → Settled (join a b s)
join-settled a b s t =
    record {
      low = λ i. omega (arith, merge-at x y s i, merged-low x y (get_or s i 0), t.low i);
      own = λ i. rw (merge-at x y s i, merge-at x y s (merged x y (get_or s i 0))) (go i (merged_or x y (get_or s i 0)));
    }
  where
    x : ℕ
    x = get_or s a 0

    y : ℕ
    y = get_or s b 0

    go : (i : ℕ) → Merged x y (get_or s i 0) → merged x y (get_or s (merged x y (get_or s i 0)) 0) ≡ merged x y (get_or s i 0)
    go i (stays h f) = rw (f, t.own i) f
    go i (higher e f) = rw (f, own-min x y s (t.own a) (t.own b)) (merged-min x y)

-- ---- those joined have one label, and those that had one keep it

pub join-joins : (a b : ℕ) (s : List ℕ) → get_or (join a b s) a 0 ≡ get_or (join a b s) b 0
join-joins a b s =
    let x = get_or s a 0 in
    let y = get_or s b 0 in
    merge-at x y s a ∙ merged-left x y ∙ sym (merge-at x y s b ∙ merged-right x y)

pub join-same : (a b : ℕ) (s : List ℕ) (i j : ℕ) → get_or s i 0 ≡ get_or s j 0 → get_or (join a b s) i 0 ≡ get_or (join a b s) j 0
join-same a b s i j e =
    let x = get_or s a 0 in
    let y = get_or s b 0 in
    merge-at x y s i ∙ ap (merged x y) e ∙ sym (merge-at x y s j)

-- position 0 and those with it keep the label 0
pub join-zero : (a b : ℕ) (s : List ℕ) (i : ℕ) → get_or s i 0 ≡ 0 → get_or (join a b s) i 0 ≡ 0
join-zero a b s i e =
    let x = get_or s a 0 in
    let y = get_or s b 0 in
    merge-at x y s i ∙ ap (merged x y) e ∙ merged-zero x y

-- ---- and no others: what holds between positions and their labels, for any equivalence that holds between those joined

pub record Alike (R : ℕ → ℕ → Type 0) : Type 0 where
  pub back : (i j : ℕ) → R i j → R j i
  pub on : (i j k : ℕ) → R i j → R j k → R i k

module _ (R : ℕ → ℕ → Type 0) (q : Alike R) where
  pub join-known : (a b : ℕ) (s : List ℕ) → R a b → a < length s → b < length s → ((i : ℕ) → i < length s → R i (get_or s i 0))
      → (i : ℕ) → i < length s → R i (get_or (join a b s) i 0)
  join-known a b s r m n known i h = rw (merge-at x y s i) (go (merged_or x y (get_or s i 0)))
    where
      x : ℕ
      x = get_or s a 0

      y : ℕ
      y = get_or s b 0

      across : R x y
      across = q.on x b y (q.on x a b (q.back a x (known a m)) r) (known b n)

      near : R i (max x y) → Dec (x ≤ y) → R i (min x y)
      near k (yes u) =
          let e : min x y ≡ x = omega arith in
          let f : max x y ≡ y = omega arith in
          rw e (q.on i y x (rw f at k) (q.back x y across))
      near k (no u) =
          let e : min x y ≡ y = omega arith in
          let f : max x y ≡ x = omega arith in
          rw e (q.on i x y (rw f at k) across)

      go : Merged x y (get_or s i 0) → R i (merged x y (get_or s i 0))
      go (stays _ f) = rw f (known i h)
      go (higher e f) = rw f (near (rw e at (known i h)) (dec_le x y))

-- ---- numbers

pub begun-own : (s : List ℕ) (j : ℕ) → get_or s j 0 ≡ j → begun s (suc j) ≡ suc (begun s j)
unfolding begun
begun-own s j e = rw (eq-eqb (get_or s j 0) j e) (omega arith)

pub begun-other : (s : List ℕ) (j : ℕ) → (get_or s j 0 ≡ j → ⊥) → begun s (suc j) ≡ begun s j
unfolding begun
begun-other s j d = rw (ne_eqb (get_or s j 0) j d) (omega arith)

pub begun-low : (s : List ℕ) (j : ℕ) → begun s j ≤ j
unfolding begun
begun-low s zero = omega arith
begun-low s (suc j) = go (begun-low s j) (same_or (get_or s j 0) j)
  where
    go : begun s j ≤ j → Same (get_or s j 0) j → pick (eqb (get_or s j 0) j) 1 0 + begun s j ≤ suc j
    go r (same _ b _) = rw b (omega arith)
    go r (other _ b _) = rw b (omega arith)

begun_more : (s : List ℕ) (k j : ℕ) → begun s j ≤ begun s (k + j)
unfolding begun
begun_more s zero j = let e : 0 + j ≡ j = omega arith in rw e (omega arith)
begun_more s (suc k) j = let e : suc k + j ≡ suc (k + j) = omega arith in rw (e, begun) (omega (arith, begun_more s k j))

pub begun-rises : (s : List ℕ) (j k : ℕ) → get_or s j 0 ≡ j → j < k → begun s j < begun s k
begun-rises s j k e h =
    let f : k ≡ (k - suc j) + suc j = omega arith in
    rw f (omega (arith, begun-own s j e, begun_more s (k - suc j) (suc j)))

begun-find : (s : List ℕ) (n k : ℕ) → n < begun s k → (j : ℕ) × (j < k) × (get_or s j 0 ≡ j) × (begun s j ≡ n)
unfolding begun
begun-find s n zero h = absurd (omega arith)
begun-find s n (suc k) h = go (begun-find s n k) (same_or (get_or s k 0) k) (same_or (begun s k) n)
  where
    go : (n < begun s k → (j : ℕ) × (j < k) × (get_or s j 0 ≡ j) × (begun s j ≡ n)) → Same (get_or s k 0) k → Same (begun s k) n
        → (j : ℕ) × (j < suc k) × (get_or s j 0 ≡ j) × (begun s j ≡ n)
    go r (same e _ _) (same f _ _) = (k, omega arith, e, f)
    go r (same e b _) (other d _ _) = let g = rw b at h in let t = r (omega (arith, g, d)) in (t.0, omega (arith, t.1), t.2, t.3)
    go r (other d b _) u = let g = rw b at h in let t = r (omega (arith, g)) in (t.0, omega (arith, t.1), t.2, t.3)

pub number_at : (s : List ℕ) (i : ℕ) → get_or (numbers s) i 0 ≡ begun s (get_or s i 0)
unfolding numbers begun
number_at s i = get_or-map (begun s) s i 0

module _ (s : List ℕ) (t : Settled s) where
  -- the set that begins earlier has the lower number
  pub number-rises : (i j : ℕ) → get_or s i 0 < get_or s j 0 → get_or (numbers s) i 0 < get_or (numbers s) j 0
  number-rises i j h = omega (arith, number_at s i, number_at s j, begun-rises s (get_or s i 0) (get_or s j 0) (t.own i) h)

  -- one number for one label
  pub number_same : (i j : ℕ) → get_or s i 0 ≡ get_or s j 0 → get_or (numbers s) i 0 ≡ get_or (numbers s) j 0
  number_same i j e = number_at s i ∙ ap (begun s) e ∙ sym (number_at s j)

  pub same_number : (i j : ℕ) → get_or (numbers s) i 0 ≡ get_or (numbers s) j 0 → get_or s i 0 ≡ get_or s j 0
  same_number i j e = go (dec_le (get_or s i 0) (get_or s j 0)) (dec_le (get_or s j 0) (get_or s i 0))
    where
      go : Dec (get_or s i 0 ≤ get_or s j 0) → Dec (get_or s j 0 ≤ get_or s i 0) → get_or s i 0 ≡ get_or s j 0
      go (yes u) (yes v) = omega arith
      go (yes u) (no v) = absurd (omega (arith, number-rises i j (omega (arith, v))))
      go (no u) w = absurd (omega (arith, number-rises j i (omega (arith, u))))

  -- no number is left out: each lower one is that of a set which begins earlier
  pub number-full : (i n : ℕ) → n < get_or (numbers s) i 0 → (j : ℕ) × (j < get_or s i 0) × (get_or (numbers s) j 0 ≡ n)
  number-full i n h =
      let r = begun-find s n (get_or s i 0) (omega (arith, number_at s i)) in
      (r.0, r.1, number_at s r.0 ∙ ap (begun s) r.2 ∙ r.3)
