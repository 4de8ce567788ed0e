-- Roots by what they are: a position has its boss's root, and one that is its own boss is its own root.
use mathlib.Core.Path.{◌≡◌, refl, sym, ap, ◌∙◌}
use Prim.Native.Nat.{ℕ, zero, suc, ◌+◌, ◌≤◌, ◌<◌}
use mathlib.Core.List.{List}
use native.Mathlib.Omega.{arith}
use native.Mathlib.Decide.{dec_le}
use lib.ListN.{length, get_or, get_or-eq_default}
use lib.Seq.{ext_get_or}
use Rattle.model_orders.proofs.Bags.{Same, same, other, same_or}
use Rattle.model_orders.specs.Labels.{Settled}
use Rattle.order_merge.specs.Bosses.{climb, each, roots, Falls}

pub record Rooted (b s : List ℕ) : Type 0 where
  pub long : length s ≡ length b
  pub up : (i : ℕ) → get_or s i 0 ≡ get_or s (get_or b i 0) 0
  pub top : (i : ℕ) → get_or b i 0 ≡ i → get_or s i 0 ≡ i

-- ---- only one list is so

module _ {b s : List ℕ} (f : Falls b) (r : Rooted b s) where
  boss-or : (i : ℕ) → (get_or b i 0 ≡ i → ⊥) → get_or b i 0 < i
  boss-or i d = omega (arith, f.low i, d)

  settled-below : (n i : ℕ) → i < n → (get_or s i 0 ≤ i) × (get_or s (get_or s i 0) 0 ≡ get_or s i 0)
  settled-below zero i h = absurd (omega arith)
  settled-below (suc n) i h = go (settled-below n) (same_or (get_or b i 0) i)
    where
      go : ((j : ℕ) → j < n → (get_or s j 0 ≤ j) × (get_or s (get_or s j 0) 0 ≡ get_or s j 0)) → Same (get_or b i 0) i
          → (get_or s i 0 ≤ i) × (get_or s (get_or s i 0) 0 ≡ get_or s i 0)
      go k (same e _ _) = let t = r.top i e in (omega arith, rw (t, t))
      go k (other d _ _) =
          let l = boss-or i d in
          let t = k (get_or b i 0) (omega arith) in
          (omega (arith, t.0, r.up i), rw (r.up i) t.1)

  pub rooted-settled : Settled s
  rooted-settled = record { low = λ i. (settled-below (suc i) i (omega arith)).0; own = λ i. (settled-below (suc i) i (omega arith)).1 }

  same-below : {t : List ℕ} → Rooted b t → (n i : ℕ) → i < n → get_or s i 0 ≡ get_or t i 0
  same-below q zero i h = absurd (omega arith)
  same-below {t} q (suc n) i h = go (same-below q n) (same_or (get_or b i 0) i)
    where
      go : ((j : ℕ) → j < n → get_or s j 0 ≡ get_or t j 0) → Same (get_or b i 0) i → get_or s i 0 ≡ get_or t i 0
      go k (same e _ _) = r.top i e ∙ sym (q.top i e)
      go k (other d _ _) = r.up i ∙ k (get_or b i 0) (omega (arith, boss-or i d)) ∙ sym (q.up i)

  pub rooted-only : {t : List ℕ} → Rooted b t → s ≡ t
  rooted-only {t} q = ext_get_or 0 s t (r.long ∙ sym q.long) (λ i h. same-below q (suc i) i (omega arith))

-- ---- and the roots are so

each-length : (f : ℕ → ℕ) (i k : ℕ) → length (each f i k) ≡ k
unfolding each
each-length f i zero = refl
each-length f i (suc k) = ap suc (each-length f (suc i) k)

each_at : (f : ℕ → ℕ) (i k j : ℕ) → j < k → get_or (each f i k) j 0 ≡ f (i + j)
unfolding each
each_at f i zero j h = absurd (omega arith)
each_at f i (suc k) zero h = let e : i + 0 ≡ i = omega arith in rw e
each_at f i (suc k) (suc j) h = let e : i + suc j ≡ suc i + j = omega arith in rw e (each_at f (suc i) k j (omega arith))

climb-top : (b : List ℕ) (i n : ℕ) → get_or b i 0 ≡ i → climb b n i ≡ i
unfolding climb
climb-top b i zero e = refl
climb-top b i (suc n) e = rw (climb, e) (climb-top b i n e)

-- as many bosses up as a position has numbers below it are enough
climb-enough : (b : List ℕ) → Falls b → (n i : ℕ) → i ≤ n → climb b (suc n) i ≡ climb b n i
unfolding climb
climb-enough b f zero i h = let e : i ≡ 0 = omega arith in rw e (omega (arith, f.low 0))
climb-enough b f (suc n) i h = go (climb-enough b f n) (same_or (get_or b i 0) i)
  where
    go : ((j : ℕ) → j ≤ n → climb b (suc n) j ≡ climb b n j) → Same (get_or b i 0) i → climb b (suc n) (get_or b i 0) ≡ climb b n (get_or b i 0)
    go k (same e _ _) = rw e (climb-top b i (suc n) e ∙ sym (climb-top b i n e))
    go k (other d _ _) = k (get_or b i 0) (omega (arith, f.low i, d))

module _ (b : List ℕ) (f : Falls b) where
  roots-length : length (roots b) ≡ length b
  unfolding roots
  roots-length = each-length (climb b (length b)) 0 (length b)

  roots-at : (i : ℕ) → i < length b → get_or (roots b) i 0 ≡ climb b (length b) i
  unfolding roots
  roots-at i h = let e : 0 + i ≡ i = omega arith in rw e at (each_at (climb b (length b)) 0 (length b) i h)

  roots-out : (i : ℕ) → length b ≤ i → get_or (roots b) i 0 ≡ 0
  roots-out i h = get_or-eq_default (roots b) 0 (rw roots-length h)

  roots-top : (i : ℕ) → get_or b i 0 ≡ i → get_or (roots b) i 0 ≡ i
  roots-top i e = go (dec_le (length b) i)
    where
      go : Dec (length b ≤ i) → get_or (roots b) i 0 ≡ i
      go (yes h) = roots-out i h ∙ sym (get_or-eq_default b 0 h) ∙ e
      go (no h) = roots-at i (omega (arith, h)) ∙ climb-top b i (length b) e

  roots-up : (i : ℕ) → get_or (roots b) i 0 ≡ get_or (roots b) (get_or b i 0) 0
  roots-up i = go (dec_le (length b) i)
    where
      go : Dec (length b ≤ i) → get_or (roots b) i 0 ≡ get_or (roots b) (get_or b i 0) 0
      go (yes h) = rw (get_or-eq_default b 0 h, roots-out i h) (sym (roots-top 0 (omega (arith, f.low 0))))
      go (no h) =
          let k : i < length b = omega (arith, h) in
          rw (roots-at i k, roots-at (get_or b i 0) (omega (arith, f.low i))) (sym (rise (climb-enough b f (length b) i (omega arith))))
        where
          rise : climb b (suc (length b)) i ≡ climb b (length b) i → climb b (length b) (get_or b i 0) ≡ climb b (length b) i
          rise e = unfold climb in e

  pub roots-rooted : Rooted b (roots b)
  roots-rooted = record { long = roots-length; up = roots-up; top = roots-top }

-- bosses that are roots already
pub roots-settled : {b : List ℕ} → Settled b → (Falls b) × (roots b ≡ b)
roots-settled {b} t =
    let f : Falls b = record { low = t.low } in
    let r : Rooted b b = record { long = refl; up = λ i. sym (t.own i); top = λ i e. e } in
    (f, rooted-only f (roots-rooted b f) r)
