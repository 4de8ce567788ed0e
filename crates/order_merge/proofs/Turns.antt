-- The steps of finding and joining.
use mathlib.Core.Path.{◌≡◌, refl, sym, ap, ◌∙◌}
use Prim.Native.Nat.{ℕ, ◌≤◌, ◌<◌, min, max}
use mathlib.Core.List.{List}
use native.Mathlib.Omega.{arith}
use lib.ListN.{length, get_or, set, length-set}
use lib.Seq.{get_or-set_same, get_or-set_other}
use Rattle.model_orders.specs.Labels.{merged, merge}
use Rattle.model_orders.proofs.Bags.{Same, same, other, same_or}
use Rattle.model_orders.proofs.Labels.{Merged, higher, stays, merged_or, merged-min, merged-max, own-min, own-max, merge-at, merge-length}
use Rattle.order_merge.specs.Bosses.{roots, Falls, Finds, Joins}
use Rattle.order_merge.proofs.Roots.{Rooted, rooted-settled, rooted-only, roots-rooted}

-- ---- one boss stored

module _ (b : List ℕ) (j v : ℕ) (h : j < length b) where
  falls-set : Falls b → v ≤ j → Falls (set b j v)
  falls-set f k = record { low = λ i. go i (same_or i j) }
    where
      go : (i : ℕ) → Same i j → get_or (set b j v) i 0 ≤ i
      go i (same e _ _) = rw e (omega (arith, get_or-set_same b j v 0 h))
      go i (other d _ _) = omega (arith, get_or-set_other b j i v 0 d, f.low i)

  -- another of the same set, below it
  rooted-set : {s : List ℕ} → Rooted b s → v < j → get_or s v 0 ≡ get_or s j 0 → Rooted (set b j v) s
  rooted-set {s} r k e =
      record { long = r.long ∙ sym (length-set b j v); up = λ i. up i (same_or i j); top = λ i. top i (same_or i j) }
    where
      up : (i : ℕ) → Same i j → get_or s i 0 ≡ get_or s (get_or (set b j v) i 0) 0
      up i (same a _ _) = rw (a, get_or-set_same b j v 0 h) (sym e)
      up i (other d _ _) = rw (get_or-set_other b j i v 0 d) (r.up i)

      top : (i : ℕ) → Same i j → get_or (set b j v) i 0 ≡ i → get_or s i 0 ≡ i
      top i (same a _ _) q = absurd (let c = rw (a, get_or-set_same b j v 0 h) at q in omega (arith, c))
      top i (other d _ _) q = r.top i (sym (get_or-set_other b j i v 0 d) ∙ q)

-- ---- finding

-- the way from i has come to j, whose boss is up
pub record Climbing (i j up : ℕ) (b₀ b : List ℕ) : Type 0 where
  pub long : length b ≡ length b₀
  pub falls : Falls b
  pub rooted : Rooted b (roots b₀)
  pub inside : j < length b₀
  pub boss : up ≡ get_or b j 0
  pub same : get_or (roots b₀) j 0 ≡ get_or (roots b₀) i 0

pub climbing-none : (i : ℕ) (b : List ℕ) → i < length b → Falls b → Climbing i i (get_or b i 0) b b
climbing-none i b h f = record { long = refl; falls = f; rooted = roots-rooted b f; inside = h; boss = refl; same = refl }

module _ {i j up : ℕ} {b₀ b : List ℕ} (c : Climbing i j up b₀ b) where
  pub climbing-next : up < j → Climbing i (get_or b up 0) (get_or (set b j (get_or b up 0)) (get_or b up 0) 0) b₀ (set b j (get_or b up 0))
  climbing-next h =
      let n = get_or b up 0 in
      let l : n ≤ up = c.falls.low up in
      let m : j < length b = omega (arith, c.long) in
      let e : get_or (roots b₀) n 0 ≡ get_or (roots b₀) j 0 = sym (c.rooted.up j ∙ rw (← c.boss) (c.rooted.up up)) in
      record {
        long = length-set b j n ∙ c.long;
        falls = falls-set b j n m c.falls (omega arith);
        rooted = rooted-set b j n m c.rooted (omega arith) e;
        inside = omega (arith, c.inside);
        boss = refl;
        same = e ∙ c.same;
      }

  pub climbing-all : j ≤ up → Finds i j b₀ b
  climbing-all h =
      let e : j ≡ get_or (roots b₀) i 0 = sym (c.rooted.top j (omega (arith, c.boss, c.falls.low j))) ∙ c.same in
      record {
        long = c.long;
        falls = c.falls;
        same = sym (rooted-only c.falls c.rooted (roots-rooted b c.falls));
        root = e;
        low = omega (arith, (rooted-settled c.falls c.rooted).low i);
      }

-- ---- joining

module _ (a c x y : ℕ) (b s : List ℕ) (f : Falls b) (r : Rooted b s) (ex : x ≡ get_or s a 0) (ey : y ≡ get_or s c 0) (h : max x y < length b) where
  abbrev new : List ℕ
  new = set b (max x y) (min x y)

  own_x : get_or s x 0 ≡ x
  own_x = rw ex ((rooted-settled f r).own a)

  own-y : get_or s y 0 ≡ y
  own-y = rw ey ((rooted-settled f r).own c)

  high : get_or s (max x y) 0 ≡ max x y
  high = own-max x y s own_x own-y

  low : get_or s (min x y) 0 ≡ min x y
  low = own-min x y s own_x own-y

  join-rooted : Rooted new (merge x y s)
  join-rooted =
      record { long = merge-length x y s ∙ r.long ∙ sym (length-set b _ _); up = λ i. up i (same_or i (max x y)); top = λ i. top i (same_or i (max x y)) }
    where
      other-stays : (i : ℕ) → (i ≡ max x y → ⊥) → Merged x y i → merged x y i ≡ i
      other-stays i d (higher e _) = absurd (d e)
      other-stays i d (stays _ e) = e

      up : (i : ℕ) → Same i (max x y) → get_or (merge x y s) i 0 ≡ get_or (merge x y s) (get_or new i 0) 0
      up i (same e _ _) =
          rw (e, get_or-set_same b (max x y) (min x y) 0 h, merge-at x y s (max x y), merge-at x y s (min x y), high, low)
          (merged-max x y ∙ sym (merged-min x y))
      up i (other d _ _) =
          rw (get_or-set_other b (max x y) i (min x y) 0 d, merge-at x y s i, merge-at x y s (get_or b i 0)) (ap (merged x y) (r.up i))

      top : (i : ℕ) → Same i (max x y) → get_or new i 0 ≡ i → get_or (merge x y s) i 0 ≡ i
      top i (same e _ _) q =
          let k : min x y ≡ max x y = rw (e, get_or-set_same b (max x y) (min x y) 0 h) at q in
          rw (e, merge-at x y s (max x y), high, merged-max x y) k
      top i (other d _ _) q = merge-at x y s i ∙ ap (merged x y) (r.top i (sym (get_or-set_other b (max x y) i (min x y) 0 d) ∙ q)) ∙ other-stays i d (merged_or x y i)

-- the roots x and y of positions a and c are found one after the other, then the higher gets the lower for its boss
pub joined : {a c x y : ℕ} {b b₁ b₂ : List ℕ} → a < length b → c < length b → Falls b → Finds a x b b₁ → Finds c y b₁ b₂ → (h l : ℕ) → h ≡ max x y → l ≡ min x y
    → Joins a c b (set b₂ h l)
joined {a} {c} {x} {y} {b} {b₁} {b₂} ha hc f p q h l eh el =
    let s = roots b in
    let e : roots b₂ ≡ s = q.same ∙ p.same in
    let r : Rooted b₂ s = rw e at (roots-rooted b₂ q.falls) in
    let ey : y ≡ get_or s c 0 = q.root ∙ ap (λ (t : List ℕ). get_or t c 0) p.same in
    let t = rooted-settled q.falls r in
    let k : max x y < length b₂ = omega (arith, t.low a, t.low c, p.root, ey, p.long, q.long) in
    let g : Falls (set b₂ (max x y) (min x y)) = falls-set b₂ (max x y) (min x y) k q.falls (omega arith) in
    rw (eh, el)
    (record {
      long = length-set b₂ _ _ ∙ q.long ∙ p.long;
      falls = g;
      one = rooted-only g (roots-rooted _ g) (join-rooted a c x y b₂ s q.falls r p.root ey k) ∙ rw (← p.root, ← ey);
    })
