-- A heap with a hole: the hole moves up or down, and is filled.
use Prim.Native.Nat.{ℕ, ◌+◌, ◌*◌, ◌≤◌, ◌<◌}
use mathlib.Core.Path.{◌≡◌, ap, ◌∙◌}
use mathlib.Core.List.{List}
use native.Mathlib.Omega.{arith}
use native.Mathlib.Decide.{ℕ_discrete}
use lib.ListN.{length, get_or, set, length-set}
use lib.Seq.{get_or-set_same, get_or-set_other}
use Rattle.order_heap.specs.Heap.{parent, Hollow, Filled, Moved, Lesser}
use Rattle.order_heap.proofs.Bags.{count-moved}

-- ---- what a store leaves

module _ (l : List ℕ) (i v : ℕ) (h : i < length l) where
  there : (j : ℕ) → j ≡ i → get_or (set l i v) j 0 ≡ v
  there j e = rw e (get_or-set_same l i v 0 h)

  -- a bound of one place
  bounded : (b j : ℕ) → (j ≡ i → b ≤ v) → ((j ≡ i → ⊥) → b ≤ get_or l j 0) → b ≤ get_or (set l i v) j 0
  bounded b j s o = go (ℕ_discrete j i)
    where
      go : Dec (j ≡ i) → b ≤ get_or (set l i v) j 0
      go (yes e) = rw (there j e) (s e)
      go (no n) = rw (get_or-set_other l i j v 0 n) (o n)

  -- the order of two places
  ordered : (q j : ℕ) → (q ≡ i → (j ≡ i → ⊥) → v ≤ get_or l j 0) → ((q ≡ i → ⊥) → j ≡ i → get_or l q 0 ≤ v) → ((q ≡ i → ⊥) → (j ≡ i → ⊥) → get_or l q 0 ≤ get_or l j 0)
      → get_or (set l i v) q 0 ≤ get_or (set l i v) j 0
  ordered q j a b o = go (ℕ_discrete q i)
    where
      go : Dec (q ≡ i) → get_or (set l i v) q 0 ≤ get_or (set l i v) j 0
      go (yes e) = rw (there q e) (bounded v j (λ f. omega arith) (a e))
      go (no n) = rw (get_or-set_other l i q v 0 n) (bounded (get_or l q 0) j (b n) (o n))

-- the hole moves: what fills it fills it at its new place
filled-moved : (k v i j : ℕ) (l₀ l : List ℕ) → i < length l → j < length l → (j ≡ i → ⊥) → Filled k v l₀ (set l i v) → Filled k v l₀ (set (set l i (get_or l j 0)) j v)
filled-moved k v i j l₀ l h m d s =
    record {
      long = omega (arith, s.long, length-set l i v, length-set l i (get_or l j 0), length-set (set l i (get_or l j 0)) j v);
      each = λ x. count-moved x l i j v h m d ∙ s.each x;
    }

-- ---- a heap but for place i: the others are in order, and the place above i is no more than those below it

pub record Holed (i : ℕ) (l : List ℕ) : Type 0 where
  pub inside : i < length l
  pub above : (j : ℕ) → j < length l → (j ≡ i → ⊥) → (parent j ≡ i → ⊥) → get_or l (parent j) 0 ≤ get_or l j 0
  pub across : (j : ℕ) → j < length l → 0 < i → parent j ≡ i → get_or l (parent i) 0 ≤ get_or l j 0

module _ {i : ℕ} {l : List ℕ} (s : Holed i l) where
  -- the parent comes down
  holed-up : 0 < i → Holed (parent i) (set l i (get_or l (parent i) 0))
  holed-up h =
      let p : ℕ = parent i in
      let v : ℕ = get_or l p 0 in
      let n : length (set l i v) ≡ length l = length-set l i v in
      record {
        inside = omega arith;
        above = λ j k d e.
            ordered l i v s.inside (parent j) j (λ f g. s.across j (omega arith) h f) (λ f g. absurd (e (ap parent g)))
            (λ f g. s.above j (omega arith) g f);
        across = λ j k m e.
            let u : get_or l (parent p) 0 ≤ v = s.above p (omega arith) (λ f. omega arith) (λ f. omega arith) in
            ordered l i v s.inside (parent p) j (λ f g. absurd (omega arith)) (λ f g. u)
            (λ f g. omega (arith, u, rw e at (s.above j (omega arith) g (λ q. omega arith))));
      }

  -- the child c, no more than its sibling, goes up
  holed-down : (c : ℕ) → 0 < c → c < length l → parent c ≡ i → ((j : ℕ) → j < length l → 0 < j → parent j ≡ i → get_or l c 0 ≤ get_or l j 0) → Holed c (set l i (get_or l c 0))
  holed-down c h m e low =
      let v : ℕ = get_or l c 0 in
      let n : length (set l i v) ≡ length l = length-set l i v in
      record {
        inside = omega arith;
        above = λ j k d f.
            ordered l i v s.inside (parent j) j (λ a b. low j (omega arith) (omega arith) a)
            (λ a b. rw b (s.across c m (omega arith) e)) (λ a b. s.above j (omega arith) b a);
        across = λ j k o f.
            ordered l i v s.inside (parent c) j (λ a b. rw f at (s.above j (omega arith) b (λ q. omega arith)))
            (λ a b. absurd (a e)) (λ a b. absurd (a e));
      }

-- ---- the way up: v is to fill the hole, which is at place i by now

pub record Rising (leaf v i : ℕ) (l₀ l : List ℕ) : Type 0 where
  pub long : length l ≡ length l₀
  pub holed : Holed i l
  pub below : (j : ℕ) → j < length l → 0 < j → parent j ≡ i → v ≤ get_or l j 0
  pub filled : Filled leaf v l₀ (set l i v)

module _ {leaf v i : ℕ} {l₀ l : List ℕ} (s : Rising leaf v i l₀ l) where
  pub rising-next : 0 < i → v ≤ get_or l (parent i) 0 → Rising leaf v (parent i) l₀ (set l i (get_or l (parent i) 0))
  rising-next h m =
      let b = s.holed.inside in
      let p : ℕ = parent i in
      let n : length (set l i (get_or l p 0)) ≡ length l = length-set l i (get_or l p 0) in
      record {
        long = omega arith;
        holed = holed-up s.holed h;
        below = λ j k o e.
            bounded l i (get_or l p 0) b v j (λ f. m)
            (λ f. omega (arith, m, rw e at (s.holed.above j (omega arith) f (λ q. omega arith))));
        filled = filled-moved leaf v i p l₀ l b (omega arith) (λ q. omega arith) s.filled;
      }

-- ---- the way down: the hole has come from the root to place i

pub record Sinking (i : ℕ) (l₀ l : List ℕ) : Type 0 where
  pub long : length l ≡ length l₀
  pub holed : Holed i l
  pub moved : Moved 0 i l₀ l

module _ {i : ℕ} {l₀ l : List ℕ} (s : Sinking i l₀ l) where
  sinking-to : (c : ℕ) → 0 < c → c < length l → parent c ≡ i → ((j : ℕ) → j < length l → 0 < j → parent j ≡ i → get_or l c 0 ≤ get_or l j 0) → Sinking c l₀ (set l i (get_or l c 0))
  sinking-to c h m e low =
      record {
        long = length-set l i (get_or l c 0) ∙ s.long;
        holed = holed-down s.holed c h m e low;
        moved = record { filled = λ v. filled-moved 0 v i c l₀ l s.holed.inside m (λ q. omega arith) (s.moved.filled v) };
      }

  pub sinking-next : {c : ℕ} → i * 2 + 2 < length l → Lesser (i * 2 + 1) c l → Sinking c l₀ (set l i (get_or l c 0))
  sinking-next {c} h t = sinking-to c (omega arith) (omega arith) (omega arith) (λ j k m e. low j m e (ℕ_discrete j (i * 2 + 1)))
    where
      low : (j : ℕ) → 0 < j → parent j ≡ i → Dec (j ≡ i * 2 + 1) → get_or l c 0 ≤ get_or l j 0
      low j m e (yes f) = rw f t.left
      low j m e (no f) = let g : j ≡ i * 2 + 1 + 1 = omega arith in rw g t.right

pub sinking-all : {i : ℕ} {l₀ l : List ℕ} → Sinking i l₀ l → length l ≤ i * 2 + 1 → Hollow i l × Moved 0 i l₀ l
sinking-all s h = (record { inside = s.holed.inside; leaf = h; above = λ j k d. s.holed.above j k d (λ e. omega arith) }, s.moved)

-- the last place c has no sibling, and goes up
pub sinking-last : {i : ℕ} {l₀ l : List ℕ} → Sinking i l₀ l → (c : ℕ) → c ≡ i * 2 + 1 → length l ≡ c + 1
    → Hollow c (set l i (get_or l c 0)) × Moved 0 c l₀ (set l i (get_or l c 0))
sinking-last {i} {l₀} {l} s c e h =
    sinking-all (sinking-to s c (omega arith) (omega arith) (omega arith) (λ j k m f. let g : j ≡ c = omega arith in rw g (omega arith)))
    (omega (arith, length-set l i (get_or l c 0)))
