-- Every placing order has each object once, parents before children.
use mathlib.Core.Path.{◌≡◌, refl, ◌∙◌}
use Prim.Native.Nat.{ℕ, zero, suc, ◌+◌, ◌-◌, ◌≤◌, ◌<◌}
use mathlib.Core.List.{List, [], ◌∷◌, ◌++◌}
use mathlib.Core.Bool.{Bool, true, false}
use native.Mathlib.Omega.{arith}
use lib.ListN.{length}
use lib.Dec.{eqb}
use borrow.Author.Tests.{eq-eqb, ne_eqb}
use Rattle.lists.specs.Lists.{pick}
use Rattle.model_orders.specs.Bag.{one, count, without, zeros_of, last_once, least}
use Rattle.model_orders.specs.Graph.{Graph, kids, waits, reached, Ranked, Acyclic, Closed, Once, ParentsFirst, Rooted}
use Rattle.model_orders.specs.Order.{order_from, order_of, order_by}
use Rattle.model_orders.proofs.Bags.{Same, same, other, same_or, Zero, none, some, zero_or, one_same, one-other, count-here, count-append, count-without, length_without, total-bag, total-from, one-part, count-zeros_of, count-last_once, least-in, Top, top_of}
use Rattle.model_orders.proofs.Waits.{waits-without, waits-part}
use Rattle.model_orders.proofs.Reach.{reached-rooted}

-- ---- the state of an order

pub record Inv (g : Graph) (left ready : List ℕ) : Type 0 where
  pub once : Once left
  pub closed : Closed g left
  pub free : (c : ℕ) → count c ready ≡ pick (eqb (waits g left c) 0) (count c left) 0

module _ (g : Graph) (left ready : List ℕ) (v : Inv g left ready) (c : ℕ) where
  pub free-now : waits g left c ≡ 0 → count c ready ≡ count c left
  free-now a = v.free c ∙ rw (eq-eqb (waits g left c) 0 a)

  pub free-not : 0 < waits g left c → count c ready ≡ 0
  free-not a = v.free c ∙ rw (ne_eqb (waits g left c) 0 (λ e. omega arith))

module _ (g : Graph) (left ready : List ℕ) (v : Inv g left ready) (x : ℕ) (h : 0 < count x ready) where
  pub next-free : (waits g left x ≡ 0) × (0 < count x left)
  next-free = go (zero_or (waits g left x))
    where
      go : Zero (waits g left x) → (waits g left x ≡ 0) × (0 < count x left)
      go (none a b) = (a, omega (arith, free-now g left ready v x a))
      go (some a b) = absurd (omega (arith, free-not g left ready v x a))

  pub next-inv : Inv g (without x left) (without x ready ++ zeros_of (waits g (without x left)) (last_once (kids g x)))
  unfolding Once Closed
  next-inv = record { once = fewer; closed = still; free = λ c. go c (zero_or (count c (kids g x))) (zero_or (waits g (without x left) c)) }
    where
      wx : waits g left x ≡ 0
      wx = next-free.0

      in_left : 0 < count x left
      in_left = next-free.1

      fewer : (c : ℕ) → count c (without x left) ≤ 1
      fewer c = omega (arith, count-without c x left, v.once c)

      apart : (p c : ℕ) → 0 < count p left → 0 < count c (kids g p) → c ≡ x → ⊥
      apart p c a b e = omega (arith, waits-part g p x left a, rw e at b, wx)

      still : (p c : ℕ) → 0 < count p (without x left) → 0 < count c (kids g p) → 0 < count c (without x left)
      still p c a b =
          let a' : 0 < count p left = omega (arith, count-without p x left) in
          omega (arith, count-without c x left, v.closed p c a' b, one-other c x (apart p c a' b))

      was : (c : ℕ) → waits g (without x left) c + count c (kids g x) ≡ waits g left c
      was c = waits-without g x c left in_left

      now : (c : ℕ) → count c (without x ready ++ zeros_of (waits g (without x left)) (last_once (kids g x)))
          ≡ (count c ready - one c x) + pick (eqb (waits g (without x left) c) 0) (pick (eqb (count c (kids g x)) 0) 0 1) 0
      now c = rw (count-append, count-without, count-zeros_of, count-last_once)

      go : (c : ℕ) → Zero (count c (kids g x)) → Zero (waits g (without x left) c)
          → count c (without x ready ++ zeros_of (waits g (without x left)) (last_once (kids g x))) ≡ pick (eqb (waits g (without x left) c) 0) (count c (without x left)) 0
      go c (none k e) (none w f) = now c ∙ rw (e, f) (omega (arith, was c, count-without c x left, free-now g left ready v c (omega (arith, was c))))
      go c (none k e) (some w f) = now c ∙ rw (e, f) (omega (arith, free-not g left ready v c (omega (arith, was c))))
      go c (some k e) (none w f) =
          now c ∙ rw (e, f) (omega (arith, v.once c, v.closed x c in_left k, count-without c x left, one-other c x (apart x c in_left k), free-not g left ready v c (omega (arith, was c))))
      go c (some k e) (some w f) = now c ∙ rw (e, f) (omega (arith, free-not g left ready v c (omega (arith, was c))))

-- ---- with nothing ready, nothing is left: the highest one left is ready

pub stuck : (rank : ℕ → ℕ) (g : Graph) (left : List ℕ) → Ranked rank g → Inv g left [] → left ≡ []
unfolding Ranked waits count
stuck rank g [] a v = refl
stuck rank g (b ∷ l) a v = absurd (go (top_of rank b l))
  where
    go : ((m : ℕ) × Top rank (b ∷ l) m) → ⊥
    go t = cut (zero_or (waits g (b ∷ l) t.0))
      where
        cut : Zero (waits g (b ∷ l) t.0) → ⊥
        cut (none z _) = omega (arith, free-now g (b ∷ l) [] v t.0 z, t.1.inside)
        cut (some z _) =
            let r = total-from (λ p. count t.0 (kids g p)) (b ∷ l) z in
            omega (arith, a r.0 t.0 r.2, t.1.above r.0 r.1)

-- with none left, none is ready
pub length-left : (g : Graph) (left : List ℕ) (r : ℕ) (rs : List ℕ) → Inv g left (r ∷ rs) → length left ≤ 0 → ⊥
unfolding count
length-left g [] r rs v h = omega (arith, (next-free g [] (r ∷ rs) v r (count-here r rs)).1)
length-left g (x ∷ l) r rs v h = omega arith

-- ---- any state of an order

module _ (rank key : ℕ → ℕ) (g : Graph) (a : Ranked rank g) where
  pub from-counts : (n : ℕ) (left ready : List ℕ) → length left ≤ n → Inv g left ready → (c : ℕ) → count c (order_from key g n left ready) ≡ count c left
  unfolding order_from count
  from-counts zero [] ready h v c = refl
  from-counts zero (b ∷ l) ready h v c = absurd (omega arith)
  from-counts (suc n) left [] h v c = rw (stuck rank g left a v)
  from-counts (suc n) left (r ∷ rs) h v c =
      let x = least key r rs in
      let k = least-in key r rs in
      let f = next-free g left (r ∷ rs) v x k in
      omega (
        arith,
        count-without c x left,
        one-part c x left f.1,
        from-counts n (without x left) _ (omega (arith, length_without x left f.1)) (next-inv g left (r ∷ rs) v x k) c,
      )

  pub from_first : (n : ℕ) (left ready : List ℕ) → length left ≤ n → Inv g left ready → ParentsFirst g (order_from key g n left ready)
  unfolding order_from ParentsFirst waits
  from_first zero left ready h v = tt
  from_first (suc n) left [] h v = tt
  from_first (suc n) left (r ∷ rs) h v =
      let x = least key r rs in
      let k = least-in key r rs in
      let f = next-free g left (r ∷ rs) v x k in (
        total-bag (λ p. count x (kids g p)) (order_from key g (suc n) left (r ∷ rs)) left (from-counts (suc n) left (r ∷ rs) h v) ∙ f.0,
        from_first n (without x left) _ (omega (arith, length_without x left f.1)) (next-inv g left (r ∷ rs) v x k),
      )

-- ---- the theorem: each once, parents first

pub rooted-inv : (g : Graph) (nodes : List ℕ) (root : ℕ) → Rooted g nodes root → Inv g nodes (root ∷ [])
unfolding count Once
rooted-inv g nodes root r = record { once = r.once; closed = r.closed; free = λ c. go c (same_or c root) (zero_or (count c nodes)) }
  where
    go : (c : ℕ) → Same c root → Zero (count c nodes) → one c root + 0 ≡ pick (eqb (waits g nodes c) 0) (count c nodes) 0
    go c (same e _ o) z = rw (e, one_same root, eq-eqb (waits g nodes root) 0 r.root-free) (omega (arith, r.root_in, r.once root))
    go c (other h _ o) (some a _) = rw (o, ne_eqb (waits g nodes c) 0 (λ e. omega (arith, r.others c a h))) (omega arith)
    go c (other h _ o) (none a _) = rw (o, a) (zero (eqb (waits g nodes c) 0))
      where
        zero : (b : Bool) → 0 + 0 ≡ pick b 0 0
        zero true = refl
        zero false = refl

module _ (rank key : ℕ → ℕ) (g : Graph) (a : Ranked rank g) (nodes : List ℕ) (root : ℕ) (r : Rooted g nodes root) where
  pub order-counts : (c : ℕ) → count c (order_of key g nodes root) ≡ count c nodes
  order-counts c = from-counts rank key g a (length nodes) nodes (root ∷ []) (omega arith) (rooted-inv g nodes root r) c

  pub order-first : ParentsFirst g (order_of key g nodes root)
  order-first = from_first rank key g a (length nodes) nodes (root ∷ []) (omega arith) (rooted-inv g nodes root r)

-- ---- every reached object once, parents before children, whatever the key
module _ (key : ℕ → ℕ) (g : Graph) (y : Acyclic g) (root : ℕ) where
  pub order_by-once : (c : ℕ) → count c (order_by key g root) ≡ count c (reached g root)
  unfolding order_by
  order_by-once c = order-counts (λ i. i) key g y (reached g root) root (reached-rooted g root y) c

  pub order_by-first : ParentsFirst g (order_by key g root)
  unfolding order_by
  order_by-first = order-first (λ i. i) key g y (reached g root) root (reached-rooted g root y)

-- a parent stands before its child
pub parent-before : (g : Graph) (a b : List ℕ) (p c : ℕ) → ParentsFirst g (a ++ (c ∷ b)) → 0 < count c (kids g p) → 0 < count p (a ++ (c ∷ b)) → 0 < count p a
unfolding ParentsFirst count
parent-before g [] b p c f k h = absurd (omega (arith, waits-part g p c (c ∷ b) h, f.0))
parent-before g (x ∷ a) b p c f k h = go (parent-before g a b p c f.1 k) (same_or p x)
  where
    go : (0 < count p (a ++ (c ∷ b)) → 0 < count p a) → Same p x → 0 < one p x + count p a
    go i (same _ _ o) = omega arith
    go i (other _ _ o) = omega (arith, i (omega arith))
