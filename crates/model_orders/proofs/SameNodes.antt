-- An order depends on which nodes are placed and on their keys, not on the list that they are given in.
use mathlib.Core.Path.{◌≡◌, refl, sym, ap, fun_ext, ◌∙◌}
use Prim.Native.Nat.{ℕ, zero, suc, ◌+◌, ◌<◌}
use mathlib.Core.List.{List, [], ◌∷◌}
use mathlib.Core.Bool.{Bool, true, false}
use native.Mathlib.Omega.{arith}
use lib.ListN.{length}
use lib.Dec.{ltb}
use Rattle.lists.specs.Lists.{pick}
use Rattle.model_orders.specs.Bag.{count, without, least}
use Rattle.model_orders.specs.Graph.{Graph, kids, waits, reached, Acyclic, Closed, Once, Rooted}
use Rattle.model_orders.specs.Order.{order_from, order_of, order_by}
use Rattle.model_orders.specs.Distance.{Least, weight, distance, distance_order}
use Rattle.model_orders.proofs.Bags.{Same, same, other, same_or, Zero, none, some, zero_or, one_same, count-without, least-in, bag-long, total-from}
use Rattle.model_orders.proofs.Waits.{waits-bag}
use Rattle.model_orders.proofs.Reach.{reached-rooted}
use Rattle.model_orders.proofs.Orders.{Inv, next-free, next-inv, rooted-inv}
use Rattle.model_orders.proofs.Distances.{least-one, distance-is-least}

abbrev pub SameBag : List ℕ → List ℕ → Type 0
SameBag l m = (c : ℕ) → count c l ≡ count c m

-- ---- which nodes are placed

pub rooted-same : {g : Graph} {l m : List ℕ} {root : ℕ} → Rooted g l root → SameBag l m → Rooted g m root
unfolding Once Closed
rooted-same {g} {l} {m} {root} r b =
    record {
      once = λ c. omega (arith, b c, r.once c);
      closed = λ p c h k. omega (arith, b c, r.closed p c (omega (arith, b p)) k);
      root_in = omega (arith, b root, r.root_in);
      root-free = sym (waits-bag g l m b root) ∙ r.root-free;
      others = λ c h k. omega (arith, waits-bag g l m b c, r.others c (omega (arith, b c)) k);
    }

-- a node is one of them exactly if it is the root, or one of them leads to it
module _ {g : Graph} {root : ℕ} where
  led-to : {l m : List ℕ} → Rooted g l root → Rooted g m root → (c : ℕ) → waits g l c ≡ waits g m c → 0 < count c l → 0 < count c m
  unfolding waits Closed
  led-to {l} {m} r s c e h = go (same_or c root)
    where
      go : Same c root → 0 < count c m
      go (same f _ _) = rw f s.root_in
      go (other n _ _) = let p = total-from (λ p. count c (kids g p)) m (rw e at (r.others c h n)) in s.closed p.0 c p.1 p.2

  pub rooted-bag : {l m : List ℕ} → Rooted g l root → Rooted g m root → ((c : ℕ) → waits g l c ≡ waits g m c) → SameBag l m
  unfolding Once
  rooted-bag {l} {m} r s e c = go (zero_or (count c l)) (zero_or (count c m))
    where
      go : Zero (count c l) → Zero (count c m) → count c l ≡ count c m
      go (none h _) (none k _) = omega arith
      go (none h _) (some k _) = absurd (omega (arith, led-to s r c (sym (e c)) k))
      go (some h _) (none k _) = absurd (omega (arith, led-to r s c (e c) h))
      go (some h _) (some k _) = omega (arith, r.once c, s.once c)

-- ---- their order

module _ (key also : ℕ → ℕ) where
  abbrev Agree : List ℕ → Type 0
  Agree l = (c : ℕ) → 0 < count c l → key c ≡ also c

  least-agree : (b : ℕ) (l : List ℕ) → Agree (b ∷ l) → least key b l ≡ least also b l
  unfolding least count
  least-agree b [] h = refl
  least-agree b (x ∷ l) h =
      rw (h x (omega (arith, one_same x)), h b (omega (arith, one_same b)))
      (go (ltb (also x) (also b)) (least-agree x l (λ c k. h c (omega arith))) (least-agree b l (λ c k. h c (omega arith))))
    where
      go : (t : Bool) → least key x l ≡ least also x l → least key b l ≡ least also b l → least key (pick t x b) l ≡ least also (pick t x b) l
      go true i j = i
      go false i j = j

  from-agree : (g : Graph) (n : ℕ) (l m ready : List ℕ) → Inv g l ready → SameBag l m → Agree l → order_from key g n l ready ≡ order_from also g n m ready
  unfolding order_from
  from-agree g zero l m ready v b h = refl
  from-agree g (suc n) l m [] v b h = refl
  from-agree g (suc n) l m (r ∷ rs) v b h =
      let x = least also r rs in
      let less : SameBag (without x l) (without x m) = λ c. omega (arith, b c, count-without c x l, count-without c x m) in
      let left : waits g (without x m) ≡ waits g (without x l) = fun_ext (λ c. sym (waits-bag g (without x l) (without x m) less c)) in
      rw (least-agree r rs (λ c k. h c (next-free g l (r ∷ rs) v c k).1), left)
      (ap (λ (o : List ℕ). x ∷ o)
      (from-agree g n (without x l) (without x m) _ (next-inv g l (r ∷ rs) v x (least-in also r rs)) less (λ c k. h c (omega (arith, count-without c x l)))))

  pub order-agree : {g : Graph} {l : List ℕ} {root : ℕ} → Rooted g l root → (m : List ℕ) → SameBag l m → Agree l → order_of key g l root ≡ order_of also g m root
  order-agree {g} {l} {root} r m b h =
      rw (← bag-long l m b) (from-agree g (length l) l m (root ∷ []) (rooted-inv g l root r) b h)

-- ---- the shortest-distance order: by any least sums

module _ (g : Graph) (root : ℕ) (y : Acyclic g) (sum : ℕ → ℕ) (sums : (c : ℕ) → 0 < count c (reached g root) → Least g (weight g) root c (sum c)) where
  sum-distance : (c : ℕ) → 0 < count c (reached g root) → sum c ≡ distance g root c
  sum-distance c h = least-one (sums c h) (distance-is-least g root y c h)

  pub distance-order : order_of sum g (reached g root) root ≡ distance_order g root
  unfolding distance_order order_by
  distance-order = order-agree sum (distance g root) (reached-rooted g root y) (reached g root) (λ c. refl) sum-distance
