-- Two graphs whose nodes to place are paired off from the root on: they wait for as many, have equal distances and orders paired one by one.
use mathlib.Core.Path.{◌≡◌, refl, sym, subst}
use Prim.Native.Nat.{ℕ, ◌<◌}
use mathlib.Core.List.{List}
use native.Mathlib.Omega.{arith}
use lib.ListN.{length}
use Rattle.model_orders.specs.Bag.{count}
use Rattle.model_orders.specs.Object.{Link}
use Rattle.model_orders.specs.Graph.{Graph, kids, waits, Once, Rooted}
use Rattle.model_orders.specs.Order.{order_of}
use Rattle.model_orders.specs.Distance.{Path, Least, weight}
use Rattle.model_orders.proofs.Orders.{rooted-inv}
use Rattle.model_renaming.specs.Renaming.{All2, nil, cons, SameLinks, Renames}
use Rattle.model_renaming.proofs.Renaming.{same-kids, id-rel, count-rel, order-rel, path-rel, total-rel}

-- the nodes of both lists are paired, and no others
pub record Paired (g h : Graph) (l m : List ℕ) (root root' : ℕ) (R : ℕ → ℕ → Type 0) : Type 0 where
  pub renames : Renames g h R
  pub roots : R root root'
  pub left : (a b : ℕ) → R a b → 0 < count a l
  pub right : (a b : ℕ) → R a b → 0 < count b m
  pub fore : (a : ℕ) → 0 < count a l → (b : ℕ) × R a b
  pub back : (b : ℕ) → 0 < count b m → (a : ℕ) × R a b

-- turned round
unfoldable pub Turned : (ℕ → ℕ → Type 0) → ℕ → ℕ → Type 0
Turned R a b = R b a

turn-links : {R : ℕ → ℕ → Type 0} {ls ms : List Link} → SameLinks R ls ms → SameLinks (Turned R) ms ls
unfolding Turned
turn-links SameLinks.nil = SameLinks.nil
turn-links (SameLinks.cons a r s) = SameLinks.cons (sym a) r (turn-links s)

pub turn-renames : {g h : Graph} {R : ℕ → ℕ → Type 0} → Renames g h R → Renames h g (Turned R)
unfolding Turned
turn-renames n =
    record {
      ids = λ a a' b b' r s. sym (n.ids a' a b' b r s);
      sizes = λ p p' r. sym (n.sizes p' p r);
      links = λ p p' r. turn-links (n.links p' p r);
    }

module _ {g h : Graph} {l m : List ℕ} {root root' : ℕ} {R : ℕ → ℕ → Type 0} (q : Paired g h l m root root' R) where
  pub waits-paired : Once l → Once m → (c c' : ℕ) → R c c' → waits g l c ≡ waits h m c'
  unfolding waits
  waits-paired o o' c c' r =
      total-rel q.renames (λ p. count c (kids g p)) (λ p. count c' (kids h p))
      (λ p p' s. count-rel q.renames r (same-kids (q.renames.links p p' s))) l m o o'
      (λ p k. let s = q.fore p k in (s.0, s.1, q.right p s.0 s.1)) (λ p k. let s = q.back p k in (s.0, s.1, q.left s.0 p s.1))

  pub order-paired : Rooted g l root → Rooted h m root' → (key key' : ℕ → ℕ) → ((c c' : ℕ) → R c c' → key c ≡ key' c')
      → All2 R (order_of key g l root) (order_of key' h m root')
  order-paired r r' key key' e =
      order-rel q.renames key key' e (length l) (length m) l m (omega arith) (omega arith) (rooted-inv g l root r) (rooted-inv h m root' r')
      (waits-paired r.once r'.once) (cons q.roots nil)

  path-paired : (c c' d : ℕ) → R c c' → Path g (weight g) root c d → Path h (weight h) root' c' d
  path-paired c c' d r w =
      let t = path-rel q.renames root root' q.roots w in
      subst (λ (z : ℕ). Path h (weight h) root' z d) (id-rel q.renames t.1 r refl) t.2

  path-back : (c c' d : ℕ) → R c c' → Path h (weight h) root' c' d → Path g (weight g) root c d
  unfolding Turned
  path-back c c' d r w =
      let n = turn-renames q.renames in
      let t = path-rel n root' root q.roots w in
      subst (λ (z : ℕ). Path g (weight g) root z d) (id-rel n t.1 r refl) t.2

  -- least sums
  pub least-paired : (c c' d e : ℕ) → R c c' → Least g (weight g) root c d → Least h (weight h) root' c' e → d ≡ e
  least-paired c c' d e r a b = omega (arith, b.least d (path-paired c c' d r a.path), a.least e (path-back c c' e r b.path))
