-- A renaming that pairs two roots pairs off what they reach.
use Prim.Native.Nat.{ℕ, ◌<◌}
use mathlib.Core.List.{List}
use native.Mathlib.Omega.{arith}
use Rattle.model_orders.specs.Bag.{count}
use Rattle.model_orders.specs.Object.{Link}
use Rattle.model_orders.specs.Graph.{Graph, kids_of, reached, Acyclic, Closed, Rooted}
use Rattle.model_orders.proofs.Bags.{one_same}
use Rattle.model_orders.proofs.Reach.{reached-rooted}
use Rattle.model_orders.proofs.Distances.{reached-path, path-reached}
use Rattle.model_renaming.specs.Renaming.{SameLinks, Renames}
use Rattle.model_renaming.proofs.Renaming.{path-rel}
use Rattle.model_renaming.proofs.Pairs.{Paired, Turned, turn-renames}

-- a pair of reached nodes
pub record Reached (g h : Graph) (root root' : ℕ) (R : ℕ → ℕ → Type 0) (a b : ℕ) : Type 0 where
  pub pair : R a b
  pub left : 0 < count a (reached g root)
  pub right : 0 < count b (reached h root')

module _ {g h : Graph} (y : Acyclic g) (y' : Acyclic h) {root root' : ℕ} {R : ℕ → ℕ → Type 0} (n : Renames g h R) (r : R root root') where
  fore : (a : ℕ) → 0 < count a (reached g root) → (b : ℕ) × R a b × (0 < count b (reached h root'))
  fore a k = let q = path-rel n root root' r (reached-path g root y a k).1 in (q.0, q.1, path-reached h root' y' q.2)

  back : (b : ℕ) → 0 < count b (reached h root') → (a : ℕ) × R a b × (0 < count a (reached g root))
  unfolding Turned
  back b k = let q = path-rel (turn-renames n) root' root r (reached-path h root' y' b k).1 in (q.0, q.1, path-reached g root y q.2)

  both-links : {ls ms : List Link} → SameLinks R ls ms → ((c : ℕ) → 0 < count c (kids_of ls) → 0 < count c (reached g root))
      → ((c : ℕ) → 0 < count c (kids_of ms) → 0 < count c (reached h root')) → SameLinks (Reached g h root root' R) ls ms
  unfolding kids_of count
  both-links SameLinks.nil k k' = SameLinks.nil
  both-links (SameLinks.cons {l = l} {m = m} a t s) k k' =
      SameLinks.cons a (record { pair = t; left = k l.child (omega (arith, one_same l.child)); right = k' m.child (omega (arith, one_same m.child)) })
      (both-links s (λ c i. k c (omega arith)) (λ c i. k' c (omega arith)))

  pub reached-paired : Paired g h (reached g root) (reached h root') root root' (Reached g h root root' R)
  unfolding Closed
  reached-paired =
      record {
        renames =
            record {
              ids = λ a a' b b' s t. n.ids a a' b b' s.pair t.pair;
              sizes = λ p p' s. n.sizes p p' s.pair;
              links = λ p p' s. both-links (n.links p p' s.pair) (λ c i. from.closed p c s.left i) (λ c i. from'.closed p' c s.right i);
            };
        roots = record { pair = r; left = from.root_in; right = from'.root_in };
        left = λ a b s. s.left;
        right = λ a b s. s.right;
        fore = λ a k. let q = fore a k in (q.0, record { pair = q.1; left = k; right = q.2 });
        back = λ b k. let q = back b k in (q.0, record { pair = q.1; left = q.2; right = k });
      }
    where
      from : Rooted g (reached g root) root
      from = reached-rooted g root y

      from' : Rooted h (reached h root') root'
      from' = reached-rooted h root' y'
