-- The readings of closed objects: each is the reading of its object, and stands when another is closed.
use mathlib.Core.Path.{◌≡◌, refl, sym, ap, ◌∙◌}
use Prim.Native.Nat.{ℕ, suc, ◌+◌, ◌≤◌, ◌<◌}
use mathlib.Core.List.{List, [], ◌∷◌, ◌++◌}
use native.Mathlib.Omega.{arith}
use native.Mathlib.Decide.{dec_le}
use lib.ListN.{length, length-append, get_or-append, get_or-eq_default}
use lib.Seq.{get_or_at}
use Rattle.model_orders.specs.Bag.{count}
use Rattle.model_orders.specs.Object.{Link, Object, no_object, object_at}
use Rattle.model_orders.specs.Graph.{graph_of, kids_of, Ranked, Acyclic}
use Rattle.model_orders.specs.Reading.{Reading, bytes, read_links, reading_at, read_object, Reads, readings_from, readings}
use Rattle.model_orders.proofs.Bags.{one_same}

-- a reading is made of the children's readings alone
pub read-ext : (ρ σ : ℕ → Reading) (ls : List Link) (b : List ℕ) → ((c : ℕ) → 0 < count c (kids_of ls) → ρ c ≡ σ c) → read_links ρ ls b ≡ read_links σ ls b
unfolding read_links kids_of count
read-ext ρ σ [] b h = refl
read-ext ρ σ (l ∷ ls) b h =
    let e : ρ l.child ≡ σ l.child = h l.child (omega (arith, one_same l.child)) in
    let f : read_links ρ ls b ≡ read_links σ ls b = read-ext ρ σ ls b (λ c k. h c (omega arith)) in
    rw (e, f)

-- children's readings stand when one more is added
pub read_more : (rs : List Reading) (r : Reading) (o : Object) → ((c : ℕ) → 0 < count c (kids_of o.links) → c < length rs) → read_object rs o ≡ read_object (rs ++ (r ∷ [])) o
read_more rs r o low = read-ext _ _ o.links o.bytes (λ c k. sym (get_or-append rs (r ∷ []) (bytes []) c (low c k)))

-- one more closed object is one more reading
pub readings-snoc : (rs : List Reading) (os : List Object) (o : Object) → readings_from rs (os ++ (o ∷ [])) ≡ readings_from rs os ++ (read_object (readings_from rs os) o ∷ [])
unfolding readings_from
readings-snoc rs [] o = refl
readings-snoc rs (p ∷ os) o = readings-snoc (rs ++ (read_object rs p ∷ [])) os o

pub readings-length : (rs : List Reading) (os : List Object) → length (readings_from rs os) ≡ length rs + length os
unfolding readings_from
readings-length rs [] = omega arith
readings-length rs (o ∷ os) = omega (arith, readings-length (rs ++ (read_object rs o ∷ [])) os, length-append rs (read_object rs o ∷ []))

module _ (all : List Object) (y : Acyclic (graph_of all)) where
  unfoldable Right : List Reading → Type 0
  Right rs = (i : ℕ) → i < length rs → reading_at rs i ≡ read_object rs (object_at all i)

  right-more : (rs : List Reading) → Right rs → Right (rs ++ (read_object rs (object_at all (length rs)) ∷ []))
  unfolding Right Ranked
  right-more rs ok i b = go (dec_le (suc i) (length rs))
    where
      r : Reading
      r = read_object rs (object_at all (length rs))

      more : i ≤ length rs → read_object rs (object_at all i) ≡ read_object (rs ++ (r ∷ [])) (object_at all i)
      more h = read_more rs r (object_at all i) (λ c k. omega (arith, y i c k))

      go : Dec (i < length rs) → reading_at (rs ++ (r ∷ [])) i ≡ read_object (rs ++ (r ∷ [])) (object_at all i)
      go (yes k) = get_or-append rs (r ∷ []) (bytes []) i k ∙ ok i k ∙ more (omega arith)
      go (no k) =
          let q : i ≡ length rs = omega (arith, length-append rs (r ∷ [])) in
          get_or_at rs r [] (bytes []) i (sym q) ∙ ap (λ (j : ℕ). read_object rs (object_at all j)) (sym q) ∙ more (omega arith)

  from-right : (os : List Object) (rs : List Reading) → Right rs → ((k : ℕ) → object_at all (length rs + k) ≡ object_at os k) → Right (readings_from rs os)
  unfolding readings_from
  from-right [] rs ok e = ok
  from-right (o ∷ os) rs ok e =
      let z : length rs + 0 ≡ length rs = omega arith in
      let f : object_at all (length rs) ≡ o = ap (object_at all) (sym z) ∙ e 0 in
      let len = length-append rs (read_object rs o ∷ []) in
      from-right os (rs ++ (read_object rs o ∷ [])) (rw f at (right-more rs ok))
      (λ k. let q : length (rs ++ (read_object rs o ∷ [])) + k ≡ length rs + suc k = omega arith in ap (object_at all) q ∙ e (suc k))

pub readings-read : (os : List Object) → Acyclic (graph_of os) → Reads (graph_of os) (λ i. (object_at os i).bytes) (reading_at (readings os))
unfolding Reads readings Right read_links
readings-read os y i = go (dec_le (suc i) (length os))
  where
    go : Dec (i < length os) → reading_at (readings_from [] os) i ≡ read_object (readings_from [] os) (object_at os i)
    go (yes k) =
        from-right os y os [] (λ i h. absurd (omega arith)) (λ k. let q : 0 + k ≡ k = omega arith in ap (object_at os) q) i (omega (arith, readings-length [] os))
    go (no k) =
        get_or-eq_default (readings_from [] os) (bytes []) (omega (arith, readings-length [] os))
        ∙ ap (read_object (readings_from [] os)) (sym (get_or-eq_default os no_object (omega arith)))
