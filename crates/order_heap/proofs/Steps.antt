-- The heap in the first words of a slice: one number more, the least out.
use Prim.Native.Nat.{ℕ, zero, suc, ◌+◌, ◌-◌, ◌≤◌, ◌<◌}
use mathlib.Core.Path.{◌≡◌, refl, sym, ap, ◌∙◌}
use mathlib.Core.List.{List, [], ◌∷◌, ◌++◌}
use native.Mathlib.Omega.{arith}
use native.Mathlib.Numerals.{add-one}
use lib.ListN.{length, get_or, set, take, drop, length-append, length-drop}
use lib.Seq.{length-take-le, get_or-take, take-suc, take-suc-set, take-set-lt, take_at, drop_at}
use Rattle.model_orders.specs.Bag.{one, count}
use Rattle.model_orders.specs.Space.{spot}
use Rattle.model_orders.proofs.Spots.{spot_in, spot-at, count_at}
use Rattle.order_heap.specs.Heap.{parent, Heaped, Least, Pushed, Popped, Filled}
use Rattle.order_heap.proofs.Bags.{count-snoc, count_set}

-- ---- the root is the least

root-from : (l : List ℕ) → Heaped l → (n i : ℕ) → i ≤ n → i < length l → get_or l 0 0 ≤ get_or l i 0
root-from l s zero i h k = let e : i ≡ 0 = omega arith in rw e (omega arith)
root-from l s (suc n) i h k = omega (arith, root-from l s n (parent i) (omega arith) (omega arith), s.above i k)

root-least : (l : List ℕ) → Heaped l → 0 < length l → Least (get_or l 0 0) l
root-least l s h =
    record {
      inside = count_at l 0 h;
      below = λ x k. omega (arith, spot-at l x k, root-from l s (spot l x) (spot l x) (omega arith) (spot_in l x k));
    }

-- ---- fewer words, one word more

module _ (k : ℕ) (w : List ℕ) (h : k ≤ length w) (s : Heaped (take k w)) where
  front_above : (j : ℕ) → j < k → get_or w (parent j) 0 ≤ get_or w j 0
  front_above j m =
      let p : parent j < k = omega arith in
      rw (get_or-take k w (parent j) 0 p, get_or-take k w j 0 m) at (s.above j (omega (arith, length-take-le k w h)))

  heaped-less : (n : ℕ) → n ≤ k → Heaped (take n w)
  heaped-less n m =
      let e = length-take-le n w (omega arith) in
      record {
        above = λ j b.
            let q : j < n = omega arith in
            let p : parent j < n = omega arith in
            rw (get_or-take n w (parent j) 0 p, get_or-take n w j 0 q) (front_above j (omega arith));
      }

  pub front-least : 0 < k → Least (get_or w 0 0) (take k w)
  front-least m = rw (get_or-take k w 0 0 m) at (root-least (take k w) s (omega (arith, length-take-le k w h)))

-- m written over the first n words
module _ (n : ℕ) (w m : List ℕ) (h : n ≤ length w) (e : length m ≡ length (take n w)) where
  long : length m ≡ n
  long = e ∙ length-take-le n w h

  front-new : take n (m ++ drop n w) ≡ m
  front-new = take_at m (drop n w) n long

  back-kept : drop n (m ++ drop n w) ≡ drop n w
  back-kept = drop_at m (drop n w) n long

  whole_long : length (m ++ drop n w) ≡ length w
  whole_long = omega (arith, length-append m (drop n w), length-drop n w, long)

-- ---- the contracts

pub pushed : (k v : ℕ) (w m : List ℕ) → k < length w → Heaped m × Filled k v (take (k + 1) w) m → Pushed k v w (m ++ drop (k + 1) w)
pushed k v w m h (s, f) =
    let b : k + 1 ≤ length w = omega arith in
    let e : take (k + 1) (m ++ drop (k + 1) w) ≡ m = front-new (k + 1) w m b f.long in
    let p : set (take (k + 1) w) k v ≡ take k w ++ (v ∷ []) = sym (take-set-lt (k + 1) w k v (omega arith)) ∙ rw add-one (take-suc-set w k v h) in
    record {
      heaped = rw e s;
      bag = record { each = λ x. rw (e, f.each x, p) (count-snoc x v (take k w)) };
      kept = back-kept (k + 1) w m b f.long;
      long = whole_long (k + 1) w m b f.long;
    }

module _ (k : ℕ) (w : List ℕ) (h : k ≤ length w) (b : 0 < k) where
  last_out : (x : ℕ) → count x (take k w) ≡ one x (get_or w (k - 1) 0) + count x (take (k - 1) w)
  last_out x =
      let e : k ≡ suc (k - 1) = omega arith in
      let f : take k w ≡ take (k - 1) w ++ (get_or w (k - 1) 0 ∷ []) = ap (λ (n : ℕ). take n w) e ∙ take-suc w (k - 1) 0 (omega arith) in
      rw f (count-snoc x (get_or w (k - 1) 0) (take (k - 1) w))

  -- the only one
  pub popped-last : Heaped (take k w) → k - 1 ≡ 0 → Popped k (get_or w 0 0) w w
  popped-last s e =
      record {
        least = front-least k w h s b;
        heaped = heaped-less k w h s (k - 1) (omega arith);
        bag = record { each = λ x. last_out x ∙ ap (λ (n : ℕ). one x (get_or w n 0) + count x (take (k - 1) w)) e };
        kept = refl;
        long = refl;
      }

  pub popped : (m : List ℕ) → Heaped (take k w) → 0 < k - 1 → Heaped m × Filled 0 (get_or w (k - 1) 0) (take (k - 1) w) m → Popped k (get_or w 0 0) w (m ++ drop (k - 1) w)
  popped m s n (t, f) =
      let c : k - 1 ≤ length w = omega arith in
      let e : take (k - 1) (m ++ drop (k - 1) w) ≡ m = front-new (k - 1) w m c f.long in
      record {
        least = front-least k w h s b;
        heaped = rw e t;
        bag =
            record {
              each = λ x.
                  let z = length-take-le (k - 1) w c in
                  rw e
                  (omega (
                    arith,
                    last_out x,
                    f.each x,
                    rw (get_or-take (k - 1) w 0 0 n) at (count_set x (take (k - 1) w) 0 (get_or w (k - 1) 0) (omega arith)),
                  ));
            };
        kept = back-kept (k - 1) w m c f.long;
        long = whole_long (k - 1) w m c f.long;
      }
