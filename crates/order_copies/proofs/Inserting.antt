-- The nodes behind x move up by one, the last first, until x is met.
use mathlib.Core.Path.{◌≡◌, refl, sym, ap, ◌∙◌}
use Prim.Native.Nat.{ℕ, suc, ◌+◌, ◌-◌, ◌≤◌, ◌<◌}
use mathlib.Core.List.{List, [], ◌∷◌, ◌++◌, append_assoc}
use native.Mathlib.Omega.{arith}
use native.Mathlib.Decide.{dec_le}
use native.Mathlib.Numerals.{add-one}
use lib.ListN.{length, get_or, set, take, drop, take-append-drop, length-set}
use lib.Seq.{get_or-set_same, get_or-take, take-add, take-take, take-suc, drop-cons, drop-drop, drop-length}
use lib.Dec.{eqb}
use Rattle.lists.specs.Lists.{pick}
use Rattle.regions.specs.Region.{region, ceiling, Kept}
use Rattle.regions.proofs.Laws.{region-length, region-at, region-under}
use Rattle.regions.proofs.Bounds.{ceiling-append, ceiling-take, ceiling-drop}
use Rattle.regions.proofs.Frame.{kept-all, kept_then, kept_set, kept_less, kept_at, kept-below}
use Rattle.model_orders.specs.Bag.{count}
use Rattle.model_orders.specs.Graph.{Once}
use Rattle.model_orders.specs.Copies.{beside}
use Rattle.model_orders.proofs.Bags.{Same, same, other, same_or, one_same, one-other, count-append}
use Rattle.work.specs.Views.{order_in}
use Rattle.work.specs.declared.Areas.{Areas}
use Rattle.order_copies.specs.Steps.{Inserting, Inserted}

-- y put in behind the first x
beside_at : (x y : ℕ) (l m : List ℕ) → count x l ≡ 0 → beside x y (l ++ (x ∷ m)) ≡ l ++ (x ∷ y ∷ m)
unfolding beside count
beside_at x y [] m h = go (same_or x x)
  where
    go : Same x x → pick (eqb x x) (x ∷ y ∷ m) (x ∷ beside x y m) ≡ x ∷ y ∷ m
    go (same _ b _) = rw b
    go (other n _ _) = absurd (n refl)
beside_at x y (z ∷ l) m h = go (beside_at x y l m (omega arith)) (same_or x z)
  where
    go : beside x y (l ++ (x ∷ m)) ≡ l ++ (x ∷ y ∷ m) → Same x z → pick (eqb x z) (z ∷ y ∷ (l ++ (x ∷ m))) (z ∷ beside x y (l ++ (x ∷ m))) ≡ z ∷ (l ++ (x ∷ y ∷ m))
    go i (same _ _ o) = absurd (omega arith)
    go i (other _ b _) = rw (b, i)

-- the first word of a region
region-first : (b n : ℕ) (w : List ℕ) → b < length w → region b (suc n) w ≡ get_or w b 0 ∷ region (b + 1) n w
region-first b n w h = rw (drop-cons w b 0 h, add-one b)

region-join : (b m n : ℕ) (w : List ℕ) → region b (m + n) w ≡ region b m w ++ region (b + m) n w
region-join b m n w = take-add m n (drop b w) ∙ rw (drop-drop m b w)

-- those from place i on have moved up
pub record Moving (a : Areas) (r x i : ℕ) (w₀ w : List ℕ) : Type 0 where
  pub some : i ≤ r
  pub kept : Kept (a.order + i + 1) (a.order + r + 1) w₀ w
  pub moved : region (a.order + i + 1) (r - i) w ≡ drop i (order_in a r w₀)
  pub behind : count x (drop i (order_in a r w₀)) ≡ 0

module _ {a : Areas} {r x y : ℕ} {w₀ : List ℕ} (s : Inserting a r x y w₀) where
  abbrev o : List ℕ
  o = order_in a r w₀

  long : length o ≡ r
  long = region-length a.order r w₀ (omega arith)

  pub moving-none : Moving a r x r w₀ w₀
  unfolding count
  moving-none =
      let e : drop r o ≡ [] = rw long at (drop-length o) in
      let z : r - r ≡ 0 = omega arith in
      record { some = omega arith; kept = kept-all; moved = rw (z, e); behind = rw e }

  module _ {i : ℕ} {w : List ℕ} (m : Moving a r x i w₀ w) where
    -- x is in front of those that have moved
    pub moving-more : 0 < i
    moving-more = go (dec_le i 0)
      where
        go : Dec (i ≤ 0) → 0 < i
        go (yes h) = let e : i ≡ 0 = omega arith in let z : count x o ≡ 0 = rw e at m.behind in omega (arith, s.placed)
        go (no h) = omega arith

    abbrev node : ℕ
    node = get_or w (a.order + i - 1) 0

    node-is : node ≡ get_or o (i - 1) 0
    node-is =
        let e : a.order + i - 1 ≡ a.order + (i - 1) = omega (arith, moving-more) in
        rw e (kept_at m.kept (a.order + (i - 1)) (omega arith) ∙ get_or-take (a.order + i + 1) w₀ (a.order + (i - 1)) 0 (omega arith)
        ∙ region-at a.order r w₀ (i - 1) (omega (arith, moving-more, m.some)))

    rest : drop (i - 1) o ≡ node ∷ drop i o
    rest = let e : suc (i - 1) ≡ i = omega (arith, moving-more) in rw node-is (rw e at (drop-cons o (i - 1) 0 (omega (arith, long, moving-more, m.some))))

    stored_here : (v : ℕ) → get_or (set w (a.order + i) v) (a.order + i) 0 ≡ v
    stored_here v = get_or-set_same w (a.order + i) v 0 (omega (arith, m.kept.long, m.some))

    -- one more word in front of those that have moved
    stored_moved : (v : ℕ) → region (a.order + i) (suc (r - i)) (set w (a.order + i) v) ≡ v ∷ drop i o
    stored_moved v =
        rw (
          region-first (a.order + i) (r - i) (set w (a.order + i) v) (rw length-set (omega (arith, m.kept.long, m.some))),
          stored_here v,
          region-under (a.order + i + 1) (r - i) w (a.order + i) v (omega arith),
          m.moved,
        )

    stored-kept : (v : ℕ) → Kept (a.order + i) (a.order + r + 1) w₀ (set w (a.order + i) v)
    stored-kept v =
        kept_then (kept_less m.kept (a.order + i) (a.order + r + 1) (omega arith) (omega arith))
        (kept_set (a.order + i) (a.order + r + 1) w (a.order + i) v (omega arith) (omega (arith, m.some)))

    pub moving-next : (node ≡ x → ⊥) → Moving a r x (i - 1) w₀ (set w (a.order + i) node)
    unfolding count
    moving-next h =
        let e : a.order + (i - 1) + 1 ≡ a.order + i = omega (arith, moving-more) in
        let z : r - (i - 1) ≡ suc (r - i) = omega (arith, moving-more, m.some) in
        record {
          some = omega (arith, m.some);
          kept = rw e (stored-kept node);
          moved = rw (e, z, rest) (stored_moved node);
          behind = rw rest (omega (arith, m.behind, one-other x node (λ q. h (sym q))));
        }

    module _ (h : node ≡ x) where
      abbrev front : List ℕ
      front = take (i - 1) o

      whole : o ≡ front ++ (x ∷ drop i o)
      whole = sym (take-append-drop (i - 1) o) ∙ rw (rest, h)

      once : count x front ≡ 0
      unfolding Once count
      once = omega (arith, s.once x, ap (count x) whole, count-append x front (x ∷ drop i o), one_same x)

      front-more : take i o ≡ front ++ (x ∷ [])
      front-more =
          let e : i ≡ suc (i - 1) = omega (arith, moving-more) in
          ap (λ (k : ℕ). take k o) e ∙ take-suc o (i - 1) 0 (omega (arith, long, moving-more, m.some)) ∙ rw (← node-is, h)

      inserted : take i o ++ (y ∷ drop i o) ≡ beside x y o
      inserted = rw (front-more, append_assoc) (sym (beside_at x y front (drop i o) once)) ∙ ap (beside x y) (sym whole)

      abbrev w' : List ℕ
      w' = set w (a.order + i) y

      order_is : order_in a (r + 1) w' ≡ take i o ++ (y ∷ drop i o)
      order_is =
          let e : r + 1 ≡ i + suc (r - i) = omega (arith, m.some) in
          rw (e, region-join a.order i (suc (r - i)) w', stored_moved y, kept-below (stored-kept y) a.order i (omega arith), take-take i r (drop a.order w₀) m.some)

      pub moving-all : Inserted a r x y w₀ w'
      unfolding ceiling
      moving-all =
          record {
            kept = kept_less (stored-kept y) a.order a.incoming (omega arith) (omega arith);
            order-ids =
                record {
                  few = omega arith;
                  ids = rw order_is (omega (arith, ceiling-append (take i o) (y ∷ drop i o), ceiling-take i o, ceiling-drop i o, s.order.ids));
                };
            order = order_is ∙ inserted;
          }
