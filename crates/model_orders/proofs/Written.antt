-- Fields filled inside a longer list, by places that agree; and where the objects of an order begin.
use mathlib.Core.Path.{◌≡◌, refl, ap, ◌∙◌}
use Prim.Native.Nat.{ℕ, zero, suc, ◌+◌, ◌<◌}
use mathlib.Core.List.{List, [], ◌∷◌, ◌++◌}
use native.Mathlib.Omega.{arith}
use lib.ListN.{length, drop, get_or}
use Rattle.lists.specs.Lists.{total, over}
use Rattle.lists.proofs.Overs.{over-append}
use Rattle.big_endian.specs.BigEndian.{big_endian}
use Rattle.big_endian.proofs.Laws.{length-big}
use Rattle.model_orders.specs.Bag.{count}
use Rattle.model_orders.specs.Object.{Link}
use Rattle.model_orders.specs.Graph.{Graph, kids_of, Once}
use Rattle.model_orders.specs.Table.{before, offset, filled, object_bytes, table_from, FieldsIn}
use Rattle.model_orders.proofs.Bags.{one_same, one-eq}
use Rattle.model_orders.proofs.Before.{before_here, before-next}
use Rattle.model_orders.proofs.Filled.{wrote, length-wrote, length-filled}

module _ (off : Link → ℕ) where
  filled-append : (from : ℕ) (ls : List Link) (bs r : List ℕ) → FieldsIn from (length bs) ls → filled off ls (bs ++ r) ≡ filled off ls bs ++ r
  unfolding filled FieldsIn wrote
  filled-append from [] bs r f = refl
  filled-append from (l ∷ ls) bs r f =
      ap (filled off ls) (over-append l.slot.at (big_endian l.slot.width (off l)) bs r (rw length-big f.0.inside))
      ∙ filled-append (l.slot.at + l.slot.width) ls (wrote off l bs) r (rw (length-wrote off l bs f.0.inside) f.1)

  -- fields inside bytes that stand at the front of a list
  pub filled-over : (ls : List Link) (bs d : List ℕ) → FieldsIn 0 (length bs) ls → filled off ls (over 0 bs d) ≡ over 0 (filled off ls bs) d
  unfolding over
  filled-over ls bs d f = rw (length-filled off 0 (length bs) ls bs refl f) (filled-append 0 ls bs (drop (0 + length bs) d) f)

-- places that agree on an object and its children
pub filled-same : (place place' : ℕ → ℕ) (i : ℕ) → place i ≡ place' i → (ls : List Link) → ((c : ℕ) → 0 < count c (kids_of ls) → place c ≡ place' c)
    → (bs : List ℕ) → filled (offset place i) ls bs ≡ filled (offset place' i) ls bs
unfolding filled kids_of count offset
filled-same place place' i e [] h bs = refl
filled-same place place' i e (l ∷ ls) h bs =
    rw (e, h l.child (omega (arith, one_same l.child))) (filled-same place place' i e ls (λ c k. h c (omega arith)) _)

pub count_at : (o : List ℕ) (t : ℕ) → t < length o → 0 < count (get_or o t 0) o
unfolding count
count_at [] t h = absurd (omega arith)
count_at (x ∷ o) zero h = omega (arith, one_same x)
count_at (x ∷ o) (suc t) h = omega (arith, count_at o t (omega arith))

-- before the one at t are all but those from t on
pub before_at : (f : ℕ → ℕ) (o : List ℕ) (t : ℕ) → Once o → t < length o → before f o (get_or o t 0) + total f (drop t o) ≡ total f o
unfolding total count Once
before_at f [] t a h = absurd (omega arith)
before_at f (x ∷ o) zero a h = omega (arith, before_here f x o)
before_at f (x ∷ o) (suc t) a h =
    let y : ℕ = get_or o t 0 in
    let n : y ≡ x → ⊥ = λ e. omega (arith, a y, count_at o t (omega arith), one-eq y x e) in
    omega (arith, before-next f x o y n, before_at f o t (λ c. omega (arith, a c)) (omega arith))

-- the bytes of the objects of an order alone count
pub table_same : (g : Graph) (content also : ℕ → List ℕ) (place : ℕ → ℕ) (o : List ℕ) → ((i : ℕ) → 0 < count i o → content i ≡ also i) → table_from g content place o ≡ table_from g also place o
unfolding table_from object_bytes count
table_same g content also place [] h = refl
table_same g content also place (x ∷ o) h = rw (h x (omega (arith, one_same x)), table_same g content also place o (λ i k. h i (omega arith)))
