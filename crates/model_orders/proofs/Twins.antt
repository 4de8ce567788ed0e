-- Where all closed objects read differently, the comparison at closing, children by id, is the comparison of readings.
use mathlib.Core.Path.{◌≡◌, refl, sym, ap, ◌∙◌}
use Prim.Native.Nat.{ℕ, ◌≤◌, ◌<◌}
use mathlib.Core.List.{List, [], ◌∷◌, ◌++◌}
use mathlib.Core.Bool.{Bool, true, false, ◌&&◌, and-true, and-false}
use native.Mathlib.Omega.{arith}
use lib.ListN.{length, length-append}
use lib.Dec.{eqb}
use borrow.Author.Tests.{eq-eqb, ne_eqb, eqb-true}
use Rattle.lists.specs.Lists.{same_list, first_that}
use Rattle.lists.proofs.Elements.{at_snoc, first-none, first-same}
use Rattle.model_orders.specs.Bag.{count}
use Rattle.model_orders.specs.Object.{Link, Object, no_object, object_at, same_slot, same_link, same_object}
use Rattle.model_orders.specs.Graph.{graph_of, kids_of, Ranked, Acyclic}
use Rattle.model_orders.specs.Reading.{Reading, bytes, same_reading, read_links, reading_at, read_object, Reads, readings}
use Rattle.model_orders.proofs.Bags.{one_same}
use Rattle.model_orders.proofs.Readings.{readings-length, readings-read}
use Rattle.model_orders.proofs.SameReading.{reading-equal, reading-self}

-- closed objects read the same only if they are the same
unfoldable pub Distinct : List Reading → Type 0
Distinct rs = (i j : ℕ) → i < length rs → j < length rs → same_reading (reading_at rs i) (reading_at rs j) ≡ eqb i j

reading-other : (r s : Reading) → same_reading r s ≡ false → same_reading s r ≡ false
reading-other r s e = go (same_reading s r) refl
  where
    go : (b : Bool) → same_reading s r ≡ b → b ≡ false
    go true f = let q : s ≡ r = reading-equal s r f in sym (reading-self r) ∙ ap (same_reading r) (sym q) ∙ e
    go false f = refl

-- a link's two tests, the bytes' and the other links', in either order
and-sort : (s c b l : Bool) → (s && (c && (b && l))) ≡ (b && ((s && c) && l))
and-sort true true b l = refl
and-sort true false b l = sym (and-false b)
and-sort false c b l = sym (and-false b)

module _ (rs : List Reading) (d : Distinct rs) where
  same-links : (ls ms : List Link) (a b : List ℕ) → ((c : ℕ) → 0 < count c (kids_of ls) → c < length rs) → ((c : ℕ) → 0 < count c (kids_of ms) → c < length rs)
      → same_reading (read_links (reading_at rs) ls a) (read_links (reading_at rs) ms b) ≡ (same_list eqb a b && same_list same_link ls ms)
  unfolding same_reading read_links same_list kids_of count Distinct
  same-links [] [] a b h k = sym (and-true (same_list eqb a b))
  same-links [] (m ∷ ms) a b h k = sym (and-false (same_list eqb a b))
  same-links (l ∷ ls) [] a b h k = sym (and-false (same_list eqb a b))
  same-links (l ∷ ls) (m ∷ ms) a b h k =
      let e = d l.child m.child (h l.child (omega (arith, one_same l.child))) (k m.child (omega (arith, one_same m.child))) in
      let f = same-links ls ms a b (λ c i. h c (omega arith)) (λ c i. k c (omega arith)) in
      rw (e, f) (and-sort (same_slot l.slot m.slot) (eqb l.child m.child) (same_list eqb a b) (same_list same_link ls ms))

  pub same-twin : (o p : Object) → ((c : ℕ) → 0 < count c (kids_of o.links) → c < length rs) → ((c : ℕ) → 0 < count c (kids_of p.links) → c < length rs)
      → same_reading (read_object rs o) (read_object rs p) ≡ same_object o p
  same-twin o p h k = same-links o.links p.links o.bytes p.bytes h k

  -- equal readings have equal ids
  pub distinct-id : (i j : ℕ) → i < length rs → j < length rs → reading_at rs i ≡ reading_at rs j → i ≡ j
  unfolding Distinct
  distinct-id i j a b e = eqb-true i j (sym (d i j a b) ∙ rw e (reading-self (reading_at rs j)))

  -- a reading that none of them has is one more
  pub distinct_snoc : (r : Reading) → length rs ≤ first_that (same_reading r) rs → Distinct (rs ++ (r ∷ []))
  unfolding Distinct
  distinct_snoc r h i j a b =
      let e = length-append rs (r ∷ []) in
      at_snoc (λ i x. (j : ℕ) → i ≤ length rs → j ≤ length rs → same_reading x (reading_at (rs ++ (r ∷ [])) j) ≡ eqb i j) rs r (bytes [])
      (λ i n j a b. old i (omega arith) j b) (λ j a b. new j b) i j (omega arith) (omega arith)
    where
      old : (i : ℕ) → i < length rs → (j : ℕ) → j ≤ length rs → same_reading (reading_at rs i) (reading_at (rs ++ (r ∷ [])) j) ≡ eqb i j
      old i a =
          at_snoc (λ j y. j ≤ length rs → same_reading (reading_at rs i) y ≡ eqb i j) rs r (bytes []) (λ j n b. d i j a (omega arith))
          (λ b. reading-other r (reading_at rs i) (first-none (same_reading r) rs (bytes []) i (omega arith)) ∙ sym (ne_eqb i (length rs) (λ e. omega arith)))

      new : (j : ℕ) → j ≤ length rs → same_reading r (reading_at (rs ++ (r ∷ [])) j) ≡ eqb (length rs) j
      new =
          at_snoc (λ j y. j ≤ length rs → same_reading r y ≡ eqb (length rs) j) rs r (bytes [])
          (λ j n b. first-none (same_reading r) rs (bytes []) j (omega arith) ∙ sym (ne_eqb (length rs) j (λ e. omega arith)))
          (λ b. reading-self r ∙ sym (eq-eqb (length rs) (length rs) refl))

pub readings-count : (os : List Object) → length (readings os) ≡ length os
unfolding readings
readings-count os = omega (arith, readings-length [] os)

-- the session's twin is the history's id
pub twin-id : (os : List Object) → Acyclic (graph_of os) → Distinct (readings os) → (o : Object) → ((c : ℕ) → 0 < count c (kids_of o.links) → c < length os)
    → first_that (same_object o) os ≡ first_that (same_reading (read_object (readings os) o)) (readings os)
unfolding Ranked Reads
twin-id os y d o h =
    let e = readings-count os in
    first-same (same_object o) (same_reading (read_object (readings os) o)) os (readings os) no_object (bytes []) (sym e)
    (λ i k. sym
    (ap (same_reading (read_object (readings os) o)) (readings-read os y i)
    ∙ same-twin (readings os) d o (object_at os i) (λ c m. omega (arith, h c m)) (λ c m. omega (arith, y i c m))))
