-- Nodes that become ready and are taken by least key, with a heap of their stamps. A caller keeps `Stamped`: `stamped-more` carries it
-- over a push, by the bag of `Pushed`; `stamped-least` over a pop, by the least and the bag of `Popped`.
use mathlib.Core.Path.{◌≡◌, refl, sym, ap, ◌∙◌}
use Prim.Native.Nat.{ℕ, suc, ◌+◌, ◌≤◌, ◌<◌}
use mathlib.Core.List.{List, [], ◌∷◌, ◌++◌, map, map-append}
use native.Mathlib.Omega.{arith}
use lib.ListN.{length, get_or, take, drop, length-append, length-map, get_or-append}
use lib.Seq.{get_or_at, split_at}
use Rattle.lists.proofs.Elements.{Each, map_each}
use Rattle.model_orders.specs.Bag.{count, without, least}
use Rattle.model_orders.specs.Space.{spot}
use Rattle.model_orders.proofs.Bags.{count-append, bag-long}
use Rattle.model_orders.proofs.Spots.{map_at, spot_in, spot-at}
use Rattle.order_heap.specs.Heap.{Least, Added}
use Rattle.order_heap.specs.Stamps.{most_arrivals, stamp, arrival_of, node_of, Rises, end, Stamped}
use Rattle.order_heap.proofs.Bags.{count-snoc}
use Rattle.order_heap.proofs.Leading.{least-found, without-found}
use Rattle.order_heap.proofs.Each.{bound-each, each-front, each-behind, each_both}
use Rattle.order_heap.proofs.Rises.{rises-each, rises-more, rises-before, rises-after, rises-without}

abbrev marked : (ℕ → ℕ) → List ℕ → ℕ → ℕ
marked key arrived j = stamp (key (node_of arrived j)) j

-- t is the stamp of one of the numbers
record Found (key : ℕ → ℕ) (arrived js : List ℕ) (t : ℕ) : Type 0 where
  before : List ℕ
  number : ℕ
  after : List ℕ
  cut : js ≡ before ++ (number ∷ after)
  sent : t ≡ marked key arrived number

found : (key : ℕ → ℕ) (arrived js : List ℕ) (t : ℕ) → 0 < count t (map (marked key arrived) js) → Found key arrived js t
found key arrived js t k =
    let f : ℕ → ℕ = marked key arrived in
    let i : ℕ = spot (map f js) t in
    let h : i < length js = omega (arith, spot_in (map f js) t k, length-map js f) in
    record {
      before = take i js;
      number = get_or js i 0;
      after = drop (suc i) js;
      cut = split_at js i 0 h;
      sent = sym (spot-at (map f js) t k) ∙ map_at f js i h;
    }

-- ---- the least stamp is of number j: the keys before it are greater, those behind it no less

module _ (key : ℕ → ℕ) (arrived a b : List ℕ) (j : ℕ) (few : length arrived ≤ most_arrivals) (rises : Rises 0 (a ++ (j ∷ b)) (length arrived))
    (low : Each (λ i. marked key arrived j ≤ marked key arrived i) (a ++ (j ∷ b))) where
  greater : Each (λ i. key (node_of arrived j) < key (node_of arrived i)) a
  greater = each_both (λ i p q. omega (arith, p, q)) (each-front a (j ∷ b) low) (rises-before j b a rises)

  no_less : Each (λ i. key (node_of arrived j) ≤ key (node_of arrived i)) b
  no_less = each_both (λ i p q. omega (arith, p, q.0, q.1)) (each-behind a b j low) (rises-after j b a rises).1

  number-of : arrival_of (marked key arrived j) ≡ j
  number-of = omega (arith, (rises-after j b a rises).0)

  taken : {bag bag' : List ℕ} (r : ℕ) (rs : List ℕ) → r ∷ rs ≡ map (node_of arrived) (a ++ (j ∷ b)) → ((x : ℕ) → count x bag ≡ count x (map (marked key arrived) (a ++ (j ∷ b))))
      → Added (marked key arrived j) bag' bag
      → (node_of arrived (arrival_of (marked key arrived j)) ≡ least key r rs) × Stamped key arrived (without (least key r rs) (r ∷ rs)) bag'
  unfolding count
  taken r rs nodes stamps d =
      let f : ℕ → ℕ = marked key arrived in
      let e : least key r rs ≡ node_of arrived j = least-found key (node_of arrived) j r rs nodes greater no_less in (
        rw (e, number-of),
        record {
          numbers = a ++ b;
          few = few;
          rises = rises-without j b a rises;
          nodes = rw (e, nodes) (without-found key (node_of arrived) j b greater);
          stamps = λ x.
              omega (
                arith,
                d.each x,
                stamps x,
                ap (count x) (map-append f a (j ∷ b)),
                ap (count x) (map-append f a b),
                count-append x (map f a) (map f (j ∷ b)),
                count-append x (map f a) (map f b),
              );
        },
      )

-- ---- the laws

pub stamped-none : (key : ℕ → ℕ) → Stamped key [] [] []
stamped-none key = record { numbers = []; few = omega arith; rises = end; nodes = refl; stamps = λ x. refl }

-- node c becomes ready
pub stamped-more : {key : ℕ → ℕ} {arrived ready bag bag' : List ℕ} (c : ℕ) → Stamped key arrived ready bag → length arrived < most_arrivals
    → Added (stamp (key c) (length arrived)) bag bag' → Stamped key (arrived ++ (c ∷ [])) (ready ++ (c ∷ [])) bag'
stamped-more {key} {arrived} {ready} {bag} {bag'} c s h d =
    let n : ℕ = length arrived in
    let arrived' : List ℕ = arrived ++ (c ∷ []) in
    let long : length arrived' ≡ n + 1 = length-append arrived (c ∷ []) in
    let here : node_of arrived' n ≡ c = get_or_at arrived c [] 0 n refl in
    let stay : (i : ℕ) → (0 ≤ i) × (i < n) → node_of arrived' i ≡ node_of arrived i = λ i p. get_or-append arrived (c ∷ []) 0 i p.1 in
    let each = rises-each s.rises in
    let nodes : map (node_of arrived') s.numbers ≡ map (node_of arrived) s.numbers = map_each (node_of arrived') (node_of arrived) stay each in
    let stamps : map (marked key arrived') s.numbers ≡ map (marked key arrived) s.numbers =
    map_each (marked key arrived') (marked key arrived) (λ i p. ap (λ (x : ℕ). stamp (key x) i) (stay i p)) each in
    record {
      numbers = s.numbers ++ (n ∷ []);
      few = omega arith;
      rises = rw long (rises-more (omega arith) s.rises);
      nodes = rw (map-append (node_of arrived') s.numbers (n ∷ []), nodes, here, ← s.nodes);
      stamps = λ x.
          rw (map-append (marked key arrived') s.numbers (n ∷ []), stamps, here)
          (omega (arith, d.each x, s.stamps x, count-snoc x (stamp (key c) n) (map (marked key arrived) s.numbers)));
    }

-- the least of the bag is of the node that `least` chooses, which its low bits find
pub stamped-least : {key : ℕ → ℕ} {arrived bag bag' rs : List ℕ} {r t : ℕ} → Stamped key arrived (r ∷ rs) bag → Least t bag → Added t bag' bag
    → (node_of arrived (arrival_of t) ≡ least key r rs) × Stamped key arrived (without (least key r rs) (r ∷ rs)) bag'
stamped-least {key} {arrived} {bag} {bag'} {rs} {r} {t} s m d = go s.numbers s.rises s.nodes s.stamps
  where
    f : ℕ → ℕ
    f = marked key arrived

    cut : (js a b : List ℕ) (j : ℕ) → Rises 0 js (length arrived) → r ∷ rs ≡ map (node_of arrived) js → ((x : ℕ) → count x bag ≡ count x (map f js)) → Each (λ i. t ≤ f i) js
        → js ≡ a ++ (j ∷ b) → t ≡ f j → (node_of arrived (arrival_of t) ≡ least key r rs) × Stamped key arrived (without (least key r rs) (r ∷ rs)) bag'
    cut js a b j rises nodes stamps low e h =
        rw h (taken key arrived a b j s.few (rw e at rises) (rw (e, h) at low) r rs (rw e at nodes) (rw e at stamps) (rw h at d))

    go : (js : List ℕ) → Rises 0 js (length arrived) → r ∷ rs ≡ map (node_of arrived) js → ((x : ℕ) → count x bag ≡ count x (map f js))
        → (node_of arrived (arrival_of t) ≡ least key r rs) × Stamped key arrived (without (least key r rs) (r ∷ rs)) bag'
    go js rises nodes stamps =
        let p = found key arrived js t (rw (stamps t) at m.inside) in
        cut js p.before p.after p.number rises nodes stamps (bound-each f t js (λ x k. m.below x (rw (stamps x) k))) p.cut p.sent

-- the least of the bag is of a node that arrived
pub stamped-arrived : {key : ℕ → ℕ} {arrived ready bag : List ℕ} {t : ℕ} → Stamped key arrived ready bag → Least t bag → arrival_of t < length arrived
stamped-arrived {key} {arrived} {t = t} s m =
    let p = found key arrived s.numbers t (rw (s.stamps t) at m.inside) in
    omega (arith, p.sent, s.few, (rises-after p.number p.after p.before (rw p.cut at s.rises)).0)

-- as many nodes are ready as the heap has numbers
pub stamped-long : {key : ℕ → ℕ} {arrived ready bag : List ℕ} → Stamped key arrived ready bag → length ready ≡ length bag
stamped-long {key} {arrived} {ready} {bag} s =
    ap length s.nodes ∙ length-map s.numbers (node_of arrived) ∙ sym (length-map s.numbers (marked key arrived)) ∙ sym (bag-long bag (map (marked key arrived) s.numbers) s.stamps)
