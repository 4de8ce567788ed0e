-- All keys alike: the next is the longest ready, and the order is itself the queue.
use mathlib.Core.Path.{◌≡◌, refl, sym, ap, ◌∙◌}
use Prim.Native.Nat.{ℕ, ◌+◌, ◌≤◌, ◌<◌}
use mathlib.Core.List.{List, [], ◌∷◌, ◌++◌}
use native.Mathlib.Omega.{arith}
use native.Mathlib.Numerals.{add-one}
use lib.ListN.{length, get_or, take, drop, drop_of_length-le}
use lib.Seq.{take-take, take-append-le, drop-cons, drop-append-le}
use Rattle.regions.proofs.Laws.{region-length, region-at, region-next}
use Rattle.regions.proofs.Bounds.{ceiling-at}
use Rattle.regions.proofs.Frame.{kept_then, kept_less}
use Rattle.work.specs.declared.Areas.{Areas}
use Rattle.work.specs.Views.{order_in}
use Rattle.model_orders.specs.Bag.{without, least}
use Rattle.order_graph.specs.Graph.{graph_on}
use Rattle.order_graph.proofs.Links.{front_kept}
use Rattle.order_heap.proofs.Leading.{without-first}
use Rattle.order_release.specs.Release.{Arrivals, ReleasedAll}
use Rattle.order_place.specs.Place.{same_key, RootReady, OrderFound}
use Rattle.order_place.proofs.Turns.{Turn, turn-next, turn-arrived}
use Rattle.order_place.proofs.Between.{Between, between_first, between-last}

least-same : (x : ℕ) (l : List ℕ) → least same_key x l ≡ x
unfolding least
least-same x [] = refl
least-same x (y ∷ l) = least-same x l

-- those in the order that are not placed yet are the ready ones
pub record Queued (a : Areas) (n root m q : ℕ) (w₀ w : List ℕ) : Type 0 where
  pub between : Between same_key a a.order n root m q (drop q (order_in a m w)) w₀ w

pub queued-first : {a : Areas} {n root : ℕ} {w : List ℕ} → RootReady a a.order n root w → Queued a n root 1 0 w w
queued-first r = record { between = rw r.first (between_first same_key r) }

module _ {a : Areas} {n root m q : ℕ} {w₀ w : List ℕ} (r : RootReady a a.order n root w₀) (s : Queued a n root m q w₀ w) where
  abbrev b : Between same_key a a.order n root m q (drop q (order_in a m w)) w₀ w
  b = s.between

  long : length (order_in a m w) ≡ m
  long = region-length a.order m w (omega (arith, b.live.graph, b.live.graph.apart, b.live.room))

  module _ (h : q < m) where
    abbrev i : ℕ
    i = get_or w (a.order + q) 0

    here : i ≡ get_or (order_in a m w) q 0
    here = region-at a.order m w q h

    pub queued-known : i < n
    queued-known = omega (arith, here, ceiling-at (order_in a m w) q (omega (arith, long)), b.live.ids)

    abbrev rest : List ℕ
    rest = drop (q + 1) (order_in a m w)

    split : drop q (order_in a m w) ≡ i ∷ rest
    split = rw (here, add-one) (drop-cons (order_in a m w) q 0 (omega (arith, long)))

    pub queued-next : {m' : ℕ} {w' : List ℕ} → ReleasedAll a a.order n i m m' w w' → Queued a n root m' (q + 1) w₀ w'
    queued-next {m'} {w'} z =
        let t : Turn same_key (graph_on a n w₀) b.nodes root _ (order_in a q w) b.left (i ∷ rest) = rw split at b.turn in
        let front = front_kept r.start.graph b.kept (omega (arith, r.area.apart)) in
        let next : least same_key i rest ≡ i = least-same i rest in
        let stays : without i (i ∷ rest) ≡ rest = without-first i rest in
        let u = rw (next, stays) at (turn-next t (order_in a m w)) in
        let more = rw next at (turn-arrived t (order_in a m w)) in
        let done = rw front at z.done.arrivals in
        let order : order_in a m' w' ≡ order_in a m w ++ _ = ap (λ (s : Arrivals). s.arrived) done ∙ more in
        let ready = ap (drop (q + 1)) order ∙ drop-append-le (q + 1) (order_in a m w) _ (omega (arith, long)) in
        let placed : order_in a (q + 1) w' ≡ order_in a q w ++ (i ∷ []) =
        sym (take-take (q + 1) m' (drop a.order w') (omega (arith, z.more))) ∙ ap (take (q + 1)) order ∙ take-append-le (q + 1) (order_in a m w) _ (omega (arith, long))
        ∙ take-take (q + 1) m (drop a.order w) (omega arith) ∙ region-next a.order q w (omega (arith, b.live.graph, b.live.graph.apart, b.live.room)) in
        record {
          between =
              record {
                kept = kept_then b.kept (kept_less z.done.kept a.waiting a.incoming (omega arith) (omega (arith, r.area.apart)));
                live = z.live;
                some = omega (arith, z.more);
                nodes = b.nodes;
                counted = b.counted;
                left = without i b.left;
                turn = rw (ready, placed, ap (λ (s : Arrivals). s.counts) done) u;
              };
        }

  pub queued-last : m ≤ q → OrderFound a n root same_key q w₀ w
  queued-last h =
      let e : q ≡ m = omega (arith, b.some) in
      let none : drop q (order_in a m w) ≡ [] = drop_of_length-le (order_in a m w) {i = q} (omega (arith, long)) in
      record {
        kept = b.kept;
        nodes = record { few = omega (arith, b.live.room); ids = rw e b.live.ids };
        order = between-last (rw none at b);
      }
