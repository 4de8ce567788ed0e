-- By keys: the next is the least of the heap, and what becomes ready by it is pushed.
use mathlib.Core.Path.{◌≡◌, sym, ap, ◌∙◌}
use Prim.Native.Nat.{ℕ, ◌+◌, ◌-◌, ◌≤◌, ◌<◌}
use mathlib.Core.List.{List, [], ◌∷◌, ◌++◌}
use native.Mathlib.Omega.{arith}
use lib.ListN.{length, get_or, set, take, drop}
use lib.Seq.{take-take, take_at, drop_at}
use Rattle.regions.specs.Region.{ceiling, Kept}
use Rattle.regions.proofs.Laws.{region-length, region-over, region-push}
use Rattle.regions.proofs.Bounds.{ceiling-append}
use Rattle.regions.proofs.Frame.{kept_then, kept_set, kept_less, kept-below, kept_above}
use Rattle.work.specs.Areas.{Apart}
use Rattle.work.specs.declared.Areas.{Areas}
use Rattle.work.specs.Views.{keys_in, key_in, waiting_in, arrived_in, heap_in, order_in}
use Rattle.model_orders.specs.Bag.{without, least}
use Rattle.order_graph.specs.Graph.{graph_on}
use Rattle.order_graph.proofs.Links.{front_kept, stands-kept}
use Rattle.order_heap.proofs.Stamped.{stamped-long}
use Rattle.order_release.specs.Release.{Arrivals, released_all, arrivals_of, Live, ReleasedAll}
use Rattle.order_ready.specs.Ready.{Holds, TookLeast, Pushing, PushedAll}
use Rattle.order_place.specs.Place.{RootInHeap, OrderFound}
use Rattle.order_place.proofs.Turns.{new, turn-next, turn-arrived}
use Rattle.order_place.proofs.Starting.{keys_kept}
use Rattle.order_place.proofs.Between.{Between, between_first, between-last}

-- the ready nodes are in the heap
pub record Heaping (a : Areas) (n root m q : ℕ) (ready w₀ w : List ℕ) : Type 0 where
  pub between : Between (key_in a w₀) a a.arrived n root m q ready w₀ w
  pub holds : Holds a m (m - q) ready w
  pub ids : ceiling (order_in a q w) ≤ n

pub record HeapTurn (a : Areas) (n root m q : ℕ) (w₀ w : List ℕ) : Type 0 where
  pub ready : List ℕ
  pub heaping : Heaping a n root m q ready w₀ w

pub heaping-first : {a : Areas} {n root : ℕ} {w : List ℕ} → RootInHeap a n root w → HeapTurn a n root 1 0 w w
unfolding ceiling
heaping-first {a} {n} {root} {w} s =
    record { ready = root ∷ []; heaping = record { between = between_first (key_in a w) s.ready; holds = s.holds; ids = omega arith } }

-- keys and arrivals stand, and so do the words of the heap
holds_kept : {a : Areas} {m k : ℕ} {ready w w' : List ℕ} → keys_in a w' ≡ keys_in a w → arrived_in a m w' ≡ arrived_in a m w → heap_in a k w' ≡ heap_in a k w
    → Holds a m k ready w → Holds a m k ready w'
holds_kept {a} {m} {k} {ready} {w} {w'} keys arrived heap s =
    let key : key_in a w' ≡ key_in a w = ap {B = ℕ → ℕ} (λ (ks : List ℕ) (i : ℕ). get_or ks i 0) keys in
    record { heaped = rw heap s.heaped; stamped = rw (key, arrived, heap) s.stamped }

-- so does what release asks, where the heap and the order alone are written
live-kept : {a : Areas} {n m : ℕ} {w w' : List ℕ} → Live a a.arrived n m w → Kept a.heap a.incoming w w' → Live a a.arrived n m w'
live-kept {a} {n} {m} {w} {w'} s k =
    record {
      graph = stands-kept s.graph k (omega (arith, s.area.apart));
      area = s.area;
      ids = rw (kept-below k a.arrived m (omega (arith, s.area.apart, s.room))) s.ids;
      room = rw (kept-below k a.waiting a.nodes (omega (arith, s.area.apart))) s.room;
    }

module _ {a : Areas} {n root m q : ℕ} {ready w₀ w : List ℕ} (s : Heaping a n root m q ready w₀ w) where
  abbrev live : Live a a.arrived n m w
  live = s.between.live

  abbrev apart : Apart a
  apart = live.area.apart

  few : m ≤ a.nodes
  few = omega (arith, live.room)

  held : length ready ≡ m - q
  held = stamped-long s.holds.stamped ∙ region-length a.heap (m - q) w (omega (arith, few, live.graph, apart))

  -- ---- the least is taken out, and placed

  module _ (h : q < m) {i : ℕ} {w₁ : List ℕ} (t : TookLeast a n m (m - q) i w w₁) where
    abbrev w₂ : List ℕ
    w₂ = set w₁ (a.order + q) i

    kept₂ : Kept a.heap a.incoming w w₂
    kept₂ =
        kept_then (kept_less t.kept a.heap a.incoming (omega arith) (omega (arith, apart)))
        (kept_set a.heap a.incoming w₁ (a.order + q) i (omega (arith, apart)) (omega (arith, apart, few)))

    arrived₂ : arrived_in a m w₂ ≡ arrived_in a m w
    arrived₂ = kept-below kept₂ a.arrived m (omega (arith, apart, few))

    counts₂ : waiting_in a w₂ ≡ waiting_in a w
    counts₂ = kept-below kept₂ a.waiting a.nodes (omega (arith, apart))

    order₂ : order_in a (q + 1) w₂ ≡ order_in a q w ++ (i ∷ [])
    order₂ =
        region-push a.order q w₁ i (omega (arith, t.kept.long, few, live.graph, apart))
        ∙ ap (λ (o : List ℕ). o ++ (i ∷ [])) (kept_above t.kept a.order q (omega arith))

    -- ---- its links taken off

    module _ {m' : ℕ} {w₃ : List ℕ} (z : ReleasedAll a a.arrived n i m m' w₂ w₃) where
      kept₃ : Kept a.waiting a.incoming w w₃
      kept₃ =
          kept_then (kept_less kept₂ a.waiting a.incoming (omega (arith, apart)) (omega arith))
          (kept_less z.done.kept a.waiting a.incoming (omega arith) (omega (arith, apart)))

      keys₃ : keys_in a w₃ ≡ keys_in a w
      keys₃ = keys_kept apart kept₃

      heap₃ : (k : ℕ) → k ≤ a.nodes → heap_in a k w₃ ≡ heap_in a k w₁
      heap₃ k few-k =
          kept_above z.done.kept a.heap k (omega (arith, apart))
          ∙ region-over a.heap k w₁ (a.order + q) i (omega (arith, apart))

      order₃ : order_in a (q + 1) w₃ ≡ order_in a q w ++ (i ∷ [])
      order₃ = kept_above z.done.kept a.order (q + 1) (omega (arith, apart)) ∙ order₂

-- ---- one turn, with some node ready

module _ {a : Areas} {n root m q x : ℕ} {rs w₀ w : List ℕ} (r : RootInHeap a n root w₀) (s : Heaping a n root m q (x ∷ rs) w₀ w) (h : q < m) {i m' : ℕ} {w₁ w₃ : List ℕ}
    (t : TookLeast a n m (m - q) i w w₁) (z : ReleasedAll a a.arrived n i m m' (set w₁ (a.order + q) i) w₃) where
  took : (i ≡ least (key_in a w) x rs) × Holds a m (m - q - 1) (without i (x ∷ rs)) w₁
  took = t.least x rs s.holds

  is-least : i ≡ least (key_in a w₀) x rs
  is-least = took.0 ∙ ap (λ (ks : List ℕ). least (λ j. get_or ks j 0) x rs) (keys_kept (apart s) s.between.kept)

  pushing : Pushing a n m m' (m - q - 1) w₃
  pushing =
      record {
        graph = z.live.graph;
        small = rw (keys₃ s h t z, keys_kept (apart s) s.between.kept) r.small;
        few = omega (arith, z.live.room);
        more = z.more;
        some = omega arith;
        ids = z.live.ids;
        heaped = rw (heap₃ s h t z (m - q - 1) (omega (arith, few s))) took.1.heaped;
      }

  -- those that become ready
  abbrev arrivals : List ℕ
  arrivals = new s.between.turn

  front₂ : take a.keys (set w₁ (a.order + q) i) ≡ take a.keys w₀
  front₂ = front_kept (live s).graph (kept₂ s h t) (omega (arith, apart s)) ∙ front_kept r.ready.start.graph s.between.kept (omega (arith, apart s))

  released : arrivals_of a a.arrived m' w₃ ≡ released_all ((graph_on a n w₀).links (least (key_in a w₀) x rs)) (arrivals_of a a.arrived m w)
  released = z.done.arrivals ∙ rw (front₂, arrived₂ s h t, counts₂ s h t, is-least)

  arrived₃ : arrived_in a m' w₃ ≡ arrived_in a m w ++ arrivals
  arrived₃ = ap (λ (v : Arrivals). v.arrived) released ∙ turn-arrived s.between.turn (arrived_in a m w)

  long : length (arrived_in a m w) ≡ m
  long = region-length a.arrived m w (omega (arith, few s, (live s).graph, apart s))

  same-arrived : arrived_in a m w₃ ≡ arrived_in a m w
  same-arrived = sym (take-take m m' (drop a.arrived w₃) z.more) ∙ ap (take m) arrived₃ ∙ take_at (arrived_in a m w) arrivals m long

  fresh : drop m (arrived_in a m' w₃) ≡ arrivals
  fresh = ap (drop m) arrived₃ ∙ drop_at (arrived_in a m w) arrivals m long

  module _ {w₄ : List ℕ} (p : PushedAll a m m' (m - q - 1) w₃ w₄) where
    order₄ : order_in a (q + 1) w₄ ≡ order_in a q w ++ (i ∷ [])
    order₄ = kept_above p.kept a.order (q + 1) (omega arith) ∙ order₃ s h t z

    counts₄ : waiting_in a w₄ ≡ (released_all ((graph_on a n w₀).links (least (key_in a w₀) x rs)) (arrivals_of a a.arrived m w)).counts
    counts₄ = kept-below p.kept a.waiting a.nodes (omega (arith, apart s)) ∙ ap (λ (v : Arrivals). v.counts) released

    holds₄ : Holds a m' (m' - (q + 1)) (without i (x ∷ rs) ++ arrivals) w₄
    holds₄ =
        let e : m - q - 1 + (m' - m) ≡ m' - (q + 1) = omega (arith, z.more) in
        let keys₁ = kept-below t.kept a.keys a.nodes (omega (arith, apart s)) in
        let arrived₁ = kept-below t.kept a.arrived m (omega (arith, apart s, few s)) in
        rw (e, fresh) at (p.held (without i (x ∷ rs)) (holds_kept (keys₃ s h t z ∙ sym keys₁) (same-arrived ∙ sym arrived₁) (heap₃ s h t z (m - q - 1) (omega (arith, few s))) took.1))

    next : HeapTurn a n root m' (q + 1) w₀ w₄
    unfolding ceiling
    next =
        record {
          ready = without i (x ∷ rs) ++ arrivals;
          heaping =
              record {
                between =
                    record {
                      kept = kept_then s.between.kept (kept_then (kept₃ s h t z) (kept_less p.kept a.waiting a.incoming (omega (arith, apart s)) (omega (arith, apart s))));
                      live = live-kept z.live (kept_less p.kept a.heap a.incoming (omega arith) (omega (arith, apart s)));
                      some = omega (arith, z.more);
                      nodes = s.between.nodes;
                      counted = s.between.counted;
                      left = without i s.between.left;
                      turn = rw (order₄, counts₄, is-least) (turn-next s.between.turn (arrived_in a m w));
                    };
                holds = holds₄;
                ids = rw order₄ (omega (arith, ceiling-append (order_in a q w) (i ∷ []), t.known, s.ids));
              };
        }

-- ---- the turns

module _ {a : Areas} {n root m q : ℕ} {w₀ w : List ℕ} (r : RootInHeap a n root w₀) (u : HeapTurn a n root m q w₀ w) where
  pub heap-last : m ≤ q → OrderFound a n root (key_in a w₀) q w₀ w
  heap-last h = go u.ready u.heaping
    where
      go : (ready : List ℕ) → Heaping a n root m q ready w₀ w → OrderFound a n root (key_in a w₀) q w₀ w
      go [] s = record { kept = s.between.kept; nodes = record { few = omega (arith, few s, s.between.some); ids = s.ids }; order = between-last s.between }
      go (x ∷ l) s = absurd (omega (arith, held s))

  module _ (h : q < m) where
    module _ {i : ℕ} {w₁ : List ℕ} (t : TookLeast a n m (m - q) i w w₁) where
      pub heap-placed : Live a a.arrived n m (set w₁ (a.order + q) i)
      heap-placed = live-kept (live u.heaping) (kept₂ u.heaping h t)

      module _ {m' : ℕ} {w₃ : List ℕ} (z : ReleasedAll a a.arrived n i m m' (set w₁ (a.order + q) i) w₃) where
        pub heap-pushing : Pushing a n m m' (m - q - 1) w₃
        heap-pushing = go u.ready u.heaping
          where
            go : (ready : List ℕ) → Heaping a n root m q ready w₀ w → Pushing a n m m' (m - q - 1) w₃
            go [] s = absurd (omega (arith, held s))
            go (x ∷ rs) s = pushing r s h t z

        pub heap-next : {w₄ : List ℕ} → PushedAll a m m' (m - q - 1) w₃ w₄ → HeapTurn a n root m' (q + 1) w₀ w₄
        heap-next {w₄} p = go u.ready u.heaping
          where
            go : (ready : List ℕ) → Heaping a n root m q ready w₀ w → HeapTurn a n root m' (q + 1) w₀ w₄
            go [] s = absurd (omega (arith, held s))
            go (x ∷ rs) s = next r s h t z p
