-- The heap of the ready nodes: the least taken out, more put in.
use mathlib.Core.Path.{◌≡◌, sym, ap, subst, ◌∙◌}
use Prim.Native.Nat.{ℕ, ◌+◌, ◌-◌, ◌≤◌, ◌<◌}
use mathlib.Core.List.{List, [], ◌∷◌, ◌++◌, append_assoc}
use native.Mathlib.Omega.{arith}
use lib.ListN.{length, get_or, drop}
use lib.Seq.{drop_at, drop-append-le, take-take}
use Rattle.regions.specs.Region.{Kept}
use Rattle.regions.proofs.Laws.{region-at, region-length, region-next}
use Rattle.regions.proofs.Frame.{kept_then, kept-below}
use Rattle.regions.proofs.Bounds.{ceiling-at, ceiling-take}
use Rattle.work.specs.declared.Areas.{Areas}
use Rattle.work.specs.Views.{keys_in, key_in, arrived_in}
use Rattle.order_graph.specs.Graph.{Stands}
use Rattle.order_graph.proofs.Links.{stands-kept}
use Rattle.order_heap.specs.Stamps.{stamp, arrival_of, node_of, Stamped}
use Rattle.order_heap.proofs.Stamped.{stamped-more, stamped-least, stamped-arrived}
use Rattle.order_ready.specs.Ready.{most_key, InHeap, TookLeast, Pushing, PushedAll}
use Rattle.order_ready.proofs.Lent.{PoppedIn, PushedIn}

-- ---- what stands in front of the heap stays

module _ {a : Areas} {n : ℕ} {w w' : List ℕ} (g : Stands a n w) (s : Kept a.heap a.order w w') where
  keys-stay : keys_in a w' ≡ keys_in a w
  keys-stay = kept-below s a.keys a.nodes (omega arith)

  arrived-stay : (m : ℕ) → m ≤ a.nodes → arrived_in a m w' ≡ arrived_in a m w
  arrived-stay m h = kept-below s a.arrived m (omega arith)

  stamped-stays : {m : ℕ} {ready bag : List ℕ} → m ≤ a.nodes → Stamped (key_in a w) (arrived_in a m w) ready bag → Stamped (key_in a w') (arrived_in a m w') ready bag
  stamped-stays {m} {ready} {bag} h z =
      subst (λ (ks : List ℕ). Stamped (λ i. get_or ks i 0) (arrived_in a m w') ready bag) (sym keys-stay) (rw (arrived-stay m h) z)

-- ---- the least is taken out

module _ {a : Areas} {n m k t : ℕ} {w w' : List ℕ} (s : InHeap a n m k w) (p : PoppedIn a k t w w') where
  pub took-inside : arrival_of t < m
  took-inside = omega (arith, stamped-arrived s.holds.stamped p.least, region-length a.arrived m w (omega arith))

  node-is : get_or w' (a.arrived + arrival_of t) 0 ≡ node_of (arrived_in a m w) (arrival_of t)
  node-is = region-at a.arrived m w' (arrival_of t) took-inside ∙ ap (λ (l : List ℕ). node_of l (arrival_of t)) (arrived-stay s.graph p.kept m s.few)

  pub took-least : TookLeast a n m k (get_or w' (a.arrived + arrival_of t) 0) w w'
  took-least =
      let long = region-length a.arrived m w (omega arith) in
      record {
        kept = p.kept;
        known = omega (arith, node-is, ceiling-at (arrived_in a m w) (arrival_of t) (omega (arith, took-inside, long)));
        least = λ r rs h.
            let z = stamped-least h.stamped p.least p.bag in
            let e = node-is ∙ z.0 in
            (e, record { heaped = p.heaped; stamped = rw e (stamped-stays s.graph p.kept s.few z.1) });
      }

-- ---- one more is put in

module _ {a : Areas} {n m k : ℕ} {w : List ℕ} (s : Pushing a n m (m + 1) k w) where
  -- the node that became ready after m others
  abbrev node : ℕ
  node = get_or w (a.arrived + m) 0

  pub node-known : node < n
  node-known =
      let long = region-length a.arrived (m + 1) w (omega arith) in
      omega (arith, region-at a.arrived (m + 1) w m (omega arith), ceiling-at (arrived_in a (m + 1) w) m (omega arith))

  key-is : get_or w (a.keys + node) 0 ≡ key_in a w node
  key-is = region-at a.keys a.nodes w node (omega (arith, node-known))

  pub key-small : (i : ℕ) → i < a.nodes → get_or w (a.keys + i) 0 < most_key
  key-small i h =
      let long = region-length a.keys a.nodes w (omega arith) in
      omega (arith, region-at a.keys a.nodes w i h, ceiling-at (keys_in a w) i (omega arith))

  pub pushed-one : {w' : List ℕ} → PushedIn a k (stamp (get_or w (a.keys + node) 0) m) w w' → PushedAll a m (m + 1) k w w'
  pushed-one p =
      let one : m + 1 - m ≡ 1 = omega arith in
      let long : length (arrived_in a m w) ≡ m = region-length a.arrived m w (omega arith) in
      let next : arrived_in a (m + 1) w ≡ arrived_in a m w ++ (node ∷ []) = region-next a.arrived m w (omega arith) in
      let last : drop m (arrived_in a (m + 1) w) ≡ node ∷ [] = ap (drop m) next ∙ drop_at (arrived_in a m w) (node ∷ []) m long in
      record {
        kept = p.kept;
        heaped = rw one p.heaped;
        held = λ ready h.
            rw (one, last)
            (record {
              heaped = p.heaped;
              stamped =
                  stamped-stays s.graph p.kept s.few
                  (rw next (stamped-more node h.stamped (omega arith) (rw (long, ← key-is) p.bag)));
            });
      }

-- ---- all are put in, one after the other

-- those up to j are put in
pub record PushesTo (a : Areas) (from to k j : ℕ) (w₀ w : List ℕ) : Type 0 where
  pub low : from ≤ j
  pub high : j ≤ to
  pub done : PushedAll a from j k w₀ w

module _ {a : Areas} {n from to k : ℕ} {w₀ : List ℕ} (s : Pushing a n from to k w₀) where
  module _ {j : ℕ} {w : List ℕ} (i : PushesTo a from to k j w₀ w) where
    abbrev held : ℕ
    held = k + (j - from)

    arrived-same : (m : ℕ) → m ≤ to → arrived_in a m w ≡ arrived_in a m w₀
    arrived-same m h = arrived-stay s.graph i.done.kept m (omega arith)

    pub pushes-asks : j < to → Pushing a n j (j + 1) held w
    pushes-asks h =
        record {
          graph = stands-kept s.graph i.done.kept (omega arith);
          small = rw (keys-stay s.graph i.done.kept) s.small;
          few = omega arith;
          more = omega arith;
          some = omega arith;
          ids =
              rw (arrived-same (j + 1) (omega arith), ← take-take (j + 1) to (drop a.arrived w₀) (omega arith))
              (omega (arith, ceiling-take (j + 1) (arrived_in a to w₀)));
          heaped = i.done.heaped;
        }

    pub pushes-next : {w' : List ℕ} → j < to → PushedAll a j (j + 1) held w w' → PushesTo a from to k (j + 1) w₀ w'
    pushes-next {w'} h p =
        let one : held + (j + 1 - j) ≡ k + (j + 1 - from) = omega arith in
        let long : length (arrived_in a j w₀) ≡ j = region-length a.arrived j w₀ (omega arith) in
        let node : ℕ = get_or w₀ (a.arrived + j) 0 in
        let next : arrived_in a (j + 1) w₀ ≡ arrived_in a j w₀ ++ (node ∷ []) = region-next a.arrived j w₀ (omega arith) in
        let last : drop j (arrived_in a (j + 1) w) ≡ node ∷ [] =
        ap (drop j) (arrived-same (j + 1) (omega arith) ∙ next) ∙ drop_at (arrived_in a j w₀) (node ∷ []) j long in
        let more : drop from (arrived_in a (j + 1) w₀) ≡ drop from (arrived_in a j w₀) ++ (node ∷ []) =
        ap (drop from) next ∙ drop-append-le from (arrived_in a j w₀) (node ∷ []) (omega arith) in
        record {
          low = omega arith;
          high = omega arith;
          done =
              record {
                kept = kept_then i.done.kept p.kept;
                heaped = rw one at p.heaped;
                held = λ ready z.
                    rw (more, ← append_assoc ready (drop from (arrived_in a j w₀)) (node ∷ []))
                    (rw (one, last) at (p.held (ready ++ drop from (arrived_in a j w₀)) (i.done.held ready z)));
              };
        }
