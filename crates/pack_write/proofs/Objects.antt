-- The objects of an order, written one at a time.
use mathlib.Core.Path.{◌≡◌, refl, sym, ap, ◌∙◌}
use Prim.Native.Nat.{ℕ, ◌+◌, ◌-◌, ◌≤◌, ◌<◌}
use mathlib.Core.List.{List, [], ◌∷◌, ◌++◌}
use native.Mathlib.Nat.{zero-add}
use native.Mathlib.Omega.{arith}
use lib.ListN.{length, get_or, take, drop, drop_of_length-le, length-append}
use lib.Seq.{drop-append_seam}
use Rattle.lists.specs.Lists.{part, total, over}
use Rattle.lists.proofs.Runs.{drop-first, over_none, length_part}
use Rattle.lists.proofs.Frames.{part_join}
use Rattle.lists.proofs.Over.{length_over}
use Rattle.lists.proofs.Overs.{over-then, over-lent}
use Rattle.regions.specs.Region.{ceiling}
use Rattle.regions.proofs.Laws.{region-at}
use Rattle.regions.proofs.Bounds.{ceiling-drop}
use Rattle.memory_copy.proofs.Steps.{over-over}
use Rattle.answer.specs.declared.ObjectId.{ObjectId}
use Rattle.model_orders.specs.Object.{Object}
use Rattle.model_orders.specs.Graph.{Graph, Closed}
use Rattle.model_orders.specs.Bag.{count}
use Rattle.model_orders.specs.Table.{place_of, filled, object_bytes, table_from, table_of, FieldsIn}
use Rattle.model_orders.proofs.Filled.{length-filled}
use Rattle.model_orders.proofs.Written.{filled-over, filled-same, count_at, before_at}
use Rattle.model.proofs.Growth.{fields-room}
use Rattle.layout.specs.Words.{object_limit, closed_count}
use Rattle.layout.specs.Spans.{closed_span, Lies}
use Rattle.layout.specs.Known.{Tested}
use Rattle.layout.specs.declared.span.Span.{Span}
use Rattle.layout.specs.declared.state.State.{State}
use Rattle.layout.proofs.Facts.{sound-known, words-read}
use Rattle.steps.proofs.Formed.{decoded-at}
use Rattle.work.specs.Views.{order_in, places_in, origin_in}
use Rattle.work.specs.declared.Areas.{Areas}
use Rattle.order_graph.specs.Graph.{graph_on, object_of, AtNode}
use Rattle.order_fit.specs.Fit.{offset_by, Placing}
use Rattle.order_fit.proofs.Summing.{order-long}
use Rattle.order_resolve.specs.declared.Arranged.{Arranged}
use Rattle.pack_write.specs.Write.{bytes_of, Writing, table_for}

-- ---- written over the front of what is as long, and over a part of which more was written

over-front : (vs us es : List ℕ) → length vs ≡ length us → over 0 vs (us ++ es) ≡ vs ++ es
unfolding over
over-front vs us es n = rw (zero-add, n, drop-append_seam us es)

over-past : (i : ℕ) (us es vs l : List ℕ) → length es ≤ length vs → i + length us + length vs ≤ length l
    → over (i + length us) vs (over i (us ++ es) l) ≡ over i (us ++ vs) l
over-past i us es vs l h b =
    let k : i + length us ≤ length l = omega arith in
    ap (over (i + length us) vs) (sym (over-then i us l k es))
    ∙ over-over (i + length us) es vs (over i us l) h (omega (arith, length_over i us l k))
    ∙ over-then i us l k vs

-- ---- the objects of an order in graph g, by the bytes of each node

-- the bytes of the table from object t of the order on
abbrev rest : Graph → (ℕ → List ℕ) → List ℕ → ℕ → List ℕ
rest g bytes o t = table_from g bytes (place_of g o) (drop t o)

-- d₀ has become d: t objects of the order o, which has r, are written, and the next begins at `next`
pub record Objects (g : Graph) (bytes : ℕ → List ℕ) (o : List ℕ) (r t : ℕ) (d₀ d : List ℕ) : Type 0 where
  pub long : length d ≡ length d₀
  pub next : ℕ
  pub next-is : next + total g.size (drop t o) ≡ total g.size o
  pub left : over next (rest g bytes o t) d ≡ over 0 (table_of g bytes o) d₀

pub objects-none : (g : Graph) (bytes : ℕ → List ℕ) (o : List ℕ) (r : ℕ) (d : List ℕ) → Objects g bytes o r 0 d d
unfolding table_of
objects-none g bytes o r d = record { long = refl; next = 0; next-is = omega arith; left = refl }

module _ {b w m : List ℕ} {s : State} {a : Areas} {made : Arranged} (c : Writing b w s a made m) where
  abbrev nodes : ℕ
  nodes = made.nodes

  abbrev r : ℕ
  r = made.placed

  abbrev size : ℕ
  size = made.length

  abbrev order : List ℕ
  order = order_in a r m

  abbrev g : Graph
  g = graph_on a nodes m

  abbrev bytes : ℕ → List ℕ
  bytes = bytes_of b w a s.closed m

  pub table-placing : Placing a nodes r m
  table-placing = record { graph = c.graph; nodes = c.ids }

  pub objects-all : {t : ℕ} {d₀ d : List ℕ} → Objects g bytes order r t d₀ d → r ≤ t → d ≡ over 0 (table_for b w a s.closed nodes r m) d₀
  unfolding table_from
  objects-all {t} o h =
      let k : length order ≤ t = omega (arith, order-long table-placing) in
      rw (drop_of_length-le order {i = t} k, table_from, over_none) at o.left

  object-size : (i : ℕ) → i < nodes → length (object_bytes g bytes (place_of g order) i) ≡ g.size i
  unfolding object_bytes
  object-size i h = length-filled _ 0 (g.size i) (g.links i) (bytes i) (c.each i h).sized (c.each i h).fields

  rest-size : (l : List ℕ) → ceiling l ≤ nodes → length (table_from g bytes (place_of g order) l) ≡ total g.size l
  unfolding table_from ceiling total
  rest-size [] h = refl
  rest-size (i ∷ l) h =
      omega (arith, length-append (object_bytes g bytes (place_of g order) i) (table_from g bytes (place_of g order) l), object-size i (omega arith), rest-size l (omega arith))

  -- the node with number t in the order, as read
  module _ {t i : ℕ} (h : t < r) (e : (i < nodes) × (i ≡ get_or order t 0)) where
    inside : t < length order
    inside = omega (arith, order-long table-placing)

    abbrev object : ℕ
    object = origin_in a s.closed m i

    known : object < closed_count w
    known = omega (arith, c.owned.object i e.0, c.read.closed_is)

    pub object-node : AtNode a nodes i m
    object-node = record { graph = c.graph; inside = e.0 }

    placed : 0 < count i order
    placed = rw e.1 (count_at order t inside)

    -- its place
    abbrev place : ℕ
    place = get_or m (a.places + i) 0

    place_is : place ≡ place_of g order i
    place_is = region-at a.places a.nodes m i (omega (arith, e.0, c.graph.tidy.nodes)) ∙ c.places i placed

    first : drop t order ≡ i ∷ drop (t + 1) order
    first = rw e.1 (drop-first t order inside)

    sizes : total g.size (drop t order) ≡ g.size i + total g.size (drop (t + 1) order)
    unfolding total
    sizes = ap (total g.size) first

    -- the node as it stands in the table
    written : List ℕ
    written = object_bytes g bytes (place_of g order) i

    written-size : length written ≡ g.size i
    unfolding written
    written-size = object-size i e.0

    rest-is : rest g bytes order t ≡ written ++ rest g bytes order (t + 1)
    unfolding table_from written
    rest-is = ap (table_from g bytes (place_of g order)) first

    written-filled : filled (offset_by (places_in a m) i) (g.links i) (bytes i) ≡ written
    unfolding object_bytes Closed written
    written-filled =
        filled-same (λ k. get_or (places_in a m) k 0) (place_of g order) i (c.places i placed) (g.links i) (λ k q. c.places k (c.closed i k placed q)) (bytes i)

    module _ {d₀ d : List ℕ} (o : Objects g bytes order r t d₀ d) where
      next_place : o.next ≡ place
      next_place = omega (arith, place_is, rw (← e.1) at (before_at g.size order t c.once inside), o.next-is)

      place-left : place + total g.size (drop t order) ≡ size
      place-left = omega (arith, next_place, o.next-is, c.size_is)

      pub place-low : place + g.size i ≤ size
      place-low = omega (arith, place-left, sizes)

    -- where its object's bytes lie is found by the object's id
    pub span-asked : {id : ObjectId} → id ≡ object_of object → Tested w × (s.objects ≡ object_limit w) × (id.0 < closed_count w)
    span-asked id-is = ((words-read c.read).tested, c.read.objects_is, rw id-is known)

    module _ {id : ObjectId} {x : Span} (id-is : id ≡ object_of object) (lies : Lies w (closed_span w id.0) x) where
      span-is : x ≡ closed_span w object
      span-is = lies.is ∙ ap (λ (k : ObjectId). closed_span w k.0) id-is

      bytes-are : part x.from x.to b ≡ bytes i
      bytes-are = rw span-is (sym (ap (λ (o : Object). o.bytes) (decoded-at b w object known)))

      bytes-order : x.from ≤ x.to
      bytes-order = lies.within.order

      bytes_inside : x.to ≤ length b
      bytes_inside = omega (arith, lies.within.inside, (sound-known c.read).head.size)

      pub wide-asked : {d₀ d : List ℕ} → Objects g bytes order r t d₀ d → (x.from ≤ x.to) × (x.to ≤ length b) × (x.to - x.from ≤ size - place)
      wide-asked o = (
        bytes-order,
        bytes_inside,
        omega (arith, place-low o, length_part x.from x.to b bytes_inside, ap length bytes-are, (c.each i e.0).sized),
      )

      -- its bytes, and those behind them in the store up to `end`
      module _ {end : ℕ} (low : x.to ≤ end) (high : end ≤ length b) where
        abbrev more : List ℕ
        more = part x.to end b

        bytes-wide : part x.from end b ≡ bytes i ++ more
        bytes-wide = sym (part_join x.from x.to end b bytes-order low) ∙ ap (λ (k : List ℕ). k ++ more) bytes-are

        more-size : g.size i + length more ≡ end - x.from
        more-size =
            omega (
              arith,
              bytes-order,
              length_part x.to end b high,
              length_part x.from x.to b bytes_inside,
              ap length bytes-are,
              (c.each i e.0).sized,
            )

        fields-own : FieldsIn 0 (length (bytes i)) (g.links i)
        fields-own = rw (c.each i e.0).sized (c.each i e.0).fields

        pub object-fields : FieldsIn 0 (length (part x.from end b)) (g.links i)
        object-fields = fields-room 0 _ _ _ (omega (arith, ap length bytes-wide, length-append (bytes i) more)) fields-own

        -- no field lies behind its own bytes
        written-wide : filled (offset_by (places_in a m) i) (g.links i) (part x.from end b) ≡ written ++ more
        written-wide =
            let off = offset_by (places_in a m) i in
            let ls = g.links i in
            ap (filled off ls) (bytes-wide ∙ sym (over-front (bytes i) (bytes i) more refl))
            ∙ filled-over off ls (bytes i) (bytes i ++ more) fields-own
            ∙ over-front (filled off ls (bytes i)) (bytes i) more (length-filled off 0 (length (bytes i)) ls (bytes i) refl fields-own)
            ∙ ap (λ (k : List ℕ). k ++ more) written-filled

        module _ {d₀ d : List ℕ} (o : Objects g bytes order r t d₀ d) (fits : size ≤ length d₀) (within : end - x.from ≤ size - place) where
          pub object-room : place + length (part x.from end b) ≤ length d
          object-room =
              omega (arith, place-low o, ap length bytes-wide, length-append (bytes i) more, (c.each i e.0).sized, more-size, o.long)

          pub objects-next : {y : List ℕ}
              → y ≡ over 0 (filled (offset_by (places_in a m) i) (g.links i) (part x.from end b)) (take (length d - place) (drop place d))
              → Objects g bytes order r (t + 1) d₀ (take place d ++ (y ++ drop (length d - place) (drop place d)))
          objects-next q =
              let n : length (written ++ more) ≡ end - x.from = omega (arith, length-append written more, written-size, more-size) in
              let k : place + length (written ++ more) ≤ length d = omega (arith, n, place-low o, o.long) in
              let behind = rest-size (drop (t + 1) order) (omega (arith, c.ids.ids, ceiling-drop (t + 1) order)) in
              let all = place-left o in
              rw (q, written-wide, over-lent place (written ++ more) d k)
              (record {
                long = length_over place (written ++ more) d k ∙ o.long;
                next = place + length written;
                next-is = omega (arith, written-size, all, sizes, c.size_is);
                left =
                    over-past place written more (rest g bytes order (t + 1)) d (omega (arith, behind, n, length-append written more, written-size, all, sizes)) (omega (arith, behind, written-size, all, sizes, o.long))
                    ∙ rw (← rest-is, ← next_place o) o.left;
              })
