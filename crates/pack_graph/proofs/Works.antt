-- The parts of the code joined: the graph copied, surveyed and arranged, and its table written.
use Rattle.std.specs.Prelude.{Ok, Err}
use mathlib.Core.Path.{◌≡◌, refl, sym, ap, subst, ◌∙◌}
use Prim.Native.Nat.{ℕ, ◌-◌, ◌≤◌, ◌<◌}
use mathlib.Core.List.{List}
use native.Mathlib.Omega.{arith}
use native.Mathlib.Decide.{dec_le}
use lib.ListN.{length, get_or}
use Rattle.lists.specs.Lists.{total}
use Rattle.regions.specs.Region.{Kept}
use Rattle.regions.proofs.Laws.{region-length}
use Rattle.regions.proofs.Frame.{kept_then, kept_less}
use Rattle.answer.specs.declared.tally.Tally.{Tally}
use Rattle.answer.specs.declared.Overflow.{Overflow}
use Rattle.answer.specs.declared.Refusal.TheVariants as Refusal
use Rattle.answer.specs.Answers.{Packing}
use Rattle.model_orders.specs.Bag.{count}
use Rattle.model_orders.specs.Graph.{Graph, graph_of, Acyclic, Closed, Once}
use Rattle.model_orders.specs.Reading.{reading_at, readings}
use Rattle.model_orders.specs.Table.{Outcome, placed, overflow, place_of, table_of, FieldsIn, Fields, Sized}
use Rattle.model_orders.specs.Copies.{Arrangement, arranged, placed_of, content_in, table_by}
use Rattle.model.specs.Session.{content, arranged_in, table_in}
use Rattle.model_orders.proofs.Bags.{total-bag}
use Rattle.model_orders.proofs.Growths.{Base, objects-base, GrewReads}
use Rattle.model_orders.proofs.Written.{table_same}
use Rattle.model_orders.proofs.Arrangements.{Fitting as FitsAll, arranged-chosen, chosen-fitting, arranged-reads, arranged-count}
use Rattle.layout.specs.Words.{closed_count}
use Rattle.layout.specs.Decode.{decode}
use Rattle.layout.specs.declared.state.State.{State}
use Rattle.layout.proofs.Facts.{sound-known, words-read}
use Rattle.steps.specs.Pack.{PackOut, packed, cleared, table_made}
use Rattle.steps.proofs.Formed.{sound-fields}
use Rattle.steps.proofs.Packs.{rest, over-told, short-told, placed-told}
use Rattle.steps.proofs.Tallies.{length-closed}
use Rattle.work.specs.Views.{order_in, places_in}
use Rattle.work.specs.declared.Areas.{Areas}
use Rattle.order_graph.specs.Graph.{graph_on, AtNode}
use Rattle.order_graph.proofs.Links.{front_kept}
use Rattle.order_graph.proofs.Nodes.{ceiling-in}
use Rattle.order_survey.specs.Survey.{Measured}
use Rattle.std.specs.Prelude.{Ok, Err}
use Rattle.order_resolve.specs.declared.Arranged.{Arranged}
use Rattle.order_resolve.specs.Resolve.{Arranging, ArrangedIn, Arranges, look_in}
use Rattle.pack_copy.specs.Copy.{Standing, Copyable, Copied}
use Rattle.pack_copy.proofs.ClosedObjects.{sound-acyclic}
use Rattle.pack_copy.proofs.CopiedGraph.{graph-copied}
use Rattle.pack_copy.proofs.Standing.{standing-kept}
use Rattle.pack_write.specs.Write.{bytes_of, NodeFits, table_for}
use Rattle.pack_graph.specs.Packable.{Packable, Fitting, Written, Answered}

-- ---- what a look tells of the outcome

look-over : (u : Outcome) {v : Overflow} → look_in u ≡ Err v → u ≡ overflow v
look-over (placed o) e = cc
look-over (overflow w) {v} e = let q : w ≡ v = cc in ap overflow q

look-fits : (u : Outcome) → look_in u ≡ Ok tt → (o : List ℕ) × (u ≡ placed o)
look-fits (placed o) e = (o, refl)
look-fits (overflow v) e = cc

-- ---- the parts

module _ {b w : List ℕ} {s : State} {t : Tally} {a : Areas} {root : ℕ} {m : List ℕ} (c : Packable b w s t a root m) where
  abbrev g : Graph
  g = graph_of (decode b w).closed

  pub pack-copying : Copyable w s a m
  pack-copying = record { read = words-read c.read; areas = c.areas; long = c.long }

  module _ {m₁ : List ℕ} (q : Copied w s a m m₁) where
    stands : Standing b w a s.closed m₁
    stands = graph-copied c.read c.areas c.long q

    pub pack-surveying : AtNode a s.closed root m₁ × Acyclic (graph_on a s.closed m₁)
    pack-surveying = (record { graph = stands.graph; inside = c.known }, stands.falls)

    -- the table without copies has n bytes, and the work memory is m₂
    module _ {n : ℕ} {m₂ : List ℕ} (z : Measured a s.closed root n m₁ m₂) where
      now : Standing b w a s.closed m₂
      now = standing-kept stands z.kept (omega (arith, c.areas.apart))

      pub pack-arranging : Arranging a (record { nodes = s.closed; links = s.links; root = root; size = n; copies = a.copies }) m₂
      pack-arranging =
          let front = front_kept stands.graph z.kept (omega (arith, c.areas.apart)) in
          record {
            surveyed = rw front z.surveyed;
            acyclic = now.falls;
            size_is = rw front z.size;
            taken = rw c.read.links_is now.taken;
            parted = now.parted;
            room = record {
              node-room = omega (arith, c.areas.nodes, c.read.objects_is, c.read.bounds);
              copy-room = omega arith;
              link-room = rw c.read.links_is (omega (arith, c.areas.words));
            };
            small = z.small;
          }

      kept : Kept 0 a.end m m₂
      kept =
          let p = c.areas.apart in
          kept_then (kept_less q.kept 0 a.end (omega arith) (omega (arith, p))) (kept_less z.kept 0 a.end (omega arith) (omega (arith, p)))

      -- ---- the arrangement

      module _ {r : Arranged} {m₃ : List ℕ} (d : Arranges a s.closed (arranged a.copies (graph_on a s.closed m₂) s.closed root) r m₂ m₃) where
        abbrev all : Arrangement
        all = arranged_in (decode b w) root a.copies

        objects : length (decode b w).closed ≡ s.closed
        unfolding decode
        objects = length-closed b w (closed_count w) ∙ sym c.read.closed_is

        done : ArrangedIn a s.closed all r m₃
        done = rw (objects) (rw now.same at d.done)

        kept-all : Kept 0 a.end m m₃
        kept-all = kept_then kept d.kept

        pub pack-over : {o : Overflow} (out : List ℕ) → r.look ≡ Err o → Answered b w a root (Err (record { why = Refusal.Overflow o; tally = t })) out out m m₃
        pack-over out e = record { kept = kept-all; told = rw c.tally (over-told b w all a.copies out m (look-over all.outcome (sym done.told ∙ e))) }

        -- ---- in which every link fits

        module _ (e : r.look ≡ Ok tt) where
          order : List ℕ
          order = (look-fits all.outcome (sym done.told ∙ e)).0

          order_is : all.outcome ≡ placed order
          unfolding order
          order_is = (look-fits all.outcome (sym done.told ∙ e)).1

          base : Base g (content (decode b w)) (λ i. reading_at (readings (decode b w).closed) i) (length (decode b w).closed)
          base = objects-base (decode b w).closed (sound-acyclic (sound-known c.read)) (sound-fields (sound-known c.read))

          low : root < length (decode b w).closed
          low = omega (arith, objects, c.known)

          reads : GrewReads g (content (decode b w)) (λ i. reading_at (readings (decode b w).closed) i) root all.grown
          reads = arranged-reads a.copies g (length (decode b w).closed) root base low order_is

          whole : FitsAll all.grown order
          whole = chosen-fitting a.copies g (length (decode b w).closed) root base low (arranged-chosen a.copies g (length (decode b w).closed) root order_is)

          in_memory : order_in a r.placed m₃ ≡ order
          in_memory = (done.fitting order order_is).order

          node-fits : (i : ℕ) → i < r.nodes → NodeFits b w a s.closed r.nodes m₃ i
          unfolding Sized Fields
          node-fits i h =
              record {
                sized =
                    ap (λ (j : ℕ). length (content (decode b w) j)) (done.origins i h) ∙ base.sized (all.grown.origin i) ∙ sym (reads.grew.sizes i)
                    ∙ sym (ap (λ (x : Graph). x.size i) done.same);
                fields = subst (λ (x : Graph). FieldsIn 0 (x.size i) (x.links i)) (sym done.same) (reads.fields i);
              }

          -- what holds of the arrangement's graph and order holds of those in the memory
          moved : (P : Graph → List ℕ → Type 0) → P all.grown.graph order → P (graph_on a r.nodes m₃) (order_in a r.placed m₃)
          moved P h = subst (λ (x : Graph). P x (order_in a r.placed m₃)) (sym done.same) (subst (P all.grown.graph) (sym in_memory) h)

          pub pack-fitting : Fitting b w s a r m₃
          unfolding Once Closed
          pack-fitting =
              let p = done.fitting order order_is in
              let v = reads.grew.rooted in
              record {
                base = done.base;
                writing = record {
                  read = c.read;
                  graph = done.graph;
                  owned = done.owned;
                  each = node-fits;
                  ids = p.ids;
                  once = moved (λ _ l. Once l) (λ i. omega (arith, whole.once i, v.once i));
                  closed = moved Closed (λ i j h k. rw (whole.once j) (v.closed i j (rw (whole.once i) at h) k));
                  places = moved (λ x l. (i : ℕ) → 0 < count i l → get_or (places_in a m₃) i 0 ≡ place_of x l i) p.places;
                  size_is = moved (λ x l. r.length ≡ total x.size l) (omega (arith, done.length-is, total-bag all.grown.graph.size order all.grown.line whole.once));
                };
              }

          -- as many as the order is long
          placed-is : placed_of all ≡ r.placed
          placed-is =
              let ids = (done.fitting order order_is).ids in
              sym (arranged-count a.copies g (length (decode b w).closed) root base low order_is)
              ∙ ap length (sym in_memory)
              ∙ region-length a.order r.placed m₃ (omega (arith, ids.few, done.graph.apart, done.graph.long))

          made-is : table_made all ≡ record { length = r.length; copies = r.nodes - s.closed; placed = r.placed }
          made-is = rw (done.length-is, ← done.made, placed-is)

          table_is : table_for b w a s.closed r.nodes r.placed m₃ ≡ table_in (decode b w) all
          unfolding table_by table_of
          table_is =
              let p = done.fitting order order_is in
              let bytes : (i : ℕ) → 0 < count i order → bytes_of b w a s.closed m₃ i ≡ content (decode b w) (all.grown.origin i) =
              λ i h. ap (content (decode b w)) (done.origins i (omega (arith, p.ids.ids, ceiling-in (order_in a r.placed m₃) i (rw in_memory h)))) in
              rw (order_is) (moved (λ x l. table_of x (bytes_of b w a s.closed m₃) l ≡ table_of all.grown.graph (content_in (content (decode b w)) all.grown) order)
              (table_same all.grown.graph (bytes_of b w a s.closed m₃) _ (place_of all.grown.graph order) order bytes))

          pub pack-written : {p : Packing} {out out' : List ℕ} → Written b w s t a r p out out' m₃ → Answered b w a root p out out' m m₃
          pack-written {p} {out} {out'} u = record { kept = kept-all; told = go (dec_le r.length (length out)) }
            where
              answer : {v v' : PackOut} → v ≡ v' → packed v.answer v.out (cleared a.copies w m) ≡ packed v'.answer v'.out (cleared a.copies w m)
              answer q = ap (λ (x : PackOut). packed x.answer x.out (cleared a.copies w m)) q

              go : Dec (r.length ≤ length out) → packed p out' (cleared a.copies w m) ≡ rest b w all a.copies out m
              go (yes h) = answer (u.room h) ∙ rw (← made-is, table_is, c.tally) (placed-told b w all a.copies out m order_is (omega (arith, done.length-is)))
              go (no h) = answer (u.short (omega arith)) ∙ rw c.tally (short-told b w all a.copies out m order_is (omega (arith, done.length-is)))
