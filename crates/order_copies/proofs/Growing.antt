-- A copy appended and one link led to it: the graph is the model's `copied`. Then what stands beside it follows.
use mathlib.Core.Path.{◌≡◌, sym, ap, ◌∙◌, fun_ext}
use Prim.Native.Nat.{ℕ, ◌+◌, ◌≤◌, ◌<◌}
use mathlib.Core.List.{List}
use native.Mathlib.Omega.{arith}
use native.Mathlib.Decide.{dec_le}
use borrow.Author.Tests.{le-ltb}
use lib.ListN.{get_or, take}
use lib.Seq.{get_or-take}
use Rattle.regions.specs.Region.{region, Kept}
use Rattle.regions.proofs.Frame.{kept_then, kept_less, kept_at, kept-below, kept_above}
use Rattle.model_orders.specs.Object.{Link}
use Rattle.model_orders.specs.Graph.{Graph, kids, kids_of}
use Rattle.model_orders.specs.Copies.{redirect, copied}
use Rattle.model_orders.proofs.Bags.{Same, same, other, same_or}
use Rattle.work.specs.Areas.{Apart}
use Rattle.work.specs.Views.{order_in, incoming_in, spaces_in, origins_in}
use Rattle.work.specs.declared.Areas.{Areas}
use Rattle.order_graph.specs.Graph.{graph_in, graph_on, links_at, link_count, Stands, FieldOf, Taken, Parted, Owned}
use Rattle.order_graph.proofs.Links.{size_in, links-in, front_kept, stands-kept}
use Rattle.order_copies.specs.Copy.{child_in, CopyingChild, ChildCopied}
use Rattle.order_grow.specs.Grow.{NodeAs, Appending, NodeAppended, Leading, LinkLed}
use Rattle.order_copies.specs.Steps.{LinkFound, Noting, CopyNoted, CountingCopy, CopyCounted, Inserting, Inserted}
use Rattle.order_grow.proofs.Alike.{as-links, after-all, length_from}
use Rattle.order_copies.proofs.Firsts.{place, links-led, found-child}
use Rattle.order_copies.proofs.Noting.{noted-origin, noted-others, noted-owned}

module _ {a : Areas} {n nodes links r p at t : ℕ} {w : List ℕ} (s : CopyingChild a n nodes links r p at w) (found : LinkFound a nodes p at t w)
    {l : Link} (field : FieldOf a nodes (take a.keys w) p t l) where
  abbrev x : ℕ
  x = child_in a nodes w p at

  -- the child as it was read
  child-is : l.child ≡ x
  child-is = found-child found field

  inside : x < nodes
  inside = rw child-is at field.known

  abbrev f : List ℕ
  f = take a.keys w

  abbrev g : Graph
  g = graph_on a nodes w

  p-in : p < nodes
  p-in = s.field.node.inside

  pub appending-asks : Appending a nodes links l.child w
  appending-asks =
      rw child-is record {
        node = record { graph = s.field.node.graph; inside = inside };
        node-room = s.node-room;
        taken = s.taken;
        parted = s.parted;
        link-room = s.link-room;
      }

  -- ---- the node appended

  module _ {links' : ℕ} {w₁ : List ℕ} (appended : NodeAppended a nodes links l.child links' w w₁) where
    q : NodeAppended a nodes links x links' w w₁
    q = rw child-is at appended

    abbrev f₁ : List ℕ
    f₁ = take a.keys w₁

    -- the link that was found is still the one
    found₁ : LinkFound a (nodes + 1) p at t w₁
    found₁ =
        let o = q.others p p-in in
        record {
          link = record { node = record { graph = q.graph; inside = omega (arith, p-in) }; some = rw o.count-is found.link.some };
          there = ap place (o.link-is t found.link.some) ∙ found.there;
          earlier = λ u h e. found.earlier u h (sym (ap place (o.link-is u (omega (arith, found.link.some)))) ∙ e);
        }

    pub leading-asks : Leading a (nodes + 1) p t nodes w₁
    leading-asks = record { link = found₁.link; parted = q.parted; known = omega arith }

    -- ---- the link led

    module _ {w₂ : List ℕ} (d : LinkLed a (nodes + 1) p t nodes w₁ w₂) where
      abbrev f₂ : List ℕ
      f₂ = take a.keys w₂

      apart : nodes ≡ p → ⊥
      apart e = omega (arith, p-in)

      node-word : (i : ℕ) → i < a.links → get_or f₂ i 0 ≡ get_or f₁ i 0
      node-word i h =
          let k = q.graph.apart.keys in
          get_or-take a.keys w₂ i 0 (omega arith) ∙ kept_at d.kept i h ∙ get_or-take a.links w₁ i 0 h ∙ sym (get_or-take a.keys w₁ i 0 (omega arith))

      -- node i of both graphs
      record SameNode (i : ℕ) : Type 0 where
        size_is : (graph_in a (nodes + 1) f₂).size i ≡ (copied g p at x nodes).size i
        links-is : (graph_in a (nodes + 1) f₂).links i ≡ (copied g p at x nodes).links i

      size-here : (i : ℕ) → i < nodes + 1 → (graph_in a (nodes + 1) f₂).size i ≡ get_or f₁ i 0
      size-here i h = size_in a (nodes + 1) f₂ i h ∙ node-word i (omega (arith, q.graph.apart, q.graph.tidy.nodes))

      links-here : (i j : ℕ) → i < nodes + 1 → (i ≡ p → ⊥) → j < nodes → NodeAs a f f₁ j i → (graph_in a (nodes + 1) f₂).links i ≡ g.links j
      links-here i j h e b o = links-in a (nodes + 1) f₂ i h ∙ as-links (d.others i h e) ∙ as-links o ∙ sym (links-in a nodes f j b)

      links-p : (graph_in a (nodes + 1) f₂).links p ≡ redirect at nodes (g.links p)
      links-p =
          links-in a (nodes + 1) f₂ p (omega (arith, p-in))
          ∙ links-led found₁ f₂ nodes (node-word (a.counts + p) (omega (arith, p-in, q.graph.apart, q.graph.tidy.nodes))) d.led d.rest
          ∙ ap (redirect at nodes) (as-links (q.others p p-in) ∙ sym (links-in a nodes f p p-in))

      same-node : (i : ℕ) → SameNode i
      unfolding copied
      same-node i = go (same_or i p) (same_or i nodes) (dec_le i nodes)
        where
          past : nodes + 1 ≤ i → ((graph_in a (nodes + 1) f₂).size i ≡ g.size i) × ((graph_in a (nodes + 1) f₂).links i ≡ g.links i)
          past h = let u = le-ltb i (nodes + 1) h in let v = le-ltb i nodes (omega arith) in (rw (u, v), rw (u, v))

          go : Same i p → Same i nodes → Dec (i ≤ nodes) → SameNode i
          go (same e _ _) (same k _ _) _ = absurd (omega (arith, p-in))
          go (same e b _) (other _ y _) _ =
              record {
                size_is = rw y (size-here i (omega (arith, p-in)) ∙ (q.others i (omega (arith, p-in))).size_is ∙ sym (size_in a nodes f i (omega (arith, p-in))));
                links-is = rw (b, e) links-p;
              }
          go (other m b _) (same k y _) _ =
              record {
                size_is = rw (y, k) (size-here nodes (omega arith) ∙ q.copy.size_is ∙ sym (size_in a nodes f x inside));
                links-is = rw (b, y) (rw k (links-here nodes x (omega arith) apart inside q.copy));
              }
          go (other m b _) (other k y _) (yes h) =
              let c : i < nodes = omega arith in
              record {
                size_is = rw y (size-here i (omega arith) ∙ (q.others i c).size_is ∙ sym (size_in a nodes f i c));
                links-is = rw (b, y) (links-here i i (omega arith) m c (q.others i c));
              }
          go (other m b _) (other k y _) (no h) = record { size_is = rw y (past (omega arith)).0; links-is = rw (b, y) (past (omega arith)).1 }

      graph_same : graph_on a (nodes + 1) w₂ ≡ copied g p at x nodes
      graph_same = λ k. record { size = fun_ext (λ i. (same-node i).size_is) k; links = fun_ext (λ i. (same-node i).links-is) k }

      kept₂ : Kept 0 a.keys w w₂
      kept₂ = kept_then q.kept (kept_less d.kept 0 a.keys (omega arith) (omega arith))

      -- what lies behind the graph stands
      behind₂ : (b m : ℕ) → a.keys ≤ b → region b m w₂ ≡ region b m w
      behind₂ b m h = kept_above kept₂ b m h

      taken₂ : Taken a (nodes + 1) links' w₂
      taken₂ i h =
          let z = q.graph.apart in
          let m = q.graph.tidy.nodes in
          omega (arith, node-word (a.firsts + i) (omega (arith, z, m)), node-word (a.counts + i) (omega (arith, z, m)), q.taken i h)

      parted₂ : Parted a (nodes + 1) w₂
      parted₂ i j u v h k c e m =
          let z = q.graph.apart in
          let l = q.graph.tidy.nodes in
          let first-i = node-word (a.firsts + i) (omega (arith, z, l)) in
          let first-j = node-word (a.firsts + j) (omega (arith, z, l)) in
          let count-i = node-word (a.counts + i) (omega (arith, z, l)) in
          let count-j = node-word (a.counts + j) (omega (arith, z, l)) in
          q.parted i j u v h k (omega (arith, count-i)) (omega (arith, count-j)) (omega (arith, first-i, first-j))

      noting : Noting a n nodes x w₂
      noting = record { graph = d.graph; inside = inside; base = s.base; copy-room = s.copy-room }

      areas : Apart a
      areas = d.graph.apart

      origins₂ : origins_in a w₂ ≡ origins_in a w
      origins₂ = behind₂ a.origins a.copies (omega (arith, areas))

      spaces₂ : spaces_in a w₂ ≡ spaces_in a w
      spaces₂ = behind₂ a.spaces a.nodes (omega (arith, areas))

      owned₂ : Owned a n nodes w₂
      owned₂ = record { room = s.owned.room; object = λ i h. rw origins₂ (s.owned.object i h) }

      -- ---- its space and its object

      module _ {w₃ : List ℕ} (noted : CopyNoted a n nodes l.child w₂ w₃) where
        e : CopyNoted a n nodes x w₂ w₃
        e = rw child-is at noted

        graph₃ : Stands a (nodes + 1) w₃
        graph₃ = stands-kept d.graph e.kept (omega (arith, areas))

        front₃ : take a.keys w₃ ≡ f₂
        front₃ = front_kept d.graph e.kept (omega (arith, areas))

        incoming₃ : incoming_in a w₃ ≡ incoming_in a w
        incoming₃ = kept-below e.kept a.incoming a.nodes (omega (arith, areas)) ∙ behind₂ a.incoming a.nodes (omega (arith, areas))

        order₃ : order_in a r w₃ ≡ order_in a r w
        order₃ = kept-below e.kept a.order r (omega (arith, areas, s.order.few)) ∙ behind₂ a.order r (omega (arith, areas))

        pub counting-asks : CountingCopy a nodes l.child w₃
        counting-asks = rw child-is record { graph = graph₃; inside = inside; led = rw incoming₃ s.led; small = rw incoming₃ s.small }

        -- ---- the incoming fields

        module _ {w₄ : List ℕ} (counted : CopyCounted a nodes l.child w₃ w₄) where
          c : CopyCounted a nodes x w₃ w₄
          c = rw child-is at counted

          order₄ : order_in a r w₄ ≡ order_in a r w
          order₄ = kept-below c.kept a.order r (omega (arith, areas, s.order.few)) ∙ order₃

          graph₄ : Stands a (nodes + 1) w₄
          graph₄ = stands-kept graph₃ c.kept (omega (arith, areas))

          pub inserting-asks : Inserting a r l.child nodes w₄
          inserting-asks =
              rw child-is record {
                graph = graph₄;
                order = record { few = s.order.few; ids = rw order₄ s.order.ids };
                order-room = s.order-room;
                once = rw order₄ s.once;
                placed = rw order₄ s.placed;
              }

          -- ---- the order

          module _ {w₅ : List ℕ} (inserted : Inserted a r l.child nodes w₄ w₅) where
            o : Inserted a r x nodes w₄ w₅
            o = rw child-is at inserted

            front₅ : take a.keys w₅ ≡ f₂
            front₅ = front_kept graph₄ o.kept (omega (arith, areas)) ∙ front_kept graph₃ c.kept (omega (arith, areas)) ∙ front₃

            origins₅ : origins_in a w₅ ≡ origins_in a w₃
            origins₅ = kept_above o.kept a.origins a.copies (omega (arith, areas)) ∙ kept_above c.kept a.origins a.copies (omega (arith, areas))

            spaces₅ : spaces_in a w₅ ≡ spaces_in a w₃
            spaces₅ = kept_above o.kept a.spaces a.nodes (omega (arith, areas)) ∙ kept_above c.kept a.spaces a.nodes (omega (arith, areas))

            incoming₅ : incoming_in a w₅ ≡ incoming_in a w₄
            incoming₅ = kept_above o.kept a.incoming a.nodes (omega arith)

            kids₃ : kids (graph_on a (nodes + 1) w₃) nodes ≡ kids g x
            kids₃ = ap kids_of (rw front₃ (links-here nodes x (omega arith) apart inside q.copy))

            owned₅ : Owned a n (nodes + 1) w₅
            owned₅ = let k = noted-owned noting e owned₂ in record { room = k.room; object = λ i h. rw origins₅ (k.object i h) }

            kept₅ : Kept 0 a.end w w₅
            kept₅ =
                kept_then (kept_less kept₂ 0 a.end (omega arith) (omega (arith, areas)))
                (kept_then (kept_less e.kept 0 a.end (omega arith) (omega arith))
                (kept_then (kept_less c.kept 0 a.end (omega arith) (omega (arith, areas)))
                (kept_less o.kept 0 a.end (omega arith) (omega (arith, areas)))))

            pub child-copied : {size : ℕ} → size ≡ get_or w l.child 0 → ChildCopied a n nodes links r p at size links' w w₅
            child-copied {size} size_is =
                record {
                  kept = kept₅;
                  graph = stands-kept graph₄ o.kept (omega (arith, areas));
                  same = rw front₅ graph_same;
                  size_is = size_is ∙ ap (λ (i : ℕ). get_or w i 0) child-is ∙ sym (size_in a nodes f x inside ∙ get_or-take a.keys w x 0 (omega (arith, areas, inside, s.node-room)));
                  links-is = q.links-is ∙ rw (links-in a nodes f x inside, after-all a f x, length_from f (link_count a f x) (links_at a f x));
                  taken = rw front₅ taken₂;
                  parted = rw front₅ parted₂;
                  owned = owned₅;
                  origins = λ i h. rw origins₅ (noted-others noting e i h ∙ rw origins₂);
                  origin = rw origins₅ (noted-origin noting e ∙ rw origins₂);
                  spaces = spaces₅ ∙ e.spaces ∙ rw spaces₂;
                  order-ids = o.order-ids;
                  order = o.order ∙ rw order₄;
                  incoming = λ i. rw incoming₅ (rw (incoming₃, kids₃) at (c.incoming i));
                  small = rw incoming₅ (rw incoming₃ at c.small);
                }
