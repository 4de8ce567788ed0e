-- A graph with copies as it stands in the work memory.
use mathlib.Core.Path.{◌≡◌, refl}
use Prim.Native.Nat.{ℕ, suc, ◌+◌, ◌-◌, ◌*◌, ◌≤◌, ◌<◌}
use mathlib.Core.List.{List}
use native.Mathlib.Omega.{arith}
use native.Mathlib.Decide.{dec_le}
use lib.ListN.{length, get_or, take}
use borrow.Author.Tests.{lt-ltb, le-ltb}
use Rattle.lists.specs.Lists.{total}
use Rattle.regions.specs.Region.{ceiling, Kept}
use Rattle.regions.proofs.Frame.{kept-all, kept_above, kept-below}
use Rattle.model_orders.specs.Bag.{count}
use Rattle.model_orders.specs.Graph.{Graph, kids, waits}
use Rattle.model_orders.specs.Space.{space_in}
use Rattle.model_orders.specs.Table.{table_length}
use Rattle.model_orders.specs.Copies.{Grown, ungrown, resolve}
use Rattle.model_orders.proofs.Distances.{kid-link}
use Rattle.model_orders.proofs.Growths.{Grew, ungrown-grew}
use Rattle.work.specs.Packed.{packed_words}
use Rattle.work.specs.Views.{incoming_in, spaces_in, origins_in, origin_in}
use Rattle.work.specs.declared.Areas.{Areas}
use Rattle.order_graph.specs.Graph.{graph_on, link_count, most_nodes, most_node_links, Stands, Taken, Parted, Owned}
use Rattle.order_graph.proofs.Links.{links-in, front_kept, stands-kept}
use Rattle.order_survey.specs.Survey.{far_away, Surveyed, Distanced}
use Rattle.order_survey.proofs.Distances.{node-links}
use Rattle.order_grow.proofs.Alike.{after-all, length_from}
use Rattle.order_resolve.specs.Resolve.{Arranging, Distances, Spaces, by_spaces}
use Rattle.order_resolve.specs.declared.Objects.{Objects}

-- z stands in the memory, grown from g, which has n nodes; there is room for so many copies more, with at most `most` links each
pub record GrownIn (a : Areas) (n most root : ℕ) (g : Graph) (z : Grown) (nodes links size left : ℕ) (w : List ℕ) : Type 0 where
  pub grew : Grew g root z
  pub graph : Stands a nodes w
  pub same : graph_on a nodes w ≡ z.graph
  pub next : z.next ≡ nodes
  pub made : length z.copies + n ≡ nodes
  pub inside : root < n
  pub linked : (i : ℕ) → length (g.links i) ≤ most
  pub incoming : (c : ℕ) → get_or (incoming_in a w) c 0 ≡ waits z.graph z.line c
  pub small : ceiling (incoming_in a w) + left * (most_node_links + 1) ≤ far_away
  pub taken : Taken a nodes links w
  pub parted : Parted a nodes w
  pub node-room : nodes + left ≤ a.nodes
  pub copy-room : nodes - n + left ≤ a.copies
  pub link-room : a.links + (links + left * most) * packed_words ≤ a.keys
  pub owned : Owned a n nodes w
  pub origins : (i : ℕ) → i < nodes → origin_in a n w i ≡ z.origin i
  pub spaces : (i : ℕ) → 0 < count i z.line → get_or (spaces_in a w) i 0 ≡ space_in g root (z.origin i)
  pub few : ceiling (spaces_in a w) ≤ most_nodes
  pub size_is : size ≡ total z.graph.size z.line

-- the turn of an order by spaces, with its distances: what it comes to is what is to come out
pub record Turn (a : Areas) (n most root copies nodes links size left : ℕ) (w₀ w : List ℕ) : Type 0 where
  pub kept : Kept 0 a.end w₀ w
  pub grown : Grown
  pub stands : GrownIn a n most root (graph_on a n w₀) grown nodes links size left w
  pub distanced : Distanced a nodes root grown.line w
  pub rest : by_spaces copies (graph_on a n w₀) n root ≡ resolve (space_in (graph_on a n w₀) root) root left grown

-- ---- at first

pub links-long : (a : Areas) (n : ℕ) (w : List ℕ) (i : ℕ) → i < n → length ((graph_on a n w).links i) ≡ link_count a (take a.keys w) i
links-long a n w i h = rw (links-in a n (take a.keys w) i h, after-all a (take a.keys w) i) (length_from (take a.keys w) _ _)

module _ {a : Areas} {o : Objects} {w : List ℕ} (s : Arranging a o w) where
  abbrev n : ℕ
  n = o.nodes

  abbrev most : ℕ
  most = o.links

  abbrev root : ℕ
  root = o.root

  abbrev g : Graph
  g = graph_on a n w

  low : (q c : ℕ) → 0 < count c (kids g q) → c < n
  low q c h =
      let t = kid-link c (g.links q) h in
      let known = node-links a n (take a.keys w) (λ l. l.child < n) q (λ b i m. (s.surveyed.graph.tidy.node q b).known i m) t.0 t.1 in
      omega (arith, known, t.2)

  few-links : (i : ℕ) → length (g.links i) ≤ most
  few-links i = go (dec_le (suc i) n)
    where
      go : Dec (i < n) → length (g.links i) ≤ most
      go (yes h) = omega (arith, links-long a n w i h, s.taken i h)
      go (no h) = rw (le-ltb i n (omega arith)) (omega arith)

  owned-first : Owned a n n w
  owned-first = record { room = omega arith; object = λ i h. rw (lt-ltb i n h) h }

  pub turn-first : Distances a n root w → Spaces a n root w → Turn a n most root o.copies n most o.size o.copies w w
  unfolding table_length
  turn-first d t =
      record {
        kept = kept-all;
        grown = ungrown g n root;
        stands =
            record {
              grew = ungrown-grew s.acyclic low s.surveyed.inside;
              graph = s.surveyed.graph;
              same = refl;
              next = refl;
              made = omega arith;
              inside = s.surveyed.inside;
              linked = few-links;
              incoming = s.surveyed.counted.incoming;
              small = omega (arith, s.small, s.room.node-room, s.surveyed.graph.tidy.limit);
              taken = s.taken;
              parted = s.parted;
              node-room = s.room.node-room;
              copy-room = omega (arith, s.room.copy-room);
              link-room = s.room.link-room;
              owned = owned-first;
              origins = λ i h. rw (lt-ltb i n h);
              spaces = t.numbers;
              few = t.few;
              size_is = s.size_is;
            };
        distanced = d;
        rest = refl;
      }

-- ---- as long as the words of it stand

module _ {a : Areas} {n most root : ℕ} {g : Graph} {z : Grown} {nodes links size left : ℕ} {w : List ℕ} (v : GrownIn a n most root g z nodes links size left w) where
  pub grown-surveyed : Surveyed a nodes root z.line w
  grown-surveyed =
      record {
        graph = v.graph;
        inside = omega (arith, v.inside, v.made);
        rank = z.origin;
        ranked = rw v.same v.grew.ranked;
        low = omega (arith, v.grew.root-own, v.inside, v.made, v.graph.tidy.nodes, v.graph.tidy.limit);
        counted = record { rooted = rw v.same v.grew.rooted; incoming = λ c. rw v.same (v.incoming c) };
      }

  grown-same : {from to : ℕ} {w' : List ℕ} → Kept from to w w' → a.keys ≤ from → incoming_in a w' ≡ incoming_in a w → spaces_in a w' ≡ spaces_in a w
      → origins_in a w' ≡ origins_in a w → GrownIn a n most root g z nodes links size left w'
  grown-same k h in-same sp_same or_same =
      let front = front_kept v.graph k h in
      record {
        grew = v.grew;
        graph = stands-kept v.graph k h;
        same = rw front v.same;
        next = v.next;
        made = v.made;
        inside = v.inside;
        linked = v.linked;
        incoming = λ c. rw in-same (v.incoming c);
        small = rw in-same v.small;
        taken = rw front v.taken;
        parted = rw front v.parted;
        node-room = v.node-room;
        copy-room = v.copy-room;
        link-room = v.link-room;
        owned = record { room = v.owned.room; object = λ i b. rw or_same (v.owned.object i b) };
        origins = λ i b. rw or_same (v.origins i b);
        spaces = λ i b. rw sp_same (v.spaces i b);
        few = rw sp_same v.few;
        size_is = v.size_is;
      }

  -- an order tried
  pub grown-tried : {w' : List ℕ} → Kept a.keys a.incoming w w' → GrownIn a n most root g z nodes links size left w'
  grown-tried k =
      let z = v.graph.apart in
      grown-same k (omega arith) (kept_above k a.incoming a.nodes (omega arith)) (kept_above k a.spaces a.nodes (omega arith))
      (kept_above k a.origins a.copies (omega arith))

  -- distances found
  pub grown-found : {w' : List ℕ} → Kept a.distances a.spaces w w' → GrownIn a n most root g z nodes links size left w'
  grown-found k =
      let z = v.graph.apart in
      grown-same k (omega arith) (kept-below k a.incoming a.nodes (omega arith)) (kept_above k a.spaces a.nodes (omega arith))
      (kept_above k a.origins a.copies (omega arith))
