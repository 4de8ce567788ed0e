-- A copy made for the link that does not fit: the memory then has the model's graph with one copy more, and its distances.
use mathlib.Core.Path.{◌≡◌, sym, ap, ◌∙◌}
use Prim.Native.Nat.{ℕ, suc, ◌+◌, ◌-◌, ◌*◌, ◌≤◌, ◌<◌}
use mathlib.Core.List.{List, [], ◌∷◌}
use mathlib.Core.Bool.{Bool, true}
use native.Mathlib.Omega.{arith}
use native.Mathlib.Decide.{dec_le}
use lib.ListN.{length, get_or, set, take}
use lib.Seq.{get_or-set_same, get_or-set_other}
use borrow.Author.Tests.{le-ltb}
use Rattle.lists.specs.Lists.{total}
use Rattle.regions.specs.Region.{region, Kept}
use Rattle.regions.proofs.Laws.{region-length}
use Rattle.regions.proofs.Bounds.{ceiling-at, ceiling-set}
use Rattle.regions.proofs.Frame.{kept_then, kept_less}
use Rattle.answer.specs.declared.Overflow.{Overflow}
use Rattle.model_orders.specs.Bag.{one, count}
use Rattle.model_orders.specs.Graph.{Graph, kids, waits, Once}
use Rattle.model_orders.specs.Space.{space_in}
use Rattle.model_orders.specs.Copies.{child_at, copied, beside, Grown, child_of, grow, space_order, resolve}
use Rattle.model_orders.proofs.Bags.{Same, same, other, same_or, bag-long}
use Rattle.model_orders.proofs.Beside.{beside-count}
use Rattle.model_orders.proofs.Reach.{reached-few}
use Rattle.model_orders.proofs.Orders.{order-first}
use Rattle.model_orders.proofs.SameNodes.{SameBag}
use Rattle.model_orders.proofs.Growths.{Curable, child-here, grow-waits, grow_first, grow-counts, grow-grew, grew-length, grew-nodes}
use Rattle.model_orders.proofs.Resolving.{resolve-next, report-curable}
use Rattle.work.specs.Views.{order_in, line_in, incoming_in, spaces_in, origin_in}
use Rattle.work.specs.declared.Areas.{Areas}
use Rattle.order_graph.specs.Graph.{graph_on, most_size}
use Rattle.order_graph.proofs.Links.{size_in}
use Rattle.order_graph.proofs.Nodes.{counted_same}
use Rattle.order_survey.specs.Survey.{Lines, Distanced, DistancesFound}
use Rattle.std.specs.Prelude.{Err}
use Rattle.order_fit.specs.Fit.{Look}
use Rattle.order_copies.specs.Copy.{child_in, CopyingChild, ChildCopied}
use Rattle.order.specs.Try.{Tried}
use Rattle.order.specs.declared.By.TheVariants as By
use Rattle.order_resolve.specs.Resolve.{can_copy}
use Rattle.order_resolve.proofs.Standing.{GrownIn, Turn, links-long, grown-surveyed, grown-found}
use Rattle.order_resolve.proofs.Turned.{Turned, turn-tried, tried-kept, order-bag, first-misfit, over-field, child-same, over-copies}

total-most : (f : ℕ → ℕ) (l : List ℕ) → ((i : ℕ) → f i < most_size) → total f l ≤ length l * most_size
unfolding total
total-most f [] h = omega arith
total-most f (x ∷ l) h = omega (arith, h x, total-most f l h)

module _ {a : Areas} {n most root : ℕ} {g : Graph} {z : Grown} {nodes links size left : ℕ} {w : List ℕ} (v : GrownIn a n most root g z nodes links size left w) where
  line-few : length z.line ≤ nodes
  line-few = omega (arith, grew-nodes v.grew, reached-few g root, v.inside, v.made)

  light : (i : ℕ) → (graph_on a nodes w).size i < most_size
  light i = go (dec_le (suc i) nodes)
    where
      go : Dec (i < nodes) → (graph_on a nodes w).size i < most_size
      go (yes h) = rw (size_in a nodes (take a.keys w) i h) (v.graph.tidy.light i h)
      go (no h) = rw (le-ltb i nodes (omega arith)) (omega arith)

  size_small : size ≤ nodes * most_size
  size_small =
      omega (arith, v.size_is, line-few, ap (λ (h : Graph). total h.size z.line) v.same, total-most (graph_on a nodes w).size z.line light)

module _ {a : Areas} {n most root : ℕ} {g : Graph} {z : Grown} {nodes links size left r : ℕ} {look : Look} {w : List ℕ}
    (s : Turned a n most root g z nodes links size left r look w) {u : Overflow} (e : look ≡ Err u)
    {can : Bool} (told : can ≡ can_copy a nodes w u left) (b : can ≡ true) where
  abbrev v : GrownIn a n most root g z nodes links size left w
  v = s.stands

  abbrev p : ℕ
  p = u.parent.0

  abbrev at : ℕ
  at = u.field

  abbrev order : List ℕ
  order = space_order (space_in g root) root z

  pub copy-left : 0 < left
  copy-left = (over-copies s e told b).0

  curable : Curable z u
  curable = report-curable (space_in g root) v.grew (first-misfit s e).1 (over-copies s e told b).1

  child-is : child_in a nodes w p at ≡ child_of z u
  child-is = child-same s e

  child-in : child_of z u < nodes
  child-in = omega (arith, v.grew.ids (child_of z u) (child-here v.grew curable), v.next)

  child-links : length ((graph_on a nodes w).links (child_in a nodes w p at)) ≤ most
  child-links =
      omega (
        arith,
        ap (λ (i : ℕ). length ((graph_on a nodes w).links i)) child-is,
        ap (λ (h : Graph). length (h.links (child_of z u))) v.same,
        v.grew.linked (child_of z u),
        v.linked (z.origin (child_of z u)),
      )

  order-few : r < a.nodes
  order-few =
      omega (
        arith,
        copy-left,
        v.node-room,
        line-few v,
        bag-long order z.line (order-bag s),
        ap length s.order.order,
        region-length a.order r w (omega (arith, s.order.ids.few, v.graph.long, v.graph.apart)),
      )

  -- the room for left copies is that for one and for the others
  room_next : left * most ≡ most + (left - 1) * most
  room_next = let f : left ≡ 1 + (left - 1) = omega (arith, copy-left) in ap (λ (i : ℕ). i * most) f ∙ omega arith

  pub copy-asks : CopyingChild a n nodes links r p at w
  unfolding Once
  copy-asks =
      record {
        field = over-field s e;
        base = omega (arith, v.made);
        node-room = omega (arith, v.node-room, copy-left);
        copy-room = omega (arith, v.copy-room, copy-left);
        taken = v.taken;
        parted = v.parted;
        link-room = omega (arith, v.link-room, room_next, child-links, links-long a nodes w (child_in a nodes w p at) (rw child-is child-in));
        owned = v.owned;
        order = s.order.ids;
        order-room = order-few;
        once = λ c. rw s.order.order (omega (arith, order-bag s c, v.grew.rooted.once c));
        placed = rw (s.order.order, child-is) (omega (arith, order-bag s (child_of z u), child-here v.grew curable));
        led = rw child-is (omega (arith, v.incoming (child_of z u), curable.two));
        small = omega (arith, v.small, copy-left);
      }

  -- ---- the copy made

  module _ {more links' : ℕ} {w₁ : List ℕ} (q : ChildCopied a n nodes links r p at more links' w w₁) where
    more-is : more ≡ z.graph.size (child_of z u)
    more-is = q.size_is ∙ ap (graph_on a nodes w).size child-is ∙ ap (λ (h : Graph). h.size (child_of z u)) v.same

    pub copy-light : size + more < (nodes + 1) * most_size
    copy-light = omega (arith, size_small v, q.size_is, light v (child_in a nodes w p at))

    graph_is : graph_on a (nodes + 1) w₁ ≡ (grow u z).graph
    unfolding grow
    graph_is = q.same ∙ ap (λ (h : Graph). copied h p at (child_at at (h.links p)) nodes) v.same ∙ ap (copied z.graph p at (child_of z u)) (sym v.next)

    incoming-is : (c : ℕ) → get_or (incoming_in a w₁) c 0 ≡ waits (grow u z).graph (grow u z).line c
    incoming-is c =
        omega (
          arith,
          q.incoming c,
          grow-waits v.grew curable c,
          v.incoming c,
          ap (one c) child-is,
          ap (one c) v.next,
          ap (λ (i : ℕ). count c (kids (graph_on a nodes w) i)) child-is,
          ap (λ (h : Graph). count c (kids h (child_of z u))) v.same,
        )

    origin-is : (i : ℕ) → i < nodes + 1 → origin_in a n w₁ i ≡ (grow u z).origin i
    unfolding grow
    origin-is i h = go (same_or i z.next)
      where
        go : Same i z.next → origin_in a n w₁ i ≡ (grow u z).origin i
        go (same f k _) = rw k (ap (origin_in a n w₁) (f ∙ v.next) ∙ q.origin ∙ ap (origin_in a n w) child-is ∙ v.origins (child_of z u) child-in)
        go (other m k _) = let c : i < nodes = omega (arith, v.next) in rw k (q.origins i c ∙ v.origins i c)

    spaces-long : length (spaces_in a w) ≡ a.nodes
    spaces-long = region-length a.spaces a.nodes w (omega (arith, v.graph.long, v.graph.apart))

    space-is : (i : ℕ) → 0 < count i (grow u z).line → get_or (spaces_in a w₁) i 0 ≡ space_in g root ((grow u z).origin i)
    unfolding grow
    space-is i h = rw q.spaces (go (same_or i z.next))
      where
        go : Same i z.next → get_or (set (spaces_in a w) nodes (get_or (spaces_in a w) (child_in a nodes w p at) 0)) i 0 ≡ space_in g root ((grow u z).origin i)
        go (same f k _) =
            rw (k, f, v.next)
            (get_or-set_same (spaces_in a w) nodes _ 0 (omega (arith, spaces-long, v.node-room, copy-left))
            ∙ ap (λ (j : ℕ). get_or (spaces_in a w) j 0) child-is
            ∙ v.spaces (child_of z u) (child-here v.grew curable))
        go (other m k o) =
            rw k
            (get_or-set_other (spaces_in a w) nodes i _ 0 (λ f. m (f ∙ sym v.next))
            ∙ v.spaces i (omega (arith, beside-count (child_of z u) z.next i z.line (child-here v.grew curable))))

    copy-grown : GrownIn a n most root g (grow u z) (nodes + 1) links' (size + more) (left - 1) w₁
    unfolding grow total
    copy-grown =
        let grew' = grow-grew v.grew curable in
        record {
          grew = grew';
          graph = q.graph;
          same = graph_is;
          next = omega (arith, v.next);
          made = omega (arith, v.made);
          inside = v.inside;
          linked = v.linked;
          incoming = incoming-is;
          small = omega (arith, q.small, v.small, copy-left);
          taken = q.taken;
          parted = q.parted;
          node-room = omega (arith, v.node-room, copy-left);
          copy-room = omega (arith, v.copy-room, v.made, copy-left);
          link-room = omega (arith, v.link-room, room_next, q.links-is, child-links);
          owned = q.owned;
          origins = origin-is;
          spaces = space-is;
          few =
              let x = child_in a nodes w p at in
              let below : x < length (spaces_in a w) = omega (arith, child-is, spaces-long, child-in, v.node-room) in
              rw q.spaces (omega (arith, v.few, ceiling-set (spaces_in a w) nodes (get_or (spaces_in a w) x 0), ceiling-at (spaces_in a w) x below));
          size_is = omega (arith, grew-length grew', grew-length v.grew, v.size_is, more-is, v.grew.sizes (child_of z u));
        }

    -- ---- a line to find distances along

    line-is : line_in a (r + 1) w₁ ≡ beside (child_of z u) z.next order
    line-is =
        ap (λ (i : ℕ). region i (r + 1) w₁) v.graph.apart.line ∙ q.order ∙ rw (child-is, s.order.order, v.next)

    line-bag : SameBag (grow u z).line (line_in a (r + 1) w₁)
    line-bag c = sym (rw line-is (grow-counts v.grew curable order (order-bag s) c))

    pub copy-lines : Lines a (nodes + 1) root (r + 1) w₁
    unfolding space_order
    copy-lines =
        let t = grown-surveyed copy-grown in
        let words : line_in a (r + 1) w₁ ≡ order_in a (r + 1) w₁ = ap (λ (i : ℕ). region i (r + 1) w₁) v.graph.apart.line in
        record {
          surveyed = record { graph = t.graph; inside = t.inside; rank = t.rank; ranked = t.ranked; low = t.low; counted = counted_same t.counted (line_in a (r + 1) w₁) line-bag };
          few = q.order-ids.few;
          ids = rw words q.order-ids.ids;
          first = rw (graph_is, line-is) (grow_first v.grew curable order (order-bag s) (order-first z.origin _ z.graph v.grew.ranked z.line root v.grew.rooted));
        }

    module _ {w₂ : List ℕ} (f : DistancesFound a (nodes + 1) root (r + 1) w₁ w₂) where
      copy-stands : GrownIn a n most root g (grow u z) (nodes + 1) links' (size + more) (left - 1) w₂
      copy-stands = grown-found copy-grown f.kept

      copy-distanced : Distanced a (nodes + 1) root (grow u z).line w₂
      copy-distanced = record { sums = λ c h. f.distanced.sums c (rw (line-bag c) at h); near = f.distanced.near }

      copy-kept : Kept 0 a.end w w₂
      copy-kept = kept_then q.kept (kept_less f.kept 0 a.end (omega arith) (omega (arith, v.graph.apart)))

      copy_rest : resolve (space_in g root) root left z ≡ resolve (space_in g root) root (left - 1) (grow u z)
      copy_rest =
          let k : left ≡ suc (left - 1) = omega (arith, copy-left) in
          ap (λ (i : ℕ). resolve (space_in g root) root i z) k ∙ resolve-next (space_in g root) root z (first-misfit s e).1 (left - 1) (over-copies s e told b).1

-- ---- the next turn

module _ {a : Areas} {n most root copies nodes links size left r : ℕ} {look : Look} {w₀ w w' : List ℕ}
    (t : Turn a n most root copies nodes links size left w₀ w) (q : Tried a nodes root By.Space r look w w')
    {u : Overflow} (e : look ≡ Err u) {can : Bool} (told : can ≡ can_copy a nodes w' u left) (b : can ≡ true) {more links' : ℕ} {w₁ w₂ : List ℕ}
    (c : ChildCopied a n nodes links r u.parent.0 u.field more links' w' w₁) (f : DistancesFound a (nodes + 1) root (r + 1) w₁ w₂) where
  pub turn-next : Turn a n most root copies (nodes + 1) links' (size + more) (left - 1) w₀ w₂
  turn-next =
      let s = turn-tried t q in
      record {
        kept = kept_then (tried-kept t q) (copy-kept s e told b c f);
        grown = grow u t.grown;
        stands = copy-stands s e told b c f;
        distanced = copy-distanced s e told b c f;
        rest = t.rest ∙ copy_rest s e told b c f;
      }
