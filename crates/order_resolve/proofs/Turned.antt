-- The order by spaces tried: it is the model's, and the link that does not fit is the first of the model's.
use mathlib.Core.Path.{◌≡◌, refl, sym, ap, subst, ◌∙◌}
use Prim.Native.Nat.{ℕ, ◌<◌}
use mathlib.Core.List.{List, [], ◌∷◌}
use mathlib.Core.Bool.{Bool, true, false}
use native.Mathlib.Omega.{arith}
use lib.ListN.{get_or}
use lib.Dec.{eqb}
use Rattle.lists.specs.Lists.{pick}
use Rattle.regions.specs.Region.{Kept}
use Rattle.regions.proofs.Frame.{kept_then, kept_less}
use Rattle.answer.specs.declared.Overflow.{Overflow}
use Rattle.model_orders.specs.Bag.{count}
use Rattle.model_orders.specs.Object.{Link}
use Rattle.model_orders.specs.Graph.{Graph}
use Rattle.model_orders.specs.Distance.{here, there, Least, weight}
use Rattle.model_orders.specs.Space.{space_in}
use Rattle.model_orders.specs.Table.{Outcome, placed}
use Rattle.model_orders.specs.Copies.{child_at, Grown, child_of, grown_key, space_order, misfits, Arrangement, fitting, failing, shared, resolve}
use Rattle.model_orders.proofs.Bags.{Zero, none, some, zero_or}
use Rattle.model_orders.proofs.Orders.{order-counts}
use Rattle.model_orders.proofs.SameNodes.{SameBag, order-agree}
use Rattle.model_orders.proofs.Distances.{least-one}
use Rattle.model_orders.proofs.Redirects.{Field, this, later}
use Rattle.model_orders.proofs.Reports.{Reported, unfit-head}
use Rattle.model_orders.proofs.Growths.{along-least}
use Rattle.model_orders.proofs.Resolving.{resolve-placed, resolve-alone, resolve-spent}
use Rattle.work.specs.Views.{order_in, distances_in}
use Rattle.work.specs.declared.Areas.{Areas}
use Rattle.order_graph.specs.Graph.{graph_on}
use Rattle.std.specs.Prelude.{Ok, Err}
use Rattle.order_fit.specs.Fit.{Look}
use Rattle.order_copies.specs.Copy.{FieldAt, AtField, child_in}
use Rattle.order.specs.Try.{key_by, look_of, Tried}
use Rattle.order.specs.declared.By.TheVariants as By
use Rattle.order_resolve.specs.Resolve.{told_in, can_copy, look_in, PlacedIn, ArrangedIn, Arranges, by_spaces}
use Rattle.order_resolve.specs.declared.Arranged.{Arranged}
use Rattle.order_resolve.proofs.Standing.{GrownIn, Turn, grown-surveyed, grown-tried}

-- z stands in the memory with its order
pub record Turned (a : Areas) (n most root : ℕ) (g : Graph) (z : Grown) (nodes links size left r : ℕ) (look : Look) (w : List ℕ) : Type 0 where
  pub stands : GrownIn a n most root g z nodes links size left w
  pub order : PlacedIn a z.graph (space_order (space_in g root) root z) nodes r w
  pub found : look ≡ look_of (misfits (space_in g root) root z)

module _ {a : Areas} {n most root copies nodes links size left r : ℕ} {look : Look} {w₀ w w' : List ℕ}
    (t : Turn a n most root copies nodes links size left w₀ w) (q : Tried a nodes root By.Space r look w w') where
  abbrev z : Grown
  z = t.grown

  abbrev space : ℕ → ℕ
  space = space_in (graph_on a n w₀) root

  v : GrownIn a n most root (graph_on a n w₀) z nodes links size left w
  v = t.stands

  keys : (c : ℕ) → 0 < count c z.line → key_by By.Space a w c ≡ grown_key space root z c
  unfolding grown_key
  keys c h =
      let sum : Least z.graph (weight z.graph) root c (get_or (distances_in a w) c 0) = rw v.same at (t.distanced.sums c h) in
      rw (least-one sum (along-least v.grew c h), v.spaces c h)

  order_is : order_in a r w' ≡ space_order space root z
  unfolding space_order
  order_is =
      q.ordered.order z.line (grown-surveyed v).counted
      ∙ rw v.same (order-agree (key_by By.Space a w) (grown_key space root z) v.grew.rooted z.line (λ c. refl) keys)

  pub turn-tried : Turned a n most root (graph_on a n w₀) z nodes links size left r look w'
  turn-tried =
      record {
        stands = grown-tried v q.ordered.kept;
        order = record { ids = q.ordered.nodes; order = order_is; places = rw (v.same, order_is) at q.places };
        found = rw (v.same, order_is) at q.found;
      }

  pub tried-kept : Kept 0 a.end w₀ w'
  tried-kept = kept_then t.kept (kept_less q.ordered.kept 0 a.end (omega arith) (omega (arith, v.graph.apart)))

-- ---- what is told

look_none : (us : List Overflow) → Ok tt ≡ look_of us → us ≡ []
look_none [] e = refl
look_none (u ∷ us) e = cc

look-some : (us : List Overflow) {u : Overflow} → Err u ≡ look_of us → (vs : List Overflow) × (us ≡ u ∷ vs)
look-some [] e = cc
look-some (v ∷ us) {u} e = let q : v ≡ u = cc in (us, ap (λ (x : Overflow). x ∷ us) q)

field_at : {at : ℕ} {ls : List Link} → Field at ls → FieldAt at ls
field_at (this {l = l} e) = record { link = l; of = here refl; at-is = e }
field_at (later f) = let k = field_at f in record { link = k.link; of = there k.of; at-is = k.at-is }

module _ {a : Areas} {n most root : ℕ} {g : Graph} {z : Grown} {nodes links size left r : ℕ} {look : Look} {w : List ℕ}
    (s : Turned a n most root g z nodes links size left r look w) where
  abbrev order : List ℕ
  order = space_order (space_in g root) root z

  abbrev comes : Arrangement
  comes = resolve (space_in g root) root left z

  -- the end of the look, by what comes out
  turned-ends : {c : Outcome} {last : Look} → last ≡ look_in c → ((o : List ℕ) → c ≡ placed o → PlacedIn a z.graph o nodes r w)
      → ArrangedIn a n (record { grown = z; outcome = c }) (record { nodes = nodes; length = size; placed = r; look = last }) w
  turned-ends e f =
      let v = s.stands in
      record {
        graph = v.graph;
        same = v.same;
        base = omega (arith, v.made);
        owned = v.owned;
        origins = v.origins;
        made = omega (arith, v.made);
        length-is = v.size_is;
        told = e;
        fitting = f;
      }

  turned-fits : look ≡ Ok tt → comes ≡ fitting z order
  turned-fits e = resolve-placed (space_in g root) root z left (look_none _ (sym e ∙ s.found))

  fits-ended : look ≡ Ok tt → ArrangedIn a n (fitting z order) (record { nodes = nodes; length = size; placed = r; look = look }) w
  fits-ended e = turned-ends e (λ o f. let q : order ≡ o = cc in rw (← q) s.order)

  -- the nodes of the order are those of the line
  pub order-bag : SameBag order z.line
  unfolding space_order
  order-bag c = order-counts z.origin (grown_key (space_in g root) root z) z.graph s.stands.grew.ranked z.line root s.stands.grew.rooted c

  module _ {u : Overflow} (e : look ≡ Err u) where
    pub first-misfit : (vs : List Overflow) × (misfits (space_in g root) root z ≡ u ∷ vs)
    first-misfit = look-some _ (sym e ∙ s.found)

    reported : Reported z.graph order u
    reported = unfit-head z.graph order u first-misfit.0 first-misfit.1

    parent_in : u.parent.0 < nodes
    parent_in = omega (arith, s.stands.grew.ids u.parent.0 (rw (order-bag u.parent.0) at reported.placed), s.stands.next)

    pub over-field : AtField a nodes u.parent.0 u.field w
    over-field =
        record {
          node = record { graph = s.stands.graph; inside = parent_in };
          has = subst (λ (h : Graph). FieldAt u.field (h.links u.parent.0)) (sym s.stands.same) (field_at reported.has);
        }

    pub child-same : child_in a nodes w u.parent.0 u.field ≡ child_of z u
    child-same = ap (λ (h : Graph). child_at u.field (h.links u.parent.0)) s.stands.same

    module _ {can : Bool} (told : can ≡ can_copy a nodes w u left) where
      can-is : can ≡ pick (eqb left 0) false (shared z u)
      unfolding shared
      can-is = told ∙ rw (child-same, s.stands.incoming (child_of z u))

      pub over-copies : can ≡ true → (0 < left) × (shared z u ≡ true)
      over-copies b = go (zero_or left) (sym can-is ∙ b)
        where
          go : Zero left → pick (eqb left 0) false (shared z u) ≡ true → (0 < left) × (shared z u ≡ true)
          go (none h f) k = let q = rw f at k in cc
          go (some h f) k = (h, rw f at k)

      over-failing : can ≡ false → comes ≡ failing z u
      over-failing b = go (zero_or left) (sym can-is ∙ b)
        where
          go : Zero left → pick (eqb left 0) false (shared z u) ≡ false → comes ≡ failing z u
          go (none h f) k = rw h (resolve-spent (space_in g root) root z first-misfit.1)
          go (some h f) k = resolve-alone (space_in g root) root z first-misfit.1 left (rw f at k)

    over-ended : ArrangedIn a n (failing z u) (record { nodes = nodes; length = size; placed = r; look = Err (told_in a n w u) }) w
    over-ended = turned-ends (rw (s.stands.origins u.parent.0 parent_in)) (λ o k. cc)

-- ---- the end

module _ {a : Areas} {n most root copies nodes links size left r : ℕ} {look : Look} {w₀ w w' : List ℕ}
    (t : Turn a n most root copies nodes links size left w₀ w) (q : Tried a nodes root By.Space r look w w') where
  turn-ends : {c : Arrangement} {last : Arranged} → resolve (space_in (graph_on a n w₀) root) root left t.grown ≡ c → ArrangedIn a n c last w'
      → Arranges a n (by_spaces copies (graph_on a n w₀) n root) last w₀ w'
  turn-ends e d = rw (t.rest ∙ e) (record { kept = tried-kept t q; done = d })

  pub turn-fits : look ≡ Ok tt → Arranges a n (by_spaces copies (graph_on a n w₀) n root) (record { nodes = nodes; length = size; placed = r; look = look }) w₀ w'
  turn-fits e = let s = turn-tried t q in turn-ends (turned-fits s e) (fits-ended s e)

  pub turn-fails : {u : Overflow} {can : Bool} {lastly : Overflow} → look ≡ Err u → can ≡ can_copy a nodes w' u left → can ≡ false → lastly ≡ told_in a n w' u
      → Arranges a n (by_spaces copies (graph_on a n w₀) n root) (record { nodes = nodes; length = size; placed = r; look = Err lastly }) w₀ w'
  turn-fails e k b f = let s = turn-tried t q in rw f (turn-ends (over-failing s e k b) (over-ended s e))
