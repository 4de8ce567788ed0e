-- Looks for an order from paired graphs end alike: with the same table, or with overflows at the same place that need the same offset, and with
-- as many copies.
use mathlib.Core.Path.{◌≡◌, refl, sym, ap, ap₂, subst, ◌∙◌}
use Prim.Native.Nat.{ℕ, zero, suc, ◌+◌, ◌*◌, ◌<◌}
use mathlib.Core.List.{List, [], ◌∷◌}
use mathlib.Core.Bool.{Bool, true, false}
use native.Mathlib.Omega.{arith}
use lib.Dec.{eqb, ltb}
use borrow.Author.Tests.{ne_eqb, eq-eqb}
use Rattle.lists.specs.Lists.{pick}
use Rattle.answer.specs.declared.Overflow.{Overflow}
use Rattle.model_orders.specs.Bag.{count}
use Rattle.model_orders.specs.Graph.{Graph}
use Rattle.model_orders.specs.Table.{placed}
use Rattle.model_orders.specs.Space.{space_weight}
use Rattle.model_orders.specs.Copies.{Grown, child_of, grow, grown_key, space_order, misfits, fitting, failing, shared, resolve, content_in, table_by}
use Rattle.model_orders.proofs.Redirects.{Field}
use Rattle.model_orders.proofs.Copies.{Copyable}
use Rattle.model_orders.proofs.Reports.{unfit-head}
use Rattle.model_orders.proofs.Growths.{Grew, Curable, copyable, new-out, child-here, grow-grew, along-least}
use Rattle.model_orders.proofs.Resolving.{resolve-placed, resolve-next, resolve-alone, resolve-spent, report-curable}
use Rattle.model_renaming.specs.Renaming.{All2, cons, SameField, SameEnd, tables, overflows}
use Rattle.model_renaming.proofs.Renaming.{all2-length, Unfits, unfit-rel, table-rel}
use Rattle.model_renaming.proofs.Pairs.{Paired, waits-paired, order-paired, least-paired}
use Rattle.model_renaming.proofs.CopyPairs.{child-rel, Plus, kept, new, child-paired, away-left, away-right, copy-paired}

-- ---- S pairs the objects

module _ (S : ℕ → ℕ → Type 0) (root root' : ℕ) where
  -- two grown graphs: their nodes are paired, and so are the nodes' objects and the copies'
  pub record Twins (w z : Grown) (R : ℕ → ℕ → Type 0) : Type 0 where
    pub paired : Paired w.graph z.graph w.line z.line root root' R
    pub origins : (a b : ℕ) → R a b → S (w.origin a) (z.origin b)
    pub copies : All2 S w.copies z.copies

module _ {S : ℕ → ℕ → Type 0} {content content' : ℕ → List ℕ} (contents : (a b : ℕ) → S a b → content a ≡ content' b) {root root' : ℕ} where
  pub placed_same : {w z : Grown} {R : ℕ → ℕ → Type 0} → Twins S root root' w z R → {o o' : List ℕ} → All2 R o o' → SameEnd S content content' (fitting w o) (fitting z o')
  unfolding table_by
  placed_same {w} {z} t s =
      tables refl refl (table-rel t.paired.renames (content_in content w) (content_in content' z) (λ a b r. contents (w.origin a) (z.origin b) (t.origins a b r)) s) (all2-length s) t.copies

  failing-same : {w z : Grown} {R : ℕ → ℕ → Type 0} → Twins S root root' w z R → {u v : Overflow} → SameField R u v → SameEnd S content content' (failing w u) (failing z v)
  failing-same t {u} {v} a =
      overflows refl refl (record { parent = t.origins u.parent.0 v.parent.0 a.parent; field = a.field; needed = a.needed }) t.copies

  module _ (space space' : ℕ → ℕ) (spaces : (a b : ℕ) → S a b → space a ≡ space' b) {g h : Graph} where
    module _ {w z : Grown} {R : ℕ → ℕ → Type 0} (t : Twins S root root' w z R) (e : Grew g root w) (e' : Grew h root' z) where
      order_same : All2 R (space_order space root w) (space_order space' root' z)
      unfolding space_order grown_key
      order_same =
          order-paired t.paired e.rooted e'.rooted (grown_key space root w) (grown_key space' root' z)
          (λ c c' r. ap₂ ◌+◌
          (least-paired t.paired c c' _ _ r (along-least e c (t.paired.left c c' r)) (along-least e' c' (t.paired.right c c' r)))
          (ap (λ (s : ℕ). s * space_weight) (spaces (w.origin c) (z.origin c') (t.origins c c' r))))

      misfits-same : Unfits R (misfits space root w) (misfits space' root' z)
      misfits-same = unfit-rel t.paired.renames order_same

      module _ (p p' at need need' : ℕ) (rp : R p p') where
        abbrev u : Overflow
        u = record { parent = record { 0 = p }; field = at; needed = need }

        abbrev v : Overflow
        v = record { parent = record { 0 = p' }; field = at; needed = need' }

        grow-same : Curable w u → Curable z v → Twins S root root' (grow u w) (grow v z) (Plus R w.next z.next)
        unfolding grow
        grow-same k k' =
            record {
              paired = copy-paired t.paired rp cw cz out out' (child-here e k) (child-here e' k');
              origins = along;
              copies = cons (t.origins (child_of w u) (child_of z v) children) t.copies;
            }
          where
            cw : Copyable w.graph p at w.next
            cw = copyable e k

            cz : Copyable z.graph p' at z.next
            cz = copyable e' k'

            out : count w.next w.line ≡ 0
            out = new-out e k

            out' : count z.next z.line ≡ 0
            out' = new-out e' k'

            children : R (child_of w u) (child_of z v)
            children = child-paired t.paired rp cw cz out out'

            along : (a b : ℕ) → Plus R w.next z.next a b
                → S (pick (eqb a w.next) (w.origin (child_of w u)) (w.origin a)) (pick (eqb b z.next) (z.origin (child_of z v)) (z.origin b))
            along a b (kept r) =
                rw (ne_eqb a w.next (away-left t.paired rp cw cz out out' r), ne_eqb b z.next (away-right t.paired rp cw cz out out' r)) (t.origins a b r)
            along a b (new c d) = rw (eq-eqb a w.next c, eq-eqb b z.next d) (t.origins (child_of w u) (child_of z v) children)

      shared_same : {u v : Overflow} → SameField R u v → Field u.field (w.graph.links u.parent.0) → shared w u ≡ shared z v
      unfolding shared
      shared_same {u} {v} a f = ap (ltb 1) (waits-paired t.paired e.rooted.once e'.rooted.once _ _ children)
        where
          children : R (child_of w u) (child_of z v)
          children = rw (← a.field) (child-rel u.field (t.paired.renames.links u.parent.0 v.parent.0 a.parent) f)

    -- ---- the whole look

    pub resolve_same : (k : ℕ) (w z : Grown) (R : ℕ → ℕ → Type 0) → Twins S root root' w z R → Grew g root w → Grew h root' z
        → SameEnd S content content' (resolve space root k w) (resolve space' root' k z)
    resolve_same zero w z R t e e' = go (misfits space root w) refl (misfits space' root' z) refl (misfits-same t e e')
      where
        go : (us : List Overflow) → misfits space root w ≡ us → (vs : List Overflow) → misfits space' root' z ≡ vs → Unfits R us vs
            → SameEnd S content content' (resolve space root 0 w) (resolve space' root' 0 z)
        go [] a (v ∷ vs) b x8 = elim x8 [ ]
        go (u ∷ us) a [] b x8 = elim x8 [ ]
        go [] a [] b Unfits.none = rw (resolve-placed space root w 0 a, resolve-placed space' root' z 0 b) (placed_same t (order_same t e e'))
        go (u ∷ us) a (v ∷ vs) b (Unfits.more s q) = rw (resolve-spent space root w a, resolve-spent space' root' z b) (failing-same t s)
    resolve_same (suc k) w z R t e e' = go (misfits space root w) refl (misfits space' root' z) refl (misfits-same t e e') (resolve_same k)
      where
        go : (us : List Overflow) → misfits space root w ≡ us → (vs : List Overflow) → misfits space' root' z ≡ vs → Unfits R us vs
            → ((w z : Grown) (R : ℕ → ℕ → Type 0) → Twins S root root' w z R → Grew g root w → Grew h root' z
            → SameEnd S content content' (resolve space root k w) (resolve space' root' k z))
            → SameEnd S content content' (resolve space root (suc k) w) (resolve space' root' (suc k) z)
        go [] a (v ∷ vs) b x10 i = elim x10 [ ]
        go (u ∷ us) a [] b x9 i = elim x9 [ ]
        go [] a [] b Unfits.none i = rw (resolve-placed space root w (suc k) a, resolve-placed space' root' z (suc k) b) (placed_same t (order_same t e e'))
        go (u ∷ us) a (v ∷ vs) b (Unfits.more s q) i = cut (shared w u) refl
          where
            both : shared w u ≡ shared z v
            both = shared_same t e e' s (unfit-head w.graph (space_order space root w) u us a).has

            -- v with u's field
            v₀ : Overflow
            v₀ = record { parent = v.parent; field = u.field; needed = v.needed }

            same-v : v₀ ≡ v
            same-v = ap (λ (f : ℕ). record { parent = v.parent; field = f; needed = v.needed }) s.field

            onward : Curable w u → Curable z v → SameEnd S content content' (resolve space root k (grow u w)) (resolve space' root' k (grow v z))
            onward c c' =
                let c₀ = subst (Curable z) (sym same-v) c' in
                subst (λ (o : Overflow). SameEnd S content content' (resolve space root k (grow u w)) (resolve space' root' k (grow o z))) same-v
                (i (grow u w) (grow v₀ z) (Plus R w.next z.next) (grow-same t e e' u.parent.0 v.parent.0 u.field u.needed v.needed s.parent c c₀)
                (grow-grew e c) (grow-grew e' c₀))

            cut : (c : Bool) → shared w u ≡ c → SameEnd S content content' (resolve space root (suc k) w) (resolve space' root' (suc k) z)
            cut false c = rw (resolve-alone space root w a (suc k) c, resolve-alone space' root' z b (suc k) (sym both ∙ c)) (failing-same t s)
            cut true c =
                rw (resolve-next space root w a k c, resolve-next space' root' z b k (sym both ∙ c))
                (onward (report-curable space e a c) (report-curable space' e' b (sym both ∙ c)))
