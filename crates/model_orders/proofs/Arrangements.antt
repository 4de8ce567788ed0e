-- The three orders and the copies: what is arranged is what the rules choose, and both ways round; an order in which every link fits makes a table that is laid out.
use mathlib.Core.Path.{◌≡◌, refl, sym, ap, subst, ◌∙◌}
use Prim.Native.Nat.{ℕ, ◌<◌}
use mathlib.Core.List.{List, [], ◌∷◌}
use native.Mathlib.Omega.{arith}
use lib.ListN.{length}
use Rattle.answer.specs.declared.Overflow.{Overflow}
use Rattle.model_orders.specs.Bag.{count}
use Rattle.model_orders.specs.Graph.{Graph, ParentsFirst}
use Rattle.model_orders.specs.Distance.{kahn_order, distance_order}
use Rattle.model_orders.specs.Space.{space_in}
use Rattle.model_orders.specs.Table.{unfit, placed, overflow, Sized}
use Rattle.model_orders.specs.Reading.{Reading}
use Rattle.model_orders.specs.Laid.{LaidOut}
use Rattle.model_orders.specs.Copies.{Grown, ungrown, grown_key, space_order, Arrangement, fitting, try_order, resolve, arranged, placed_of, content_in, table_by, Unfit, Chosen, Unresolved}
use Rattle.model_orders.proofs.Bags.{bag-long}
use Rattle.model_orders.proofs.Orders.{order-counts, order-first, order_by-once, order_by-first}
use Rattle.model_orders.proofs.Tables.{layout}
use Rattle.model_orders.proofs.Growths.{Base, GrewReads, ungrown-reads}
use Rattle.model_orders.proofs.Resolving.{Ended, fits, fails, resolve-ends, ends-resolve, grows-reads}

-- each node once, parents first, every link fitting
pub record Fitting (w : Grown) (o : List ℕ) : Type 0 where
  pub once : (c : ℕ) → count c o ≡ count c w.line
  pub first : ParentsFirst w.graph o
  pub fit : unfit w.graph o ≡ []

-- ---- one order, or what comes after it

pub some-unfit : {u : Overflow} {us l : List Overflow} → l ≡ u ∷ us → l ≡ [] → ⊥
some-unfit e f = let z : ◌≡◌ {A = ℕ} 0 1 = cc in omega arith

pub try-next : (w : Grown) (o : List ℕ) (us : List Overflow) (c : Arrangement) → (us ≡ [] → ⊥) → try_order w o us (λ _. c) ≡ c
unfolding try_order
try-next w o [] c n = absurd (n refl)
try-next w o (u ∷ us) c n = refl

module _ (k : ℕ) (g : Graph) (n root : ℕ) where
  abbrev first : Grown
  first = ungrown g n root

  pub arranged-kahn : unfit g (kahn_order g root) ≡ [] → arranged k g n root ≡ fitting first (kahn_order g root)
  unfolding arranged try_order
  arranged-kahn e = rw e

  pub arranged-distance : (unfit g (kahn_order g root) ≡ [] → ⊥) → unfit g (distance_order g root) ≡ [] → arranged k g n root ≡ fitting first (distance_order g root)
  unfolding arranged
  arranged-distance h e = try-next first (kahn_order g root) _ _ h ∙ unfold try_order in rw e

  pub arranged-space : Unfit g root → arranged k g n root ≡ resolve (space_in g root) root k first
  unfolding arranged
  arranged-space h = try-next first (kahn_order g root) _ _ h.kahn ∙ try-next first (distance_order g root) _ _ h.distance

  -- ---- how it ends

  data Looked : Arrangement → Type 0 where
    chosen : {z : Grown} {o : List ℕ} → Chosen k g n root z o → Looked (fitting z o)
    unresolved : {z : Grown} {v : Overflow} → Unresolved k g n root v → Looked (record { grown = z; outcome = overflow v })

  looked : Looked (arranged k g n root)
  looked = go (unfit g (kahn_order g root)) refl (unfit g (distance_order g root)) refl
    where
      ended : Unfit g root → {c : Arrangement} → Ended (space_in g root) root k first c → Looked c
      ended h (fits r m e) = chosen (Chosen.space h r m e)
      ended h (fails r m e s) = unresolved (record { unfit = h; made = _; within = m; grown = _; grows = r; report = _; rest = _; reported = e; why = s; names = refl })

      go : (us : List Overflow) → unfit g (kahn_order g root) ≡ us → (vs : List Overflow) → unfit g (distance_order g root) ≡ vs → Looked (arranged k g n root)
      go [] a vs b = subst Looked (sym (arranged-kahn a)) (chosen (Chosen.kahn a))
      go (u ∷ us) a [] b = subst Looked (sym (arranged-distance (some-unfit a) b)) (chosen (Chosen.distance (some-unfit a) b))
      go (u ∷ us) a (v ∷ vs) b =
          let h : Unfit g root = record { kahn = some-unfit a; distance = some-unfit b } in
          subst Looked (sym (arranged-space h)) (ended h (resolve-ends (space_in g root) root k first))

  pub arranged-chosen : {o : List ℕ} → (arranged k g n root).outcome ≡ placed o → Chosen k g n root (arranged k g n root).grown o
  arranged-chosen {o} e = go looked e
    where
      go : {c : Arrangement} → Looked c → c.outcome ≡ placed o → Chosen k g n root c.grown o
      go (chosen {z = z} {o = p} h) f = let q : p ≡ o = cc in subst (Chosen k g n root z) q h
      go (unresolved h) f = absurd (let q : ◌≡◌ {A = ℕ} 0 1 = cc in omega arith)

  pub arranged-unresolved : {v : Overflow} → (arranged k g n root).outcome ≡ overflow v → Unresolved k g n root v
  arranged-unresolved {v} e = go looked e
    where
      go : {c : Arrangement} → Looked c → c.outcome ≡ overflow v → Unresolved k g n root v
      go (chosen h) f = absurd (let q : ◌≡◌ {A = ℕ} 0 1 = cc in omega arith)
      go (unresolved {v = u} h) f = let q : u ≡ v = cc in subst (Unresolved k g n root) q h

  pub chosen-arranged : {z : Grown} {o : List ℕ} → Chosen k g n root z o → arranged k g n root ≡ fitting z o
  chosen-arranged (Chosen.kahn e) = arranged-kahn e
  chosen-arranged (Chosen.distance h e) = arranged-distance h e
  chosen-arranged (Chosen.space h r m e) = arranged-space h ∙ ends-resolve (space_in g root) root (fits r m e)

  pub unresolved-arranged : {v : Overflow} → Unresolved k g n root v → (arranged k g n root).outcome ≡ overflow v
  unresolved-arranged t =
      ap (λ (c : Arrangement). c.outcome) (arranged-space t.unfit ∙ ends-resolve (space_in g root) root (fails t.grows t.within t.reported t.why))
      ∙ ap overflow (sym t.names)

  -- ---- an order in which every link fits

  module _ {content : ℕ → List ℕ} {ρ : ℕ → Reading} (b : Base g content ρ n) (h : root < n) where
    pub chosen-reads : {z : Grown} {o : List ℕ} → Chosen k g n root z o → GrewReads g content ρ root z
    chosen-reads (Chosen.kahn e) = ungrown-reads b h
    chosen-reads (Chosen.distance m e) = ungrown-reads b h
    chosen-reads (Chosen.space m r l e) = grows-reads r (ungrown-reads b h)

    pub chosen-fitting : {z : Grown} {o : List ℕ} → Chosen k g n root z o → Fitting z o
    unfolding kahn_order distance_order space_order
    chosen-fitting (Chosen.kahn e) = record { once = order_by-once _ g b.acyclic root; first = order_by-first _ g b.acyclic root; fit = e }
    chosen-fitting (Chosen.distance m e) = record { once = order_by-once _ g b.acyclic root; first = order_by-first _ g b.acyclic root; fit = e }
    chosen-fitting (Chosen.space {z = z} m r l e) =
        let v = (grows-reads r (ungrown-reads b h)).grew in
        record {
          once = order-counts z.origin (grown_key (space_in g root) root z) z.graph v.ranked z.line root v.rooted;
          first = order-first z.origin (grown_key (space_in g root) root z) z.graph v.ranked z.line root v.rooted;
          fit = e;
        }

    pub arranged-reads : {o : List ℕ} → (arranged k g n root).outcome ≡ placed o → GrewReads g content ρ root (arranged k g n root).grown
    arranged-reads e = chosen-reads (arranged-chosen e)

    pub arranged-count : {o : List ℕ} → (arranged k g n root).outcome ≡ placed o → length o ≡ placed_of (arranged k g n root)
    arranged-count {o} e = bag-long o (arranged k g n root).grown.line (chosen-fitting (arranged-chosen e)).once

    -- its table
    pub arranged-laid : {o : List ℕ} → (arranged k g n root).outcome ≡ placed o
        → let w = (arranged k g n root).grown in
        LaidOut w.graph w.line root (λ i. ρ (w.origin i)) o (table_by content w (placed o))
    unfolding table_by
    arranged-laid {o} e =
        let w = (arranged k g n root).grown in
        let v = arranged-reads e in
        let f = chosen-fitting (arranged-chosen e) in
        let sized : Sized w.graph (content_in content w) = (unfold Sized in λ i. b.sized (w.origin i) ∙ sym (v.grew.sizes i)) in
        layout w.graph (content_in content w) w.line root (λ i. ρ (w.origin i)) o v.grew.rooted sized v.fields v.reads f.once f.first f.fit
