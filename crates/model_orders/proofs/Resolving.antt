-- The look ends as the rules say: a copy is made for each link that the order by spaces reports, as long as the link's child is shared and a copy
-- is left.
use mathlib.Core.Path.{◌≡◌, refl, sym, ap, subst, ◌∙◌}
use Prim.Native.Nat.{ℕ, zero, suc, ◌+◌, ◌-◌, ◌≤◌}
use mathlib.Core.List.{List, [], ◌∷◌}
use mathlib.Core.Bool.{Bool, true, false}
use mathlib.Core.Logic.{◌⊎◌, inl, inr}
use native.Mathlib.Omega.{arith}
use lib.ListN.{length}
use borrow.Author.Tests.{ltb-true}
use Rattle.answer.specs.declared.Overflow.{Overflow}
use Rattle.model_orders.specs.Graph.{Graph, waits}
use Rattle.model_orders.specs.Reading.{Reading}
use Rattle.model_orders.specs.Copies.{Grown, child_of, grow, grown_key, space_order, misfits, Arrangement, fitting, failing, try_order, shared, resolve, Grows, still, more}
use Rattle.model_orders.proofs.Orders.{order-counts}
use Rattle.model_orders.proofs.Reports.{unfit-head}
use Rattle.model_orders.proofs.Growths.{Grew, GrewReads, Curable, grow-grew, grow-reads}

-- ---- the look turn by turn

module _ (space : ℕ → ℕ) (root : ℕ) (w : Grown) where
  pub resolve-placed : (k : ℕ) → misfits space root w ≡ [] → resolve space root k w ≡ fitting w (space_order space root w)
  unfolding resolve try_order
  resolve-placed zero e = rw e
  resolve-placed (suc k) e = rw e

  module _ {u : Overflow} {us : List Overflow} (e : misfits space root w ≡ u ∷ us) where
    -- a copy is made, and one is left less
    pub resolve-next : (k : ℕ) → shared w u ≡ true → resolve space root (suc k) w ≡ resolve space root k (grow u w)
    unfolding resolve try_order
    resolve-next k b = rw (e, b)

    pub resolve-alone : (k : ℕ) → shared w u ≡ false → resolve space root k w ≡ failing w u
    unfolding resolve try_order
    resolve-alone zero b = rw e
    resolve-alone (suc k) b = rw (e, b)

    pub resolve-spent : resolve space root 0 w ≡ failing w u
    unfolding resolve try_order
    resolve-spent = rw e

-- ---- the look as a whole

module _ (space : ℕ → ℕ) (root : ℕ) where
  -- after j of k copies every link fits; or one is reported, while its child has no other link or no copy is left
  pub data Ended (k : ℕ) (w : Grown) : Arrangement → Type 0 where
    fits : {j : ℕ} {z : Grown} → Grows space root j w z → j ≤ k → misfits space root z ≡ [] → Ended k w (fitting z (space_order space root z))
    fails : {j : ℕ} {z : Grown} {u : Overflow} {us : List Overflow} → Grows space root j w z → j ≤ k → misfits space root z ≡ u ∷ us → (shared z u ≡ false) ⊎ (j ≡ k)
        → Ended k w (failing z u)

  ended-more : {k : ℕ} {w : Grown} {c : Arrangement} (u : Overflow) (us : List Overflow) → misfits space root w ≡ u ∷ us → shared w u ≡ true → Ended k (grow u w) c → Ended (suc k) w c
  ended-more u us e b (fits r h f) = fits (more u us e b r) (omega arith) f
  ended-more u us e b (fails r h f (inl s)) = fails (more u us e b r) (omega arith) f (inl s)
  ended-more u us e b (fails r h f (inr s)) = fails (more u us e b r) (omega arith) f (inr (ap suc s))

  pub resolve-ends : (k : ℕ) (w : Grown) → Ended k w (resolve space root k w)
  resolve-ends zero w = go (misfits space root w) refl
    where
      go : (us : List Overflow) → misfits space root w ≡ us → Ended 0 w (resolve space root 0 w)
      go [] e = subst (Ended 0 w) (sym (resolve-placed space root w 0 e)) (fits still (omega arith) e)
      go (u ∷ us) e = subst (Ended 0 w) (sym (resolve-spent space root w e)) (fails still (omega arith) e (inr refl))
  resolve-ends (suc k) w = go (misfits space root w) refl (λ u. resolve-ends k (grow u w))
    where
      go : (us : List Overflow) → misfits space root w ≡ us → ((u : Overflow) → Ended k (grow u w) (resolve space root k (grow u w))) → Ended (suc k) w (resolve space root (suc k) w)
      go [] e i = subst (Ended (suc k) w) (sym (resolve-placed space root w (suc k) e)) (fits still (omega arith) e)
      go (u ∷ us) e i = cut (shared w u) refl
        where
          cut : (b : Bool) → shared w u ≡ b → Ended (suc k) w (resolve space root (suc k) w)
          cut true b = subst (Ended (suc k) w) (sym (resolve-next space root w e k b)) (ended-more u us e b (i u))
          cut false b = subst (Ended (suc k) w) (sym (resolve-alone space root w e (suc k) b)) (fails still (omega arith) e (inl b))

  -- copies made spend as many
  grows-resolve : {j : ℕ} {w z : Grown} → Grows space root j w z → (n k : ℕ) → n ≡ j + k → resolve space root n w ≡ resolve space root k z
  grows-resolve {w = w} still n k e = let f : n ≡ k = omega arith in ap (λ (i : ℕ). resolve space root i w) f
  grows-resolve (more u us a b r) zero k e = absurd (omega arith)
  grows-resolve {w = w} (more u us a b r) (suc n) k e = resolve-next space root w a n b ∙ grows-resolve r n k (omega arith)

  -- and no other way: what ends so is the look's end
  pub ends-resolve : {c : Arrangement} {k : ℕ} {w : Grown} → Ended k w c → resolve space root k w ≡ c
  ends-resolve {k = k} (fits {j = j} {z = z} r h e) = grows-resolve r k (k - j) (omega arith) ∙ resolve-placed space root z (k - j) e
  ends-resolve {k = k} (fails {j = j} {z = z} r h e (inl s)) = grows-resolve r k (k - j) (omega arith) ∙ resolve-alone space root z e (k - j) s
  ends-resolve {k = k} (fails {z = z} r h e (inr s)) = grows-resolve r k 0 (omega arith) ∙ resolve-spent space root z e

-- ---- what a look keeps

module _ (space : ℕ → ℕ) {root : ℕ} {g : Graph} where
  -- what is reported is a field of a node to place
  pub report-curable : {w : Grown} → Grew g root w → {u : Overflow} {us : List Overflow} → misfits space root w ≡ u ∷ us → shared w u ≡ true → Curable w u
  unfolding space_order shared
  report-curable {w} v {u} {us} e b =
      let t = unfit-head w.graph (space_order space root w) u us e in
      let c = order-counts w.origin (grown_key space root w) w.graph v.ranked w.line root v.rooted u.parent.0 in
      record { placed = omega (arith, t.placed, c); has = t.has; two = ltb-true 1 (waits w.graph w.line (child_of w u)) b }

  pub report-grew : {w : Grown} → Grew g root w → {u : Overflow} {us : List Overflow} → misfits space root w ≡ u ∷ us → shared w u ≡ true → Grew g root (grow u w)
  report-grew v e b = grow-grew v (report-curable v e b)

module _ {space : ℕ → ℕ} {root : ℕ} where
  pub grows-reads : {g : Graph} {content : ℕ → List ℕ} {ρ : ℕ → Reading} {j : ℕ} {w z : Grown} → Grows space root j w z → GrewReads g content ρ root w → GrewReads g content ρ root z
  grows-reads still v = v
  grows-reads (more u us e b r) v = grows-reads r (grow-reads v (report-curable space v.grew e b))

  -- as many copies as turns
  pub grows-made : {j : ℕ} {w z : Grown} → Grows space root j w z → length z.copies ≡ j + length w.copies
  unfolding grow
  grows-made still = omega arith
  grows-made (more u us e b r) = omega (arith, grows-made r)

  -- each has the next id
  pub grows-next : {j : ℕ} {w z : Grown} → Grows space root j w z → z.next ≡ j + w.next
  unfolding grow
  grows-next still = omega arith
  grows-next (more u us e b r) = omega (arith, grows-next r)
