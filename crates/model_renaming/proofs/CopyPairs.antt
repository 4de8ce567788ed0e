-- Paired graphs stay paired when each gets the copy for the paired link.
use mathlib.Core.Path.{◌≡◌, refl, sym, ap, ◌∙◌}
use Prim.Native.Nat.{ℕ, ◌<◌}
use mathlib.Core.List.{List, ◌∷◌}
use mathlib.Core.Bool.{Bool, true, false}
use native.Mathlib.Omega.{arith}
use lib.Dec.{eqb}
use borrow.Author.Tests.{eq-eqb, ne_eqb}
use Rattle.lists.specs.Lists.{pick}
use Rattle.model_orders.specs.Bag.{count}
use Rattle.model_orders.specs.Object.{Slot, Link}
use Rattle.model_orders.specs.Graph.{Graph}
use Rattle.model_orders.proofs.Bags.{Same, same, other, same_or, one-eq}
use Rattle.model_orders.specs.Copies.{lead_to, redirect, child_at, copied, beside}
use Rattle.model_orders.proofs.Beside.{beside-count}
use Rattle.model_orders.proofs.Redirects.{Field, this, later}
use Rattle.model_orders.proofs.Copies.{Copyable, Node, parent, copy, old, node_or}
use Rattle.model_renaming.specs.Renaming.{SameLinks}
use Rattle.model_renaming.proofs.Renaming.{id-rel}
use Rattle.model_renaming.proofs.Pairs.{Paired, Turned, turn-renames}

-- the pairs, and the two copies
pub data Plus (R : ℕ → ℕ → Type 0) (y y' : ℕ) (a b : ℕ) : Type 0 where
  kept : R a b → Plus R y y' a b
  new : a ≡ y → b ≡ y' → Plus R y y' a b

module _ {R : ℕ → ℕ → Type 0} where
  pub child-rel : (at : ℕ) {ls ms : List Link} → SameLinks R ls ms → Field at ls → R (child_at at ls) (child_at at ms)
  unfolding child_at
  child-rel at SameLinks.nil f = elim f [ ]
  child-rel at (SameLinks.cons {l = l} {m = m} {ls = ls} {ms = ms} a r s) f = rw (← ap (λ (z : Slot). z.at) a) (go f (same_or l.slot.at at) (child-rel at s))
    where
      go : Field at (l ∷ ls) → Same l.slot.at at → (Field at ls → R (child_at at ls) (child_at at ms))
          → R (pick (eqb l.slot.at at) l.child (child_at at ls)) (pick (eqb l.slot.at at) m.child (child_at at ms))
      go f (same _ b _) i = rw b r
      go (this e) (other n b _) i = absurd (n e)
      go (later f) (other n b _) i = rw b (i f)

  module _ {y y' : ℕ} where
    plus-links : {ls ms : List Link} → SameLinks R ls ms → SameLinks (Plus R y y') ls ms
    plus-links SameLinks.nil = SameLinks.nil
    plus-links (SameLinks.cons a r s) = SameLinks.cons a (kept r) (plus-links s)

    redirect-rel : (at : ℕ) {ls ms : List Link} → SameLinks R ls ms → SameLinks (Plus R y y') (redirect at y ls) (redirect at y' ms)
    unfolding redirect
    redirect-rel at SameLinks.nil = SameLinks.nil
    redirect-rel at (SameLinks.cons {l = l} {m = m} {ls = ls} {ms = ms} a r s) = go (eqb l.slot.at at) (eqb m.slot.at at) (ap (λ (z : Slot). eqb z.at at) a) (redirect-rel at s)
      where
        go : (b c : Bool) → b ≡ c → SameLinks (Plus R y y') (redirect at y ls) (redirect at y' ms)
            → SameLinks (Plus R y y') (pick b (lead_to y l ∷ ls) (l ∷ redirect at y ls))
            (pick c (lead_to y' m ∷ ms) (m ∷ redirect at y' ms))
        go true true e i = SameLinks.cons a (new refl refl) (plus-links s)
        go false false e i = SameLinks.cons a (kept r) i
        go true false e i = absurd (let z : ◌≡◌ {A = ℕ} 0 1 = cc in omega arith)
        go false true e i = absurd (let z : ◌≡◌ {A = ℕ} 0 1 = cc in omega arith)

module _ {g h : Graph} {l m : List ℕ} {root root' : ℕ} {R : ℕ → ℕ → Type 0} (q : Paired g h l m root root' R) {p p' at y y' : ℕ} (rp : R p p')
    (k : Copyable g p at y) (k' : Copyable h p' at y') (out : count y l ≡ 0) (out' : count y' m ≡ 0) where
  abbrev x : ℕ
  x = child_at at (g.links p)

  abbrev x' : ℕ
  x' = child_at at (h.links p')

  pub child-paired : R x x'
  child-paired = child-rel at (q.renames.links p p' rp) k.has

  pub away-left : {a b : ℕ} → R a b → a ≡ y → ⊥
  away-left {a} {b} r e = omega (arith, q.left a b r, ap (λ (z : ℕ). count z l) e, out)

  pub away-right : {a b : ℕ} → R a b → b ≡ y' → ⊥
  away-right {a} {b} r e = omega (arith, q.right a b r, ap (λ (z : ℕ). count z m) e, out')

  -- two nodes' links and sizes
  record SameNode (a b : ℕ) : Type 0 where
    pub size : (copied g p at x y).size a ≡ (copied h p' at x' y').size b
    pub links : SameLinks (Plus R y y') ((copied g p at x y).links a) ((copied h p' at x' y').links b)

  alike : (a b : ℕ) → Plus R y y' a b → SameNode a b
  alike a b (new e f) = go (node_or k a) (node_or k' b)
    where
      go : Node k a → Node k' b → SameNode a b
      go (copy _ _ s t) (copy _ _ s' t') =
          record { size = t ∙ q.renames.sizes x x' child-paired ∙ sym t'; links = rw (s, s') (plus-links (q.renames.links x x' child-paired)) }
      go (parent _ n _ _) z = absurd (n e)
      go (old _ n _ _) z = absurd (n e)
      go (copy _ _ _ _) (parent _ n _ _) = absurd (n f)
      go (copy _ _ _ _) (old _ n _ _) = absurd (n f)
  alike a b (kept r) = go (node_or k a) (node_or k' b)
    where
      go : Node k a → Node k' b → SameNode a b
      go (copy e _ _ _) z = absurd (away-left r e)
      go (parent _ _ _ _) (copy e _ _ _) = absurd (away-right r e)
      go (old _ _ _ _) (copy e _ _ _) = absurd (away-right r e)
      go (parent _ _ s t) (parent _ _ s' t') = record { size = t ∙ q.renames.sizes a b r ∙ sym t'; links = rw (s, s') (redirect-rel at (q.renames.links p p' rp)) }
      go (old _ _ s t) (old _ _ s' t') = record { size = t ∙ q.renames.sizes a b r ∙ sym t'; links = rw (s, s') (plus-links (q.renames.links a b r)) }
      go (parent e _ _ _) (old n _ _ _) = absurd (n (id-rel q.renames r rp e))
      go (old n _ _ _) (parent e _ _ _) = absurd (n (unfold Turned in id-rel (turn-renames q.renames) r rp e))

  ids : (a a' b b' : ℕ) → Plus R y y' a a' → Plus R y y' b b' → eqb a b ≡ eqb a' b'
  ids a a' b b' (kept r) (kept s) = q.renames.ids a a' b b' r s
  ids a a' b b' (kept r) (new e f) = ne_eqb a b (λ z. away-left r (z ∙ e)) ∙ sym (ne_eqb a' b' (λ z. away-right r (z ∙ f)))
  ids a a' b b' (new e f) (kept s) = ne_eqb a b (λ z. away-left s (sym z ∙ e)) ∙ sym (ne_eqb a' b' (λ z. away-right s (sym z ∙ f)))
  ids a a' b b' (new e f) (new c d) = eq-eqb a b (e ∙ sym c) ∙ sym (eq-eqb a' b' (f ∙ sym d))

  pub copy-paired : 0 < count x l → 0 < count x' m → Paired (copied g p at x y) (copied h p' at x' y') (beside x y l) (beside x' y' m) root root' (Plus R y y')
  copy-paired i i' =
      record {
        renames = record { ids = ids; sizes = λ a b r. (alike a b r).size; links = λ a b r. (alike a b r).links };
        roots = kept q.roots;
        left = left;
        right = right;
        fore = λ a n. fore a n (same_or a y);
        back = λ b n. back b n (same_or b y');
      }
    where
      left : (a b : ℕ) → Plus R y y' a b → 0 < count a (beside x y l)
      left a b (kept r) = omega (arith, beside-count x y a l i, q.left a b r)
      left a b (new e f) = omega (arith, beside-count x y a l i, one-eq a y e)

      right : (a b : ℕ) → Plus R y y' a b → 0 < count b (beside x' y' m)
      right a b (kept r) = omega (arith, beside-count x' y' b m i', q.right a b r)
      right a b (new e f) = omega (arith, beside-count x' y' b m i', one-eq b y' f)

      fore : (a : ℕ) → 0 < count a (beside x y l) → Same a y → (b : ℕ) × Plus R y y' a b
      fore a n (same e _ _) = (y', new e refl)
      fore a n (other _ _ o) = let t = q.fore a (omega (arith, beside-count x y a l i)) in (t.0, kept t.1)

      back : (b : ℕ) → 0 < count b (beside x' y' m) → Same b y' → (a : ℕ) × Plus R y y' a b
      back b n (same e _ _) = (y, new refl e)
      back b n (other _ _ o) = let t = q.back b (omega (arith, beside-count x' y' b m i')) in (t.0, kept t.1)
