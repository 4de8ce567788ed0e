-- A node's links as spaces see them, one by one and in runs to one child: a narrow one gives its child, another nothing.
use mathlib.Core.Path.{◌≡◌, refl, sym, ap, ◌∙◌}
use Prim.Native.Nat.{ℕ, zero, suc, ◌+◌, ◌≤◌, ◌<◌, min}
use mathlib.Core.List.{List, [], ◌∷◌, ◌++◌}
use mathlib.Core.Bool.{Bool, not, ◌||◌, or-true, or-false}
use native.Mathlib.Omega.{arith}
use native.Mathlib.Decide.{ℕ_discrete}
use lib.ListN.{replicate}
use lib.Dec.{eqb}
use borrow.Author.Tests.{lt-ltb, ltb-true, ltb-false, eq-eqb, ne_eqb}
use Rattle.model_orders.specs.Object.{Link, widest}
use Rattle.model_orders.specs.Space.{narrow, narrow_of}
use Rattle.work.specs.declared.Areas.{Areas}
use Rattle.order_graph.specs.Graph.{links_after, link_count, FieldOf, Row, one, more, RunFrom}
use Rattle.order_graph.proofs.Links.{links-read, links-none}
use Rattle.order_spaces_near.specs.Near.{RunOf}

pub kids-none : (a : Areas) (f : List ℕ) (i t : ℕ) → link_count a f i ≤ t → narrow_of (links_after a f i t) ≡ []
unfolding narrow_of
kids-none a f i t h = rw (links-none a f i t h, narrow_of)

module _ {a : Areas} {n i t : ℕ} {f : List ℕ} {l : Link} (r : FieldOf a n f i t l) (h : t < link_count a f i) where
  pub kid-narrow : (l.slot.width ≡ widest → ⊥) → narrow_of (links_after a f i t) ≡ l.child ∷ narrow_of (links_after a f i (t + 1))
  unfolding narrow_of narrow
  kid-narrow d = rw (links-read r h, narrow_of, narrow, ne_eqb l.slot.width widest d)

  pub kid-wide : l.slot.width ≡ widest → narrow_of (links_after a f i t) ≡ narrow_of (links_after a f i (t + 1))
  unfolding narrow_of narrow
  kid-wide e = rw (links-read r h, narrow_of, narrow, eq-eqb l.slot.width widest e)

-- ---- links in a row to one child

-- a width that is not the widest
abbrev narrower : ℕ → Bool
narrower width = not (eqb width widest)

repeat-next : (k c : ℕ) (l : List ℕ) → replicate k c ++ (c ∷ l) ≡ replicate (suc k) c ++ l
repeat-next zero c l = refl
repeat-next (suc k) c l = ap (λ (m : List ℕ). c ∷ m) (repeat-next k c l)

module _ {a : Areas} {n i t : ℕ} {f : List ℕ} where
  run-one : {l : Link} → FieldOf a n f i t l → t < link_count a f i → RunOf a n f i t (t + 1) l.child (narrower l.slot.width)
  run-one {l} r h = go (ℕ_discrete l.slot.width widest)
    where
      go : Dec (l.slot.width ≡ widest) → RunOf a n f i t (t + 1) l.child (narrower l.slot.width)
      go (yes e) =
          record { more = omega arith; most = omega arith; known = r.known; times = 0; some = rw (eq-eqb l.slot.width widest e) (grind arith); kids = kid-wide r h e }
      go (no d) =
          record { more = omega arith; most = omega arith; known = r.known; times = 1; some = rw (ne_eqb l.slot.width widest d) (grind arith); kids = kid-narrow r h d }

  run-next : {end child : ℕ} {any : Bool} {l : Link} → RunOf a n f i t end child any → FieldOf a n f i end l → end < link_count a f i → child ≡ l.child
      → RunOf a n f i t (end + 1) child (any || narrower l.slot.width)
  run-next {end} {child} {any} {l} s r h e = go (ℕ_discrete l.slot.width widest)
    where
      go : Dec (l.slot.width ≡ widest) → RunOf a n f i t (end + 1) child (any || narrower l.slot.width)
      go (yes z) =
          record {
            more = omega (arith, s.more);
            most = omega arith;
            known = s.known;
            times = s.times;
            some = rw (eq-eqb l.slot.width widest z) (or-false any ∙ s.some);
            kids = s.kids ∙ rw (kid-wide r h z);
          }
      go (no d) =
          record {
            more = omega (arith, s.more);
            most = omega arith;
            known = s.known;
            times = suc s.times;
            some = rw (ne_eqb l.slot.width widest d) (or-true any ∙ sym (lt-ltb 0 (suc s.times) (omega arith)));
            kids = s.kids ∙ rw (kid-narrow r h d, ← e) (repeat-next s.times child _);
          }

-- the lesser of two widths is narrow if one of them is
narrower-min : (v w : ℕ) → v ≤ widest → w ≤ widest → narrower v || narrower w ≡ narrower (min v w)
narrower-min v w h k = go (ℕ_discrete v widest)
  where
    go : Dec (v ≡ widest) → narrower v || narrower w ≡ narrower (min v w)
    go (yes e) = let m : min v w ≡ w = omega arith in rw (eq-eqb v widest e, m)
    go (no d) = rw (ne_eqb v widest d, ne_eqb (min v w) widest (λ q. d (omega arith)))

module _ {a : Areas} {n i t : ℕ} {f : List ℕ} where
  row-narrow : {end child width : ℕ} → Row a n f i t end child width → width ≤ widest
  row-narrow (one r _ _ q) = rw q r.narrow
  row-narrow (more {least = least} s r _ _ q) = omega (arith, row-narrow s)

  run-row : {end child width : ℕ} → Row a n f i t end child width → end ≤ link_count a f i → RunOf a n f i t end child (narrower width)
  run-row (one r e c q) h = rw (e, c, q) (run-one r (omega arith))
  run-row (more {least = least} {l = l} s r e c q) h =
      rw (e, q, ← narrower-min least l.slot.width (row-narrow s) r.narrow) (run-next (run-row s (omega arith)) r (omega arith) c)

  module _ {end child width : ℕ} (r : RunFrom a n f i t end child width) where
    -- a run is narrow if its narrowest link is
    pub run-kids : RunOf a n f i t end child (narrower width)
    run-kids = run-row r.row r.most

    pub run-wide : width ≡ widest → run-kids.times ≡ 0
    run-wide e = omega (arith, ltb-false 0 run-kids.times (sym run-kids.some ∙ rw (eq-eqb width widest e)))

    pub run-narrow : (width ≡ widest → ⊥) → 0 < run-kids.times
    run-narrow d = ltb-true 0 run-kids.times (sym run-kids.some ∙ rw (ne_eqb width widest d))
