-- docs/RULES.md, 2.9 and 4.10: which fields an order can always fill, and what a hopeless object never is, on lent memory; and that none packs, whatever the copies.
use mathlib.Core.Path.{◌≡◌, refl, sym, ap, ◌∙◌}
use Prim.Native.Nat.{ℕ, ◌+◌, ◌-◌, ◌≤◌, ◌<◌}
use mathlib.Core.List.{List, [], ◌∷◌}
use mathlib.Core.Bool.{true, false, true≢false}
use native.Mathlib.Omega.{arith}
use native.Mathlib.Decide.{dec_le}
use borrow.Author.Tests.{eqb-false, lt-leb, not-false}
use Rattle.lists.specs.Lists.{total}
use Rattle.lists.proofs.Elements.{first_passes}
use Rattle.answer.specs.Number.{number}
use Rattle.answer.specs.declared.Refusal.TheVariants as Refusal
use Rattle.big_endian.specs.BigEndian.{capacity}
use Rattle.big_endian.proofs.Laws.{capacity-rises}
use Rattle.model_orders.specs.Bag.{one, count}
use Rattle.model_orders.specs.Object.{Link, no_object, size_of, hopeless, any_hopeless, slots_of, hopeless_object, same_object}
use Rattle.model_orders.specs.Graph.{Graph, reached}
use Rattle.model_orders.specs.Distance.{In}
use Rattle.model_orders.specs.Reading.{Reading, slots_in, read_links, Reads}
use Rattle.model_orders.specs.Copies.{Grown, Chosen}
use Rattle.model.specs.Judge.{Tells, none, this, next, close_tests}
use Rattle.model_orders.proofs.Bags.{Same, same, other, same_or, total-from}
use Rattle.model_orders.proofs.Distances.{in-kids}
use Rattle.model_orders.proofs.Growths.{Base}
use Rattle.model_orders.proofs.Arrangements.{chosen-reads, chosen-fitting}
use Rattle.model_orders.proofs.Hopeless.{hopes-all, fit-hopes}
use Rattle.model_orders.proofs.SameReading.{object-equal}
use Rattle.layout.specs.Words.{closed_count, open_depth, limits_in, top}
use Rattle.layout.specs.Fields.{object_ok}
use Rattle.layout.specs.Decode.{open_at, closed_to}
use Rattle.layout.specs.Sound.{sound}
use Rattle.layout.proofs.Facts.{sound-facts, sound-tables}
use Rattle.steps.specs.Steps.{tally_in, under, innermost_in, twin_in}
use Rattle.steps.specs.Runs.{close, Stores, step_on, on_stores, lent_step}
use Rattle.steps.proofs.Held.{some-open}
use Rattle.steps.proofs.Tables.{for_all-at}
use Rattle.steps.proofs.Tallies.{length-closed, closed-at, open-size}
use Rattle.steps.proofs.Formed.{fields-low, closed-hopes}
use Rattle.steps.proofs.Innermost.{twin-most}
use Rattle.claims.specs.Calls.{tests_of}
use Rattle.claims.proofs.Calls.{answers}

module _ (b w : List ℕ) (h : sound b w ≡ true) where
  -- a field of width 3 or 4 is never hopeless: its child has a byte in the same byte store
  pub three-hopes : (d : ℕ) → d < open_depth w → (l : Link) → In l (open_at b w d).links → 3 ≤ l.slot.width → hopeless (size_of (open_at b w d)) l.slot ≡ false
  three-hopes d k l i wide =
      let s = sound-facts b w h in
      let t = sound-tables s in
      let right = for_all-at (λ e. object_ok (closed_count w) (open_at b w e)) (open_depth w) s.opens d k in
      let low = fields-low (closed_count w) (open_at b w d).bytes 0 (open_at b w d).links right l.child (in-kids l (open_at b w d).links i) in
      let child = t.begins.next l.child low in
      let behind = t.begins.under l.child (omega arith) in
      let before = t.begins.above l.child low in
      lt-leb (capacity l.slot.width) (size_of (open_at b w d) - l.slot.inner)
      (omega (arith, capacity-rises 3 l.slot.width wide, open-size s d k, t.ends.under d k))

  -- a hopeless object equals no closed one
  pub hopeless-new : hopeless_object (innermost_in b w) ≡ true → twin_in b w ≡ closed_count w
  unfolding twin_in
  hopeless-new e = go (dec_le (closed_count w) (twin_in b w))
    where
      go : Dec (closed_count w ≤ twin_in b w) → twin_in b w ≡ closed_count w
      go (yes k) = omega (arith, twin-most b w)
      go (no k) =
          let n = length-closed b w (closed_count w) in
          let same = first_passes (same_object (innermost_in b w)) (closed_to b w (closed_count w)) no_object (omega arith) in
          let equal = object-equal (innermost_in b w) _ same ∙ closed-at b w (closed_count w) (twin_in b w) (omega arith) in
          absurd (true≢false (sym e ∙ ap hopeless_object equal ∙ closed-hopes (sound-facts b w h) (twin_in b w) (omega arith)))

-- a close of an object whose fields are of width 3 or 4 is never told 16
pub three-never-hopeless : (s : Stores) → ((l : Link) → In l (innermost_in s.bytes s.words).links → 3 ≤ l.slot.width) → (step_on close s).told.number ≡ number Refusal.Hopeless → ⊥
unfolding tests_of lent_step
three-never-hopeless s wide e = go (((answers s (on_stores close)).exactly (number Refusal.Hopeless)).only e)
  where
    b : List ℕ
    b = s.bytes

    w : List ℕ
    w = s.words

    go : Tells (close_tests (sound b w) (limits_in w) (tally_in b w) (top w - under w) (hopeless_object (innermost_in b w)) (twin_in b w)) (number Refusal.Hopeless) → ⊥
    go (this _ z) = omega arith
    go (next _ (this _ z)) = omega arith
    go (next _ (next _ (this _ z))) = omega arith
    go (next i (next j (next _ (this k _)))) =
        let some = some-open (eqb-false (open_depth w) 0 j) in
        true≢false
        (sym k ∙ hopes-all _ (innermost_in b w).links (λ l m. three-hopes b w (not-false (sound b w) i) (open_depth w - 1) (omega arith) l m (wide l m)))
    go (next _ (next _ (next _ (next _ (this _ z))))) = omega arith
    go (next _ (next _ (next _ (next _ (next _ (none z)))))) = omega arith

-- ---- what packs is never hopeless: a copy has its object's size and fields

slots-links : (ρ : ℕ → Reading) (ls : List Link) (bs : List ℕ) → slots_in (read_links ρ ls bs) ≡ slots_of ls
unfolding read_links slots_in
slots-links ρ [] bs = refl
slots-links ρ (l ∷ ls) bs = rw (slots-links ρ ls bs)

count-total : (c : ℕ) (l : List ℕ) → total (one c) l ≡ count c l
unfolding total count
count-total c [] = refl
count-total c (x ∷ l) = ap (λ (n : ℕ). one c x + n) (count-total c l)

module _ {g : Graph} {content : ℕ → List ℕ} {ρ : ℕ → Reading} {n root : ℕ} (b : Base g content ρ n) (h : root < n) {copies : ℕ} {z : Grown} {o : List ℕ} (c : Chosen copies g n root z o) where
  node-slots : (i : ℕ) → slots_of (z.graph.links i) ≡ slots_of (g.links (z.origin i))
  unfolding Reads
  node-slots i =
      let v = chosen-reads copies g n root b h c in
      sym (slots-links _ (z.graph.links i) _) ∙ ap slots_in (sym (v.reads i) ∙ b.reads (z.origin i)) ∙ slots-links ρ (g.links (z.origin i)) _

  node-hopes : (i : ℕ) → 0 < count i z.line → any_hopeless (g.size (z.origin i)) (slots_of (g.links (z.origin i))) ≡ false
  node-hopes i k =
      let f = chosen-fitting copies g n root b h c in
      let e = fit-hopes z.graph o f.first i (rw (f.once i) k) f.fit in
      rw (← node-slots i, ← (chosen-reads copies g n root b h c).grew.sizes i) e

  -- no object that the root reaches, where one of the orders fits
  pub chosen-hopes : (p : ℕ) → 0 < count p (reached g root) → any_hopeless (g.size p) (slots_of (g.links p)) ≡ false
  chosen-hopes p k =
      let v = (chosen-reads copies g n root b h c).grew in
      let t = total-from (λ i. one p (z.origin i)) z.line (omega (arith, v.sum (one p), count-total p (reached g root))) in
      go t (same_or p (z.origin t.0))
    where
      go : (t : (i : ℕ) × (0 < count i z.line) × (0 < one p (z.origin i))) → Same p (z.origin t.0) → any_hopeless (g.size p) (slots_of (g.links p)) ≡ false
      go t (same e _ _) = rw e (node-hopes t.0 t.1)
      go t (other _ _ z) = absurd (omega (arith, t.2))
