-- docs/RULES.md, 6.2 and 7.7, on lent memory: what a duplicate is never told, and which fields always hold their offset where no copy is made.
use mathlib.Core.Path.{◌≡◌, ap}
use Prim.Native.Nat.{ℕ, ◌-◌, ◌≤◌, ◌<◌}
use mathlib.Core.List.{List}
use mathlib.Core.Bool.{true}
use native.Mathlib.Omega.{arith}
use Rattle.lists.specs.Lists.{total}
use Rattle.answer.specs.Number.{number}
use Rattle.answer.specs.declared.tally.Tally.{Tally}
use Rattle.answer.specs.declared.Refusal.TheVariants as Refusal
use Rattle.big_endian.specs.BigEndian.{capacity, fits}
use Rattle.model_orders.specs.Bag.{count}
use Rattle.model_orders.specs.Object.{Link, hopeless_object}
use Rattle.model_orders.specs.Graph.{Graph, graph_of, reached, Ranked, Acyclic, Closed}
use Rattle.model_orders.specs.Distance.{In}
use Rattle.model_orders.specs.Table.{place_of, offset}
use Rattle.model.specs.Judge.{most_bytes}
use Rattle.model_orders.proofs.Always.{always-fits, reached-held}
use Rattle.model_orders.proofs.Bags.{total-bag}
use Rattle.model_orders.proofs.Distances.{in-kids}
use Rattle.model_orders.proofs.Reach.{reached-rooted, reached-low}
use Rattle.model.proofs.Refusals.{duplicate-closes}
use Rattle.layout.specs.Words.{closed_count, limits_in, top}
use Rattle.layout.specs.Decode.{decode}
use Rattle.layout.specs.Sound.{sound}
use Rattle.layout.proofs.Facts.{sound-facts, sound-tables}
use Rattle.steps.specs.Steps.{tally_in, under, innermost_in, twin_in}
use Rattle.steps.specs.Runs.{close, Stores, step_on, on_stores, lent_step}
use Rattle.steps.proofs.Tallies.{closed-size, tally-decode}
use Rattle.steps.proofs.Formed.{sound-formed, decoded-at}
use Rattle.claims.specs.Calls.{tests_of}
use Rattle.claims.proofs.Calls.{answers}

-- a duplicate is never told that the objects are full
pub duplicate-never-full : (s : Stores) → twin_in s.bytes s.words < closed_count s.words → (step_on close s).told.number ≡ number Refusal.ObjectsFull → ⊥
unfolding tests_of lent_step
duplicate-never-full s h e =
    let b = s.bytes in
    let w = s.words in
    duplicate-closes (sound b w) (limits_in w) (tally_in b w) (top w - under w) (hopeless_object (innermost_in b w)) (twin_in b w) h (((answers s (on_stores close)).exactly (number Refusal.ObjectsFull)).only e)

module _ (b w : List ℕ) (h : sound b w ≡ true) (id : ℕ) (known : id < closed_count w) where
  -- the closed objects
  abbrev g : Graph
  g = graph_of (decode b w).closed

  acyclic : Acyclic g
  acyclic = unfold Ranked in λ p c k. (sound-formed b w h p).low c k

  some_bytes : (i : ℕ) → i < closed_count w → 0 < g.size i
  some_bytes i k =
      let s = sound-facts b w h in
      rw (decoded-at b w i k) (omega (arith, closed-size s i k, (sound-tables s).begins.next i k))

  -- what the root reaches is no more than the byte store holds
  reached-most : total g.size (reached g id) ≤ most_bytes
  reached-most =
      let s = sound-facts b w h in
      omega (arith, reached-held (decode b w).closed id, ap (λ (t : Tally). t.bytes) (tally-decode b w h))

  -- without copies: in an order of what the root reaches, each placed once
  module _ (o : List ℕ) (once : (c : ℕ) → count c o ≡ count c (reached g id)) (p : ℕ) (l : Link) (k : 0 < count p o) (i : In l (g.links p)) where
    pub wide_fits : most_bytes ≤ capacity l.slot.width → fits l.slot.width (offset (place_of g o) p l) ≡ true
    unfolding Closed
    wide_fits wide =
        let c = l.child in
        let low = (sound-formed b w h p).low c (in-kids l (g.links p) i) in
        let r = (reached-rooted g id acyclic).closed in
        always-fits g o (λ q d x y. rw (once d) (r q d (rw (once q) at x) y)) p l k i
        (some_bytes c (omega (arith, reached-low g id p (rw (once p) at k))))
        most_bytes (rw (total-bag g.size o (reached g id) once) reached-most) wide

    -- widths 3 and 4 always fit there
    pub three-fits : l.slot.width ≡ 3 → fits l.slot.width (offset (place_of g o) p l) ≡ true
    three-fits e = wide_fits (rw e (omega arith))

    pub four-fits : l.slot.width ≡ 4 → fits l.slot.width (offset (place_of g o) p l) ≡ true
    four-fits e = wide_fits (rw e (omega arith))
