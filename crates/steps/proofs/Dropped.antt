-- Drop: the innermost open object's bytes are zero again.
use mathlib.Core.Path.{◌≡◌, refl, sym, subst, ◌∙◌}
use Prim.Native.Nat.{ℕ, ◌+◌, ◌-◌, ◌≤◌, ◌<◌}
use mathlib.Core.List.{List}
use native.Mathlib.Decide.{dec_le}
use native.Mathlib.Omega.{arith}
use lib.ListN.{length, get_or, length-set}
use lib.Seq.{get_or-set_same, get_or-set_other}
use Rattle.lists.proofs.Frames.{length-cleared, cleared-before, cleared-in, cleared-after, zeros-in}
use Rattle.model.specs.Session.{with_opens, outer}
use Rattle.layout.specs.Words.{closed_count_at, open_depth_at, closed_count, open_depth, top, low}
use Rattle.layout.specs.Decode.{decode}
use Rattle.layout.specs.Known.{Sound}
use Rattle.steps.specs.Steps.{under, dropped_bytes, dropped_words, less_inner}
use Rattle.steps.proofs.Tallies.{tally-same}
use Rattle.steps.proofs.Innermost.{outer-decode, inner_edges}
use Rattle.steps.proofs.Frames.{ObjectsKept, kept-others}
use Rattle.steps.proofs.Sides.{Leaves, kept-opens, kept-closed, sides-leave}

module _ {b w : List ℕ} (s : Sound b w) (h : 0 < open_depth w) where
  within : under w + (top w - under w) ≤ length b
  within = let e = inner_edges b w h s in omega arith

  others : (j : ℕ) → (j ≡ open_depth_at → ⊥) → get_or (dropped_words w) j 0 ≡ get_or w j 0
  others j e = get_or-set_other w open_depth_at j (open_depth w - 1) 0 e

  kept : ObjectsKept (open_depth w - 1) b w (dropped_bytes b w) (dropped_words w)
  kept =
      let e = inner_edges b w h s in
      kept-others s (omega arith) (omega arith) (length-cleared (under w) (top w - under w) b within) (cleared-before (under w) (top w - under w) b within)
      (λ i k. cleared-after (under w) (top w - under w) b within i (omega arith)) (length-set w open_depth_at (open_depth w - 1)) (λ j o. others j o.depth)

  -- zero where it was, and behind it
  gap : (i : ℕ) → under w ≤ i → i < low w → get_or (dropped_bytes b w) i 0 ≡ 0
  gap i a c = go (dec_le (top w) i)
    where
      go : Dec (top w ≤ i) → get_or (dropped_bytes b w) i 0 ≡ 0
      go (yes k) = let e = inner_edges b w h s in cleared-after (under w) (top w - under w) b within i (omega arith) ∙ zeros-in (top w) (low w) b s.gap i k c
      go (no k) = cleared-in (under w) (top w - under w) b within i a (omega arith)

  pub drop-leaves : Leaves b w (dropped_bytes b w) (dropped_words w) (less_inner b w) (with_opens (outer (decode b w).opens) (decode b w))
  unfolding decode
  drop-leaves =
      let e = inner_edges b w h s in
      let count : closed_count (dropped_words w) ≡ closed_count w = others closed_count_at (omega arith) in
      subst (λ os. Leaves b w (dropped_bytes b w) (dropped_words w) (less_inner b w) (with_opens os (decode b w))) (sym (outer-decode b w))
      (sides-leave s kept (kept-opens s kept (omega arith)) (kept-closed s kept) (get_or-set_same w open_depth_at (open_depth w - 1) 0 (omega arith)) count
      (omega arith) (omega arith) (omega arith) (omega arith) gap (less_inner b w) (tally-same (omega arith) (omega arith) refl refl))
