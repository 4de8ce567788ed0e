-- The innermost open object: what the calls read of it is what the decoded session has.
use mathlib.Core.Path.{◌≡◌, refl, sym, ap, ◌∙◌}
use Prim.Native.Nat.{ℕ, zero, suc, ◌+◌, ◌-◌, ◌≤◌, ◌<◌}
use mathlib.Core.List.{List}
use mathlib.Core.Bool.{true}
use native.Mathlib.Omega.{arith}
use native.Mathlib.Decide.{dec_le}
use lib.ListN.{get_or}
use Rattle.lists.specs.Lists.{part, first_that}
use Rattle.lists.proofs.Runs.{length_part}
use Rattle.lists.proofs.Frames.{first-most}
use Rattle.model_orders.specs.Object.{Object, size_of, hopeless_object, same_object}
use Rattle.model.specs.Session.{innermost, outer, twin}
use Rattle.layout.specs.Words.{closed_count, open_depth, ends_at, link_ends_at, top, link_top}
use Rattle.layout.specs.Fields.{object_ok}
use Rattle.layout.specs.Decode.{links_from, open_at, opens_to, closed_to, decode}
use Rattle.layout.specs.Sound.{sound}
use Rattle.layout.specs.Known.{Sound}
use Rattle.layout.proofs.Facts.{sound-facts, sound-tables}
use Rattle.steps.specs.Steps.{under, link_under, innermost_in, twin_in}
use Rattle.steps.proofs.Tables.{for_all-at, rising-last}
use Rattle.steps.proofs.Tallies.{length-closed}

-- the innermost open object's edges
pub record Edges (w : List ℕ) : Type 0 where
  pub rise : under w ≤ top w
  pub link_rise : link_under w ≤ link_top w

module _ (b w : List ℕ) where
  opens-innermost : (n : ℕ) → 0 < n → innermost (opens_to b w n) ≡ open_at b w (n - 1)
  unfolding opens_to
  opens-innermost zero h = absurd (omega arith)
  opens-innermost (suc n) h = let e : n ≡ suc n - 1 = omega arith in ap (open_at b w) e

  opens-outer : (n : ℕ) → outer (opens_to b w n) ≡ opens_to b w (n - 1)
  unfolding opens_to
  opens-outer zero = refl
  opens-outer (suc n) = let e : n ≡ suc n - 1 = omega arith in ap (opens_to b w) e

  pub outer-decode : outer (decode b w).opens ≡ opens_to b w (open_depth w - 1)
  unfolding decode
  outer-decode = opens-outer (open_depth w)

  pub twin-most : twin_in b w ≤ closed_count w
  unfolding twin_in
  twin-most = omega (arith, first-most (same_object (innermost_in b w)) (closed_to b w (closed_count w)), length-closed b w (closed_count w))

  -- where something is open
  module _ (h : 0 < open_depth w) where
    pub innermost-decode : innermost (decode b w).opens ≡ innermost_in b w
    unfolding decode
    innermost-decode = opens-innermost (open_depth w) h

    pub twin-decode : twin_in b w ≡ twin (decode b w)
    unfolding twin_in decode
    twin-decode = ap (λ (o : Object). first_that (same_object o) (closed_to b w (closed_count w))) (sym innermost-decode)

    pub hopeless-decode : hopeless_object (innermost_in b w) ≡ hopeless_object (innermost (decode b w).opens)
    hopeless-decode = ap hopeless_object (sym innermost-decode)

    -- by its edges
    pub inner-is : innermost_in b w ≡ record { bytes = part (under w) (top w) b; links = links_from w (link_under w) (link_top w) }
    inner-is =
        let e : ends_at + (open_depth w - 1) + 1 ≡ ends_at + open_depth w = omega arith in
        let f : link_ends_at + (open_depth w - 1) + 1 ≡ link_ends_at + open_depth w = omega arith in
        rw (e, f)

    pub inner-size : Sound b w → top w - under w ≡ size_of (innermost_in b w)
    inner-size s = sym (ap size_of inner-is ∙ length_part (under w) (top w) b (omega arith))

    pub inner-right : Sound b w → object_ok (closed_count w) (innermost_in b w) ≡ true
    inner-right s = for_all-at (λ d. object_ok (closed_count w) (open_at b w d)) (open_depth w) s.opens (open_depth w - 1) (omega arith)

    pub inner_edges : Sound b w → Edges w
    inner_edges s =
        let t = sound-tables s in
        record { rise = rising-last t.ends (open_depth w - 1) (omega arith); link_rise = rising-last t.link_ends (open_depth w - 1) (omega arith) }

  -- where nothing is open, both are 0
  pub size-decode : sound b w ≡ true → top w - under w ≡ size_of (innermost (decode b w).opens)
  unfolding decode opens_to
  size-decode s = go (dec_le 1 (open_depth w))
    where
      go : Dec (1 ≤ open_depth w) → top w - under w ≡ size_of (innermost (opens_to b w (open_depth w)))
      go (yes h) = inner-size h (sound-facts b w s) ∙ ap size_of (sym (innermost-decode h))
      go (no h) =
          let e : open_depth w ≡ 0 = omega arith in
          let z : top w ≡ 0 = ap (λ (n : ℕ). get_or w (ends_at + n) 0) e ∙ (sound-facts b w s).head.base in
          omega arith ∙ sym (ap (λ (n : ℕ). size_of (innermost (opens_to b w n))) e)
