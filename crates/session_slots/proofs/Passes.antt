-- The look along the slots from the open object's own on.
use mathlib.Core.Path.{◌≡◌, sym, ap, ◌∙◌}
use Prim.Native.Nat.{ℕ, ◌+◌, ◌-◌, ◌≤◌, ◌<◌}
use mathlib.Core.List.{List}
use mathlib.Core.Bool.{true, false, ◌&&◌}
use native.Mathlib.Decide.{ℕ_discrete}
use native.Mathlib.Omega.{arith}
use borrow.Author.Tests.{leb-true, le-leb}
use lib.ListN.{length, get_or}
use lib.Dec.{leb}
use Rattle.lists.proofs.Same.{and_left, and_right}
use Rattle.model_orders.specs.Object.{object_at, same_object}
use Rattle.layout.specs.Words.{closed_count}
use Rattle.layout.specs.Decode.{closed_at, closed_to}
use Rattle.steps.specs.Steps.{innermost_in, twin_in}
use Rattle.steps.proofs.Tallies.{length-closed, closed-at}
use Rattle.session_slots.specs.Slots.{probes, slot_of, Slotted}
use Rattle.session_slots.proofs.Places.{Passed, slot-equal, slot-free}

module _ (b w m : List ℕ) where
  -- the first e slots hold no id of an equal one
  abbrev pub Passing : ℕ → Type 0
  Passing e = Passed (closed_to b w (closed_count w)) m (innermost_in b w) e

  pub passing-none : Passing 0
  passing-none = record { others = λ d i h. absurd (omega arith) }

  abbrev own : ℕ
  own = slot_of (innermost_in b w)

  length-is : length (closed_to b w (closed_count w)) ≡ closed_count w
  length-is = length-closed b w (closed_count w)

  -- slot e, x being in it, does not either
  pub passing-next : {at e x : ℕ} → Passing e → at ≡ own → x ≡ get_or m (at + e) 0 → (leb x (closed_count w) && same_object (innermost_in b w) (closed_at b w (x - 1))) ≡ false → Passing (e + 1)
  passing-next {at} {e} {x} k a z r = record { others = λ d i h l q. go d i h l q (ℕ_discrete d e) }
    where
      go : (d i : ℕ) → d < e + 1 → i < length (closed_to b w (closed_count w)) → get_or m (own + d) 0 ≡ i + 1 → Dec (d ≡ e) → same_object (innermost_in b w) (object_at (closed_to b w (closed_count w)) i) ≡ false
      go d i h l q (no n) = k.others d i (omega arith) l q
      go d i h l q (yes p) =
          let y : x ≡ i + 1 = z ∙ ap (λ j. get_or m (j + e) 0) a ∙ (rw p at q) in
          let c : i + 1 ≤ closed_count w = omega (arith, l, length-is) in
          let n : i + 1 - 1 ≡ i = omega arith in
          rw (closed-at b w (closed_count w) i (omega arith)) (rw (y, n, le-leb (i + 1) (closed_count w) c) at r)

  module _ (k : Slotted (closed_to b w (closed_count w)) m) where
    pub passing-free : {at e : ℕ} → Passing e → e < probes → at ≡ own → get_or m (at + e) 0 ≡ 0 → closed_count w ≡ twin_in b w
    unfolding twin_in
    passing-free {at} {e} x h a z = sym length-is ∙ slot-free k (innermost_in b w) e h x (rw a at z)

    -- a slot with x in it that holds the id of an equal one
    module _ {x : ℕ} (h : 0 < x) (r : (leb x (closed_count w) && same_object (innermost_in b w) (closed_at b w (x - 1))) ≡ true) where
      pub holding-few : x ≤ closed_count w
      holding-few = leb-true x (closed_count w) (and_left (leb x (closed_count w)) _ r)

      pub holding-equal : x - 1 ≡ twin_in b w
      unfolding twin_in
      holding-equal =
          let c : x - 1 < closed_count w = omega (arith, holding-few) in
          slot-equal k (innermost_in b w) (x - 1) (omega (arith, c, length-is))
          (ap (same_object (innermost_in b w)) (closed-at b w (closed_count w) (x - 1) c) ∙ and_right (leb x (closed_count w)) _ r)
