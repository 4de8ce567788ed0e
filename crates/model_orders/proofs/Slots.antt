-- What is known of a field that a link may have.
use mathlib.Core.Path.{◌≡◌}
use Prim.Native.Nat.{ℕ, ◌≤◌}
use mathlib.Core.Bool.{true}
use native.Mathlib.Omega.{arith}
use borrow.Author.Tests.{leb-true}
use lib.Dec.{leb}
use Rattle.lists.proofs.Same.{and_left, and_right}
use Rattle.model_orders.specs.Object.{Slot, narrowest, widest, width_ok, slot_ok}

pub width-most : (w : ℕ) → width_ok w ≡ true → w ≤ widest
width-most w e = leb-true w widest (and_right (leb narrowest w) (leb w widest) e)

module _ (s : Slot) (e : slot_ok s ≡ true) where
  pub slot-wide : width_ok s.width ≡ true
  slot-wide = and_left (width_ok s.width) (leb s.inner s.at) e

  pub slot-start : s.inner ≤ s.at
  slot-start = omega (arith, leb-true s.inner s.at (and_right (width_ok s.width) (leb s.inner s.at) e))
