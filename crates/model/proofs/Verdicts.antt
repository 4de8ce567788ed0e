-- What an accepted call says of its tests, and what a refusal comes with.
use mathlib.Core.Path.{◌≡◌, refl}
use Prim.Native.Nat.{ℕ, zero, suc, ◌<◌}
use mathlib.Core.List.{List, [], ◌∷◌}
use mathlib.Core.Bool.{Bool, true, false}
use native.Mathlib.Omega.{arith}
use lib.ListN.{get_or}
use Rattle.lists.specs.Lists.{pick}
use Rattle.answer.specs.Number.{number, beside, no_tally}
use Rattle.answer.specs.declared.tally.Tally.{Tally}
use Rattle.answer.specs.declared.Refusal.{Refusal}
use Rattle.answer.specs.declared.Refusal.TheVariants as Refusal
use Rattle.model.specs.Judge.{accepted, refused, in_table, no_tally_beside, Test, when, verdict}

-- no test of an accepted call applies
pub passes : (ts : List Test) → verdict ts ≡ accepted → (i : ℕ) → (get_or ts i (when false Refusal.Unsound)).applies ≡ false
unfolding verdict
passes [] e i = refl
passes (t ∷ ts) e i = go t.applies refl (passes ts) e i
  where
    go : (b : Bool) → t.applies ≡ b → (verdict ts ≡ accepted → (i : ℕ) → (get_or ts i (when false Refusal.Unsound)).applies ≡ false)
        → pick b (refused t.tells) (verdict ts) ≡ accepted → (i : ℕ) → (get_or (t ∷ ts) i (when false Refusal.Unsound)).applies ≡ false
    go true f r z i = cc
    go false f r z zero = f
    go false f r z (suc i) = r z i

-- 12 and 13 come with zeros, the others with the true tally
pub beside-number : (why : Refusal) (t : Tally) → beside why t ≡ pick (no_tally_beside (number why)) no_tally t
beside-number Refusal.NothingOpen t = refl
beside-number Refusal.DepthFull t = refl
beside-number Refusal.BadField t = refl
beside-number Refusal.NotClosed t = refl
beside-number Refusal.EmptyObject t = refl
beside-number Refusal.StoreFull t = refl
beside-number Refusal.LinksFull t = refl
beside-number Refusal.ObjectsFull t = refl
beside-number Refusal.ObjectOpen t = refl
beside-number Refusal.OutputShort t = refl
beside-number (Refusal.Overflow o) t = refl
beside-number Refusal.Unsound t = refl
beside-number Refusal.OutOfRange t = refl
beside-number Refusal.Hopeless t = refl

-- the number of a refusal is in the table, and not 0
pub number-range : (why : Refusal) → (0 < number why) × (in_table (number why) ≡ true)
number-range Refusal.NothingOpen = (omega arith, refl)
number-range Refusal.DepthFull = (omega arith, refl)
number-range Refusal.BadField = (omega arith, refl)
number-range Refusal.NotClosed = (omega arith, refl)
number-range Refusal.EmptyObject = (omega arith, refl)
number-range Refusal.StoreFull = (omega arith, refl)
number-range Refusal.LinksFull = (omega arith, refl)
number-range Refusal.ObjectsFull = (omega arith, refl)
number-range Refusal.ObjectOpen = (omega arith, refl)
number-range Refusal.OutputShort = (omega arith, refl)
number-range (Refusal.Overflow o) = (omega arith, refl)
number-range Refusal.Unsound = (omega arith, refl)
number-range Refusal.OutOfRange = (omega arith, refl)
number-range Refusal.Hopeless = (omega arith, refl)

-- 0 is no refusal's number
pub refused-number : (why : Refusal) → 0 < number why
refused-number why = (number-range why).0
