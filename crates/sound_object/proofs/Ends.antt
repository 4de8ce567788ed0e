-- A field has so few bytes that its first two and its last two are all of them.
use mathlib.Core.Path.{◌≡◌, refl}
use Prim.Native.Nat.{ℕ, ◌+◌, ◌-◌, ◌≤◌}
use mathlib.Core.List.{List}
use mathlib.Core.Bool.{Bool, true, false, ◌&&◌, and-true}
use native.Mathlib.Omega.{arith}
use native.Mathlib.Decide.{ℕ_discrete}
use borrow.Author.Tests.{leb-true}
use lib.ListN.{length, get_or}
use lib.Dec.{eqb, leb}
use Rattle.lists.specs.Lists.{part, zeros}
use Rattle.lists.proofs.Same.{and_left}
use Rattle.lists.proofs.Tests.{zeros-first, zeros-none}
use Rattle.model_orders.specs.Object.{narrowest, widest, width_ok}

pub width-least : (w : ℕ) → width_ok w ≡ true → narrowest ≤ w
width-least w e = leb-true narrowest w (and_left (leb narrowest w) (leb w widest) e)

-- of two bytes each is tested twice, of three the one in the middle
both-twice : (x y : Bool) → (((x && y) && x) && y) ≡ (x && (y && true))
both-twice true true = refl
both-twice true false = refl
both-twice false y = refl

middle-twice : (x y z : Bool) → (((x && y) && y) && z) ≡ (x && (y && (z && true)))
middle-twice true true z = rw and-true
middle-twice true false z = refl
middle-twice false y z = refl

each-once : (x y z t : Bool) → (((x && y) && z) && t) ≡ (x && (y && (z && (t && true))))
each-once true true z t = rw and-true
each-once true false z t = refl
each-once false y z t = refl

module _ (l : List ℕ) (a e : ℕ) (inside : e ≤ length l) where
  abbrev null : ℕ → Bool
  null k = eqb (get_or l k 0) 0

  -- as the code tests it
  abbrev ends : Bool
  ends = ((null a && null (a + 1)) && null (e - narrowest)) && null (e - narrowest + 1)

  next-two : (i : ℕ) → i + 2 ≤ e → zeros (part i e l) ≡ (null i && (null (i + 1) && zeros (part (i + 1 + 1) e l)))
  next-two i h = rw (zeros-first i e l (omega arith) inside, zeros-first (i + 1) e l (omega arith) inside)

  ends-two : e ≡ a + 2 → ends ≡ zeros (part a e l)
  ends-two n =
      let m : e - narrowest ≡ a = omega arith in
      rw (m, next-two a (omega arith), zeros-none (a + 1 + 1) e l (omega arith)) (both-twice (null a) (null (a + 1)))

  ends-three : e ≡ a + 3 → ends ≡ zeros (part a e l)
  ends-three n =
      let m : e - narrowest ≡ a + 1 = omega arith in
      rw (m, next-two a (omega arith), zeros-first (a + 1 + 1) e l (omega arith) inside, zeros-none (a + 1 + 1 + 1) e l (omega arith))
      (middle-twice (null a) (null (a + 1)) (null (a + 1 + 1)))

  ends-four : e ≡ a + 4 → ends ≡ zeros (part a e l)
  ends-four n =
      let m : e - narrowest ≡ a + 1 + 1 = omega arith in
      rw (m, next-two a (omega arith), next-two (a + 1 + 1) (omega arith), zeros-none (a + 1 + 1 + 1 + 1) e l (omega arith))
      (each-once (null a) (null (a + 1)) (null (a + 1 + 1)) (null (a + 1 + 1 + 1)))

  pub ends-zero : a + narrowest ≤ e → e ≤ a + widest → ends ≡ zeros (part a e l)
  ends-zero least most = go (ℕ_discrete e (a + 2)) (ℕ_discrete e (a + 3))
    where
      go : Dec (e ≡ a + 2) → Dec (e ≡ a + 3) → ends ≡ zeros (part a e l)
      go (yes n) three = ends-two n
      go (no n) (yes m) = ends-three m
      go (no n) (no m) = ends-four (omega arith)
