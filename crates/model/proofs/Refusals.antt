-- How a verdict comes about, and the number that it tells.
use mathlib.Core.Path.{◌≡◌, refl, sym}
use Prim.Native.Nat.{ℕ, ◌<◌}
use mathlib.Core.List.{List, [], ◌∷◌}
use mathlib.Core.Bool.{Bool, true, false}
use native.Mathlib.Omega.{arith}
use borrow.Author.Tests.{leb-true}
use lib.Dec.{leb}
use Rattle.lists.specs.Lists.{pick, Exactly}
use Rattle.lists.proofs.Same.{and_left}
use Rattle.answer.specs.Number.{number}
use Rattle.answer.specs.declared.tally.Tally.{Tally}
use Rattle.answer.specs.declared.Refusal.TheVariants as Refusal
use Rattle.model.specs.Judge.{Limits, Verdict, accepted, refused, number_of, in_table, Test, verdict, Tells, none as Tells-none, this as tells-this, next as tells-next, close_tests}
use Rattle.model.specs.Told.{done_close}
use Rattle.model.specs.History.{tell}
use Rattle.model.proofs.Verdicts.{number-range}

-- tests that do not apply, and then one that does, or the end
pub data Comes : List Test → Verdict → Type 0 where
  none : Comes [] accepted
  this : {t : Test} {ts : List Test} → t.applies ≡ true → Comes (t ∷ ts) (refused t.tells)
  next : {t : Test} {ts : List Test} {v : Verdict} → t.applies ≡ false → Comes ts v → Comes (t ∷ ts) v

pub verdict-is : {ts : List Test} {v : Verdict} → Comes ts v → verdict ts ≡ v
unfolding verdict
verdict-is none = refl
verdict-is (this h) = rw h
verdict-is (next h r) = rw h (verdict-is r)

-- a call tells its verdict's number
pub tell-number : (v : Verdict) (t u : Tally) (i : ℕ) → (tell v t (done_close i u)).number ≡ number_of v
tell-number accepted t u i = refl
tell-number (refused why) t u i = refl

-- ---- the number that tests tell

told-only : (ts : List Test) (k : ℕ) → number_of (verdict ts) ≡ k → Tells ts k
unfolding verdict
told-only [] k e = Tells-none (sym e)
told-only (t ∷ ts) k e = go t.applies refl (told-only ts k) e
  where
    go : (b : Bool) → t.applies ≡ b → (number_of (verdict ts) ≡ k → Tells ts k) → number_of (pick b (refused t.tells) (verdict ts)) ≡ k → Tells (t ∷ ts) k
    go true h r f = tells-this h (sym f)
    go false h r f = tells-next h (r f)

told-when : (ts : List Test) (k : ℕ) → Tells ts k → number_of (verdict ts) ≡ k
unfolding verdict
told-when _ k (Tells-none e) = sym e
told-when _ k (tells-this h e) = rw h (sym e)
told-when _ k (tells-next {ts = ts} h r) = rw h (told-when ts k r)

-- a verdict tells a number exactly where the tests do
pub told-exactly : (ts : List Test) (k : ℕ) → Exactly (number_of (verdict ts) ≡ k) (Tells ts k)
told-exactly ts k = record { only = told-only ts k; when = told-when ts k }

pub told-listed : (ts : List Test) {k : ℕ} → Tells ts k → in_table k ≡ true
told-listed _ (Tells-none e) = rw e
told-listed _ (tells-this {t = t} h e) = rw e (number-range t.tells).1
told-listed _ (tells-next {ts = ts} h r) = told-listed ts r

-- a duplicate is never told that the objects are full
module _ (sound : Bool) (m : Limits) (t : Tally) (size : ℕ) (hopeless : Bool) (twin : ℕ) (h : twin < t.objects) where
  pub duplicate-closes : Tells (close_tests sound m t size hopeless twin) (number Refusal.ObjectsFull) → ⊥
  duplicate-closes (tells-this _ e) = omega arith
  duplicate-closes (tells-next _ (tells-this _ e)) = omega arith
  duplicate-closes (tells-next _ (tells-next _ (tells-this _ e))) = omega arith
  duplicate-closes (tells-next _ (tells-next _ (tells-next _ (tells-this _ e)))) = omega arith
  duplicate-closes (tells-next _ (tells-next _ (tells-next _ (tells-next _ (tells-this a _))))) =
      omega (arith, leb-true t.objects twin (and_left (leb t.objects twin) (leb m.objects t.objects) a))
  duplicate-closes (tells-next _ (tells-next _ (tells-next _ (tells-next _ (tells-next _ (Tells-none e)))))) = omega arith
