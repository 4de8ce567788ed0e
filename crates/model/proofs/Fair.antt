-- Tests that do not tell 12, or do not apply, make no verdict that tells it.
use mathlib.Core.Path.{◌≡◌, sym, ap, ◌∙◌}
use Prim.Native.Nat.{ℕ}
use mathlib.Core.List.{List, [], ◌∷◌}
use mathlib.Core.Bool.{Bool, true, false, not, ◌&&◌, ◌||◌, or-false}
use native.Mathlib.Omega.{arith}
use borrow.Author.Tests.{eqb-false, not-true}
use lib.Dec.{eqb}
use Rattle.lists.specs.Lists.{pick}
use Rattle.lists.proofs.Same.{and_left, and_right}
use Rattle.answer.specs.Number.{number}
use Rattle.answer.specs.declared.Refusal.{Refusal}
use Rattle.model.specs.Judge.{Test, refused, verdict}

-- each test tells another number, or does not apply
unfoldable pub fair : List Test → Bool
fair [] = true
fair (t ∷ ts) = (not (eqb (number t.tells) 12) || not t.applies) && fair ts

pub fair-verdict : (ts : List Test) → fair ts ≡ true → (why : Refusal) → verdict ts ≡ refused why → number why ≡ 12 → ⊥
unfolding fair verdict
fair-verdict [] h why e n = let z : ◌≡◌ {A = ℕ} 0 1 = cc in omega arith
fair-verdict (t ∷ ts) h why e n = go t.applies h (fair-verdict ts) e
  where
    go : (x : Bool) → ((not (eqb (number t.tells) 12) || not x) && fair ts) ≡ true
        → (fair ts ≡ true → (why : Refusal) → verdict ts ≡ refused why → number why ≡ 12 → ⊥) → pick x (refused t.tells) (verdict ts) ≡ refused why → ⊥
    go true f r z =
        let other = not (eqb (number t.tells) 12) in
        let q : t.tells ≡ why = cc in
        eqb-false _ _ (not-true _ (sym (or-false other) ∙ and_left (other || false) (fair ts) f)) (ap number q ∙ n)
    go false f r z = r (and_right (not (eqb (number t.tells) 12) || true) (fair ts) f) why z n
