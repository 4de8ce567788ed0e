-- A decided equality of elements decides equality of lists.
use mathlib.Core.Path.{◌≡◌, refl, ap₂}
use mathlib.Core.List.{List, [], ◌∷◌}
use mathlib.Core.Bool.{Bool, true, false, ◌&&◌}
use Rattle.lists.specs.Lists.{same_list}

pub and_left : (a b : Bool) → (a && b) ≡ true → a ≡ true
and_left true b e = refl
and_left false b e = e

pub and_right : (a b : Bool) → (a && b) ≡ true → b ≡ true
and_right true b e = e
and_right false b e = cc

module _ {A : Type 0} (same : A → A → Bool) where
  pub same-equal : ((x y : A) → same x y ≡ true → x ≡ y) → (l m : List A) → same_list same l m ≡ true → l ≡ m
  unfolding same_list
  same-equal h [] [] e = refl
  same-equal h [] (y ∷ m) e = cc
  same-equal h (x ∷ l) [] e = cc
  same-equal h (x ∷ l) (y ∷ m) e =
      ap₂ (λ (a : A) (b : List A). a ∷ b) (h x y (and_left (same x y) (same_list same l m) e)) (same-equal h l m (and_right (same x y) (same_list same l m) e))

  pub same_self : ((x : A) → same x x ≡ true) → (l : List A) → same_list same l l ≡ true
  unfolding same_list
  same_self h [] = refl
  same_self h (x ∷ l) = rw (h x, same_self h l)
