-- What std's calls answer, as the tests of Lists.
use Rattle.std.proofs.Common.{◌≡◌, ℕ, zero, suc, ◌-◌, Bool, true, false, ◌&&◌, List, [], ◌∷◌, length, eqb, refl, ap, sym, ◌∙◌, Bor, arith, bit_or}
use Rattle.std.specs.List.{fold, slice_get}
use Rattle.std.specs.Option.{option_eq, option_copied}
use Rattle.std.specs.Prelude.{Option, Some, None}
use Rattle.std.specs.Int.Bits.{or_zero_l}
use Rattle.std.proofs.lemmas.Nat.{le_or_l}
use borrow.Author.Tests.{ne_eqb}
use lib.Pointwise.{pointwise}
use mathlib.Core.Bool.{and_assoc, and-true}
use Rattle.lists.specs.Lists.{same_list, zeros}
use Rattle.lists.proofs.Same.{and_left, and_right}

-- two numbers have no bit exactly if neither has one
no-bits : (a b : ℕ) → eqb (bit_or a b) 0 ≡ (eqb a 0 && eqb b 0)
no-bits zero b = rw (or_zero_l b)
no-bits (suc a) b = rw (ne_eqb (suc a) 0 (omega arith), ne_eqb (bit_or (suc a) b) 0 (omega (arith, le_or_l (suc a) b)))

-- all their bits, gathered
pub gathered-zeros : (a : ℕ) (l : List ℕ) → eqb (fold bit_or a l) 0 ≡ (eqb a 0 && zeros l)
unfolding zeros
gathered-zeros a [] = sym (and-true (eqb a 0))
gathered-zeros a (x ∷ l) = gathered-zeros (bit_or a x) l ∙ rw (no-bits a x, and_assoc)

pub zeros_nothing : (l : List ℕ) → length l ≡ 0 → zeros l ≡ true
unfolding zeros
zeros_nothing [] h = refl
zeros_nothing (x ∷ l) h = absurd (omega arith)

module _ {A : Type 0} (t : A → A → Bool) where
  pub same_pointwise : (l m : List A) → same_list t l m ≡ pointwise t l m
  unfolding same_list
  same_pointwise [] [] = refl
  same_pointwise [] (y ∷ m) = refl
  same_pointwise (x ∷ l) [] = refl
  same_pointwise (x ∷ l) (y ∷ m) = ap (λ b. t x y && b) (same_pointwise l m)

  same-length : (l m : List A) → same_list t l m ≡ true → length l ≡ length m
  unfolding same_list
  same-length [] [] h = refl
  same-length [] (y ∷ m) h = cc
  same-length (x ∷ l) [] h = cc
  same-length (x ∷ l) (y ∷ m) h = ap suc (same-length l m (and_right (t x y) (same_list t l m) h))

  same-at : (l m : List A) → same_list t l m ≡ true → (k : ℕ) → option_eq t (slice_get l k) (slice_get m k) ≡ true
  unfolding same_list
  same-at [] [] h k = refl
  same-at [] (y ∷ m) h k = cc
  same-at (x ∷ l) [] h k = cc
  same-at (x ∷ l) (y ∷ m) h zero = and_left (t x y) (same_list t l m) h
  same-at (x ∷ l) (y ∷ m) h (suc k) = same-at l m (and_right (t x y) (same_list t l m) h) k

  read : (p q : Option (Bor A)) → option_eq (λ x y. t x.now y.now) p q ≡ option_eq t (option_copied p) (option_copied q)
  read None None = refl
  read None (Some y) = refl
  read (Some x) None = refl
  read (Some x) (Some y) = refl

  pub length-differs : (l m : List A) → (length l ≡ length m → ⊥) → same_list t l m ≡ false
  length-differs l m d = go (same_list t l m) refl
    where
      go : (b : Bool) → same_list t l m ≡ b → b ≡ false
      go true e = absurd (d (same-length l m e))
      go false e = refl

  -- the last of both tell the lists apart
  pub last_differs : (l m : List A) (p q : Option (Bor A)) → option_copied p ≡ slice_get l (length l - 1) → option_copied q ≡ slice_get m (length m - 1)
      → option_eq (λ x y. t x.now y.now) p q ≡ false → same_list t l m ≡ false
  last_differs l m p q a b d = go (same_list t l m) refl
    where
      go : (b : Bool) → same_list t l m ≡ b → b ≡ false
      go true e =
          let k = same-at l m e (length l - 1) in
          let n = same-length l m e in
          let r = read p q in
          cc (ap (λ (i : ℕ). slice_get m (i - 1)) n, ap (option_eq t (option_copied p)) b, ap (λ (o : Option A). option_eq t o (slice_get m (length m - 1))) a)
      go false e = refl
